pub mod Losing
pub mod Places
pub mod Listed
pub mod Descendants
pub mod Boot
pub mod Inside
