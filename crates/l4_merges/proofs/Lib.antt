pub mod Covering
pub mod Counting
pub mod Drawing
pub mod Noted
pub mod Linking
pub mod Visiting
