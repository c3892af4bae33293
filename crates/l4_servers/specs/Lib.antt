pub mod Servers
pub mod Acting
pub mod Listed
