pub mod Following
pub mod Short
pub mod Starting
