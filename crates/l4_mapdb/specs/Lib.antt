pub mod Mappings
pub mod Losing
pub mod Transfer
pub mod Causes
pub mod View
pub mod Delivering
pub mod Inside
