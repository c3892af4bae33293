pub mod Calls
pub mod Commands
pub mod Kinds
pub mod LineKinds
pub mod NameLaws
pub mod Requests
pub mod Inside
