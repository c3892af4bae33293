pub mod Claims
pub mod Moved
pub mod Plans
pub mod Shared
pub mod SameRights
