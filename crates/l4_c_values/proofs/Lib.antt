pub mod Bytes
pub mod Forms
pub mod Handles
pub mod Holding
pub mod Lists
pub mod Values
