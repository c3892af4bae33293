pub mod Executed
pub mod Lacking
pub mod Laws
pub mod Parts
pub mod Taking
pub mod Words
