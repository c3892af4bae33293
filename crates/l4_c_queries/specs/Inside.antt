pub mod Mapped
pub mod Recalled
