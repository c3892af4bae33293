pub mod Silents
