pub mod Cutting
pub mod Messages
pub mod Placing
pub mod Settling
pub mod Tangles
pub mod View
