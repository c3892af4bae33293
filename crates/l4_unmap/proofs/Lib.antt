pub mod Together
pub mod Under
pub mod Pages
pub mod Registers
pub mod UnmapKeeps
pub mod OneByOne
