pub mod Computed
pub mod Controls
pub mod Cuts
pub mod Examples
pub mod Named
pub mod Present
pub mod Reread
pub mod MessageRows
