mod Asking
pub mod Going
mod LineNumbers
mod Listing
mod Pieces
mod ReadBack
mod Stopping
