mod Asking
mod Decimals
mod Lines
mod Words
