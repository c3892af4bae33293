pub mod Tokens
pub mod Forms
pub mod Queries
pub mod Rules
