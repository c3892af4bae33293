pub mod Trees
pub mod Orders
pub mod Nodes
pub mod Stacks
pub mod Growing
pub mod Bringing
pub mod Keeping
pub mod Parents
