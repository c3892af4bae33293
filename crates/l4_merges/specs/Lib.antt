pub mod Graphs
pub mod Orders
pub mod Inside
