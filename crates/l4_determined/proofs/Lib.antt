pub mod InOrder
pub mod OneNext
pub mod OneAct
