pub mod AnnotatedLines
pub mod AnnotatedScript
pub mod Found
pub mod GoingOut
pub mod ListedMoves
pub mod NextTransfers
pub mod SoFar
