pub mod Adding
pub mod AnswerTexts
pub mod FirstLine
pub mod Taking
