pub mod Returns
pub mod AnswerLines
