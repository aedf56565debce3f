pub mod AnswerLemmas
pub mod PutsFacts
