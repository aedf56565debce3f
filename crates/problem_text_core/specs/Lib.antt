pub mod ProblemText
pub mod Parts
