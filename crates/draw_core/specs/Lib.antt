pub mod Words
pub mod Choice
pub mod NewNames
pub mod DrawnProblem
pub mod DrawnModel
pub mod DrawnTable
