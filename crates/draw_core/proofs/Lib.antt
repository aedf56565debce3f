mod Worked
pub mod ListedFacts
pub mod WordFacts
pub mod StepFacts
pub mod GradeFacts
pub mod NameFacts
pub mod OrderFacts
pub mod ModelFacts
pub mod RowFacts
pub mod FamilyFacts
