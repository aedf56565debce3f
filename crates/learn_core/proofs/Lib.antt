pub mod ThresholdFacts
pub mod ModelFacts
pub mod RebuildFacts
pub mod PartsFacts
pub mod LearnFacts
