pub mod DrawnFacts
pub mod SummaryFacts
