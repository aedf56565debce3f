pub mod FitsFacts
pub mod RankedFacts
pub mod RanksFacts
