mod NumberLemmas
pub mod RangeLemmas
