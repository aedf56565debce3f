pub mod FaultLemmas
pub mod PlainLemmas
pub mod LexerLemmas
pub mod LinesLemmas
pub mod PackedLemmas
pub mod ArraysLemmas
pub mod QuotesLemmas
pub mod NameLemmas
pub mod WrittenLemmas
mod WrittenExamples
