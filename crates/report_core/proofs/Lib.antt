pub mod RowLemmas
pub mod WriteLemmas
pub mod TextLemmas
pub mod CountLemmas
pub mod ModelLemmas
