mod Worked
pub mod OpenLiteralsLemmas
pub mod KnownLemmas
pub mod FollowLemmas
pub mod FaultLemmas
pub mod ChainLemmas
pub mod GoodLemmas
pub mod RefusalLemmas
pub mod TruthLemmas
pub mod WriteLemmas
pub mod NumberLemmas
pub mod HintLemmas
pub mod LineLemmas
pub mod WordLemmas
pub mod ReadsBackLemmas
pub mod UnreadLemmas
pub mod FreshLemmas
