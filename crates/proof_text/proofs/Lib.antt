pub mod FaultLemmas
pub mod WordLemmas
pub mod ReadingLemmas
pub mod StrategyLemmas
pub mod BodyLemmas
pub mod EntryLemmas
pub mod WriteLemmas
pub mod PairBackLemmas
pub mod FileBackLemmas
pub mod ToldBackLemmas
pub mod WordBackLemmas
pub mod MoveBackLemmas
pub mod ProofBackLemmas
mod FileOfRulesLemmas
mod LaterSectionLemmas
