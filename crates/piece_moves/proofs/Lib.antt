pub mod GoalLemmas
pub mod GoesLaws
pub mod PartLemmas
pub mod PlainLemmas
pub mod TakingLemmas
pub mod TargetLemmas
pub mod TurnLemmas
