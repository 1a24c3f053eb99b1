pub mod LegLaws
pub mod FaultLemmas
pub mod PlaceLemmas
pub mod ReadLemmas
pub mod WordLaws
