pub mod IndexLemmas
pub mod WalkLemmas
