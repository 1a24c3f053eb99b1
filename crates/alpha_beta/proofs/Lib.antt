pub mod DistinctLemmas
pub mod EnteredLaws
pub mod LeftLaws
pub mod LineLemmas
pub mod RootLaws
pub mod SearchLaws
