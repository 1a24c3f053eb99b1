pub mod FindLemmas
pub mod PlayLemmas
pub mod HeardLemmas
pub mod ReadLemmas
pub mod StartLemmas
pub mod ProblemLemmas
