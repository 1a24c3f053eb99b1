pub mod PathLemmas
pub mod LineLemmas
pub mod WriteLemmas
pub mod BackLaws
