pub mod WordLaws
pub mod ListedLemmas
pub mod FindLemmas
pub mod KeyLemmas
