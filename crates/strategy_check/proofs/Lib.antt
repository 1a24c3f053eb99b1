pub mod EdgeLemmas
pub mod RowLemmas
pub mod BucketLemmas
