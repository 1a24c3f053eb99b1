pub mod NumberLaws
pub mod WeightLaws
