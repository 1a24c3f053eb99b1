pub mod ChainLaws
pub mod DecimalLaws
pub mod JoinLaws
pub mod TokenLemmas
pub mod RowLaws
pub mod BoardLaws
pub mod CellLaws
pub mod HandLaws
pub mod HeldLaws
pub mod SoundParts
pub mod SaysLaws
pub mod SoundLaws
pub mod BackLaws
pub mod HandBack
pub mod HeldBack
pub mod FieldBack
pub mod GivesBack
mod worked
