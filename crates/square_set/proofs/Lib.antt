pub mod BitLaws
pub mod Cases
pub mod CountLaws
pub mod CoverLaws
