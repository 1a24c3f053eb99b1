pub mod CastleLaws
pub mod EndingLaws
pub mod FormLaws
pub mod KeyLaws
pub mod LegalLaws
pub mod ReadLaws
pub mod SquareLaws
