pub mod AlikeLaws
pub mod KindLaws
pub mod MaskLaws
pub mod SightLaws
pub mod AttackLaws
