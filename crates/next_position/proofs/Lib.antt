pub mod PartLaws
pub mod RoomLaws
pub mod PutLemmas
pub mod TouchedLemmas
pub mod BetweenLaws
