pub mod Boards
pub mod Goals
pub mod KindMasks
pub mod Masks
pub mod PawnMasks
pub mod PawnSpots
pub mod RegionSets
pub mod Sights
