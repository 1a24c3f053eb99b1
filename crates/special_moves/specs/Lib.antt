pub mod Castles
pub mod Parts
pub mod PawnMoves
pub mod PawnParts
pub mod Shifted
