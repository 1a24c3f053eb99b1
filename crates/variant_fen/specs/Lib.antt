pub mod Cut
pub mod FieldView
pub mod Pieces
pub mod Cells
pub mod Hands
pub mod Blanks
