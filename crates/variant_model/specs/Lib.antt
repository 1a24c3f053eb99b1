pub mod PieceLetters
pub mod PieceRules
pub mod Contradictions
pub mod Made
pub mod Entry
pub mod Builtin
pub mod Fault
pub mod Told
