pub mod LineLaws
pub mod HeldLemmas
pub mod SlotLemmas
pub mod SlotLaws
pub mod OngoingLaws
