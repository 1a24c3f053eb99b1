pub mod ShutLaws
pub mod ComeLaws
pub mod StepLaws
pub mod FlightLaws
pub mod ReplyLaws
pub mod TakeLaws
pub mod ListingLaws
