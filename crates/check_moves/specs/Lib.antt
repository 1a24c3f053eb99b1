pub mod Shut
pub mod Checks
pub mod Flights
pub mod Replies
pub mod Listing
