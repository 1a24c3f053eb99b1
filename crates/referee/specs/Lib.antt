pub mod Games
pub mod Refereed
pub mod Replies
