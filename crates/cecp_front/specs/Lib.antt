pub mod Answers
pub mod Reading
pub mod SessionView
pub mod Thought
pub mod View
