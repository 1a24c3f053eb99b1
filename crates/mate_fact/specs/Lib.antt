pub mod InFrame
