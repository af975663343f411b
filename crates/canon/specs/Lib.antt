pub mod Merging
pub mod Comparing
pub mod Kept
pub mod Sizes
pub mod Answers
pub mod Heads
pub mod Rooms
