pub mod State
pub mod Steps
pub mod Bound
pub mod Runs
pub mod Led
