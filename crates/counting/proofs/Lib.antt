pub mod Powers
pub mod Written
pub mod Summing
pub mod Meeting
pub mod Counted
