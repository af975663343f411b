pub mod Questions
pub mod Layout
pub mod Literals
pub mod Newest
pub mod Ranges
pub mod Start
pub mod Reading
