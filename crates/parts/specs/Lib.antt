pub mod Part
pub mod Written
