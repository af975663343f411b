pub mod Decimal
pub mod Written
pub mod Writes
