pub mod Decimal
pub mod Wrote
pub mod Digits
pub mod Onward
pub mod Parted
pub mod Writing
