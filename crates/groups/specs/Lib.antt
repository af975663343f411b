pub mod Groups
pub mod Scopes
pub mod Worked
pub mod Admission
