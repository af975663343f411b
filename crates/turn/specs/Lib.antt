pub mod Turn
pub mod Gather
pub mod Ready
pub mod KeptSet
pub mod Worked
