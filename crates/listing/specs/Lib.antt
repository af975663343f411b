pub mod Text
pub mod Finish
pub mod Listing
pub mod Worked
pub mod Told
