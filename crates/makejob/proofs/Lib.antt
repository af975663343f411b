pub mod Listing
pub mod Scans
pub mod Numbers
pub mod Reaching
pub mod Faulted
