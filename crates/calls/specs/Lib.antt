pub mod Calls
pub mod Lists
pub mod Taken
pub mod Worked
pub mod Alike
pub mod Promise
