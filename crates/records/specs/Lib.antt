pub mod Record
pub mod Answers
pub mod Lists
pub mod Worked
pub mod Laws
