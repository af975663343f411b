pub mod Number
pub mod Compare
pub mod Span
pub mod Sets
pub mod Choose
pub mod Lists
pub mod Graph
pub mod Sum
