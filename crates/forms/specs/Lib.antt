pub mod Order
pub mod Sorting
pub mod Form
pub mod Worked
pub mod Laws
