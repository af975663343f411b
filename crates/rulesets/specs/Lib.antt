pub mod CensusAnswer
pub mod Sets
pub mod Jobs
pub mod Says
pub mod Census
pub mod Lines
pub mod Worked
pub mod Laws
