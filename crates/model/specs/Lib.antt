pub mod Output
pub mod Rounds
pub mod Rooms
pub mod Judged
