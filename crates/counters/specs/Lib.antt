pub mod Positions
pub mod Placing
pub mod Queues
pub mod Counters
pub mod Doubts
