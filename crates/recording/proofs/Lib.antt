pub mod Noted
pub mod Naming
pub mod FollowLoop
pub mod Answering
