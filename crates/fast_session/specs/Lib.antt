pub mod Answers
pub mod Kept
pub mod Items
pub mod Needed
pub mod Sessions
