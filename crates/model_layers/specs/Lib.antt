pub mod Carries
pub mod Seen
pub mod Causes
pub mod Compared
pub mod Written
