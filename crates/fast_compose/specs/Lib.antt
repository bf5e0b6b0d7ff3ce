pub mod Sources
pub mod Copying
pub mod Meetings
pub mod Stops
pub mod Composed
