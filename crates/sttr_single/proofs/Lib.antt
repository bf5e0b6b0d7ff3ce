pub mod Alike
mod Applying
mod Joining
mod Low
mod More
mod Marked
mod Answered
pub mod Stopping
