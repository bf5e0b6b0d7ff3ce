pub mod Commands
pub mod Runs
pub mod Taken
pub mod Answers
pub mod Filled
pub mod Tallies
