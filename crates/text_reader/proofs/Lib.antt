pub mod Counting
pub mod Readings
