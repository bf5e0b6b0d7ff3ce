pub mod Bits
pub mod Grouped
pub mod Tried
pub mod Passed
