pub mod Lookup
pub mod Failing
pub mod Constants
pub mod Numbering
pub mod Standing
pub mod Opened
pub mod Weights
