pub mod Over
pub mod Values
pub mod Constants
