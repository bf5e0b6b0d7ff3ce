pub mod Coefficients
pub mod Putting
pub mod Outside
