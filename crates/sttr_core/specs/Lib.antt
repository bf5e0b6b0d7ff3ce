pub mod Terms
pub mod Uses
pub mod Machine
pub mod Fits
pub mod Linear
