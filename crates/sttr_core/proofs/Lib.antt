pub mod Parts
pub mod Uses
pub mod Linearity
pub mod Meaning
