pub mod Fits
pub mod Machine
pub mod Sta
