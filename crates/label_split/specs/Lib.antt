pub mod Known
pub mod Signs
pub mod Numbers
pub mod Weights
pub mod Search
pub mod Split
pub mod Noted
