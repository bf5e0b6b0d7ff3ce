pub mod Line
pub mod System
pub mod Puts
pub mod Laws
