pub mod Reaching
pub mod Laws
pub mod Shapes
