pub mod Printing
pub mod Copies
pub mod Scalars
