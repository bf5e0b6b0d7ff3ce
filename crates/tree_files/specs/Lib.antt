pub mod Types
pub mod Heads
pub mod Labels
pub mod Placed
