pub mod Instances
pub mod Cuts
pub mod Outputs
pub mod Stands
pub mod Heads
pub mod Single
