pub mod Same
pub mod Overlap
pub mod Joints
pub mod Shown
