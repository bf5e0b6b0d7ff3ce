pub mod Fields
pub mod Meaning
pub mod Tests
pub mod Examples
