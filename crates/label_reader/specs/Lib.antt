pub mod Results
pub mod Levels
pub mod Operands
pub mod Inside
pub mod Constants
pub mod Lists
pub mod Found
