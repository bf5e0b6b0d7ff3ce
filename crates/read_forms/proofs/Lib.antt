pub mod Forms
pub mod Lists
pub mod Words
pub mod Fronts
