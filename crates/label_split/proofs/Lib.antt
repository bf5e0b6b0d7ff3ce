pub mod SameAtoms
pub mod Truths
pub mod Opens
pub mod Forcing
pub mod Literals
mod Looking
pub mod Weights
pub mod Branches
pub mod Numbering
mod Numbered
pub mod RowLists
pub mod Signs
pub mod Verdicts
pub mod Settled
