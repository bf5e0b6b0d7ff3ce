pub mod RowFacts
pub mod ExprParts
pub mod FieldFacts
pub mod Filling
pub mod GuardFacts
pub mod FormFacts
pub mod FitFacts
pub mod MapFacts
pub mod PutFacts
pub mod CopyFacts
pub mod LabelFacts
pub mod EntryFacts
pub mod ChainFacts
mod Compared
pub mod Pieces
pub mod Merging
pub mod Follows
pub mod Looking
