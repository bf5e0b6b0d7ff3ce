pub mod Named
pub mod Members
pub mod Rules
pub mod Settled
pub mod Related
pub mod Typed
pub mod Laws
