pub mod FirstOf
pub mod Soundness
pub mod SoundParts
pub mod SoundWhole
pub mod InRange
