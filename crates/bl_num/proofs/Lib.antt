pub mod BytesOf
pub mod BytesBack
pub mod SignedBits
pub mod Casts
