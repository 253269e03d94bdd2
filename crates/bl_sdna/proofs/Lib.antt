pub mod Many
pub mod Seen
pub mod Readable
pub mod Spelled
