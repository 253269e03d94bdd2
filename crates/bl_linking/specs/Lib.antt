pub mod References
pub mod Fresh
pub mod Append
pub mod Link
pub mod Resolve
pub mod CommittedMerges
