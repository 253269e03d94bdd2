pub mod Replaced
pub mod Leaves
pub mod Written
