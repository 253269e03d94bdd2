pub mod Marks
pub mod Order
pub mod Table
