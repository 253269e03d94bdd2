pub mod Applications
pub mod PiecesWritten
pub mod RunLaws
