pub mod Turned
pub mod PiecesPut
pub mod NumbersCarried
pub mod ContentsCarried
pub mod ViewsJoined
