pub mod Fed
pub mod Pieces
pub mod Within
