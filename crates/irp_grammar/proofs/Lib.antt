mod Adding
mod Deciding
mod Finding
mod Giving
mod Mapped
mod PieceWords
mod Placing
mod Taking
mod Valued
pub mod Worded
