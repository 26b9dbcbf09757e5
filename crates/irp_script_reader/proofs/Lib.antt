pub mod Rests
pub mod Sounds
pub mod Tells
