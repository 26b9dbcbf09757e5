pub mod Above
pub mod Chosen
pub mod Following
pub mod Indenting
pub mod Worded
