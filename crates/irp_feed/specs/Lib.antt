pub mod Feeding
pub mod Input
