pub mod Json
pub mod Lines
pub mod Rows
pub mod Puts
