pub mod Forms
pub mod Wrongs
pub mod Lines
pub mod Stories
