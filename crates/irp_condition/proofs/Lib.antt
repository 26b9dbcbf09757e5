pub mod Chains
pub mod Lexing
pub mod Once
pub mod Putting
pub mod Readings
pub mod Sayable
pub mod Spelling
pub mod Telling
