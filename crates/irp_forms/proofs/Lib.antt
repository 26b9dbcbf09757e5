pub mod Lists
pub mod Texts
pub mod Keys
pub mod Quoting
pub mod Acts
