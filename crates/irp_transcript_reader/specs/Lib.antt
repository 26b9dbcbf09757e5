pub mod Replies
pub mod Calls
pub mod Forms
pub mod WordLines
pub mod Lines
pub mod Reading
