pub mod Answered
pub mod Closing
pub mod Opening
pub mod Sharing
