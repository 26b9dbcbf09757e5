pub mod Asking
pub mod Ending
pub mod Program
pub mod Sessions
pub mod Streams
pub mod Talking
pub mod Told
