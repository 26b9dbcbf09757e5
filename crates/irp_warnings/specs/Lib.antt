pub mod Answers
pub mod Concerns
pub mod Told
pub mod Warned
