pub mod Headers
pub mod Tokens
pub mod Transcripts
