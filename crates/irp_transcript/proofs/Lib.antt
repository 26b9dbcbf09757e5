pub mod Each
mod Accepted
mod Rising
