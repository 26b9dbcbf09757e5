pub mod Core
pub mod Laws
pub mod Models
pub mod Pairing
pub mod Opening
pub mod Calls
