pub mod Core
pub mod Laws
pub mod Seats
pub mod Calls
pub mod Opening
pub mod Pairing
