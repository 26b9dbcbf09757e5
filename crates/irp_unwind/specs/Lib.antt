pub mod Conditions
pub mod Turns
pub mod Endings
pub mod Devices
pub mod Descents
pub mod Laws
