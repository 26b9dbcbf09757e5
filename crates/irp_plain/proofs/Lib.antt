pub mod KeepMaps
pub mod Telling
pub mod SameLists
pub mod SameStacks
pub mod SamePackets
