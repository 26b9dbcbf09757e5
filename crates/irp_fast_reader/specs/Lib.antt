pub mod Fed
pub mod Fits
pub mod Fitting
pub mod Laws
pub mod Parts
