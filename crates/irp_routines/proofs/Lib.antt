mod Agreeing
mod ByMajor
mod FirstReasons
mod Refusing
mod RisingPairs
mod Taking
mod ToldAlike
