pub mod CommandLine
mod Finding
mod ToldOfWords
