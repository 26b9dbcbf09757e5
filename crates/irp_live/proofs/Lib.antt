mod Begun
mod Grown
mod Newlines
mod Pieces
mod Replies
mod Served
mod Talks
mod Turns
