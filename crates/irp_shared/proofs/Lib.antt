mod SeatNumbers
mod Gathering
mod Opened
mod OwnPlaces
mod Answering
