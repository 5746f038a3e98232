mod Flights
mod Puts
mod Whole
