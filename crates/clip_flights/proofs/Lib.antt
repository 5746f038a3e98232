pub mod InUse
pub mod LineParts
pub mod LongFlights
