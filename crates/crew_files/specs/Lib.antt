pub mod Limits
pub mod Flights
pub mod Crew
pub mod Events
pub mod Files
pub mod Texts
