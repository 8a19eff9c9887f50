pub mod MigrateEnds
pub mod Migrate
pub mod TradeEnds
pub mod Trade
pub mod TradeTexts
pub mod Calendars
pub mod CalendarEnds
