pub mod Digits
pub mod CalendarDays
pub mod DayTexts
