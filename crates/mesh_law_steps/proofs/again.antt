-- Lists: lists without the items of some keys.
pub mod Lists
-- Names: names by their order.
pub mod Names
-- Sweeping: what the changes of a sweep do.
pub mod Sweeping
-- Staying: what stays in a book that was swept.
pub mod Staying
-- Promoting: what a promotion does to the views.
pub mod Promoting
