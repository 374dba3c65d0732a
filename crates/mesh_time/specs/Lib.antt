-- Ticks: the moments that a cron names, and the last of them.
pub mod Ticks
-- CronText: the text of a cron, what it means and why it may be none.
pub mod CronText
-- Ranges: lists of spans, which seconds they have, and the units of a schedule that they lack.
pub mod Ranges
-- Edits: the lists of spans that adding and forgetting make.
pub mod Edits
