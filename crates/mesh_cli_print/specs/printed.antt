-- Records: rows as a CSV file has them.
pub mod Records
-- Writers: a writer of records, and what it has written.
pub mod Writers
-- Reports: what a command prints when it is done.
pub mod Reports
-- Refusals: the line that a command prints when it isn't.
pub mod Refusals
-- Printing: on which sink it is printed, and the exit status.
pub mod Printing
