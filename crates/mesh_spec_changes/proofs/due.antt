-- Later: schedules and marks only grow with the moment.
pub mod Later
-- Ordered: due units are units of the schedule, in order.
pub mod Ordered
-- Examples: small plans and what is due of them, worked out by hand.
pub mod Examples
