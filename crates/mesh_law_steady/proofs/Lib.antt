-- Dates: each day of the calendar has a text, which names it.
pub mod Dates
-- Ends: what lies between the ends of a unit is near the unit.
pub mod Ends
-- Binding: where a condition that binds a column is true, the column's time is near.
pub mod Binding
-- Dropping: the rows of a FROM over tables without rows that no condition lets through.
pub mod Dropping
-- Queries: a query whose FROM items are bound, over near rows alone.
pub mod Queries
-- Both: what is known of each element, by place.
pub mod Both
-- Finding: what a definition finds under a name.
pub mod Finding
-- Names: the parents that a steady model names.
pub mod Names
-- Units: the units of a model, and of the models that it stands on.
pub mod Units
-- Staying: the units of a steady model keep their rows.
pub mod Staying
-- Reading: a steady model reads near rows alone.
pub mod Reading
-- Whole: a steady FULL model keeps its rows.
pub mod Whole
-- Marks: where marks are the same, so are the horizons below.
pub mod Marks
-- Even: what stands below an even model is even.
pub mod Even
-- Worlds: nothing moves in a sound world of steady and even models.
pub mod Worlds
-- Ticks: last ticks of some crons, worked out by hand.
pub mod Ticks
-- Uneven: three models whose units aren't even, and move.
pub mod Uneven
-- UnevenWorld: a warehouse of them.
pub mod UnevenWorld
-- Examples: a shop whose computed rows stay, worked out by hand.
pub mod Examples
-- Shop: a warehouse of the shop, in which nothing moves.
pub mod Shop
