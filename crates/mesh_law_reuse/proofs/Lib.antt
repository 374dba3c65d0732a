-- Horizons: a core has the same horizon and schedule.
pub mod Horizons
-- Shown: a definition with fewer items shows what is wanted as the whole one does.
pub mod Shown
-- Cores: a model's rows are those of its core.
pub mod Cores
-- Marking: a core has the same marks.
pub mod Marking
-- Twins: compatible models of one definition have one core.
pub mod Twins
-- Fit: what a well-formed definition reads of its parents are columns of these.
pub mod Fit
-- Projects: the closures of proper projects are well formed.
pub mod Projects
-- Books: so are those of the snapshots of well-formed books.
pub mod Books
-- Staying: a table stays with twins.
pub mod Staying
-- Sharing: twins have the same rows, times and marks.
pub mod Sharing
-- Known: a stored snapshot of a model's reference has the model's closure.
pub mod Known
-- Given: the tables that the models of a plan are given are of twins.
pub mod Given
-- Single: no two models of a plan are given one table.
pub mod Single
-- Puts: what putting the snapshots of some models of a plan makes of a book.
pub mod Puts
-- Putting: putting the snapshots of a plan keeps tables for twins.
pub mod Putting
-- Examples: twins in a small project, worked out by hand.
pub mod Examples
-- ExamplesOfBooks: a book in which twins share a table, worked out by hand.
pub mod ExamplesOfBooks
-- ExamplesOfPlans: a plan that gives a model the table of its twin, worked out by hand.
pub mod ExamplesOfPlans
-- ExamplesOfShops: a shop whose daily model gains a column, worked out by hand.
pub mod ExamplesOfShops
