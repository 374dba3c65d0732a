-- Books: a book's snapshots ascend.
pub mod Books
-- Reached: what the walk finds is what stays.
pub mod Reached
-- Down: snapshots by descending rank.
pub mod Down
-- Used: the objects of what stays.
pub mod Used
-- Making: what a call leaves of a house, as the janitor tells it.
pub mod Making
-- Goes: what goes, and what stays, in the words of the janitor's definitions.
pub mod Goes
