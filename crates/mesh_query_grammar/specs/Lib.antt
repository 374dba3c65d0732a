-- Words: the words of queries, and those of types and functions.
pub mod Words
-- Signs: what a list of tokens begins with, up to the rest behind it.
pub mod Signs
-- Grammar: which tokens spell which part of a query.
pub mod Grammar
-- Beginnings: which tokens are a query, which begin one, and where others go wrong.
pub mod Beginnings
-- Rules: the rules of the grammar, and what may be left of one when its beginning has been read.
pub mod Rules
-- Plans: what is done at the next token, for each rule.
pub mod Plans
-- Machine: the runs that the plans have, and those that fail.
pub mod Machine
-- lookahead: the definitions of the module `lookahead`.
pub mod lookahead
