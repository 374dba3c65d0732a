-- Keeps: what every form of an expression keeps of its operands.
pub mod Keeps
-- Good: what a step gives.
pub mod Good
-- Walks: what the walk through an expression gives.
pub mod Walks
-- Queries: what every SELECT of a resolved query keeps.
pub mod Queries
-- Distinct: names that stand once.
pub mod Distinct
-- Outcomes: a query or a fault.
pub mod Outcomes
-- Kept: what every constructor keeps, every form keeps.
pub mod Kept
-- Sees: expressions name columns that are there.
pub mod Sees
-- Froms: what FROM draws.
pub mod Froms
-- Insight: all that a resolved query names is there.
pub mod Insight
-- TypingCells: the types of the values of operators and functions.
pub mod TypingCells
-- TypingForms: each form has values of its type.
pub mod TypingForms
-- TypingSight: what may be named has values of its type.
pub mod TypingSight
-- TypingOperands: when the operands of an expression fit, by its form.
pub mod TypingOperands
-- TypingMeets: each form has operands of the types that it takes.
pub mod TypingMeets
-- TypingLists: what holds of each member of lists made of others.
pub mod TypingLists
-- TypingRows: the rows of a SELECT over tables that fit.
pub mod TypingRows
-- TypingFrom: what FROM lets an expression see.
pub mod TypingFrom
-- TypingItems: the items of a SELECT have values of their types.
pub mod TypingItems
-- TypingKeys: keys and conditions have operands that fit.
pub mod TypingKeys
-- TypingSelects: the rows of a SELECT fit its columns.
pub mod TypingSelects
-- TypingQueries: the rows of a query fit its columns.
pub mod TypingQueries
-- TypingModels: the rows of a model fit its columns.
pub mod TypingModels
-- Agree: relations that agree on the names in a query.
pub mod Agree
-- Origins: what a definition reads.
pub mod Origins
-- Whole: own definitions are well formed.
pub mod Whole
-- Named: the models among the names in a query.
pub mod Named
-- Files: what a definition has of its file.
pub mod Files
