-- Claims: what a word that many seats draw numbers from, and the numbers that they drew, keep.
pub mod Claims
