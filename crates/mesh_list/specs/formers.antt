pub mod boxes
pub mod seqs
