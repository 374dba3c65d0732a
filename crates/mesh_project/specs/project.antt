-- Project: what the files of a project mean.
pub mod Project
