-- Left: the models that a plan leaves out are those that its list leaves out.
pub mod Left
