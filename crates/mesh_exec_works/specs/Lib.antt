-- Executable: which plans can be made.
pub mod Executable
-- Dues: what is due, model by model.
pub mod Dues
-- Works: the parts in which a plan is made.
pub mod Works
-- Plain: the models of a plan by their places.
pub mod Plain
-- Written: the changes that fill a due part of a model.
pub mod Written
-- Lost: which object dangles where the tables of models are looked up.
pub mod Lost
-- Tables: the tables that are read for the parts of a plan.
pub mod Tables
-- Cuts: the rows of a run, cut to its due parts.
pub mod Cuts
-- Fronts: which models may be computed before any of those before them is made.
pub mod Fronts
