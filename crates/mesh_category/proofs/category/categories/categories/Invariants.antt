use Rattle.std.proofs.Common.{take}
use Rattle.std.specs.List.{AllZip}
use Rattle.mesh_category.specs.category.Stated.{AddsAmong, IsCategoryAmong, stated}
use Rattle.mesh_category.proofs.category.categories.categories.Given as goal

abbrev pub invariant-loop-at : goal.invariant-loop-at
invariant-loop-at l = record {
  adds : AllZip (AddsAmong (stated l.olds)) (stated (take l.at l.news)) l.adds.items;
  made : AllZip (IsCategoryAmong (stated l.olds)) (stated (take l.at l.news)) l.made;
}
