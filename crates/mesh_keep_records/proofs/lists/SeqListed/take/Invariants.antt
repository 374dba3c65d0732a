use Rattle.std.proofs.Common.{◌≡◌, true, List, map, take}
use Rattle.std.specs.List.{list_all}
use Rattle.mesh_keep_records.proofs.lists.SeqListed.take.Given as goal

-- the parts so far are those of what is made, and of no other values that fit
abbrev pub invariant-loop-text : goal.invariant-loop-text
invariant-loop-text g l = record {
  read : take l.text-index l.texts ≡ map g.T.Part.text l.made;
  only : (xs : List g.row.T.Denot) → list_all g.T.Part.fits xs ≡ true → l.texts ≡ map g.T.Part.text xs → l.made ≡ take l.text-index xs;
}
