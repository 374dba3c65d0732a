-- The rename that moves give is the one that their renames give.
use Rattle.std.proofs.Common.{◌≡◌, refl, sym, ◌∙◌, ap, Bool, true, false, cond, List, [], ◌∷◌, Some}
use Rattle.std.specs.declared.option.Option.{Option}
use Rattle.std.specs.Option.{option_map}
use Rattle.std.specs.Ordering.{is_eq}
use Rattle.mesh_list.specs.Keyed.{found}
use Rattle.mesh_base.specs.declared.forgets.Rename.{Rename}
use Rattle.mesh_base.specs.declared.snapshots.Ref.{Ref}
use Rattle.mesh_base.specs.Keys.{ref_cmp}
use Rattle.mesh_house_book.specs.declared.moves.moves.Move.{Move}
use Rattle.mesh_house_book.specs.moves.Moves.{move_old, renames_of}
use Rattle.mesh_house_book.specs.moves.Renames.{rename_old, renamed, renamed_by}

abbrev rename_at : Option Move → Option Rename
rename_at o = option_map (λ (m : Move). m.rename) o

found_rename : (r : Ref) (ms : List Move) → found ref_cmp rename_old r (renames_of ms) ≡ rename_at (found ref_cmp move_old r ms)
found_rename r [] = refl
found_rename r (m ∷ ms) = at (is_eq (ref_cmp m.rename.old r)) (found_rename r ms)
  where
    at : (b : Bool) → found ref_cmp rename_old r (renames_of ms) ≡ rename_at (found ref_cmp move_old r ms) → cond b (Some m.rename) (found ref_cmp rename_old r (renames_of ms)) ≡ rename_at (cond b (Some m) (found ref_cmp move_old r ms))
    at true more = refl
    at false more = more

pub renamed_is : (r : Ref) (ms : List Move) (o : Option Move) → found ref_cmp move_old r ms ≡ o → renamed_by (rename_at o) r ≡ renamed (renames_of ms) r
renamed_is r ms o e = sym (ap (λ (p : Option Rename). renamed_by p r) (found_rename r ms ∙ ap rename_at e))
