-- The reference that entries give is the one that their renames give, and an entry is put where its rename is.
use Rattle.std.proofs.Common.{◌≡◌, refl, sym, ◌∙◌, ap, Bool, true, false, cond, List, [], ◌∷◌, Some, None}
use Rattle.std.specs.declared.cmp.Ordering.{Ordering}
use Rattle.std.specs.declared.cmp.Ordering.TheVariants.{Less, Equal, Greater}
use Rattle.std.specs.declared.option.Option.{Option}
use Rattle.std.specs.Option.{option_map}
use Rattle.std.specs.Ordering.{is_eq}
use Rattle.mesh_list.specs.Keyed.{found, placed, put_by}
use Rattle.mesh_base.specs.declared.forgets.Rename.{Rename}
use Rattle.mesh_base.specs.declared.snapshots.Ref.{Ref}
use Rattle.mesh_base.specs.Keys.{ref_cmp}
use Rattle.mesh_house_book.specs.moves.Renames.{rename_old, renamed, renamed_by}
use Rattle.mesh_janitor.specs.declared.migrate.entries.Entry.{Entry}
use Rattle.mesh_janitor.specs.migrate.Walk.{entry_old, renames_of}

abbrev rename_in : Option Entry → Option Rename
rename_in o = option_map (λ (e : Entry). e.rename) o

found_rename : (r : Ref) (es : List Entry) → found ref_cmp rename_old r (renames_of es) ≡ rename_in (found ref_cmp entry_old r es)
found_rename r [] = refl
found_rename r (e ∷ es) = at (is_eq (ref_cmp e.rename.old r)) (found_rename r es)
  where
    at : (b : Bool) → found ref_cmp rename_old r (renames_of es) ≡ rename_in (found ref_cmp entry_old r es) → cond b (Some e.rename) (found ref_cmp rename_old r (renames_of es)) ≡ rename_in (cond b (Some e) (found ref_cmp entry_old r es))
    at true more = refl
    at false more = more

pub renamed_is : (r : Ref) (es : List Entry) (o : Option Entry) → found ref_cmp entry_old r es ≡ o → renamed_by (rename_in o) r ≡ renamed (renames_of es) r
renamed_is r es o e = sym (ap (λ (p : Option Rename). renamed_by p r) (found_rename r es ∙ ap rename_in e))

-- a reference keeps its name
pub keeps_name : (o : Option Rename) (r : Ref) → renamed_by o r ≡ record r { fingerprint = (renamed_by o r).fingerprint }
keeps_name None r = refl
keeps_name (Some m) r = refl

pub placed_is : (y : Entry) (es : List Entry) → renames_of (placed ref_cmp entry_old y es) ≡ placed ref_cmp rename_old y.rename (renames_of es)
placed_is y [] = refl
placed_is y (e ∷ es) = at (ref_cmp e.rename.old y.rename.old) (placed_is y es)
  where
    at : (o : Ordering) → renames_of (placed ref_cmp entry_old y es) ≡ placed ref_cmp rename_old y.rename (renames_of es)
        → renames_of (put_by o e y es (placed ref_cmp entry_old y es)) ≡ put_by o e.rename y.rename (renames_of es) (placed ref_cmp rename_old y.rename (renames_of es))
    at Less more = ap (◌∷◌ e.rename) more
    at Equal more = refl
    at Greater more = refl
