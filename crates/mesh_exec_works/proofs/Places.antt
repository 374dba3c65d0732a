-- The models of a plan by their places.
use Rattle.std.proofs.Common.{◌≡◌, ℕ, zero, suc, List, [], ◌∷◌, Some, None, refl, sym}
use Rattle.std.specs.List.{slice_get}
use Rattle.std.specs.declared.option.Option.{Option}
use Rattle.mesh_base.specs.declared.plans.Entry.{Entry}
use Rattle.mesh_base.specs.declared.snapshots.Node.{Node}
use Rattle.mesh_spec_changes.specs.due.Plans.{Planned}
use Rattle.mesh_exec_works.specs.Plain.{model_of, plain_models}

abbrev pub both_at : Option Node → Option Entry → Option Planned
both_at None e = None
both_at (Some n) None = None
both_at (Some n) (Some e) = Some (model_of n e)

pub plain_at : (ns : List Node) (es : List Entry) (i : ℕ) → slice_get (plain_models ns es) i ≡ both_at (slice_get ns i) (slice_get es i)
plain_at [] es zero = refl
plain_at [] es (suc i) = refl
plain_at (n ∷ ns) [] zero = refl
plain_at (n ∷ ns) [] (suc i) = sym (no_entry (slice_get ns i))
  where
    no_entry : (o : Option Node) → both_at o None ≡ None
    no_entry None = refl
    no_entry (Some x) = refl
plain_at (n ∷ ns) (e ∷ es) zero = refl
plain_at (n ∷ ns) (e ∷ es) (suc i) = plain_at ns es i
