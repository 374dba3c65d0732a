-- Flags of models that go by those of their parents.
use Rattle.std.proofs.Common.{◌≡◌, ℕ, ◌+◌, ◌<◌, Bool, false, ◌||◌, List, [], ◌∷◌, ◌++◌, map, length, take, get_or, refl, sym, ap, ◌∙◌}
use Rattle.std.specs.List.{list_any, slice_get}
use Rattle.std.specs.Option.{option_map}
use Rattle.std.specs.declared.option.Option.{Option}
use Rattle.std.specs.declared.option.Option.TheVariants.{None, Some}
use Rattle.std.proofs.lemmas.List.Folds.{list_any-append}
use Rattle.std.proofs.lemmas.Option.{slice_get-map}
use Rattle.mesh_base.specs.declared.forgets.Restate.{Restate}
use Rattle.mesh_base.specs.declared.snapshots.Node.{Node}
use Rattle.mesh_spec_model.specs.Closures.{Closure, ancestors, closures, own_of, parents_at, standing, with_parent}
use Rattle.mesh_spec_changes.specs.due.Dues.{restates}
use Rattle.mesh_spec_changes.specs.due.Parts.{same_name}
use Rattle.mesh_plan_due.specs.Stands.{any_at, flag_of, is_named}
use Rattle.mesh_plan_due.proofs.Nodes.{closure_of, known_more}

-- one of the closures that a closure stands on, itself among them, passes a test
module _ (p : Closure → Bool) where
  abbrev some_standing : Closure → Bool
  some_standing c = list_any p (standing c)

  pub parents_any : (done : List Closure) (places : List ℕ) → list_any p (ancestors (parents_at done places)) ≡ any_at (map some_standing done) places
  parents_any done [] = refl
  parents_any done (i ∷ is) = go (slice_get done i) (parents_any done is) ∙ ap (λ o. flag_of o || any_at (map some_standing done) is) (sym (slice_get-map some_standing done i))
    where
      go : (o : Option Closure) → list_any p (ancestors (parents_at done is)) ≡ any_at (map some_standing done) is
          → list_any p (ancestors (with_parent o (parents_at done is))) ≡ (flag_of (option_map some_standing o) || any_at (map some_standing done) is)
      go None e = e
      go (Some c) e = list_any-append p (standing c) (ancestors (parents_at done is)) ∙ ap (λ b. some_standing c || b) e

none_at : (done : List Closure) (places : List ℕ) → any_at (map (restates None) done) places ≡ false
none_at done [] = refl
none_at done (i ∷ is) = ap (λ o. flag_of o || any_at (map (restates None) done) is) (slice_get-map (restates None) done i) ∙ go (slice_get done i) ∙ none_at done is
  where
    go : (o : Option Closure) → (flag_of (option_map (restates None) o) || any_at (map (restates None) done) is) ≡ any_at (map (restates None) done) is
    go None = refl
    go (Some c) = refl

named_is : (r : Option Restate) (done : List Closure) (n : Node) → restates r (closure_of done n) ≡ (is_named r n.own.name || any_at (map (restates r) done) n.parents)
named_is None done n = sym (none_at done n.parents)
named_is (Some r) done n = ap (λ b. same_name n.own.name r.name || b) (parents_any (λ s. same_name (own_of s).name r.name) done n.parents)

-- one node more
pub named_more : (r : Option Restate) (nodes : List Node) (i : ℕ) (n : Node) → i < length nodes → n ≡ get_or nodes i n → (flags : List Bool) → flags ≡ map (restates r) (closures (take i nodes))
    → (b : Bool) → b ≡ (is_named r n.own.name || any_at flags n.parents) → flags ++ b ∷ [] ≡ map (restates r) (closures (take (i + 1) nodes))
named_more r nodes i n inside here flags known b e =
    (λ k. known k ++ (e ∙ ap (λ l. is_named r n.own.name || any_at l n.parents) known ∙ sym (named_is r (closures (take i nodes)) n)) k ∷ [])
    ∙ ap (λ m. map (restates r) (closures (take i nodes)) ++ restates r (closure_of (closures (take i nodes)) m) ∷ []) here
    ∙ sym (known_more (restates r) nodes i n inside)
