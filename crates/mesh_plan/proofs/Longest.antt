-- The first model whose schedule is too long.
use Rattle.std.proofs.Common.{◌≡◌, ℕ, ℤ, zero, suc, ◌<◌, Bool, true, false, cond, List, [], ◌∷◌, map, length, Some, None, refl, sym, arith}
use Rattle.std.specs.List.{slice_get}
use Rattle.std.specs.Option.{option_map}
use Rattle.std.specs.declared.option.Option.{Option}
use Rattle.mesh_base.specs.declared.snapshots.Node.{Node}
use Rattle.mesh_spec_model.specs.Closures.{Closure, closures}
use Rattle.mesh_spec_model.specs.Horizons.{Clock, horizon}
use Rattle.mesh_plan_due.specs.Long.{first_too_long, is_too_long}
use Rattle.mesh_plan.specs.Intervals.{IsLongest}
use Rattle.mesh_plan.proofs.Models.{closures_long}

-- it stands among the models
within : (clock : Clock) (cs : List Closure) (at : ℕ) → first_too_long clock cs ≡ Some at → at < length cs
within clock [] at e = absurd (let clash : None ≡ Some at = e in cc)
within clock (c ∷ cs) at e = go (is_too_long clock c) (first_too_long clock cs) refl (λ k f. within clock cs k f) e
  where
    go : (t : Bool) (o : Option ℕ) → first_too_long clock cs ≡ o → ((k : ℕ) → first_too_long clock cs ≡ Some k → k < length cs) → cond t (Some 0) (option_map suc o) ≡ Some at → at < length (c ∷ cs)
    go true o f later g = let here : 0 ≡ at = cc in omega (arith, here)
    go false None f later g = absurd (let clash : None ≡ Some at = g in cc)
    go false (Some k) f later g = let there : suc k ≡ at = cc in omega (arith, there, later k f)

is_there : (nodes : List Node) (at : ℕ) → at < length nodes → slice_get nodes at ≡ None → ⊥
is_there [] at l e = omega (arith, l)
is_there (n ∷ ns) zero l e = let clash : Some n ≡ None = e in absurd (cc)
is_there (n ∷ ns) (suc at) l e = is_there ns at (omega (arith, l)) e

pub longest_is : (nodes : List Node) (horizons : List ℤ) (at : ℕ) (o : Option Node) → ((clock : Clock) → horizons ≡ map (horizon clock) (closures nodes) → Some at ≡ first_too_long clock (closures nodes)) → o ≡ slice_get nodes at
    → IsLongest nodes horizons o
longest_is nodes horizons at None first e =
    λ clock is.
    let l : at < length (closures nodes) = within clock (closures nodes) at (sym (first clock is)) in
    absurd (is_there nodes at (omega (arith, l, closures_long nodes)) (sym e))
longest_is nodes horizons at (Some n) first e = (at, sym e, λ clock is. sym (first clock is))
