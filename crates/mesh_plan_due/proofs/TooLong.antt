-- The first schedule that is too long.
use Rattle.std.proofs.Common.{◌≡◌, ℕ, zero, suc, ◌<◌, Bool, true, false, cond, nat_lt, List, [], ◌∷◌, length, take, refl, sym, ap, ◌∙◌, ℤ, pos, map, get_or}
use Rattle.std.specs.List.{slice_get}
use Rattle.std.specs.Option.{option_map}
use Rattle.std.specs.declared.option.Option.{Option}
use Rattle.std.specs.declared.option.Option.TheVariants.{None, Some}
use Rattle.mesh_base.specs.declared.snapshots.Node.{Node}
use Rattle.mesh_spec_model.specs.Closures.{Closure, closures}
use Rattle.mesh_spec_model.specs.Horizons.{Clock, horizon, units_from}
use Rattle.mesh_plan_due.specs.Long.{first_too_long, is_too_long}
use Rattle.mesh_plan_due.proofs.Nodes.{closure_at, node_there, number_of}

module _ (clock : Clock) where
  pub first_here : (cs : List Closure) (i : ℕ) (c : Closure) → first_too_long clock (take i cs) ≡ None → slice_get cs i ≡ Some c → is_too_long clock c ≡ true → first_too_long clock cs ≡ Some i
  first_here [] i c none there long = absurd (cc)
  first_here (d ∷ cs) zero c none there long =
      let same : d ≡ c = cc in ap (λ b. cond b (Some 0) (option_map suc (first_too_long clock cs))) (ap (is_too_long clock) same ∙ long)
  first_here (d ∷ cs) (suc i) c none there long = go (is_too_long clock d) none (first_here cs i c)
    where
      go : (b : Bool) → cond b (Some 0) (option_map suc (first_too_long clock (take i cs))) ≡ None
          → (first_too_long clock (take i cs) ≡ None → slice_get cs i ≡ Some c → is_too_long clock c ≡ true → first_too_long clock cs ≡ Some i)
          → cond b (Some 0) (option_map suc (first_too_long clock cs)) ≡ Some (suc i)
      go true e more = absurd (cc)
      go false e more = ap (option_map suc) (more (unmapped (first_too_long clock (take i cs)) e) there long)
        where
          unmapped : (o : Option ℕ) → option_map suc o ≡ None → o ≡ None
          unmapped None f = refl
          unmapped (Some k) f = absurd (cc)

  pub none_more : (cs : List Closure) (i : ℕ) (c : Closure) → first_too_long clock (take i cs) ≡ None → slice_get cs i ≡ Some c → is_too_long clock c ≡ false → first_too_long clock (take (suc i) cs) ≡ None
  none_more [] i c none there short = absurd (cc)
  none_more (d ∷ cs) zero c none there short =
      let same : d ≡ c = cc in ap (λ b. cond b (Some 0) None) (ap (is_too_long clock) same ∙ short)
  none_more (d ∷ cs) (suc i) c none there short = go (is_too_long clock d) none (none_more cs i c)
    where
      go : (b : Bool) → cond b (Some 0) (option_map suc (first_too_long clock (take i cs))) ≡ None
          → (first_too_long clock (take i cs) ≡ None → slice_get cs i ≡ Some c → is_too_long clock c ≡ false → first_too_long clock (take (suc i) cs) ≡ None)
          → cond b (Some 0) (option_map suc (first_too_long clock (take (suc i) cs))) ≡ None
      go true e more = absurd (cc)
      go false e more = ap (option_map suc) (more (unmapped (first_too_long clock (take i cs)) e) there short)
        where
          unmapped : (o : Option ℕ) → option_map suc o ≡ None → o ≡ None
          unmapped None f = refl
          unmapped (Some k) f = absurd (cc)

  -- whether the schedule of the model at a place is too long
  module _ (nodes : List Node) (hs : List ℤ) (all : hs ≡ map (horizon clock) (closures nodes)) (i : ℕ) (n : Node) (inside : i < length nodes) (here : n ≡ get_or nodes i n) where
    pub long_there : (b : Bool) → b ≡ nat_lt 200_000 (length (units_from n.own.start n.own.unit (get_or hs i (pos 0)))) → (c : Closure) × (slice_get (closures nodes) i ≡ Some c) × (is_too_long clock c ≡ b)
    long_there b e =
        let (c, there, own) = closure_at nodes i n (node_there nodes i n inside here) in
        let same : get_or hs i (pos 0) ≡ horizon clock c = number_of (horizon clock) (closures nodes) hs all i c there in
        (c, there, (λ k. nat_lt 200_000 (length (units_from (own k).start (own k).unit (sym same k)))) ∙ sym e)
