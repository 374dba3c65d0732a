-- A moment decides what is due.
use Rattle.std.proofs.Common.{◌≡◌, ℕ, suc, ◌+◌, ℤ, ◌≤ℤ◌, Bool, true, false, not, ◌&&◌, cond, nat_lt, List, [], ◌∷◌, ◌++◌, map, length, refl, sym, ap, ◌∙◌, arith}
use Rattle.std.proofs.lemmas.Int.{ints}
use Rattle.std.specs.List.{filter}
use Rattle.std.specs.Option.{option_map}
use Rattle.std.specs.declared.option.Option.{Option}
use Rattle.std.specs.declared.option.Option.TheVariants.{Some}
use Rattle.mesh_base_values.specs.declared.kinds.Kind.{Kind}
use Rattle.mesh_base_values.specs.declared.kinds.Kind.TheVariants.{Full, View, Seed, Incremental}
use Rattle.mesh_base_values.specs.declared.times.Bounds.{Bounds}
use Rattle.mesh_base.specs.declared.forgets.Forget.{Forget}
use Rattle.mesh_base.specs.declared.forgets.Forget.TheVariants.{Marks}
use Rattle.mesh_base.specs.declared.forgets.Restate.{Restate}
use Rattle.mesh_base.specs.declared.plans.Due.TheVariants.{Whole}
use Rattle.mesh_base.specs.declared.plans.Entry.{Entry}
use Rattle.mesh_base.specs.declared.snapshots.Node.{Node}
use Rattle.mesh_house_book.specs.declared.book.Book.{Book}
use Rattle.mesh_house.specs.World.{version_of}
use Rattle.mesh_law_query.proofs.Lists.{Each}
use Rattle.mesh_spec_model.proofs.Moments.{one_horizon}
use Rattle.mesh_spec_model.specs.Closures.{Closure, own_of}
use Rattle.mesh_spec_model.specs.Horizons.{Clock, HasCrons, Shows, schedule, units_from}
use Rattle.mesh_spec_changes.proofs.due.Later.{marks_stay}
use Rattle.mesh_spec_changes.specs.due.Dues.{again, again_of, again_units, due_at, due_of, dues_from, is_due_unit}
use Rattle.mesh_spec_changes.specs.due.Marks.{marks}
use Rattle.mesh_spec_changes.specs.due.Parts.{is_among, unit_of}
use Rattle.mesh_spec_changes.specs.due.Plans.{Planned, are_marks, is_marked, marks_of, planned_by}
use Rattle.mesh_plan_due.specs.Long.{first_too_long}

module _ (t : ℤ) (clock other : Clock) (s : Shows clock t) (o : Shows other t) where
  same_schedule : (c : Closure) → HasCrons c → schedule clock c ≡ schedule other c
  same_schedule c h = ap (units_from (own_of c).start (own_of c).unit) (one_horizon t clock other s o c h)

  same_marks : (c : Closure) → HasCrons c → marks clock c ≡ marks other c
  same_marks c h = let now : t ≤ℤ t = omega (arith, ints) in marks_stay t t t clock other clock now now s o s c h refl

  pub one_length : (cs : List Closure) → Each HasCrons cs → first_too_long clock cs ≡ first_too_long other cs
  one_length [] h = refl
  one_length (c ∷ cs) h = λ i. cond (nat_lt 200_000 (length (same_schedule c h.0 i))) (Some 0) (option_map suc (one_length cs h.1 i))

  same_again : (b : Book) (r : Option Restate) (p : Planned) → HasCrons p.closure → (kind : Kind) → again_of clock b r p kind ≡ again_of other b r p kind
  same_again b r p h (Incremental time lookback) = ap (λ us. map (unit_of p.object) (again_units lookback b r p us)) (same_schedule p.closure h)
  same_again b r p h Full = refl
  same_again b r p h View = refl
  same_again b r p h Seed = refl

  pub one_again : (b : Book) (r : Option Restate) (ns : List Node) (cs : List Closure) (es : List Entry) → Each HasCrons cs → again clock b r (planned_by ns cs es) ≡ again other b r (planned_by ns cs es)
  one_again b r [] cs es h = refl
  one_again b r (n ∷ ns) [] es h = refl
  one_again b r (n ∷ ns) (c ∷ cs) [] h = refl
  one_again b r (n ∷ ns) (c ∷ cs) (e ∷ es) h = λ i. same_again b r (record { node = n; closure = c; object = e.object }) h.0 n.own.kind i ++ one_again b r ns cs es h.1 i

  units_alike : (place : ℕ) (p : Planned) (us : List Bounds) → map (due_at clock place p) (map (unit_of p.object) us) ≡ map (due_at other place p) (map (unit_of p.object) us)
  units_alike place p [] = refl
  units_alike place p (u ∷ us) = ap (λ l. due_at clock place p (unit_of p.object u) ∷ l) (units_alike place p us)

  whole : (any : Clock) (place : ℕ) (p : Planned) (c : Bool) → map (due_at any place p) (cond c [] (Marks p.object ∷ [])) ≡ cond c [] (Whole place (marks any p.closure) ∷ [])
  whole any place p true = refl
  whole any place p false = refl

  tables_alike : (place : ℕ) (p : Planned) → HasCrons p.closure → (test : List ℤ → Bool)
      → map (due_at clock place p) (cond (test (marks clock p.closure)) [] (Marks p.object ∷ [])) ≡ map (due_at other place p) (cond (test (marks other p.closure)) [] (Marks p.object ∷ []))
  tables_alike place p h test =
      whole clock place p (test (marks clock p.closure)) ∙ ap (λ ms. cond (test ms) [] (Whole place ms ∷ [])) (same_marks p.closure h) ∙ sym (whole other place p (test (marks other p.closure)))

  same_due : (b : Book) (forgets : List Forget) (place : ℕ) (p : Planned) → HasCrons p.closure → (kind : Kind)
      → map (due_at clock place p) (due_of clock b forgets p kind) ≡ map (due_at other place p) (due_of other b forgets p kind)
  same_due b forgets place p h (Incremental time lookback) =
      ap (λ us. map (due_at clock place p) (map (unit_of p.object) (filter (is_due_unit b forgets p) us))) (same_schedule p.closure h)
      ∙ units_alike place p (filter (is_due_unit b forgets p) (schedule other p.closure))
  same_due b forgets place p h Full = tables_alike place p h (λ ms. are_marks (marks_of (version_of b p.object)) ms && not (is_among forgets (Marks p.object)))
  same_due b forgets place p h View = tables_alike place p h (λ ms. is_marked b p.object)
  same_due b forgets place p h Seed = tables_alike place p h (λ ms. is_marked b p.object)

  pub one_due : (b : Book) (forgets : List Forget) (place : ℕ) (ns : List Node) (cs : List Closure) (es : List Entry) → Each HasCrons cs
      → dues_from place clock b forgets (planned_by ns cs es) ≡ dues_from place other b forgets (planned_by ns cs es)
  one_due b forgets place [] cs es h = refl
  one_due b forgets place (n ∷ ns) [] es h = refl
  one_due b forgets place (n ∷ ns) (c ∷ cs) [] h = refl
  one_due b forgets place (n ∷ ns) (c ∷ cs) (e ∷ es) h =
      λ i. same_due b forgets place (record { node = n; closure = c; object = e.object }) h.0 n.own.kind i ++ one_due b forgets (place + 1) ns cs es h.1 i
