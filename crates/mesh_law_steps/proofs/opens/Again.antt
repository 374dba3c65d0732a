-- What is computed again, and what is due, are parts of the models' objects.
use Rattle.std.proofs.Common.{◌≡◌, ◌||◌, ◌&&◌, not, ℕ, ℤ, Bool, true, false, cond, inl, inr, List, [], ◌∷◌, refl, sym, ap, subst}
use Rattle.std.specs.declared.option.Option.{Option}
use Rattle.mesh_base_values.specs.declared.kinds.Kind.{Kind}
use Rattle.mesh_base_values.specs.declared.kinds.Kind.TheVariants.{Full, View, Seed, Incremental}
use Rattle.mesh_base_values.specs.declared.times.Bounds.{Bounds}
use Rattle.mesh_base_values.specs.declared.values.Name.{Name}
use Rattle.mesh_base.specs.declared.forgets.Forget.{Forget}
use Rattle.mesh_base.specs.declared.forgets.Forget.TheVariants.{Marks, Range}
use Rattle.mesh_base.specs.declared.forgets.Restate.{Restate}
use Rattle.mesh_house_book.specs.declared.book.Book.{Book}
use Rattle.mesh_spec_model.specs.Horizons.{Clock, schedule}
use Rattle.mesh_house.specs.World.{version_of}
use Rattle.mesh_law_query.proofs.Has.{Has, Has_flat_from, Has_map_from}
use Rattle.mesh_spec_changes.specs.due.Dues.{again, again_of, again_units, due_of, due_units, is_looked_back, is_restated, restates}
use Rattle.mesh_spec_changes.specs.due.Marks.{marks}
use Rattle.mesh_spec_changes.specs.due.Parts.{is_among, object_of, unit_of}
use Rattle.mesh_spec_changes.specs.due.Plans.{Planned, are_marks, is_marked, marks_of}

module _ (clock : Clock) (b : Book) (restate : Option Restate) where
  units_listed : (lookback : ℕ) (p : Planned) (us : List Bounds) (u : Bounds) → Has u (again_units lookback b restate p us) → Has u us
  units_listed lookback p [] u h = h
  units_listed lookback p (v ∷ vs) u h = go (is_restated b restate p v || is_looked_back lookback b restate p v vs) h (units_listed lookback p vs u)
    where
      go : (c : Bool) → Has u (cond c (v ∷ again_units lookback b restate p vs) (again_units lookback b restate p vs)) → (Has u (again_units lookback b restate p vs) → Has u vs) → Has u (v ∷ vs)
      go true (inl e) more = inl e
      go true (inr k) more = inr (more k)
      go false k more = inr (more k)

  -- a range that is computed again is a unit of a model's schedule
  pub record IsUnitOf (p : Planned) (object : Name) (start end : ℤ) : Type 0 where
    pub named : object ≡ p.object
    pub unit : Has (record { start = start; end = end }) (schedule clock p.closure)

  pub again_range : (p : Planned) (kind : Kind) (object : Name) (start end : ℤ) → Has (Range object start end) (again_of clock b restate p kind) → IsUnitOf p object start end
  again_range p (Incremental time lookback) object start end h =
      let (u, there, is) = Has_map_from (unit_of p.object) (again_units lookback b restate p (schedule clock p.closure)) (Range object start end) h in
      let starts : u.start ≡ start = cc in
      let ends : u.end ≡ end = cc in
      let names : p.object ≡ object = cc in
      let same : u ≡ record { start = start; end = end } = λ i. record { start = starts i; end = ends i } in
      record { named = sym names; unit = subst (λ (v : Bounds). Has v (schedule clock p.closure)) same (units_listed lookback p (schedule clock p.closure) u there) }
  again_range p Full object start end h = go (restates restate p.closure && is_marked b p.object) h
    where
      go : (c : Bool) → Has (Range object start end) (cond c (Marks p.object ∷ []) []) → IsUnitOf p object start end
      go true (inl e) = absurd (cc)
      go true (inr k) = absurd k
      go false k = absurd k
  again_range p View object start end h = absurd h
  again_range p Seed object start end h = absurd h

  -- marks that are computed again are those of a FULL model
  pub again_marks : (p : Planned) (kind : Kind) (object : Name) → Has (Marks object) (again_of clock b restate p kind) → (object ≡ p.object) × (kind ≡ Full)
  again_marks p (Incremental time lookback) object h =
      let (u, there, is) = Has_map_from (unit_of p.object) (again_units lookback b restate p (schedule clock p.closure)) (Marks object) h in
      absurd (cc)
  again_marks p Full object h = go (restates restate p.closure && is_marked b p.object) h
    where
      go : (c : Bool) → Has (Marks object) (cond c (Marks p.object ∷ []) []) → (object ≡ p.object) × (Full ≡ Full)
      go true (inl e) = (let names : p.object ≡ object = cc in sym names, refl)
      go true (inr k) = absurd k
      go false k = absurd k
  again_marks p View object h = absurd h
  again_marks p Seed object h = absurd h

  pub again_from : (all : List Planned) (q : Forget) → Has q (again clock b restate all) → (p : Planned) × Has p all × Has q (again_of clock b restate p p.node.own.kind)
  again_from all q h = Has_flat_from (λ (p : Planned). again_of clock b restate p p.node.own.kind) all q h

-- all of a table, where a test says so
whole_of : (object : Name) (c : Bool) (q : Forget) → Has q (cond c [] (Marks object ∷ [])) → object_of q ≡ object
whole_of object true q h = absurd h
whole_of object false q (inl e) = ap object_of (sym e)
whole_of object false q (inr h) = absurd h

-- a due part of a model is of its object
pub due_object : (clock : Clock) (b : Book) (forgets : List Forget) (p : Planned) (kind : Kind) (q : Forget) → Has q (due_of clock b forgets p kind) → object_of q ≡ p.object
due_object clock b forgets p (Incremental time lookback) q h =
    let (u, there, is) = Has_map_from (unit_of p.object) (due_units clock b forgets p) q h in ap object_of (sym is)
due_object clock b forgets p Full q h = whole_of p.object (are_marks (marks_of (version_of b p.object)) (marks clock p.closure) && not (is_among forgets (Marks p.object))) q h
due_object clock b forgets p View q h = whole_of p.object (is_marked b p.object) q h
due_object clock b forgets p Seed q h = whole_of p.object (is_marked b p.object) q h
