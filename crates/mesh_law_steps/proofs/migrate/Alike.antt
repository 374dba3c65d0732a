-- Models that differ in their fingerprints alone have the same dues.
use Rattle.std.proofs.Common.{◌≡◌, ℕ, ◌+◌, Bool, List, [], ◌∷◌, ◌++◌, map, None, refl, sym, ◌∙◌, ap, take, ◌&&◌, not, ◌||◌, if◌then◌else◌}
use Rattle.std.specs.List.{filter, list_any}
use Rattle.mesh_base_values.specs.declared.kinds.Kind.{Kind}
use Rattle.mesh_base_values.specs.declared.kinds.Kind.TheVariants.{Full, View, Seed, Incremental}
use Rattle.mesh_base_values.specs.declared.times.Bounds.{Bounds}
use Rattle.mesh_base_values.specs.declared.values.Name.{Name}
use Rattle.mesh_base.specs.declared.forgets.Forget.{Forget}
use Rattle.mesh_base.specs.declared.forgets.Forget.TheVariants.{Range, Marks}
use Rattle.mesh_base.specs.declared.snapshots.Env.{Env}
use Rattle.mesh_base.specs.declared.snapshots.Node.{Node}
use Rattle.mesh_base.specs.declared.snapshots.Snapshot.{Snapshot}
use Rattle.mesh_house_book.specs.declared.book.Book.{Book}
use Rattle.mesh_spec_model.specs.Closures.{Closure}
use Rattle.mesh_spec_model.specs.Horizons.{Clock, schedule}
use Rattle.mesh_spec_changes.specs.due.Dues.{again, again_of, again_units, due, due_at, due_of, dues, dues_from, is_due_unit, is_looked_back, is_open, is_restated}
use Rattle.mesh_spec_changes.specs.due.Parts.{unit_of}
use Rattle.mesh_spec_changes.specs.due.Plans.{Planned, holds}

-- a book with the same versions
module _ (b : Book) (version : ℕ) (snapshots : List Snapshot) (environments : List Env) where
  abbrev other : Book
  other = record b { version = version; snapshots = snapshots; environments = environments }

  -- a model and another one with its closure and its object
  module _ (n m : Node) (c : Closure) (o : Name) where
    abbrev one : Planned
    one = record { node = n; closure = c; object = o }

    abbrev two : Planned
    two = record { node = m; closure = c; object = o }

    opened : (us : List Bounds) → list_any (is_open other None two) us ≡ list_any (is_open b None one) us
    opened [] = refl
    opened (u ∷ us) = ap (λ (t : Bool). is_open b None one u || t) (opened us)

    units_again : (look : ℕ) (us : List Bounds) → again_units look other None two us ≡ again_units look b None one us
    units_again look [] = refl
    units_again look (u ∷ us) =
        λ i. if is_restated b None one u || looks i then u ∷ units_again look us i else units_again look us i
      where
        looks : is_looked_back look other None two u us ≡ is_looked_back look b None one u us
        looks = ap (λ (t : Bool). holds b o u && (not (is_restated b None one u) && t)) (opened (take look us))

    of_again : (clock : Clock) (k : Kind) → again_of clock other None two k ≡ again_of clock b None one k
    of_again clock (Incremental time look) = ap (map (unit_of o)) (units_again look (schedule clock c))
    of_again clock Full = refl
    of_again clock View = refl
    of_again clock Seed = refl

    units_due : (forgets : List Forget) (us : List Bounds) → filter (is_due_unit other forgets two) us ≡ filter (is_due_unit b forgets one) us
    units_due forgets [] = refl
    units_due forgets (u ∷ us) = ap (λ (t : List Bounds). if is_due_unit b forgets one u then u ∷ t else t) (units_due forgets us)

    of_due : (clock : Clock) (forgets : List Forget) (k : Kind) → due_of clock other forgets two k ≡ due_of clock b forgets one k
    of_due clock forgets (Incremental time look) = ap (map (unit_of o)) (units_due forgets (schedule clock c))
    of_due clock forgets Full = refl
    of_due clock forgets View = refl
    of_due clock forgets Seed = refl

    at_place : (clock : Clock) (place : ℕ) (qs : List Forget) → map (due_at clock place two) qs ≡ map (due_at clock place one) qs
    at_place clock place [] = refl
    at_place clock place (q ∷ qs) = λ i. said q i ∷ at_place clock place qs i
      where
        said : (q : Forget) → due_at clock place two q ≡ due_at clock place one q
        said (Range object start end) = refl
        said (Marks object) = refl

  -- models of one kind, closure and object, one by one
  abbrev pub AreAlike : List Planned → List Planned → Type 0
  AreAlike [] [] = Unit {0}
  AreAlike [] (q ∷ qs) = ⊥
  AreAlike (p ∷ ps) [] = ⊥
  AreAlike (p ∷ ps) (q ∷ qs) = ((p.node.own.kind ≡ q.node.own.kind) × (p.closure ≡ q.closure) × (p.object ≡ q.object)) × AreAlike ps qs

  again_alike : (clock : Clock) (ps qs : List Planned) → AreAlike ps qs → again clock other None qs ≡ again clock b None ps
  again_alike clock [] [] h = refl
  again_alike clock [] (q ∷ qs) h = absurd h
  again_alike clock (p ∷ ps) [] h = absurd h
  again_alike clock (p ∷ ps) (q ∷ qs) h = λ i. its i ++ again_alike clock ps qs h.1 i
    where
      its : again_of clock other None q q.node.own.kind ≡ again_of clock b None p p.node.own.kind
      its = of_again p.node q.node q.closure q.object clock q.node.own.kind ∙ sym (λ i. again_of clock b None (record { node = p.node; closure = h.0.1 i; object = h.0.2 i }) (h.0.0 i))

  dues_alike : (place : ℕ) (clock : Clock) (forgets : List Forget) (ps qs : List Planned) → AreAlike ps qs → dues_from place clock other forgets qs ≡ dues_from place clock b forgets ps
  dues_alike place clock forgets [] [] h = refl
  dues_alike place clock forgets [] (q ∷ qs) h = absurd h
  dues_alike place clock forgets (p ∷ ps) [] h = absurd h
  dues_alike place clock forgets (p ∷ ps) (q ∷ qs) h = λ i. its i ++ dues_alike (place + 1) clock forgets ps qs h.1 i
    where
      its : map (due_at clock place q) (due clock other forgets q) ≡ map (due_at clock place p) (due clock b forgets p)
      its =
          at_place p.node q.node q.closure q.object clock place (due clock other forgets q)
          ∙ ap (map (due_at clock place (record { node = p.node; closure = q.closure; object = q.object }))) (of_due p.node q.node q.closure q.object clock forgets q.node.own.kind)
          ∙ sym (λ i. map (due_at clock place (record { node = p.node; closure = h.0.1 i; object = h.0.2 i })) (due_of clock b forgets (record { node = p.node; closure = h.0.1 i; object = h.0.2 i }) (h.0.0 i)))

  pub same_dues : (clock : Clock) (ps qs : List Planned) (these those : List Forget) → these ≡ again clock b None ps → those ≡ again clock other None qs → AreAlike ps qs → dues clock other those qs ≡ dues clock b these ps
  same_dues clock ps qs these those is are alike =
      ap (λ (l : List Forget). dues clock other l qs) (are ∙ again_alike clock ps qs alike ∙ sym is) ∙ dues_alike 0 clock these ps qs alike
