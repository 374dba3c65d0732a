-- The places of the models by name: none is that of two.
use Rattle.std.proofs.Common.{◌≡◌, ◌≢◌, ℕ, zero, suc, ◌<◌, ℤ, true, List, [], ◌∷◌, length, refl, sym, ap, ◌∙◌, subst}
use Rattle.std.specs.List.{AllByRecursion, slice_get}
use Rattle.std.specs.declared.option.Option.{Option}
use Rattle.std.specs.declared.option.Option.TheVariants.{None, Some}
use Rattle.std.proofs.lemmas.Cmp.{tied_itself}
use Rattle.std.proofs.lemmas.Option.{slice_get_within}
use Rattle.mesh_list.specs.Keyed.{ascends, found}
use Rattle.mesh_list.proofs.Ascends.{and_right}
use Rattle.mesh_list.proofs.Each.{each_found, found-behind}
use Rattle.mesh_base_values.specs.Names.{name_cmp}
use Rattle.mesh_base_values.specs.NameOrder.{names_total}
use Rattle.mesh_base.specs.declared.snapshots.Node.{Node}
use Rattle.mesh_plan_due.specs.declared.marks.Spot.{Spot}
use Rattle.mesh_plan_due.specs.Marked.{AreSpots, Entry, HaveSpots, IsSpotOf, entry_name, spots_in}
use Rattle.mesh_plan_due.specs.Numbered.{ArePlaced}

all_at : {A : Type 0} (P : A → Type 0) (xs : List A) → AllByRecursion P xs → (i : ℕ) (x : A) → slice_get xs i ≡ Some x → P x
all_at P [] h i x e = absurd (cc)
all_at P (y ∷ xs) h zero x e = let same : y ≡ x = cc in subst P same h.0
all_at P (y ∷ xs) h (suc i) x e = all_at P xs h.1 i x e

-- an entry is found by its name
at_found : (es : List Entry) → ascends name_cmp entry_name es ≡ true → (i : ℕ) (e : Entry) → slice_get es i ≡ Some e → found name_cmp entry_name e.0 es ≡ Some e
at_found es up i e here = all_at (λ (x : Entry). found name_cmp entry_name x.0 es ≡ Some x) es (each_found name_cmp names_total entry_name es up) i e here

never : (o : Option Entry) (f : Entry) → o ≡ None → o ≢ Some f
never None f none some = absurd (cc)
never (Some x) f none some = absurd (cc)

-- no entry behind the first has its name
not_behind : (x : Entry) (es : List Entry) → ascends name_cmp entry_name (x ∷ es) ≡ true → (j : ℕ) (f : Entry) → slice_get es j ≡ Some f → x.0 ≢ f.0
not_behind x es up j f there same =
    never (found name_cmp entry_name f.0 es) f
    (found-behind name_cmp names_total entry_name x es f.0 (ap (λ n. name_cmp n f.0) same ∙ tied_itself names_total f.0) up)
    (at_found es (and_right _ _ up) j f there)

-- entries of one name are one
one_number : (es : List Entry) → ascends name_cmp entry_name es ≡ true → (i j : ℕ) (e f : Entry) → slice_get es i ≡ Some e → slice_get es j ≡ Some f → e.0 ≡ f.0 → i ≡ j
one_number [] up i j e f here there same = absurd (cc)
one_number (x ∷ es) up zero zero e f here there same = refl
one_number (x ∷ es) up zero (suc j) e f here there same = let first : x ≡ e = cc in absurd (not_behind x es up j f there (ap entry_name first ∙ same))
one_number (x ∷ es) up (suc i) zero e f here there same = let first : x ≡ f = cc in absurd (not_behind x es up i e here (ap entry_name first ∙ sym same))
one_number (x ∷ es) up (suc i) (suc j) e f here there same = ap suc (one_number es (and_right _ _ up) i j e f here there same)

entry_at : (es : List Entry) (i : ℕ) (s : Spot) → slice_get (spots_in es) i ≡ Some s → (e : Entry) × (slice_get es i ≡ Some e) × (e.1 ≡ s)
entry_at [] i s h = absurd (cc)
entry_at (e ∷ es) zero s h = (let same : e.1 ≡ s = cc in (e, refl, same))
entry_at (e ∷ es) (suc i) s h = entry_at es i s h

module _ (nodes : List Node) (hs : List ℤ) (es : List Entry) (h : HaveSpots nodes nodes hs es) where
  node_at : (i : ℕ) (e : Entry) → slice_get es i ≡ Some e → (n : Node) × (slice_get nodes e.1.place ≡ Some n) × (n.own.name ≡ e.0)
  node_at i e here =
      let (n, at, name, other, computed, horizon) = subst (IsSpotOf nodes nodes hs e.0) (at_found es h.ascending i e here) (h.each e.0) in
      (n, at, name)

  entries_placed : ArePlaced (length nodes) (spots_in es)
  entries_placed = record {
    below = λ i s at. below i s (entry_at es i s at);
    one = λ i j s t at to same. one i j s t (entry_at es i s at) (entry_at es j t to) same;
  }
    where
      below : (i : ℕ) (s : Spot) → ((e : Entry) × (slice_get es i ≡ Some e) × (e.1 ≡ s)) → s.place < length nodes
      below i s (e, here, is) =
          let (n, at, name) = node_at i e here in
          slice_get_within nodes s.place n (ap (λ (x : Spot). slice_get nodes x.place) (sym is) ∙ at)

      one : (i j : ℕ) (s t : Spot) → ((e : Entry) × (slice_get es i ≡ Some e) × (e.1 ≡ s)) → ((f : Entry) × (slice_get es j ≡ Some f) × (f.1 ≡ t)) → s.place ≡ t.place → i ≡ j
      one i j s t (e, here, is) (f, there, to) same =
          let (n, at, name) = node_at i e here in
          let (m, by, other) = node_at j f there in
          let places : e.1.place ≡ f.1.place = ap (λ (x : Spot). x.place) is ∙ same ∙ ap (λ (x : Spot). x.place) (sym to) in
          let nodes_same : Some n ≡ Some m = sym at ∙ ap (slice_get nodes) places ∙ by in
          let node : n ≡ m = cc in
          one_number es h.ascending i j e f here there (sym name ∙ ap (λ (x : Node). x.own.name) node ∙ other)

pub are_placed : (nodes : List Node) (hs : List ℤ) (spots : List Spot) → AreSpots nodes hs spots → ArePlaced (length nodes) spots
are_placed nodes hs spots (es, have, is) = subst (ArePlaced (length nodes)) (sym is) (entries_placed nodes hs es have)
