-- The records of a kind have one name each, and are found by it as among all records.
use Rattle.std.proofs.Common.{◌≡◌, ℕ, Bool, true, false, cond, List, [], ◌∷◌, map, filter, Some, None, refl, sym, ap, subst, ◌∙◌}
use Rattle.std.specs.Prelude.{◌==◌}
use Rattle.std.specs.declared.option.Option.{Option}
use Rattle.std.specs.declared.cmp.Ordering.{Ordering}
use Rattle.std.specs.declared.cmp.Ordering.TheVariants.{Less, Equal, Greater}
use Rattle.std.specs.Ordering.{is_eq, is_lt, nat_cmp, ordering_then}
use Rattle.std.specs.Cmp.{unsigned_tied}
use Rattle.std.proofs.lemmas.Bool.{eqb-true, and_from as and_both}
use Rattle.std.proofs.lemmas.Cmp.{nat_cmp_total, tied_itself}
use Rattle.mesh_list.specs.Keyed.{ascends, below_first, found}
use Rattle.mesh_list.proofs.Ascends.{and_left, and_right}
use Rattle.mesh_list.proofs.Each.{below_later, lt_is}
use Rattle.mesh_base_values.specs.Names.{text_cmp}
use Rattle.mesh_keep.specs.declared.kept.Kept.{Kept}
use Rattle.mesh_keep.specs.declared.kept.Place.{Place}
use Rattle.mesh_keep.specs.declared.kept.Record.{Record}
use Rattle.mesh_keep.specs.Places.{as_record, body_at, body_of, kept_place, place_cmp, places_total, records_of}

-- records of a kind are found by their names
abbrev pub record_name : Record → List ℕ
record_name r = r.name

abbrev pub record_at : List ℕ → List Record → Option Record
record_at n rs = found text_cmp record_name n rs

abbrev pub record_body : Option Record → Option (List ℕ)
record_body None = None
record_body (Some r) = Some r.body

abbrev at_place : ℕ → List ℕ → Place
at_place kind name = record { kind = kind; name = name }

-- of two places of one kind the names decide, and of two kinds the kinds
same_kind : (m n : ℕ) (o : Ordering) → (m == n) ≡ true → ordering_then (nat_cmp m n) o ≡ o
same_kind m n o h =
    let tied : nat_cmp m n ≡ Equal = subst (λ (k : ℕ). nat_cmp m k ≡ Equal) (eqb-true m n h) (tied_itself nat_cmp_total m) in
    ap (λ (r : Ordering). ordering_then r o) tied

other_kind : (r o : Ordering) → is_eq r ≡ false → is_eq (ordering_then r o) ≡ false
other_kind Less o h = refl
other_kind Equal o h = absurd cc
other_kind Greater o h = refl

not_same : (m n : ℕ) → (m == n) ≡ false → is_eq (nat_cmp m n) ≡ false
not_same m n h = unsigned_tied m n ∙ h

-- the record of a name, where it is one of the kind
pub body_is : (kind : ℕ) (n : List ℕ) (kept : List Kept) → body_at kept kind n ≡ record_body (record_at n (records_of kind kept))
body_is kind n [] = refl
body_is kind n (k ∷ kept) = at (body_is kind n kept) (k.kind == kind) refl
  where
    first : body_at kept kind n ≡ record_body (record_at n (records_of kind kept)) → (c : Bool) → body_of (cond c (Some k) (found place_cmp kept_place (at_place kind n) kept)) ≡ record_body (cond c (Some (as_record k)) (record_at n (records_of kind kept)))
    first more true = refl
    first more false = more

    at : body_at kept kind n ≡ record_body (record_at n (records_of kind kept)) → (b : Bool) → (k.kind == kind) ≡ b
        → body_of (cond (is_eq (place_cmp (kept_place k) (at_place kind n))) (Some k) (found place_cmp kept_place (at_place kind n) kept))
        ≡ record_body (record_at n (map as_record (cond b (k ∷ filter (λ (x : Kept). x.kind == kind) kept) (filter (λ (x : Kept). x.kind == kind) kept))))
    at more true h =
        ap (λ (o : Ordering). body_of (cond (is_eq o) (Some k) (found place_cmp kept_place (at_place kind n) kept))) (same_kind k.kind kind (text_cmp k.name n) h)
        ∙ first more (is_eq (text_cmp k.name n))
    at more false h =
        ap (λ (c : Bool). body_of (cond c (Some k) (found place_cmp kept_place (at_place kind n) kept))) (other_kind (nat_cmp k.kind kind) (text_cmp k.name n) (not_same k.kind kind h))
        ∙ more

-- a name that is below all of a kind's places is below the first of its records
below_of : (kind : ℕ) (n : List ℕ) (kept : List Kept) → below_first place_cmp kept_place (at_place kind n) kept ≡ true → ascends place_cmp kept_place kept ≡ true → below_first text_cmp record_name n (records_of kind kept) ≡ true
below_of kind n [] below up = refl
below_of kind n (z ∷ zs) below up =
    at (below_of kind n zs (below_later place_cmp places_total kept_place (at_place kind n) z zs (lt_is _ below) (and_left _ _ up))
    (and_right (below_first place_cmp kept_place (kept_place z) zs) _ up)) (z.kind == kind) refl
  where
    at : below_first text_cmp record_name n (records_of kind zs) ≡ true → (b : Bool) → (z.kind == kind) ≡ b → below_first text_cmp record_name n (map as_record (cond b (z ∷ filter (λ (x : Kept). x.kind == kind) zs) (filter (λ (x : Kept). x.kind == kind) zs))) ≡ true
    at more true h =
        let tied : nat_cmp kind z.kind ≡ Equal = subst (λ (m : ℕ). nat_cmp kind m ≡ Equal) (sym (eqb-true z.kind kind h)) (tied_itself nat_cmp_total kind) in
        subst (λ (r : Ordering). is_lt (ordering_then r (text_cmp n z.name)) ≡ true) tied below
    at more false h = more

pub names_ascend : (kind : ℕ) (kept : List Kept) → ascends place_cmp kept_place kept ≡ true → ascends text_cmp record_name (records_of kind kept) ≡ true
names_ascend kind [] up = refl
names_ascend kind (k ∷ kept) up = at (names_ascend kind kept (and_right (below_first place_cmp kept_place (kept_place k) kept) _ up)) (k.kind == kind) refl
  where
    at : ascends text_cmp record_name (records_of kind kept) ≡ true → (b : Bool) → (k.kind == kind) ≡ b → ascends text_cmp record_name (map as_record (cond b (k ∷ filter (λ (x : Kept). x.kind == kind) kept) (filter (λ (x : Kept). x.kind == kind) kept))) ≡ true
    at more true h =
        let rest : ascends place_cmp kept_place kept ≡ true = and_right (below_first place_cmp kept_place (kept_place k) kept) _ up in
        let below : below_first text_cmp record_name k.name (records_of k.kind kept) ≡ true = below_of k.kind k.name kept (and_left _ _ up) rest in
        and_both _ _ (subst (λ (m : ℕ). below_first text_cmp record_name k.name (records_of m kept) ≡ true) (eqb-true k.kind kind h) below) more
    at more false h = more
