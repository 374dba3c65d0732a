-- A list that ascends by name is searched by halves.
use Rattle.std.proofs.Common.{◌≡◌, ℕ, zero, suc, ◌<◌, Bool, true, false, cond, List, [], ◌∷◌, length, take, drop, get_or, Some, None, refl, sym, ◌∙◌, ap, arith}
use Rattle.std.specs.declared.option.Option.{Option}
use Rattle.std.specs.declared.cmp.Ordering.{Ordering}
use Rattle.std.specs.declared.cmp.Ordering.TheVariants.{Less, Equal, Greater}
use Rattle.std.specs.Option.{is_some}
use Rattle.std.specs.Ordering.{is_eq, ordering_then, ordering_reverse}
use Rattle.std.proofs.lemmas.Bool.{and_from as and_both}
use Rattle.mesh_list.specs.Keyed.{found, ascends, below_first}
use Rattle.mesh_list.proofs.Ascends.{and_left, and_right}
use Rattle.mesh_list.proofs.Each.{below_later, lt_is}
use Rattle.mesh_base_values.specs.declared.values.Name.{Name}
use Rattle.mesh_base.specs.declared.snapshots.Ref.{Ref}
use Rattle.mesh_base_values.specs.Names.{text_cmp, name_cmp}
use Rattle.mesh_base_values.specs.NameOrder.{names_exact, names_total}
use Rattle.mesh_base.specs.Keys.{ref_cmp, ref_itself, ref_name}
use Rattle.mesh_house_book.specs.WellFormed.{is_listed}

abbrev up : List Ref → Bool
up xs = ascends name_cmp ref_name xs

pub ascends_drop : (i : ℕ) (xs : List Ref) → up xs ≡ true → up (drop i xs) ≡ true
ascends_drop zero xs h = h
ascends_drop (suc i) [] h = refl
ascends_drop (suc i) (x ∷ xs) h = ascends_drop i xs (and_right _ _ h)

below_take : (k : Name) (i : ℕ) (xs : List Ref) → below_first name_cmp ref_name k xs ≡ true → below_first name_cmp ref_name k (take i xs) ≡ true
below_take k zero xs h = refl
below_take k (suc i) [] h = refl
below_take k (suc i) (x ∷ xs) h = h

pub ascends_take : (i : ℕ) (xs : List Ref) → up xs ≡ true → up (take i xs) ≡ true
ascends_take zero xs h = refl
ascends_take (suc i) [] h = refl
ascends_take (suc i) (x ∷ xs) h = and_both _ _ (below_take x.name i xs (and_left _ _ h)) (ascends_take i xs (and_right _ _ h))

-- a name that is below all is below each
below_at : (k : Name) (xs : List Ref) (i : ℕ) (x : Ref) → below_first name_cmp ref_name k xs ≡ true → up xs ≡ true → i < length xs → x ≡ get_or xs i x → name_cmp k x.name ≡ Less
below_at k [] i x below h lt here = absurd (omega arith)
below_at k (a ∷ more) zero x below h lt here = ap (λ (y : Ref). name_cmp k y.name) here ∙ lt_is _ below
below_at k (a ∷ more) (suc i) x below h lt here =
    below_at k more i x (below_later name_cmp names_total ref_name k a more (lt_is _ below) (and_left _ _ h)) (and_right _ _ h) (omega arith) here

module _ (r : Ref) where
  abbrev lookup : List Ref → Option Ref
  lookup xs = found ref_cmp ref_itself r xs

  skipped_less : (x : Ref) (xs : List Ref) → name_cmp x.name r.name ≡ Less → lookup (x ∷ xs) ≡ lookup xs
  skipped_less x xs h = ap (λ (o : Ordering). cond (is_eq (ordering_then o (text_cmp x.fingerprint r.fingerprint))) (Some x) (lookup xs)) h

  skipped_greater : (x : Ref) (xs : List Ref) → name_cmp x.name r.name ≡ Greater → lookup (x ∷ xs) ≡ lookup xs
  skipped_greater x xs h = ap (λ (o : Ordering). cond (is_eq (ordering_then o (text_cmp x.fingerprint r.fingerprint))) (Some x) (lookup xs)) h

  nothing_above : (xs : List Ref) → below_first name_cmp ref_name r.name xs ≡ true → up xs ≡ true → lookup xs ≡ None
  nothing_above [] below h = refl
  nothing_above (x ∷ xs) below h =
      let less : name_cmp r.name x.name ≡ Less = lt_is _ below in
      let greater : name_cmp x.name r.name ≡ Greater = names_total.antisymm x.name r.name ∙ ap ordering_reverse less in
      skipped_greater x xs greater
      ∙ nothing_above xs (below_later name_cmp names_total ref_name r.name x xs less (and_left _ _ h)) (and_right _ _ h)

  -- an entry of a lesser name: what is looked for stands behind it
  behind : (xs : List Ref) (i : ℕ) (x : Ref) → up xs ≡ true → i < length xs → x ≡ get_or xs i x → name_cmp x.name r.name ≡ Less → lookup xs ≡ lookup (drop (suc i) xs)
  behind [] i x h lt here is = absurd (omega arith)
  behind (a ∷ more) zero x h lt here is = skipped_less a more (ap (λ (y : Ref). name_cmp y.name r.name) (sym here) ∙ is)
  behind (a ∷ more) (suc i) x h lt here is =
      let below : name_cmp a.name x.name ≡ Less = below_at a.name more i x (and_left _ _ h) (and_right _ _ h) (omega arith) here in
      skipped_less a more (names_total.trans a.name x.name r.name below is)
      ∙ behind more i x (and_right _ _ h) (omega arith) here is

  -- an entry of a greater name: what is looked for stands before it
  before : (xs : List Ref) (i : ℕ) (x : Ref) → up xs ≡ true → i < length xs → x ≡ get_or xs i x → name_cmp x.name r.name ≡ Greater → lookup xs ≡ lookup (take i xs)
  before [] i x h lt here is = absurd (omega arith)
  before (a ∷ more) zero x h lt here is =
      let greater : name_cmp a.name r.name ≡ Greater = ap (λ (y : Ref). name_cmp y.name r.name) (sym here) ∙ is in
      let less : name_cmp r.name a.name ≡ Less = names_total.antisymm r.name a.name ∙ ap ordering_reverse greater in
      skipped_greater a more greater
      ∙ nothing_above more (below_later name_cmp names_total ref_name r.name a more less (and_left _ _ h)) (and_right _ _ h)
  before (a ∷ more) (suc i) x h lt here is =
      ap (cond (is_eq (ref_cmp a r)) (Some a)) (before more i x (and_right _ _ h) (omega arith) here is)

  -- an entry of that name is the one that is looked for, or there is none
  within : (xs : List Ref) (i : ℕ) (x : Ref) → up xs ≡ true → i < length xs → x ≡ get_or xs i x → name_cmp x.name r.name ≡ Equal → lookup xs ≡ cond (is_eq (ref_cmp x r)) (Some x) None
  within [] i x h lt here is = absurd (omega arith)
  within (a ∷ more) zero x h lt here is =
      let same : a.name ≡ r.name = names_exact a.name r.name (ap (λ (y : Ref). name_cmp y.name r.name) (sym here) ∙ is) in
      let none : lookup more ≡ None = nothing_above more (ap (λ (n : Name). below_first name_cmp ref_name n more) (sym same) ∙ and_left _ _ h) (and_right _ _ h) in
      ap (cond (is_eq (ref_cmp a r)) (Some a)) none
      ∙ ap (λ (y : Ref). cond (is_eq (ref_cmp y r)) (Some y) None) (sym here)
  within (a ∷ more) (suc i) x h lt here is =
      let same : x.name ≡ r.name = names_exact x.name r.name is in
      let below : name_cmp a.name x.name ≡ Less = below_at a.name more i x (and_left _ _ h) (and_right _ _ h) (omega arith) here in
      skipped_less a more (ap (name_cmp a.name) (sym same) ∙ below)
      ∙ within more i x (and_right _ _ h) (omega arith) here is

  some_if : (b : Bool) (x : Ref) → is_some (cond b (Some x) None) ≡ b
  some_if true x = refl
  some_if false x = refl

  pub listed_behind : (xs : List Ref) (i j : ℕ) (x : Ref) → j ≡ suc i → up xs ≡ true → i < length xs → x ≡ get_or xs i x → name_cmp x.name r.name ≡ Less → is_listed (drop j xs) r ≡ is_listed xs r
  listed_behind xs i j x next h lt here is = ap (λ (k : ℕ). is_listed (drop k xs) r) next ∙ ap is_some (sym (behind xs i x h lt here is))

  pub listed_before : (xs : List Ref) (i : ℕ) (x : Ref) → up xs ≡ true → i < length xs → x ≡ get_or xs i x → name_cmp x.name r.name ≡ Greater → is_listed (take i xs) r ≡ is_listed xs r
  listed_before xs i x h lt here is = ap is_some (sym (before xs i x h lt here is))

  pub listed_here : (xs : List Ref) (i : ℕ) (x : Ref) → up xs ≡ true → i < length xs → x ≡ get_or xs i x → name_cmp x.name r.name ≡ Equal → is_eq (ref_cmp x r) ≡ is_listed xs r
  listed_here xs i x h lt here is = sym (ap is_some (within xs i x h lt here is) ∙ some_if (is_eq (ref_cmp x r)) x)
