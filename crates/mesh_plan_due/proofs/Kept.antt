-- Lists in the order of names: two with the same items are one, and some of one's items are found as in it.
use Rattle.std.proofs.Common.{◌≡◌, Bool, true, false, cond, List, [], ◌∷◌, map, refl, sym, ap, ◌∙◌}
use Rattle.std.specs.List.{filter}
use Rattle.std.specs.Ordering.{is_eq, is_lt, ordering_reverse}
use Rattle.std.specs.Option.{option_map}
use Rattle.std.specs.Cmp.{Equal-is}
use Rattle.std.specs.declared.cmp.Ordering.{Ordering}
use Rattle.std.specs.declared.cmp.Ordering.TheVariants.{Less, Equal, Greater}
use Rattle.std.specs.declared.option.Option.{Option}
use Rattle.std.specs.declared.option.Option.TheVariants.{None, Some}
use Rattle.std.proofs.lemmas.Cmp.{tied_itself}
use Rattle.std.proofs.lemmas.Bool.{and_from as and_both}
use Rattle.mesh_list.specs.Keyed.{ascends, below_first, found}
use Rattle.mesh_list.proofs.Ascends.{and_left, and_right, ascends-placed}
use Rattle.mesh_list.proofs.Each.{below_later, found-above, found-behind, found-itself, lt_is}
use Rattle.mesh_list.proofs.Found.{found-placed}
use Rattle.mesh_base_values.specs.Names.{name_cmp}
use Rattle.mesh_base_values.specs.NameOrder.{names_exact, names_total}
use Rattle.mesh_base_values.specs.declared.values.Name.{Name}
use Rattle.mesh_spec_changes.specs.due.Marks.{Mark, by_name, mark_name}
use Rattle.mesh_plan_due.specs.Marked.{Entry, entry_name}

abbrev pub first_mark : Name → List Mark → Option Mark
first_mark k ms = found name_cmp mark_name k ms

abbrev up_marks : List Mark → Bool
up_marks ms = ascends name_cmp mark_name ms

below_rest : (k : Name) (x : Mark) (xs : List Mark) → name_cmp k x.name ≡ Less → up_marks (x ∷ xs) ≡ true → first_mark k (x ∷ xs) ≡ None
below_rest k x xs less up = found-above name_cmp names_total mark_name k (x ∷ xs) (ap is_lt less) up

pub one_list : (xs ys : List Mark) → up_marks xs ≡ true → up_marks ys ≡ true → ((k : Name) → first_mark k xs ≡ first_mark k ys) → xs ≡ ys
one_list [] [] p q h = refl
one_list [] (y ∷ ys) p q h = let e : None ≡ Some y = h y.name ∙ found-itself name_cmp names_total mark_name y ys y.name (tied_itself names_total y.name) in absurd (cc)
one_list (x ∷ xs) [] p q h = let e : Some x ≡ None = sym (found-itself name_cmp names_total mark_name x xs x.name (tied_itself names_total x.name)) ∙ h x.name in absurd (cc)
one_list (x ∷ xs) (y ∷ ys) p q h = by_order (name_cmp x.name y.name) refl (λ rest. one_list xs ys (and_right _ _ p) (and_right _ _ q) rest)
  where
    here : first_mark x.name (x ∷ xs) ≡ Some x
    here = found-itself name_cmp names_total mark_name x xs x.name (tied_itself names_total x.name)

    there : first_mark y.name (y ∷ ys) ≡ Some y
    there = found-itself name_cmp names_total mark_name y ys y.name (tied_itself names_total y.name)

    by_order : (o : Ordering) → name_cmp x.name y.name ≡ o → (((k : Name) → first_mark k xs ≡ first_mark k ys) → xs ≡ ys) → x ∷ xs ≡ y ∷ ys
    by_order Less is more = let e : Some x ≡ None = sym here ∙ h x.name ∙ below_rest x.name y ys is q in absurd (cc)
    by_order Greater is more =
        let turned : name_cmp y.name x.name ≡ Less = names_total.antisymm y.name x.name ∙ ap ordering_reverse is in
        let e : Some y ≡ None = sym there ∙ sym (h y.name) ∙ below_rest y.name x xs turned p in absurd (cc)
    by_order Equal is more =
        let names : x.name ≡ y.name = names_exact x.name y.name is in
        let same : Some x ≡ Some y = sym here ∙ h x.name ∙ ap (λ k. first_mark k (y ∷ ys)) names ∙ there in
        let first : x ≡ y = cc in
        let rest : (k : Name) → first_mark k xs ≡ first_mark k ys = (λ k. tail_found k (is_eq (name_cmp x.name k)) refl) in
        (λ i. first i ∷ more rest i)
      where
        tail_found : (k : Name) (b : Bool) → is_eq (name_cmp x.name k) ≡ b → first_mark k xs ≡ first_mark k ys
        tail_found k true e =
            let equal : name_cmp x.name k ≡ Equal = (Equal-is (name_cmp x.name k)).0 e in
            let other : name_cmp y.name k ≡ Equal = ap (λ n. name_cmp n k) (sym (names_exact x.name y.name is)) ∙ equal in
            found-behind name_cmp names_total mark_name x xs k equal p ∙ sym (found-behind name_cmp names_total mark_name y ys k other q)
        tail_found k false e =
            let other : is_eq (name_cmp y.name k) ≡ false = ap (λ n. is_eq (name_cmp n k)) (sym (names_exact x.name y.name is)) ∙ e in
            sym (ap (λ b. cond b (Some x) (first_mark k xs)) e) ∙ h k ∙ ap (λ b. cond b (Some y) (first_mark k ys)) other

pub by_name_found : (ms : List Mark) (k : Name) → first_mark k (by_name ms) ≡ first_mark k ms
by_name_found [] k = refl
by_name_found (m ∷ ms) k = found-placed name_cmp names_exact mark_name m k (by_name ms) ∙ ap (cond (is_eq (name_cmp m.name k)) (Some m)) (by_name_found ms k)

pub by_name_up : (ms : List Mark) → up_marks (by_name ms) ≡ true
by_name_up [] = refl
by_name_up (m ∷ ms) = ascends-placed name_cmp names_total mark_name m (by_name ms) (by_name_up ms)

-- an entry as a mark
abbrev pub as_mark : Entry → Mark
as_mark e = record { name = e.0; at = e.1.horizon }

-- some of the entries
module _ (sel : Entry → Bool) where
  abbrev pub pass : Option Entry → Option Entry
  pass None = None
  pass (Some e) = cond (sel e) (Some e) None

  abbrev pub kept : List Entry → List Mark
  kept es = map as_mark (filter sel es)

  below_kept : (k : Name) (es : List Entry) → below_first name_cmp entry_name k es ≡ true → ascends name_cmp entry_name es ≡ true → below_first name_cmp mark_name k (kept es) ≡ true
  below_kept k [] p q = refl
  below_kept k (e ∷ es) p q = go (sel e) (below_kept k es (below_later name_cmp names_total entry_name k e es (lt_is _ p) (and_left _ _ q)) (and_right _ _ q))
    where
      go : (b : Bool) → below_first name_cmp mark_name k (kept es) ≡ true → below_first name_cmp mark_name k (map as_mark (cond b (e ∷ filter sel es) (filter sel es))) ≡ true
      go true more = p
      go false more = more

  pub kept_up : (es : List Entry) → ascends name_cmp entry_name es ≡ true → up_marks (kept es) ≡ true
  kept_up [] q = refl
  kept_up (e ∷ es) q = go (sel e) (kept_up es (and_right _ _ q))
    where
      go : (b : Bool) → up_marks (kept es) ≡ true → up_marks (map as_mark (cond b (e ∷ filter sel es) (filter sel es))) ≡ true
      go true more = and_both _ _ (below_kept e.0 es (and_left _ _ q) (and_right _ _ q)) more
      go false more = more

  pub kept_found : (es : List Entry) → ascends name_cmp entry_name es ≡ true → (k : Name) → first_mark k (kept es) ≡ option_map as_mark (pass (found name_cmp entry_name k es))
  kept_found [] q k = refl
  kept_found (e ∷ es) q k = go (sel e) refl (is_eq (name_cmp e.0 k)) refl (kept_found es (and_right _ _ q) k)
    where
      go : (s : Bool) → sel e ≡ s → (b : Bool) → is_eq (name_cmp e.0 k) ≡ b → first_mark k (kept es) ≡ option_map as_mark (pass (found name_cmp entry_name k es))
          → first_mark k (map as_mark (cond s (e ∷ filter sel es) (filter sel es))) ≡ option_map as_mark (pass (cond b (Some e) (found name_cmp entry_name k es)))
      go true t true is more = ap (λ c. cond c (Some (as_mark e)) (first_mark k (kept es))) is ∙ ap (λ c. option_map as_mark (cond c (Some e) None)) (sym t)
      go true t false is more = ap (λ c. cond c (Some (as_mark e)) (first_mark k (kept es))) is ∙ more
      go false t true is more =
          let none : found name_cmp entry_name k es ≡ None = found-behind name_cmp names_total entry_name e es k ((Equal-is (name_cmp e.0 k)).0 is) q in
          more ∙ ap (λ o. option_map as_mark (pass o)) none ∙ ap (λ c. option_map as_mark (cond c (Some e) None)) (sym t)
      go false t false is more = more
