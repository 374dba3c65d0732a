-- Where a model's marks are the same, so are the horizons of all tables that it stands on.
use Rattle.std.proofs.Common.{◌≡◌, ℤ, Bool, true, false, cond, inl, inr, List, [], ◌∷◌, map, refl, sym, ap, ◌∙◌, subst}
use Rattle.std.specs.List.{filter}
use Rattle.std.specs.Ordering.{int_cmp, is_eq}
use Rattle.std.specs.Cmp.{Equal-is}
use Rattle.std.specs.declared.cmp.Ordering.{Ordering}
use Rattle.std.specs.declared.cmp.Ordering.TheVariants.{Less, Equal, Greater}
use Rattle.std.specs.declared.option.Option.{Option}
use Rattle.std.specs.declared.option.Option.TheVariants.{None, Some}
use Rattle.std.proofs.lemmas.Bool.{and_parts}
use Rattle.std.proofs.lemmas.Cmp.{int_ranked, tied_itself}
use Rattle.mesh_list.specs.Keyed.{found, placed, put_by}
use Rattle.mesh_list.proofs.Found.{found-placed}
use Rattle.mesh_base_values.specs.Kinds.{is_incremental}
use Rattle.mesh_base_values.specs.Names.{name_cmp}
use Rattle.mesh_base_values.specs.NameOrder.{names_exact, names_total}
use Rattle.mesh_base_values.specs.declared.kinds.Kind.{Kind}
use Rattle.mesh_base_values.specs.declared.kinds.Kind.TheVariants.{Full, View, Seed, Incremental}
use Rattle.mesh_base_values.specs.declared.values.Name.{Name}
use Rattle.mesh_base.specs.declared.definitions.Own.{Own}
use Rattle.mesh_spec_model.specs.Closures.{Closure, Closures, Model, ancestors, own_of, standing}
use Rattle.mesh_spec_model.specs.Horizons.{Clock, horizon}
use Rattle.mesh_law_query.proofs.Has.{Has, Has_filter, Has_filter_from, Has_to}
use Rattle.mesh_law_query.proofs.Lists.{Each}
use Rattle.mesh_spec_changes.specs.due.Marks.{Mark, by_name, is_computed, mark_name, mark_of, marks, same_marks}
use Rattle.mesh_spec_changes.specs.due.Parts.{same_second}
use Rattle.mesh_spec_promise.specs.Sound.{HasEachOnce}

pub second_is : (a b : ℤ) → same_second a b ≡ true → a ≡ b
second_is a b h = int_ranked a b Equal (sym ((Equal-is (int_cmp a b)).0 h))

same_seconds : (xs ys : List ℤ) → same_marks xs ys ≡ true → xs ≡ ys
same_seconds [] [] h = refl
same_seconds [] (y ∷ ys) h = absurd (cc)
same_seconds (x ∷ xs) [] h = absurd (cc)
same_seconds (x ∷ xs) (y ∷ ys) h =
    let p = and_parts (same_second x y) (same_marks xs ys) h in
    let first = second_is x y p.0 in
    let rest = same_seconds xs ys p.1 in
    λ i. first i ∷ rest i

-- the names of marks by name are the names, by themselves
abbrev names_of : List Mark → List Name
names_of ms = map mark_name ms

abbrev placed_name : Name → List Name → List Name
placed_name n ns = placed name_cmp (λ (k : Name). k) n ns

put_names : (o : Ordering) (x y : Mark) (xs rest : List Mark) → names_of (put_by o x y xs rest) ≡ put_by o x.name y.name (names_of xs) (names_of rest)
put_names Less x y xs rest = refl
put_names Equal x y xs rest = refl
put_names Greater x y xs rest = refl

placed_names : (m : Mark) (ms : List Mark) → names_of (placed name_cmp mark_name m ms) ≡ placed_name m.name (names_of ms)
placed_names m [] = refl
placed_names m (x ∷ xs) = put_names (name_cmp x.name m.name) x m xs (placed name_cmp mark_name m xs) ∙ ap (put_by (name_cmp x.name m.name) x.name m.name (names_of xs)) (placed_names m xs)

same_names : (clock later : Clock) (cs : List Closure) → names_of (by_name (map (mark_of clock) cs)) ≡ names_of (by_name (map (mark_of later) cs))
same_names clock later [] = refl
same_names clock later (c ∷ cs) =
    placed_names (mark_of clock c) (by_name (map (mark_of clock) cs)) ∙ ap (placed_name (own_of c).name) (same_names clock later cs) ∙ sym (placed_names (mark_of later c) (by_name (map (mark_of later) cs)))

one_list : (ms ns : List Mark) → names_of ms ≡ names_of ns → map (λ (m : Mark). m.at) ms ≡ map (λ (m : Mark). m.at) ns → ms ≡ ns
one_list [] [] e f = refl
one_list [] (n ∷ ns) e f = absurd (cc)
one_list (m ∷ ms) [] e f = absurd (cc)
one_list (m ∷ ms) (n ∷ ns) e f =
    let name : m.name ≡ n.name = cc in
    let at : m.at ≡ n.at = cc in
    let names : names_of ms ≡ names_of ns = cc in
    let ats : map (λ (m : Mark). m.at) ms ≡ map (λ (m : Mark). m.at) ns = cc in
    let rest = one_list ms ns names ats in
    λ i. record { name = name i; at = at i } ∷ rest i

abbrev first_mark : Name → List Mark → Option Mark
first_mark name ms = found name_cmp mark_name name ms

by_name_found : (ms : List Mark) (k : Name) → first_mark k (by_name ms) ≡ first_mark k ms
by_name_found [] k = refl
by_name_found (m ∷ ms) k = found-placed name_cmp names_exact mark_name m k (by_name ms) ∙ ap (cond (is_eq (name_cmp m.name k)) (Some m)) (by_name_found ms k)

-- the first mark of a model's name is the model's, where no other model has its name
its_mark : (clock : Clock) (s : Closure) (cs : List Closure) → Has s cs → ((d : Closure) → Has d cs → (own_of d).name ≡ (own_of s).name → d ≡ s) → first_mark (own_of s).name (map (mark_of clock) cs) ≡ Some (mark_of clock s)
its_mark clock s [] h once = absurd h
its_mark clock s (d ∷ cs) h once = go (is_eq (name_cmp (own_of d).name (own_of s).name)) refl h (λ i. its_mark clock s cs i (λ c k n. once c (inr k) n))
  where
    go : (b : Bool) → is_eq (name_cmp (own_of d).name (own_of s).name) ≡ b → Has s (d ∷ cs) → (Has s cs → first_mark (own_of s).name (map (mark_of clock) cs) ≡ Some (mark_of clock s)) → cond b (Some (mark_of clock d)) (first_mark (own_of s).name (map (mark_of clock) cs)) ≡ Some (mark_of clock s)
    go true e h more =
        let name : (own_of d).name ≡ (own_of s).name = names_exact (own_of d).name (own_of s).name ((Equal-is (name_cmp (own_of d).name (own_of s).name)).0 e) in
        ap (λ c. Some (mark_of clock c)) (once d (inl refl) name)
    go false e (inr i) more = more i
    go false e (inl same) more =
        let tied : is_eq (name_cmp (own_of d).name (own_of s).name) ≡ true = (Equal-is (name_cmp (own_of d).name (own_of s).name)).1 (subst (λ c. name_cmp (own_of d).name (own_of c).name ≡ Equal) same (tied_itself names_total (own_of d).name)) in
        absurd (let clash : false ≡ true = sym e ∙ tied in cc)

computed_too : (k : Kind) → is_incremental k ≡ true → is_computed k ≡ true
computed_too (Incremental time lookback) e = refl
computed_too Full e = absurd (cc)
computed_too View e = absurd (cc)
computed_too Seed e = absurd (cc)

each_there : {X : Type 0} (P : X → Type 0) (xs : List X) → ((x : X) → Has x xs → P x) → Each P xs
each_there P [] f = tt
each_there P (x ∷ xs) f = (f x (inl refl), each_there P xs (λ y i. f y (inr i)))

-- the models whose marks are a model's
abbrev of_marks : Closure → Closures → List Closure
of_marks c parents = c ∷ filter (λ c. is_computed (own_of c).kind) (ancestors parents)

among_standing : (c d : Closure) (parents : Closures) → Has d (of_marks c parents) → Has d (c ∷ ancestors parents)
among_standing c d parents (inl e) = inl e
among_standing c d parents (inr h) = inr (Has_filter_from (λ c. is_computed (own_of c).kind) (ancestors parents) d h).0

module _ (clock later : Clock) (own : Own) (parents : Closures) (once : HasEachOnce (Model own parents)) (same : same_marks (marks clock (Model own parents)) (marks later (Model own parents)) ≡ true) where
  abbrev all : List Closure
  all = of_marks (Model own parents) parents

  one : by_name (map (mark_of clock) all) ≡ by_name (map (mark_of later) all)
  one = one_list (by_name (map (mark_of clock) all)) (by_name (map (mark_of later) all)) (same_names clock later all) (same_seconds (marks clock (Model own parents)) (marks later (Model own parents)) same)

  marked_there : (s : Closure) → Has s (Model own parents ∷ ancestors parents) → is_incremental (own_of s).kind ≡ true → Has s all
  marked_there s (inl e) timed = inl e
  marked_there s (inr h) timed = inr (Has_filter (λ c. is_computed (own_of c).kind) (ancestors parents) s h (computed_too (own_of s).kind timed))

  abbrev second_or : ℤ → Option Mark → ℤ
  second_or t None = t
  second_or t (Some m) = m.at

  horizon_same : (s : Closure) → Has s (Model own parents ∷ ancestors parents) → is_incremental (own_of s).kind ≡ true → horizon clock s ≡ horizon later s
  horizon_same s there timed =
      let at : Has s all = marked_there s there timed in
      let only : (d : Closure) → Has d all → (own_of d).name ≡ (own_of s).name → d ≡ s =
      λ d h e. once d s (Has_to (standing (Model own parents)) d (among_standing (Model own parents) d parents h)) (Has_to (standing (Model own parents)) s there) e in
      let marks_same : Some (mark_of clock s) ≡ Some (mark_of later s) =
      sym (its_mark clock s all at only) ∙ sym (by_name_found (map (mark_of clock) all) (own_of s).name) ∙ ap (first_mark (own_of s).name) one
      ∙ by_name_found (map (mark_of later) all) (own_of s).name ∙ its_mark later s all at only in
      ap (second_or (horizon clock s)) marks_same

pub same_horizons : (clock later : Clock) (c : Closure) → HasEachOnce c → same_marks (marks clock c) (marks later c) ≡ true → Each (λ s. is_incremental (own_of s).kind ≡ true → horizon clock s ≡ horizon later s) (standing c)
same_horizons clock later (Model own parents) once same = each_there _ (Model own parents ∷ ancestors parents) (horizon_same clock later own parents once same)
