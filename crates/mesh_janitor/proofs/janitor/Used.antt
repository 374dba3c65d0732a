-- An object is used where a snapshot that stays has it; and names by their order.
use Rattle.std.proofs.Common.{◌≡◌, ◌<◌, ◌≤◌, ◌-◌, ℕ, suc, length, drop, map, get_or, drop-cons, sym, arith, ℤ, Bool, true, false, cond, not, List, [], ◌∷◌, ◌++◌, Some, refl, ap, ◌∙◌}
use Rattle.std.specs.Prelude.{◌||◌}
use Rattle.std.specs.List.{All, filter, list_any}
use Rattle.std.specs.Option.{is_some}
use Rattle.std.specs.Ordering.{is_eq}
use Rattle.std.specs.declared.option.Option.{Option}
use Rattle.std.proofs.lemmas.List.Elements.{All-head, All-tail}
use Rattle.mesh_list.specs.Keyed.{found, placed}
use Rattle.mesh_list.proofs.Found.{found-placed}
use Rattle.mesh_base_values.specs.Names.{name_cmp}
use Rattle.mesh_base_values.specs.NameOrder.{names_exact}
use Rattle.mesh_base_values.specs.declared.values.Name.{Name}
use Rattle.mesh_base.specs.declared.snapshots.Ref.{Ref}
use Rattle.mesh_base.specs.declared.snapshots.Snapshot.{Snapshot}
use Rattle.mesh_house_book.specs.declared.book.Book.{Book}
use Rattle.mesh_spec_changes.specs.due.Parts.{same_name}
use Rattle.mesh_spec_changes.specs.Changes.{name_itself, names_by_order}
use Rattle.mesh_spec_changes.specs.Kept.{gone_tables, is_kept, is_table_kept, tables}
use Rattle.mesh_janitor.specs.janitor.Walk.{object_after, objects_after, stays, with_names}
use Rattle.mesh_janitor.specs.promote.Promotion.{is_absent}

-- one more name, from the last to the first
pub one_earlier : {A : Type 0} (f : A → Name) (xs : List A) (left : ℕ) (x : A) (names old : List Name) → 0 < left → left ≤ length xs → names ≡ with_names (map f (drop left xs)) old
    → placed name_cmp name_itself (f (get_or xs (left - 1) x)) names ≡ with_names (map f (drop (left - 1) xs)) old
one_earlier f xs left x names old any le is =
    let next : suc (left - 1) ≡ left = omega arith in
    ap (placed name_cmp name_itself (f (get_or xs (left - 1) x))) (is ∙ ap (λ k. with_names (map f (drop k xs)) old) (sym next))
    ∙ sym (ap (λ l. with_names (map f l) old) (drop-cons xs (left - 1) x (omega arith)))

-- names with those that are in order
pub in_order : (xs ys : List Name) → with_names xs (names_by_order ys) ≡ names_by_order (xs ++ ys)
in_order [] ys = refl
in_order (x ∷ xs) ys = ap (placed name_cmp name_itself x) (in_order xs ys)

-- two tests that agree
pub filter_same : {X : Type 0} (p q : X → Bool) (xs : List X) → All (λ x. p x ≡ q x) xs → filter p xs ≡ filter q xs
filter_same p q [] same = refl
filter_same p q (x ∷ xs) same = λ i. cond (All-head (λ x. p x ≡ q x) x xs same i) (x ∷ filter_same p q xs (All-tail (λ x. p x ≡ q x) x xs same) i) (filter_same p q xs (All-tail (λ x. p x ≡ q x) x xs same) i)

abbrev has_name : List Name → Name → Bool
has_name names n = is_some (found name_cmp name_itself n names)

some_or : (b : Bool) (m : Name) (o : Option Name) → is_some (cond b (Some m) o) ≡ (b || is_some o)
some_or true m o = refl
some_or false m o = refl

with_one : (m n : Name) (names : List Name) → has_name (placed name_cmp name_itself m names) n ≡ (same_name m n || has_name names n)
with_one m n names = ap is_some (found-placed name_cmp names_exact name_itself m n names) ∙ some_or (is_eq (name_cmp m n)) m (found name_cmp name_itself n names)

swap : (a b c : Bool) → (a || (b || c)) ≡ ((b || a) || c)
swap true true c = refl
swap true false c = refl
swap false true c = refl
swap false false c = refl

module _ (t : ℤ) (wanted : List Ref) (n : Name) where
  abbrev rest : List Snapshot → Bool
  rest ss = list_any (λ (s : Snapshot). same_name s.object n) (filter (stays t wanted) ss)

  used : (ss : List Snapshot) (names : List Name) → has_name (objects_after t wanted ss names) n ≡ (list_any (λ (s : Snapshot). same_name s.object n) (filter (stays t wanted) ss) || has_name names n)
  used [] names = refl
  used (s ∷ ss) names = used ss (object_after t wanted s names) ∙ go (stays t wanted s)
    where
      go : (b : Bool) → (rest ss || has_name (cond b (placed name_cmp name_itself s.object names) names) n) ≡ (list_any (λ (s : Snapshot). same_name s.object n) (cond b (s ∷ filter (stays t wanted) ss) (filter (stays t wanted) ss)) || has_name names n)
      go true = ap (λ (b : Bool). rest ss || b) (with_one s.object n names) ∙ swap (rest ss) (same_name s.object n) (has_name names n)
      go false = refl

or_false : (b : Bool) → (b || false) ≡ b
or_false true = refl
or_false false = refl

pub gone_are : (b : Book) (t : ℤ) (wanted : List Ref) → All (λ (s : Snapshot). stays t wanted s ≡ is_kept b t s) b.snapshots → filter (is_absent (objects_after t wanted b.snapshots [])) (tables b) ≡ gone_tables b t
gone_are b t wanted same = ap (λ (p : Name → Bool). filter p (tables b)) (λ i n. each n i)
  where
    each : (n : Name) → is_absent (objects_after t wanted b.snapshots []) n ≡ not (is_table_kept b t n)
    each n =
        ap not (used t wanted n b.snapshots [] ∙ or_false (list_any (λ (s : Snapshot). same_name s.object n) (filter (stays t wanted) b.snapshots)))
        ∙ ap (λ (l : List Snapshot). not (list_any (λ (s : Snapshot). same_name s.object n) l)) (filter_same (stays t wanted) (is_kept b t) b.snapshots same)
