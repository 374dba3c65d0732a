-- What is known of a model follows from what is known of its parents.
use Rattle.std.proofs.Common.{◌≡◌, Bool, true, false, ◌&&◌, ◌||◌, ◌⊎◌, inl, inr, ℕ, zero, suc, ◌<◌, List, [], ◌∷◌, map, length, refl, sym, ap, ◌∙◌, subst, arith}
use Rattle.std.specs.List.{filter, flat_map, list_any, slice_get}
use Rattle.std.specs.Option.{option_to_list}
use Rattle.std.specs.Ordering.{is_eq}
use Rattle.std.specs.declared.option.Option.{Option}
use Rattle.std.specs.declared.option.Option.TheVariants.{None, Some}
use Rattle.std.proofs.lemmas.Bool.{and_parts}
use Rattle.std.proofs.lemmas.Cmp.{tied_itself}
use Rattle.mesh_base_values.specs.Names.{name_cmp}
use Rattle.mesh_base_values.specs.NameOrder.{names_exact, names_total}
use Rattle.mesh_base_values.specs.Picked.{same_text}
use Rattle.mesh_base_values.specs.declared.values.Name.{Name}
use Rattle.mesh_base_values.proofs.Equals.{equal_of}
use Rattle.mesh_base.specs.declared.definitions.Own.{Own}
use Rattle.mesh_base.specs.declared.definitions.Reading.{Reading}
use Rattle.mesh_base.specs.declared.snapshots.Node.{Node}
use Rattle.mesh_base.specs.rules.Proper.{defn_names, is_proper}
use Rattle.mesh_spec_model.specs.Closures.{Closure, Closures, Model, closures, each_of, own_of}
use Rattle.mesh_law_query.specs.Reads.{is_of}
use Rattle.mesh_law_query.proofs.Has.{Has, Has_cases, Has_filter, Has_filter_from, Has_flat, Has_flat_from, Has_from, Has_left, Has_map, Has_map_from, Has_right, Has_some, Has_some_from, Has_to}
use Rattle.mesh_law_query.proofs.ReadColumns.{text_is, text_self}
use Rattle.mesh_trace.specs.declared.hits.Hit.{Hit}
use Rattle.mesh_trace.specs.declared.traces.Trace.{Trace}
use Rattle.mesh_trace.specs.Feeds.{alone, feeds, feeds_of, needed_of, needs, own_feeds, with_column}
use Rattle.mesh_trace.specs.Impacts.{IsHit, all_at, all_of, column_names, hit_has, is_fed, is_source, leads, leads_at, leads_by, node_hit}
use Rattle.mesh_trace.proofs.Needs.{Str, any_has, has_any}
use Rattle.mesh_trace.proofs.Feeding.{Split, feeds_split, feeds_within, none_within, one_within}
use Rattle.mesh_trace.proofs.Visiting.{Stands, of_from, of_to, stands_at}

or_parts : (a b : Bool) → (a || b) ≡ true → (a ≡ true) ⊎ (b ≡ true)
or_parts true b e = inl refl
or_parts false b e = inr e

or_left : (a b : Bool) → a ≡ true → (a || b) ≡ true
or_left true b e = refl
or_left false b e = absurd (cc)

or_right : (a b : Bool) → b ≡ true → (a || b) ≡ true
or_right true b e = refl
or_right false b e = e

and_true : (a b : Bool) → a ≡ true → b ≡ true → (a && b) ≡ true
and_true true b e f = f
and_true false b e f = absurd (cc)

there_is : {X : Type 0} (xs : List X) (i : ℕ) → i < length xs → (x : X) × (slice_get xs i ≡ Some x)
there_is [] i l = absurd (omega arith)
there_is (x ∷ xs) zero l = (x, refl)
there_is (x ∷ xs) (suc i) l = there_is xs i (omega arith)

same_name : (a b : Name) → is_eq (name_cmp a b) ≡ true → a ≡ b
same_name a b e = names_exact a b (equal_of (name_cmp a b) e)

name_self : (a : Name) → is_eq (name_cmp a a) ≡ true
name_self a = ap is_eq (tied_itself names_total a)

-- a reading is the source where it is listed as that
source_is : (source r : Reading) → is_source source r ≡ true → r ≡ source
source_is source r e =
    let (names, columns) = and_parts (is_eq (name_cmp r.relation source.relation)) (same_text r.column source.column) e in
    let relation : r.relation ≡ source.relation = same_name r.relation source.relation names in
    let column : r.column ≡ source.column = text_is r.column source.column columns in
    λ i. record { relation = relation i; column = column i }

column_of : Trace → Option Str
column_of t = t.column

source_listed : (source r : Reading) → with_column r ≡ with_column source → is_source source r ≡ true
source_listed source r e =
    let relation : r.relation ≡ source.relation = ap (λ (t : Trace). t.relation) e in
    let columns : Some r.column ≡ Some source.column = ap (λ (t : Trace). t.column) e in
    let column : r.column ≡ source.column = cc in
    and_true (is_eq (name_cmp r.relation source.relation)) (same_text r.column source.column)
    (ap (λ n. is_eq (name_cmp n source.relation)) relation ∙ name_self source.relation)
    (ap (λ n. same_text n source.column) column ∙ text_self source.column)

not_alone : (source : Reading) (name : Name) → alone name ≡ with_column source → ⊥
not_alone source name e = let clash : None ≡ Some source.column = ap (λ (t : Trace). t.column) e in absurd (cc)

module _ (nodes : List Node) (proper : is_proper nodes ≡ true) (source : Reading) (n : Node) (hits : List Hit) (here : slice_get nodes (length hits) ≡ Some n)
    (known : (i : ℕ) (h : Hit) (c : Closure) → slice_get hits i ≡ Some h → slice_get (closures nodes) i ≡ Some c → IsHit source c h)
    (parents : Closures) (each : each_of parents ≡ flat_map (λ i. option_to_list (slice_get (closures nodes) i)) n.parents) where
  abbrev cs : List Closure
  cs = closures nodes

  abbrev t : Trace
  t = with_column source

  abbrev c : Closure
  c = Model n.own parents

  module _ (wanted : List Str) where
    abbrev needed : List Reading
    needed = needs n.own wanted

    above : Has t (feeds_of parents needed) → Has t (feeds c wanted)
    above k = Has_right t (own_feeds n.own needed) (feeds_of parents needed) k

    -- what feeds a parent feeds it
    through : (i : ℕ) (d : Closure) → Has i n.parents → slice_get cs i ≡ Some d → Has t (feeds d (needed_of (own_of d).name needed)) → Has t (feeds c wanted)
    through i d h e k =
        above (of_to parents needed t d (subst (Has d) (sym each) (Has_flat (λ i. option_to_list (slice_get cs i)) n.parents i d h (Has_some (slice_get cs i) d e))) k)

    by_all : (i : ℕ) → Has i n.parents → Stands nodes cs (length hits) i → (o : Option Hit) → slice_get hits i ≡ o → all_of o ≡ true → Has t (feeds c wanted)
    by_all i h stand None e k = absurd (cc)
    by_all i h (m, d, at, there, own, l) (Some hit) e k =
        let fed : Has t (feeds d []) = Has_from (feeds d []) t ((known i hit d e there).0.0 k) in
        through i d h there (feeds_within d [] (needed_of (own_of d).name needed) (none_within (needed_of (own_of d).name needed)) t fed)

    by_lead : (r : Reading) → Has r needed → (i : ℕ) → Has i n.parents → Stands nodes cs (length hits) i → (o : Option Hit) → slice_get hits i ≡ o → leads_by (slice_get nodes i) o r ≡ true → Has t (feeds c wanted)
    by_lead r there i h (m, d, at, stands, own, l) None e k = absurd (let clash : false ≡ true = ap (λ (x : Option Node). leads_by x None r) (sym at) ∙ k in cc)
    by_lead r there i h (m, d, at, stands, own, l) (Some hit) e k =
        let (name, has) = and_parts (is_eq (name_cmp r.relation m.own.name)) (hit_has hit r.column) (ap (λ (x : Option Node). leads_by x (Some hit) r) (sym at) ∙ k) in
        let fed : Has t (feeds d (r.column ∷ [])) = Has_from (feeds d (r.column ∷ [])) t (((known i hit d e stands).1 r.column).0 has) in
        let of : is_of (own_of d).name r ≡ true = ap (λ (o : Own). is_eq (name_cmp r.relation o.name)) own ∙ name in
        let one : Has r.column (needed_of (own_of d).name needed) = Has_map (λ (r : Reading). r.column) (filter (is_of (own_of d).name) needed) r r.column (Has_filter (is_of (own_of d).name) needed r there of) refl in
        through i d h stands (feeds_within d (r.column ∷ []) (needed_of (own_of d).name needed) (one_within r.column (needed_of (own_of d).name needed) one) t fed)

    by_reading : (r : Reading) → Has r needed → (is_source source r ≡ true) ⊎ (list_any (leads_at nodes hits r) n.parents ≡ true) → Has t (feeds c wanted)
    by_reading r there (inl s) =
        Has_left t (own_feeds n.own needed) (feeds_of parents needed)
        (Has_right t (map alone (defn_names n.own.defn)) (map with_column needed) (Has_map with_column needed r t there (ap with_column (source_is source r s))))
    by_reading r there (inr s) =
        let (i, h, k) = any_has (leads_at nodes hits r) n.parents s in
        by_lead r there i h (stands_at nodes proper (length hits) n here i h) (slice_get hits i) refl k

    by_part : (list_any (all_at hits) n.parents ≡ true) ⊎ (list_any (leads nodes hits n.parents source) needed ≡ true) → Has t (feeds c wanted)
    by_part (inl s) = let (i, h, k) = any_has (all_at hits) n.parents s in by_all i h (stands_at nodes proper (length hits) n here i h) (slice_get hits i) refl k
    by_part (inr s) =
        let (r, there, k) = any_has (leads nodes hits n.parents source) needed s in
        by_reading r there (or_parts (is_source source r) (list_any (leads_at nodes hits r) n.parents) k)

    fed_so : is_fed nodes hits n source wanted ≡ true → Has t (feeds c wanted)
    fed_so e = by_part (or_parts (list_any (all_at hits) n.parents) (list_any (leads nodes hits n.parents source) needed) e)

    -- and nothing else does
    by_source : (r : Reading) → Has r needed → leads nodes hits n.parents source r ≡ true → is_fed nodes hits n source wanted ≡ true
    by_source r there k = or_right (list_any (all_at hits) n.parents) (list_any (leads nodes hits n.parents source) needed) (has_any (leads nodes hits n.parents source) needed r there k)

    of_own : Has t (map alone (defn_names n.own.defn)) ⊎ Has t (map with_column needed) → is_fed nodes hits n source wanted ≡ true
    of_own (inl k) = let (name, i, e) = Has_map_from alone (defn_names n.own.defn) t k in absurd (not_alone source name e)
    of_own (inr k) =
        let (r, i, e) = Has_map_from with_column needed t k in
        by_source r i (or_left (is_source source r) (list_any (leads_at nodes hits r) n.parents) (source_listed source r e))

    of_parent : (i : ℕ) (d : Closure) (hit : Hit) → Has i n.parents → Stands nodes cs (length hits) i → slice_get cs i ≡ Some d → slice_get hits i ≡ Some hit → Split d (needed_of (own_of d).name needed) t → is_fed nodes hits n source wanted ≡ true
    of_parent i d hit h stand e f (inl k) =
        or_left (list_any (all_at hits) n.parents) (list_any (leads nodes hits n.parents source) needed)
        (has_any (all_at hits) n.parents i h (ap all_of f ∙ (known i hit d f e).0.1 (Has_to (feeds d []) t k)))
    of_parent i d hit h (m, d', at, stands, own, l) e f (inr (w, j, named, k)) =
        let (r, there, is) = Has_map_from (λ (r : Reading). r.column) (filter (is_of (own_of d).name) needed) w j in
        let (one, of) = Has_filter_from (is_of (own_of d).name) needed r there in
        let same : d ≡ d' = (let both : Some d ≡ Some d' = sym e ∙ stands in cc) in
        let name : is_eq (name_cmp r.relation m.own.name) ≡ true = ap (λ (o : Own). is_eq (name_cmp r.relation o.name)) (sym (ap own_of same ∙ own)) ∙ of in
        let has : hit_has hit r.column ≡ true = ((known i hit d f e).1 r.column).1 (Has_to (feeds d (r.column ∷ [])) t (subst (λ x. Has t (feeds d (x ∷ []))) (sym is) k)) in
        by_source r one
        (or_right (is_source source r) (list_any (leads_at nodes hits r) n.parents)
        (has_any (leads_at nodes hits r) n.parents i h
        (ap (λ (x : Option Node). leads_by x (slice_get hits i) r) at ∙ ap (λ (x : Option Hit). leads_by (Some m) x r) f ∙ and_true (is_eq (name_cmp r.relation m.own.name)) (hit_has hit r.column) name has)))

    at_parent : (i : ℕ) (d : Closure) → Has i n.parents → Stands nodes cs (length hits) i → slice_get cs i ≡ Some d → Has t (feeds d (needed_of (own_of d).name needed)) → is_fed nodes hits n source wanted ≡ true
    at_parent i d h (m, d', at, stands, own, l) e k =
        let (hit, f) = there_is hits i l in
        of_parent i d hit h (m, d', at, stands, own, l) e f (feeds_split d (needed_of (own_of d).name needed) t k)

    of_parents : Has t (feeds_of parents needed) → is_fed nodes hits n source wanted ≡ true
    of_parents k =
        let (d, there, l) = of_from parents needed t k in
        let (i, h, e) = Has_flat_from (λ i. option_to_list (slice_get cs i)) n.parents d (subst (Has d) each there) in
        at_parent i d h (stands_at nodes proper (length hits) n here i h) (Has_some_from (slice_get cs i) d e) l

    fed_from : Has t (own_feeds n.own needed) ⊎ Has t (feeds_of parents needed) → is_fed nodes hits n source wanted ≡ true
    fed_from (inl k) = of_own (Has_cases t (map alone (defn_names n.own.defn)) (map with_column needed) k)
    fed_from (inr k) = of_parents k

    fed_back : Has t (feeds c wanted) → is_fed nodes hits n source wanted ≡ true
    fed_back k = fed_from (Has_cases t (own_feeds n.own needed) (feeds_of parents needed) k)

  -- so is what is known of the model
  abbrev all : Bool
  all = is_fed nodes hits n source []

  abbrev test : Str → Bool
  test column = all || is_fed nodes hits n source (column ∷ [])

  test_so : (column : Str) → test column ≡ true → Has t (feeds c (column ∷ []))
  test_so column e = go (or_parts all (is_fed nodes hits n source (column ∷ [])) e)
    where
      go : (all ≡ true) ⊎ (is_fed nodes hits n source (column ∷ []) ≡ true) → Has t (feeds c (column ∷ []))
      go (inl k) = feeds_within c [] (column ∷ []) (none_within (column ∷ [])) t (fed_so [] k)
      go (inr k) = fed_so (column ∷ []) k

  test_back : (column : Str) → Has t (feeds c (column ∷ [])) → test column ≡ true
  test_back column k = or_right all (is_fed nodes hits n source (column ∷ [])) (fed_back (column ∷ []) k)

  abbrev hit : Hit
  hit = node_hit nodes hits n source

  among_so : (column : Str) → list_any (λ x. same_text x column) (filter test (column_names n.own)) ≡ true → Has t (feeds c (column ∷ []))
  among_so column e =
      let (x, i, same) = any_has (λ x. same_text x column) (filter test (column_names n.own)) e in
      let (there, k) = Has_filter_from test (column_names n.own) x i in
      subst (λ y. Has t (feeds c (y ∷ []))) (text_is x column same) (test_so x k)

  has_so : (column : Str) → hit_has hit column ≡ true → Has t (feeds c (column ∷ []))
  has_so column e = go (or_parts all (list_any (λ x. same_text x column) (filter test (column_names n.own))) e)
    where
      go : (all ≡ true) ⊎ (list_any (λ x. same_text x column) (filter test (column_names n.own)) ≡ true) → Has t (feeds c (column ∷ []))
      go (inl k) = test_so column (or_left all (is_fed nodes hits n source (column ∷ [])) k)
      go (inr k) = among_so column k

  has_named : (column : Str) → Has column (column_names n.own) → Has t (feeds c (column ∷ [])) → hit_has hit column ≡ true
  has_named column named k =
      or_right all (list_any (λ x. same_text x column) (filter test (column_names n.own)))
      (has_any (λ x. same_text x column) (filter test (column_names n.own)) column (Has_filter test (column_names n.own) column named (test_back column k)) (text_self column))

  has_back : (column : Str) → Has t (feeds c (column ∷ [])) → hit_has hit column ≡ true
  has_back column k = go (feeds_split c (column ∷ []) t k)
    where
      here_is : (w : Str) → Has w (column ∷ []) → Has w (column_names n.own) → hit_has hit column ≡ true
      here_is w (inl e) named = has_named column (subst (λ x. Has x (column_names n.own)) (sym e) named) k
      here_is w (inr h) named = absurd h

      go : Split c (column ∷ []) t → hit_has hit column ≡ true
      go (inl m) = or_left all (list_any (λ x. same_text x column) (filter test (column_names n.own))) (fed_back [] m)
      go (inr (w, i, named, m)) = here_is w i named

  pub hit_is : IsHit source c hit
  hit_is = (
    (λ e. Has_to (feeds c []) t (fed_so [] e), λ k. fed_back [] (Has_from (feeds c []) t k)),
    λ column. (λ e. Has_to (feeds c (column ∷ [])) t (has_so column e), λ k. has_back column (Has_from (feeds c (column ∷ [])) t k)),
    λ column. (
      λ i. let (there, k) = Has_filter_from test (column_names n.own) column (Has_from (filter test (column_names n.own)) column i) in
          (Has_to (column_names n.own) column there, Has_to (feeds c (column ∷ [])) t (test_so column k)),
      λ i. Has_to (filter test (column_names n.own)) column (Has_filter test (column_names n.own) column (Has_from (column_names n.own) column i.0) (test_back column (Has_from (feeds c (column ∷ [])) t i.1))),
    ),
  )
