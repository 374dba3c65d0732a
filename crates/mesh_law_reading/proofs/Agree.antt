-- Relations that agree on the names in a query agree on what it sees.
use Rattle.std.proofs.Common.{◌≡◌, true, ◌&&◌, List, [], ◌∷◌, ◌++◌, refl}
use Rattle.std.specs.List.{AllByRecursion}
use Rattle.std.specs.Option.{is_some}
use Rattle.mesh_list.proofs.Ascends.{and_left, and_right}
use Rattle.mesh_base_values.specs.declared.values.Name.{Name}
use Rattle.mesh_base.specs.declared.definitions.Defn.TheVariants.{Sql}
use Rattle.mesh_base.specs.declared.queries.FromItem.{FromItem}
use Rattle.mesh_base.specs.declared.queries.Query.{Query}
use Rattle.mesh_base.specs.declared.queries.Rel.{Rel}
use Rattle.mesh_base.specs.declared.queries.Rel.TheVariants.{Named, Cte}
use Rattle.mesh_base.specs.declared.queries.Select.{Select}
use Rattle.mesh_base.specs.declared.rules.relations.Relation.{Relation}
use Rattle.mesh_base.specs.rules.Proper.{defn_names, from_names, names_of_all, rel_names, select_names, selects_names}
use Rattle.mesh_base.specs.rules.Relations.{relation_columns}
use Rattle.mesh_base.specs.rules.Seen.{are_ctes_seen, are_selects_seen, are_there, is_query_seen, is_select_seen, or_no_columns, rel_columns, select_sees, tables_of}
use Rattle.mesh_law_reading.proofs.Sees.{each_append}

pub each_parts : {X : Type 0} (P : X → Type 0) (xs ys : List X) → AllByRecursion P (xs ++ ys) → AllByRecursion P xs × AllByRecursion P ys
each_parts P [] ys all = (tt, all)
each_parts P (x ∷ xs) ys all = let rest = each_parts P xs ys all.1 in ((all.0, rest.0), rest.1)

module _ (rels others : List Relation) where
  abbrev Same : Name → Type 0
  Same name = relation_columns rels name ≡ relation_columns others name

  rel_same : (ctes : List (List Select)) (r : Rel) → AllByRecursion Same (rel_names r) → rel_columns rels ctes r ≡ rel_columns others ctes r
  rel_same ctes (Named name) all = all.0
  rel_same ctes (Cte at) all = refl

  tables_same : (ctes : List (List Select)) (from : List FromItem) → AllByRecursion Same (from_names from) → tables_of rels ctes from ≡ tables_of others ctes from
  tables_same ctes [] all = refl
  tables_same ctes (f ∷ fs) all = let parts = each_parts Same (rel_names f.rel) (from_names fs) all in λ i. or_no_columns (rel_same ctes f.rel parts.0 i) ∷ tables_same ctes fs parts.1 i

  there_same : (ctes : List (List Select)) (from : List FromItem) → AllByRecursion Same (from_names from) → are_there rels ctes from ≡ are_there others ctes from
  there_same ctes [] all = refl
  there_same ctes (f ∷ fs) all = let parts = each_parts Same (rel_names f.rel) (from_names fs) all in λ i. is_some (rel_same ctes f.rel parts.0 i) && there_same ctes fs parts.1 i

  select_same : (ctes : List (List Select)) (s : Select) → AllByRecursion Same (select_names s) → is_select_seen rels ctes s ≡ is_select_seen others ctes s
  unfolding is_select_seen
  select_same ctes s all = λ i. there_same ctes s.from all i && select_sees (tables_same ctes s.from all i) s

  selects_same : (ctes : List (List Select)) (ss : List Select) → AllByRecursion Same (selects_names ss) → are_selects_seen rels ctes ss ≡ are_selects_seen others ctes ss
  selects_same ctes [] all = refl
  selects_same ctes (s ∷ ss) all = let parts = each_parts Same (select_names s) (selects_names ss) all in λ i. select_same ctes s parts.0 i && selects_same ctes ss parts.1 i

  ctes_same : (before cs : List (List Select)) → AllByRecursion Same (names_of_all cs) → are_ctes_seen rels before cs ≡ are_ctes_seen others before cs
  ctes_same before [] all = refl
  ctes_same before (c ∷ cs) all = let parts = each_parts Same (selects_names c) (names_of_all cs) all in λ i. selects_same before c parts.0 i && ctes_same (before ++ c ∷ []) cs parts.1 i

  pub query_same : (q : Query) → AllByRecursion Same (defn_names (Sql q)) → is_query_seen rels q ≡ is_query_seen others q
  query_same q all = let parts = each_parts Same (names_of_all q.ctes) (selects_names q.selects) all in λ i. ctes_same [] q.ctes parts.0 i && selects_same q.ctes q.selects parts.1 i

-- each name in a query is that of a relation
module _ (rels : List Relation) where
  abbrev IsThere : Name → Type 0
  IsThere name = is_some (relation_columns rels name) ≡ true

  rel_there : (ctes : List (List Select)) (r : Rel) → is_some (rel_columns rels ctes r) ≡ true → AllByRecursion IsThere (rel_names r)
  rel_there ctes (Named name) e = (e, tt)
  rel_there ctes (Cte at) e = tt

  from_there : (ctes : List (List Select)) (from : List FromItem) → are_there rels ctes from ≡ true → AllByRecursion IsThere (from_names from)
  from_there ctes [] e = tt
  from_there ctes (f ∷ fs) e =
      each_append IsThere (rel_names f.rel) (from_names fs) (rel_there ctes f.rel (and_left (is_some (rel_columns rels ctes f.rel)) (are_there rels ctes fs) e))
      (from_there ctes fs (and_right (is_some (rel_columns rels ctes f.rel)) (are_there rels ctes fs) e))

  select_there : (ctes : List (List Select)) (s : Select) → is_select_seen rels ctes s ≡ true → AllByRecursion IsThere (select_names s)
  unfolding is_select_seen
  select_there ctes s e = from_there ctes s.from (and_left (are_there rels ctes s.from) (select_sees (tables_of rels ctes s.from) s) e)

  selects_there : (ctes : List (List Select)) (ss : List Select) → are_selects_seen rels ctes ss ≡ true → AllByRecursion IsThere (selects_names ss)
  selects_there ctes [] e = tt
  selects_there ctes (s ∷ ss) e =
      each_append IsThere (select_names s) (selects_names ss) (select_there ctes s (and_left (is_select_seen rels ctes s) (are_selects_seen rels ctes ss) e))
      (selects_there ctes ss (and_right (is_select_seen rels ctes s) (are_selects_seen rels ctes ss) e))

  ctes_there : (before cs : List (List Select)) → are_ctes_seen rels before cs ≡ true → AllByRecursion IsThere (names_of_all cs)
  ctes_there before [] e = tt
  ctes_there before (c ∷ cs) e =
      each_append IsThere (selects_names c) (names_of_all cs) (selects_there before c (and_left (are_selects_seen rels before c) (are_ctes_seen rels (before ++ c ∷ []) cs) e))
      (ctes_there (before ++ c ∷ []) cs (and_right (are_selects_seen rels before c) (are_ctes_seen rels (before ++ c ∷ []) cs) e))

  pub names_there : (q : Query) → is_query_seen rels q ≡ true → AllByRecursion IsThere (defn_names (Sql q))
  names_there q e =
      each_append IsThere (names_of_all q.ctes) (selects_names q.selects) (ctes_there [] q.ctes (and_left (are_ctes_seen rels [] q.ctes) (are_selects_seen rels q.ctes q.selects) e))
      (selects_there q.ctes q.selects (and_right (are_ctes_seen rels [] q.ctes) (are_selects_seen rels q.ctes q.selects) e))
