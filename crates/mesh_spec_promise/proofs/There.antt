-- What a definition sees is there under the names of its parents.
use Rattle.std.proofs.Common.{◌≡◌, Bool, true, false, cond, ◌&&◌, List, [], ◌∷◌, ◌++◌, map, Some, refl, sym, ◌∙◌, ap}
use Rattle.std.specs.Option.{is_some}
use Rattle.std.specs.Ordering.{is_eq}
use Rattle.std.proofs.lemmas.Bool.{and_from as and_both}
use Rattle.mesh_list.proofs.Ascends.{and_left, and_right}
use Rattle.mesh_base_values.specs.Names.{name_cmp}
use Rattle.mesh_base.specs.declared.rules.relations.Relation.{Relation}
use Rattle.mesh_base.specs.declared.queries.FromItem.{FromItem}
use Rattle.mesh_base.specs.declared.queries.Rel.{Rel}
use Rattle.mesh_base.specs.declared.queries.Rel.TheVariants.{Named, Cte}
use Rattle.mesh_base.specs.declared.queries.Select.{Select}
use Rattle.mesh_base.specs.declared.queries.Query.{Query}
use Rattle.mesh_base_values.specs.declared.values.Name.{Name}
use Rattle.mesh_base.specs.rules.Relations.{relation_columns}
use Rattle.mesh_base.specs.rules.Seen.{rel_columns, tables_of, are_there, select_sees, is_select_seen, are_selects_seen, are_ctes_seen, is_query_seen}
use Rattle.mesh_spec_changes.specs.shown.Shown.{selects_there, ctes_there, is_query_there}

abbrev pub relation_name : Relation → Name
relation_name r = r.name

module _ (xs ys : List Relation) (same : map relation_name xs ≡ map relation_name ys) where
  named : (us vs : List Relation) → map relation_name us ≡ map relation_name vs → (name : Name) → is_some (relation_columns us name) ≡ is_some (relation_columns vs name)
  named [] [] e name = refl
  named [] (v ∷ vs) e name = cc
  named (u ∷ us) [] e name = cc
  named (u ∷ us) (v ∷ vs) e name = go (is_eq (name_cmp u.name name)) (is_eq (name_cmp v.name name)) (let f : u.name ≡ v.name = cc in ap (λ (n : Name). is_eq (name_cmp n name)) f) (named us vs (cc) name)
    where
      go : (b c : Bool) → b ≡ c → is_some (relation_columns us name) ≡ is_some (relation_columns vs name)
          → is_some (cond b (Some u.columns) (relation_columns us name)) ≡ is_some (cond c (Some v.columns) (relation_columns vs name))
      go true true f more = refl
      go false false f more = more
      go true false f more = absurd (cc)
      go false true f more = absurd (cc)

  of_rel : (ctes : List (List Select)) (rel : Rel) → is_some (rel_columns xs ctes rel) ≡ is_some (rel_columns ys ctes rel)
  of_rel ctes (Named name) = named xs ys same name
  of_rel ctes (Cte at) = refl

  of_from : (ctes : List (List Select)) (from : List FromItem) → are_there xs ctes from ≡ are_there ys ctes from
  of_from ctes [] = refl
  of_from ctes (f ∷ fs) = λ i. of_rel ctes f.rel i && of_from ctes fs i

  of_select : (ctes : List (List Select)) (s : Select) → is_select_seen xs ctes s ≡ true → are_there ys ctes s.from ≡ true
  unfolding is_select_seen
  of_select ctes s h = sym (of_from ctes s.from) ∙ and_left (are_there xs ctes s.from) (select_sees (tables_of xs ctes s.from) s) h

  of_selects : (ctes : List (List Select)) (ss : List Select) → are_selects_seen xs ctes ss ≡ true → selects_there ys ctes ss ≡ true
  of_selects ctes [] h = refl
  of_selects ctes (s ∷ ss) h = and_both _ _ (of_select ctes s (and_left (is_select_seen xs ctes s) (are_selects_seen xs ctes ss) h)) (of_selects ctes ss (and_right (is_select_seen xs ctes s) (are_selects_seen xs ctes ss) h))

  of_ctes : (before cs : List (List Select)) → are_ctes_seen xs before cs ≡ true → ctes_there ys before cs ≡ true
  of_ctes before [] h = refl
  of_ctes before (c ∷ cs) h =
      and_both _ _ (of_selects before c (and_left (are_selects_seen xs before c) (are_ctes_seen xs (before ++ c ∷ []) cs) h))
      (of_ctes (before ++ c ∷ []) cs (and_right (are_selects_seen xs before c) (are_ctes_seen xs (before ++ c ∷ []) cs) h))

  pub seen_there : (q : Query) → is_query_seen xs q ≡ true → is_query_there ys q ≡ true
  seen_there q h =
      and_both _ _ (of_ctes [] q.ctes (and_left (are_ctes_seen xs [] q.ctes) (are_selects_seen xs q.ctes q.selects) h)) (of_selects q.ctes q.selects (and_right (are_ctes_seen xs [] q.ctes) (are_selects_seen xs q.ctes q.selects) h))
