-- Among the models that are named, a name that is one of them is found as among all.
use Rattle.std.proofs.Common.{◌≡◌, ℕ, suc, Bool, true, false, cond, List, [], ◌∷◌, ◌++◌, map, fold, Option, None, Some, refl, sym, ap, ◌∙◌, subst}
use Rattle.std.specs.List.{AllByRecursion, slice_get}
use Rattle.std.specs.Option.{option_map}
use Rattle.std.specs.Ordering.{is_eq}
use Rattle.mesh_list.specs.Keyed.{found}
use Rattle.mesh_list.proofs.Found.{found-placed}
use Rattle.mesh_base_values.specs.NameOrder.{names_exact}
use Rattle.mesh_base_values.specs.Names.{name_cmp}
use Rattle.mesh_base_values.specs.declared.values.Name.{Name}
use Rattle.mesh_base_values.proofs.Equals.{name_is}
use Rattle.mesh_base.specs.Keys.{input_name}
use Rattle.mesh_base.specs.declared.definitions.Decl.{Decl}
use Rattle.mesh_base.specs.declared.jobs.Input.{Input}
use Rattle.mesh_base.specs.declared.snapshots.Node.{Node}
use Rattle.mesh_base.specs.rules.Proper.{is_among}
use Rattle.mesh_resolve.specs.Owns.{own}
use Rattle.mesh_project_files.specs.declared.project.ModelFile.{ModelFile}
use Rattle.mesh_project.specs.declared.nodes.earlier.Place.{Place}
use Rattle.mesh_project.specs.nodes.Earlier.{named, noted, place_at, place_name, place_of, put_at}
use Rattle.mesh_project.specs.nodes.Nodes.{input_at, input_of, inputs_at, known_before, known_to, parents_of}
use Rattle.mesh_project.specs.nodes.Reads.{text_reads}
use Rattle.mesh_project.proofs.nodes.Among.{IsAt, Stands, each_among, named_found, named_stand}
use Rattle.mesh_project.proofs.nodes.Local.{Alike, own_same}

module _ (nodes : List Node) where
  abbrev table_at : Option ℕ → Option Input
  table_at None = None
  table_at (Some i) = option_map input_of (slice_get nodes i)

  module _ (names : List Name) (name : Name) where
    of_places : (places : List Place) → AllByRecursion (Stands nodes names) places → found name_cmp input_name name (inputs_at nodes places) ≡ table_at (option_map place_at (found name_cmp place_name name places))
    of_places [] all = refl
    of_places (p ∷ ps) all =
        let at : IsAt nodes p.at p.name = all.0.0 in
        subst (λ o. found name_cmp input_name name (input_at o ++ inputs_at nodes ps) ≡ table_at (option_map place_at (found name_cmp place_name name (p ∷ ps)))) (sym at.1)
        (ap (λ (x : Name). cond (is_eq (name_cmp x name)) (Some (input_of at.0)) (found name_cmp input_name name (inputs_at nodes ps))) at.2
        ∙ by_first (is_eq (name_cmp p.name name)) at.0 at.1 (of_places ps all.1))
      where
        by_first : (b : Bool) (n : Node) → slice_get nodes p.at ≡ Some n → found name_cmp input_name name (inputs_at nodes ps) ≡ table_at (option_map place_at (found name_cmp place_name name ps))
            → cond b (Some (input_of n)) (found name_cmp input_name name (inputs_at nodes ps)) ≡ table_at (option_map place_at (cond b (Some p) (found name_cmp place_name name ps)))
        by_first true n e more = ap (option_map input_of) (sym e)
        by_first false n e more = more

  -- a name that no model has is found nowhere
  module _ (name : Name) (none : place_of nodes name ≡ None) where
    put_none : (other : Name) (o : Option ℕ) (made : List Place) → place_of nodes other ≡ o → found name_cmp place_name name made ≡ None → found name_cmp place_name name (put_at other o made) ≡ None
    put_none other None made e h = h
    put_none other (Some k) made e h = found-placed name_cmp names_exact place_name (record { name = other; at = k }) name made ∙ by_name (is_eq (name_cmp other name)) refl
      where
        by_name : (b : Bool) → is_eq (name_cmp other name) ≡ b → cond b (Some (record { name = other; at = k })) (found name_cmp place_name name made) ≡ None
        by_name false is = h
        by_name true is = absurd (let clash : Some k ≡ None = sym e ∙ ap (place_of nodes) (name_is other name is) ∙ none in cc)

    all_none : (names : List Name) (made : List Place) → found name_cmp place_name name made ≡ None → found name_cmp place_name name (fold (noted nodes) made names) ≡ None
    all_none [] made h = h
    all_none (n ∷ ns) made h = all_none ns (noted nodes made n) (put_none n (place_of nodes n) made refl h)

  same_place : (names : List Name) (name : Name) (o : Option ℕ) → place_of nodes name ≡ o → is_among names name ≡ true → option_map place_at (found name_cmp place_name name (named nodes names)) ≡ o
  same_place names name None e among = ap (option_map place_at) (all_none name e names [] refl)
  same_place names name (Some i) e among = ap (option_map place_at) (named_found nodes names name i e among)

of_all : (nodes : List Node) (name : Name) → found name_cmp input_name name (map input_of nodes) ≡ table_at nodes (place_of nodes name)
of_all [] name = refl
of_all (n ∷ ns) name = by_first (is_eq (name_cmp n.own.name name)) (place_of ns name) (of_all ns name)
  where
    by_first : (b : Bool) (o : Option ℕ) → found name_cmp input_name name (map input_of ns) ≡ table_at ns o
        → cond b (Some (input_of n)) (found name_cmp input_name name (map input_of ns)) ≡ table_at (n ∷ ns) (cond b (Some 0) (option_map suc o))
    by_first true o more = refl
    by_first false None more = more
    by_first false (Some i) more = more

module _ (sources : List Decl) (nodes : List Node) (f : ModelFile) where
  each_alike : (names : List Name) → AllByRecursion (λ name. is_among (text_reads f.text.query) name ≡ true) names
      → AllByRecursion (Alike (known_to sources nodes (parents_of nodes f) f.text.kind) (known_before sources nodes f.text.kind) refl) names
  each_alike [] all = tt
  each_alike (n ∷ ns) all = (
    of_places nodes (text_reads f.text.query) n (named nodes (text_reads f.text.query)) (named_stand nodes (text_reads f.text.query))
        ∙ ap (table_at nodes) (same_place nodes (text_reads f.text.query) n (place_of nodes n) refl all.0) ∙ sym (of_all nodes n),
    each_alike ns all.1,
  )

  pub named_suffice : own f.text f.seed (known_to sources nodes (parents_of nodes f) f.text.kind) ≡ own f.text f.seed (known_before sources nodes f.text.kind)
  named_suffice = own_same (known_to sources nodes (parents_of nodes f) f.text.kind) (known_before sources nodes f.text.kind) refl refl f.text f.seed (each_alike (text_reads f.text.query) (each_among (text_reads f.text.query)))
