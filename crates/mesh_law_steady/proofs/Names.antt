-- The parents that a steady incremental model names are such as have the same rows near its units.
use Rattle.std.proofs.Common.{◌≡◌, ℕ, suc, Bool, true, false, List, [], ◌∷◌, refl, ap, sym, ◌∙◌}
use Rattle.std.specs.List.{list_all}
use Rattle.std.specs.declared.option.Option.{Option}
use Rattle.std.specs.declared.option.Option.TheVariants.{None, Some}
use Rattle.std.proofs.lemmas.Bool.{and_parts}
use Rattle.mesh_base_values.specs.declared.kinds.Kind.{Kind}
use Rattle.mesh_base_values.specs.declared.kinds.Kind.TheVariants.{Full, View, Seed, Incremental}
use Rattle.mesh_base_values.specs.declared.values.Name.{Name}
use Rattle.mesh_base.specs.declared.definitions.Decl.{Decl}
use Rattle.mesh_base.specs.declared.definitions.Defn.{Defn}
use Rattle.mesh_base.specs.declared.definitions.Defn.TheVariants as defn
use Rattle.mesh_base.specs.declared.definitions.Own.{Own}
use Rattle.mesh_base.specs.declared.queries.FromItem.{FromItem}
use Rattle.mesh_base.specs.declared.queries.Rel.{Rel}
use Rattle.mesh_base.specs.declared.queries.Rel.TheVariants.{Named, Cte}
use Rattle.mesh_base.specs.declared.queries.Select.{Select}
use Rattle.mesh_base.specs.rules.Proper.{defn_names, from_names, names_of_all, rel_names, select_names, selects_names}
use Rattle.mesh_spec_model.specs.Closures.{Closure, Closures, own_of}
use Rattle.mesh_law_query.proofs.Lists.{Each}
use Rattle.mesh_spec_changes.specs.steady.Steady.{are_items_bound, are_selects_bound, is_defn_bound, is_found_parent_bound, is_item_bound, is_parent_bound, is_relation_bound, is_timeless, parent_named, source_declared}
use Rattle.mesh_spec_changes.proofs.due.Later.{Each_both}

-- a parent of that kind may be read by a steady incremental model, bound or as it is
abbrev pub may_read : Closure → Kind → Bool
may_read c Seed = true
may_read c Full = is_timeless c
may_read c View = is_timeless c
may_read c (Incremental time lookback) = true

-- a name is that of a source, or of a parent that may be read
abbrev pub may_find : Option Decl → Option Closure → Bool
may_find (Some d) c = true
may_find None (Some c) = may_read c (own_of c).kind
may_find None None = false

parent_read : (q : Select) (k : ℕ) (f : FromItem) (c : Closure) (kind : Kind) → is_parent_bound q k f c kind ≡ true → may_read c kind ≡ true
parent_read q k f c Seed h = refl
parent_read q k f c Full h = h
parent_read q k f c View h = h
parent_read q k f c (Incremental time lookback) h = refl

module _ (own : Own) (parents : Closures) where
  abbrev pub MayName : Name → Type 0
  MayName name = may_find (source_declared own name) (parent_named parents name) ≡ true

  relation_read : (q : Select) (k : ℕ) (f : FromItem) (name : Name) (d : Option Decl) (c : Option Closure) → parent_named parents name ≡ c → is_relation_bound parents q k f name d ≡ true → may_find d c ≡ true
  relation_read q k f name (Some d) c e h = refl
  relation_read q k f name None (Some c) e h = parent_read q k f c (own_of c).kind (ap (is_found_parent_bound q k f) (sym e) ∙ h)
  relation_read q k f name None None e h = ap (is_found_parent_bound q k f) (sym e) ∙ h

  item_named : (q : Select) (k : ℕ) (f : FromItem) (rel : Rel) → is_item_bound own parents q k f rel ≡ true → Each MayName (rel_names rel)
  item_named q k f (Named name) h = (relation_read q k f name (source_declared own name) (parent_named parents name) refl h, tt)
  item_named q k f (Cte at) h = tt

  items_named : (q : Select) (k : ℕ) (fs : List FromItem) → are_items_bound own parents q k fs ≡ true → Each MayName (from_names fs)
  items_named q k [] h = tt
  items_named q k (f ∷ fs) h =
      let p = and_parts (is_item_bound own parents q k f f.rel) (are_items_bound own parents q (suc k) fs) h in
      Each_both MayName (rel_names f.rel) (from_names fs) (item_named q k f f.rel p.0) (items_named q (suc k) fs p.1)

  selects_named : (qs : List Select) → are_selects_bound own parents qs ≡ true → Each MayName (selects_names qs)
  selects_named [] h = tt
  selects_named (q ∷ qs) h =
      let p = and_parts (are_items_bound own parents q 0 q.from) (are_selects_bound own parents qs) h in
      Each_both MayName (select_names q) (selects_names qs) (items_named q 0 q.from p.0) (selects_named qs p.1)

  ctes_named : (cs : List (List Select)) → list_all (are_selects_bound own parents) cs ≡ true → Each MayName (names_of_all cs)
  ctes_named [] h = tt
  ctes_named (c ∷ cs) h =
      let p = and_parts (are_selects_bound own parents c) (list_all (are_selects_bound own parents) cs) h in
      Each_both MayName (selects_names c) (names_of_all cs) (selects_named c p.0) (ctes_named cs p.1)

  pub names_read : (d : Defn) → is_defn_bound own parents d ≡ true → Each MayName (defn_names d)
  names_read (defn.Seed columns rows) h = tt
  names_read (defn.Sql q) h =
      let p = and_parts (list_all (are_selects_bound own parents) q.ctes) (are_selects_bound own parents q.selects) h in
      Each_both MayName (names_of_all q.ctes) (selects_names q.selects) (ctes_named q.ctes p.0) (selects_named q.selects p.1)
