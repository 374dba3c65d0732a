-- What a definition finds among its sources and its parents.
use Rattle.std.proofs.Common.{◌≡◌, Bool, true, false, cond, List, [], ◌∷◌, ◌++◌, Some, None, map, refl, ◌∙◌, ap}
use Rattle.std.specs.declared.option.Option.{Option}
use Rattle.std.specs.Option.{option_map}
use Rattle.std.specs.Ordering.{is_eq}
use Rattle.mesh_list.specs.Keyed.{found}
use Rattle.mesh_base_values.specs.declared.values.Name.{Name}
use Rattle.mesh_base_values.specs.declared.values.Column.{Column}
use Rattle.mesh_base.specs.declared.snapshots.Ref.{Ref}
use Rattle.mesh_base.specs.declared.snapshots.Snapshot.{Snapshot}
use Rattle.mesh_base_values.specs.Names.{name_cmp}
use Rattle.mesh_base.specs.declared.rules.relations.Relation.{Relation}
use Rattle.mesh_base.specs.rules.Relations.{relation_columns, source_relation, parent_relation}
use Rattle.mesh_base.specs.Keys.{ref_name}
use Rattle.mesh_house_book.specs.WellFormed.{columns_at, parents_of, relations_of, snapshot_at}

-- a source of that name comes before the parents
pub of_source : (ds es : List Relation) (name : Name) (cs : List Column) → relation_columns ds name ≡ Some cs → relation_columns (ds ++ es) name ≡ Some cs
of_source [] es name cs h = cc
of_source (d ∷ ds) es name cs h = at (is_eq (name_cmp d.name name)) (of_source ds es name cs) h
  where
    at : (b : Bool) → (relation_columns ds name ≡ Some cs → relation_columns (ds ++ es) name ≡ Some cs) → cond b (Some d.columns) (relation_columns ds name) ≡ Some cs → cond b (Some d.columns) (relation_columns (ds ++ es) name) ≡ Some cs
    at true more h = h
    at false more h = more h

-- where no source has that name, a parent may
pub of_others : (ds es : List Relation) (name : Name) → relation_columns ds name ≡ None → relation_columns (ds ++ es) name ≡ relation_columns es name
of_others [] es name h = refl
of_others (d ∷ ds) es name h = at (is_eq (name_cmp d.name name)) (of_others ds es name) h
  where
    at : (b : Bool) → (relation_columns ds name ≡ None → relation_columns (ds ++ es) name ≡ relation_columns es name) → cond b (Some d.columns) (relation_columns ds name) ≡ None → cond b (Some d.columns) (relation_columns (ds ++ es) name) ≡ relation_columns es name
    at true more h = cc
    at false more h = more h

-- the columns of a parent of that name are those of its snapshot
abbrev pub columns_of_ref : List Snapshot → Ref → List Column
columns_of_ref all r = columns_at (snapshot_at all r)

pub of_parents : (all : List Snapshot) (refs : List Ref) (name : Name) → relation_columns (map parent_relation (parents_of all refs)) name ≡ option_map (columns_of_ref all) (found name_cmp ref_name name refs)
of_parents all [] name = refl
of_parents all (r ∷ rs) name = at (is_eq (name_cmp r.name name)) (of_parents all rs name)
  where
    at : (b : Bool) → relation_columns (map parent_relation (parents_of all rs)) name ≡ option_map (columns_of_ref all) (found name_cmp ref_name name rs) → cond b (Some (columns_of_ref all r)) (relation_columns (map parent_relation (parents_of all rs)) name) ≡ option_map (columns_of_ref all) (cond b (Some r) (found name_cmp ref_name name rs))
    at true more = refl
    at false more = more

module _ (all : List Snapshot) (s : Snapshot) (name : Name) where
  abbrev pub related : Option (List Column)
  related = relation_columns (relations_of all s) name

  pub from_source : (cs : List Column) → relation_columns (map source_relation s.own.sources) name ≡ Some cs → related ≡ Some cs
  from_source cs h = of_source (map source_relation s.own.sources) (map parent_relation (parents_of all s.parents)) name cs h

  pub from_parent : (o : Option Ref) → relation_columns (map source_relation s.own.sources) name ≡ None → found name_cmp ref_name name s.parents ≡ o → related ≡ option_map (columns_of_ref all) o
  from_parent o h g = of_others (map source_relation s.own.sources) (map parent_relation (parents_of all s.parents)) name h ∙ of_parents all s.parents name ∙ ap (option_map (columns_of_ref all)) g
