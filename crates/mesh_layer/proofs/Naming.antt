-- What a stored query may name.
use Rattle.std.proofs.Common.{◌≡◌, Bool, true, false, cond, List, [], ◌∷◌, ◌++◌, map, Some, None, refl, ◌∙◌}
use Rattle.std.specs.Prelude.{◌||◌}
use Rattle.std.specs.Option.{is_some, option_map}
use Rattle.std.specs.Ordering.{is_eq}
use Rattle.std.specs.declared.option.Option.{Option}
use Rattle.mesh_base_values.specs.declared.values.Column.{Column}
use Rattle.mesh_base_values.specs.declared.values.Name.{Name}
use Rattle.mesh_base_values.specs.declared.values.Pair.{Pair}
use Rattle.mesh_base_values.specs.Names.{name_cmp}
use Rattle.mesh_base.specs.declared.definitions.Decl.{Decl}
use Rattle.mesh_base.specs.declared.definitions.Own.{Own}
use Rattle.mesh_base.specs.rules.Relations.{is_declared, relation_columns, source_relation}
use Rattle.mesh_spec_changes.specs.shown.Shown.{stored_relations, target_relation}
use Rattle.mesh_layer.specs.Read.{is_target}

either : (b : Bool) (c : List Column) (o : Option (List Column)) (rest : Bool) → is_some o ≡ rest → is_some (cond b (Some c) o) ≡ (b || rest)
either true c o rest h = refl
either false c o rest h = h

or_both : (a b c : Bool) → (a || (b || c)) ≡ ((a || b) || c)
or_both true b c = refl
or_both false b c = refl

targets_named : (targets : List Pair) (n : Name) → is_some (relation_columns (map target_relation targets) n) ≡ is_target targets n
targets_named [] n = refl
targets_named (t ∷ ts) n = either (is_eq (name_cmp t.first n)) [] (relation_columns (map target_relation ts) n) (is_target ts n) (targets_named ts n)

sources_named : (sources : List Decl) (targets : List Pair) (n : Name) → is_some (relation_columns (map source_relation sources ++ map target_relation targets) n) ≡ (is_declared sources n || is_target targets n)
sources_named [] targets n = targets_named targets n
sources_named (d ∷ ds) targets n =
    either (is_eq (name_cmp d.name n)) d.columns (relation_columns (map source_relation ds ++ map target_relation targets) n) (is_declared ds n || is_target targets n) (sources_named ds targets n)
    ∙ or_both (is_eq (name_cmp d.name n)) (is_declared ds n) (is_target targets n)

-- a relation is there where it is a declared source's or a target's name
pub relation_there : (own : Own) (targets : List Pair) (n : Name) → is_some (relation_columns (stored_relations own targets) n) ≡ (is_declared own.sources n || is_target targets n)
relation_there own targets n = sources_named own.sources targets n

-- a CTE is there where its place is
pub cte_there : {A B : Type 0} (f : A → B) (o : Option A) → is_some (option_map f o) ≡ is_some o
cte_there f None = refl
cte_there f (Some x) = refl
