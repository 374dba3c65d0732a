-- The rows of a model whose parents' views are lost.
use Rattle.std.proofs.Common.{◌≡◌, ℕ, List, map, Some, None, refl, sym, ◌∙◌, ap}
use Rattle.std.specs.Option.{option_map}
use Rattle.std.specs.declared.option.Option.{Option}
use Rattle.mesh_base_values.specs.declared.times.Bounds.{Bounds}
use Rattle.mesh_base_values.specs.declared.values.Name.{Name}
use Rattle.mesh_base.specs.declared.jobs.Input.{Input}
use Rattle.mesh_base.specs.declared.snapshots.Snapshot.{Snapshot}
use Rattle.mesh_spec_model.specs.Sources.{inputs}
use Rattle.mesh_house.specs.declared.world.World.{World}
use Rattle.mesh_spec_changes.specs.shown.Shown.{each_there}
use Rattle.mesh_layer.specs.Asked.{lost_model, view_table}
use Rattle.mesh_layer.specs.Lost.{first_of}
use Rattle.mesh_layer.proofs.Asking.{view_found}
use Rattle.mesh_layer.proofs.Heights.{none_lost}
use Rattle.mesh_cli_look.specs.asking.Evaluated.{found_rows, lost_behind, parents_of, rows_for, tables_behind}

-- where a parent's view is lost, no tables are read, and no rows found
module _ (env : List ℕ) (s : Snapshot) (w : World) (o : Name) (lost : lost_behind env s w ≡ Some o) where
  pub tables_lost : tables_behind env s w ≡ None
  tables_lost = at (each_there (map (view_table env w) (parents_of s))) refl
    where
      at : (t : Option (List Input)) → each_there (map (view_table env w) (parents_of s)) ≡ t → tables_behind env s w ≡ None
      at None e = ap (option_map (inputs w.sources s.own)) e
      at (Some ts) e = absurd (let none : first_of (map (lost_model env w) (parents_of s)) ≡ None = none_lost (view_table env w) (lost_model env w) (view_found env w) (parents_of s) ts e in let clash : None ≡ Some o = sym none ∙ lost in cc)

  pub rows_lost : (u : Bounds) → found_rows env s u w ≡ None
  rows_lost u = ap (option_map (rows_for s.own u)) tables_lost
