-- The rows behind an object and a view, by what stands under their names.
use Rattle.std.proofs.Common.{◌≡◌, ℕ, suc, Bool, false, cond, List, map, Some, None, ap, ◌∙◌}
use Rattle.std.specs.Option.{option_map, option_and_then}
use Rattle.std.specs.declared.option.Option.{Option}
use Rattle.mesh_base_values.specs.declared.values.Cell.{Cell}
use Rattle.mesh_base_values.specs.declared.values.Name.{Name}
use Rattle.mesh_base_values.specs.declared.values.Pair.{Pair}
use Rattle.mesh_base_values.specs.Names.{name_cmp}
use Rattle.mesh_base.specs.declared.jobs.Input.{Input}
use Rattle.mesh_base.specs.declared.definitions.Defn.{Defn}
use Rattle.mesh_base.specs.declared.definitions.Defn.TheVariants.{Sql}
use Rattle.mesh_base.specs.declared.definitions.Own.{Own}
use Rattle.mesh_base.specs.declared.queries.Query.{Query}
use Rattle.mesh_list.specs.Keyed.{found}
use Rattle.mesh_spec_query.specs.Sel.{Sel}
use Rattle.mesh_spec_model.specs.Sources.{inputs}
use Rattle.mesh_spec_model.specs.Scratch.{no_bounds}
use Rattle.mesh_house.specs.declared.objects.Body.TheVariants.{Rows, Stored}
use Rattle.mesh_house.specs.declared.objects.Object.{Object}
use Rattle.mesh_house.specs.declared.world.World.{World}
use Rattle.mesh_house.specs.Objects.{is_physical, object_name}
use Rattle.mesh_house.specs.World.{body_of, object_at, view}
use Rattle.mesh_spec_changes.specs.shown.Shown.{body_rows, each_there, is_query_there, object_rows, rows_through, stored_relations, stored_rows, target_table, view_rows}

pub behind_view : (w : World) (name target : Name) → view w name ≡ Some target → view_rows w name ≡ object_rows w target
behind_view w name target h = ap (option_and_then (object_rows w)) h

pub behind_no_view : (w : World) (name : Name) → view w name ≡ None → view_rows w name ≡ None
behind_no_view w name h = ap (option_and_then (object_rows w)) h

pub behind_table : (w : World) (name : Name) (rows : List (List Cell)) → body_of (object_at w name) ≡ Some (Rows rows) → object_rows w name ≡ Some rows
behind_table w name rows h = ap (option_and_then (body_rows (rows_through 4095 w) w)) h

pub behind_stored : (depth : ℕ) (w : World) (name : Name) (own : Own) (targets : List Pair) (q : Query) → body_of (object_at w name) ≡ Some (Stored own targets) → own.defn ≡ Sql q
    → rows_through (suc depth) w name ≡ cond (is_query_there (stored_relations own targets) q) (option_map (λ (ts : List Input). Sel q (inputs w.sources own ts) no_bounds) (each_there (map (target_table (rows_through depth w) w) targets))) None
behind_stored depth w name own targets q h k =
    ap (option_and_then (body_rows (rows_through depth w) w)) h
    ∙ ap (λ (d : Defn). stored_rows own targets d w.sources (each_there (map (target_table (rows_through depth w) w) targets))) k

no_object : (w : World) (name : Name) → is_physical name ≡ false → object_at w name ≡ None
no_object w name h = ap (λ (b : Bool). cond b (found name_cmp object_name name w.objects) None) h

pub behind_no_object : (w : World) (name : Name) → is_physical name ≡ false → object_rows w name ≡ None
behind_no_object w name h = ap (λ (o : Option Object). option_and_then (body_rows (rows_through 4095 w) w) (body_of o)) (no_object w name h)

pub behind_plain_target : (w : World) (name target : Name) → view w name ≡ Some target → is_physical target ≡ false → view_rows w name ≡ None
behind_plain_target w name target h k = behind_view w name target h ∙ behind_no_object w target k
