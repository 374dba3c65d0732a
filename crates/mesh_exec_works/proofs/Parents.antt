-- The tables that models read, parent by parent.
use Rattle.std.proofs.Common.{◌≡◌, List, [], ◌∷◌, map, Some, None, refl, sym, ap, ◌∙◌}
use Rattle.std.specs.Option.{option_map}
use Rattle.std.specs.declared.option.Option.{Option}
use Rattle.mesh_base_values.specs.declared.values.Cell.{Cell}
use Rattle.mesh_base.specs.declared.jobs.Input.{Input}
use Rattle.mesh_spec_model.specs.Scratch.{table_of}
use Rattle.mesh_spec_model.specs.Sources.{inputs}
use Rattle.mesh_house.specs.declared.world.World.{World}
use Rattle.mesh_spec_changes.specs.shown.Shown.{each_there, object_rows}
use Rattle.mesh_spec_changes.specs.due.Plans.{Planned}
use Rattle.mesh_spec_changes.specs.Changes.{parent_table, tables_read}
use Rattle.mesh_layer.specs.Lost.{first_of}
use Rattle.mesh_layer.proofs.Heights.{rows_found}
use Rattle.mesh_exec_works.specs.declared.works.Work.{Work}
use Rattle.mesh_exec_works.specs.Lost.{lost_parent, lost_parents, lost_work}
use Rattle.mesh_exec_works.specs.Plain.{parents_at, work_model}
use Rattle.mesh_exec_works.specs.Tables.{work_table}

-- a parent that is a table isn't lost
pub table_shown : (w : World) (k : Work) (x : Input) → work_table w k ≡ Some x → lost_work w k ≡ None
table_shown w k x h = at (object_rows w (work_model k).object) refl h
  where
    at : (o : Option (List (List Cell))) → object_rows w (work_model k).object ≡ o → option_map (table_of (work_model k).node.own) o ≡ Some x → lost_work w k ≡ None
    at None e k' = absurd (let clash : None ≡ Some x = k' in cc)
    at (Some rows) e k' = rows_found w 4096 (work_model k).object rows e

all_tables : (w : World) (ks : List Work) → map (work_table w) ks ≡ map (parent_table w) (map work_model ks)
all_tables w [] = refl
all_tables w (k ∷ ks) = ap (λ l. work_table w k ∷ l) (all_tables w ks)

all_lost : (w : World) (ks : List Work) → map (lost_work w) ks ≡ map (lost_parent w) (map work_model ks)
all_lost w [] = refl
all_lost w (k ∷ ks) = ap (λ l. lost_work w k ∷ l) (all_lost w ks)

pub lost_are : (w : World) (ks : List Work) (ps : List Planned) → map work_model ks ≡ ps → first_of (map (lost_work w) ks) ≡ lost_parents w ps
lost_are w ks ps is = ap first_of (all_lost w ks) ∙ ap (lost_parents w) is

pub read_all : (w : World) (all : List Planned) (p : Planned) (ks : List Work) (ts : List Input) → map work_model ks ≡ parents_at all p.node.parents → each_there (map (work_table w) ks) ≡ Some ts → tables_read w all p ≡ Some (inputs w.sources p.node.own ts)
read_all w all p ks ts is there =
    ap (option_map (inputs w.sources p.node.own)) (sym (ap each_there (all_tables w ks ∙ ap (map (parent_table w)) is)) ∙ there)
