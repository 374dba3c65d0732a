-- The sources of due models, looked at before anything is changed.
use Rattle.std.specs.Prelude.{Bool, true, false, if◌then◌else◌, List, [], ◌∷◌, Some, None}
use Rattle.std.specs.List.{fold}
use Rattle.std.specs.Option.{option_map, option_or}
use Rattle.std.specs.Ordering.{is_lt}
use Rattle.std.specs.declared.option.Option.{Option}
use Rattle.mesh_base_values.specs.Names.{name_cmp}
use Rattle.mesh_base_values.specs.declared.values.Column.{Column}
use Rattle.mesh_base_values.specs.declared.values.Name.{Name}
use Rattle.mesh_base.specs.declared.definitions.Decl.{Decl}
use Rattle.mesh_base.specs.declared.definitions.Own.{Own}
use Rattle.mesh_base.specs.declared.jobs.Input.{Input}
use Rattle.mesh_spec_model.specs.Sources.{has_shape, source_named}
use Rattle.mesh_query_tokens.specs.declared.faults.FaultKind.{FaultKind}
use Rattle.mesh_query_tokens.specs.declared.faults.FaultKind.TheVariants.{SourceMissing, SourceShape}
use Rattle.mesh_exec_works.specs.Dues.{is_any}
use Rattle.mesh_exec_works.specs.Works.{Part}
use Rattle.mesh_exec.specs.declared.sources.Breach.{Breach}
use Rattle.mesh_exec.specs.declared.sources.Lack.{Lack}

-- a declared source isn't there, or it is there without a declared column or its type; further columns are passed over
abbrev pub breach_by : Decl → Option (List Column) → Option Breach
breach_by d None = Some (record { source = d.name; is_there = false })
breach_by d (Some columns) = if has_shape d.columns columns then None else Some (record { source = d.name; is_there = true })

abbrev pub breach : Decl → Option Input → Option Breach
breach d s = breach_by d (option_map (λ t. t.columns) s)

-- the one of the source that comes first by its name
abbrev pub first_by_name : Option Breach → Option Breach → Option Breach
first_by_name None b = b
first_by_name (Some a) None = Some a
first_by_name (Some a) (Some b) = if is_lt (name_cmp b.source a.source) then Some b else Some a

abbrev pub with_source : List Input → Option Breach → Decl → Option Breach
with_source sources found d = first_by_name found (breach d (source_named sources d))

-- what some declared sources lack, by the first of them that lacks something
abbrev pub model_breach : List Input → List Decl → Option Breach
model_breach sources decls = fold (with_source sources) None decls

abbrev pub kind_of : Breach → FaultKind
kind_of b = if b.is_there then SourceShape b.source else SourceMissing b.source

abbrev pub lack_of : Name → Option Breach → Option Lack
lack_of model None = None
lack_of model (Some b) = Some (record { model = model; kind = kind_of b })

-- what a model lacks, where it is due
abbrev pub due_lack : List Input → Own → Bool → Option Lack
due_lack sources own is_due = if is_due then lack_of own.name (model_breach sources own.sources) else None

abbrev pub part_lack : List Input → Part → Option Lack
part_lack sources p = due_lack sources p.node.own (is_any p.dues)

-- what the first of the due models lacks that lacks something, in the order of the plan
abbrev pub first_lack : List Input → List Part → Option Lack
first_lack sources [] = None
first_lack sources (p ∷ ps) = option_or (part_lack sources p) (first_lack sources ps)
