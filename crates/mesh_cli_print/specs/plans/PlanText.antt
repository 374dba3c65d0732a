-- What is printed of a plan.
use Rattle.std.specs.Prelude.{ℕ, ◌-◌, ℤ, pos, Bool, List, [], ◌∷◌, codes, length, if◌then◌else◌, Some, None}
use Rattle.std.specs.Fmt.{decimal}
use Rattle.std.specs.List.{flat_map, slice_get}
use Rattle.std.specs.declared.option.Option.{Option}
use Rattle.mesh_list.specs.Keyed.{placed}
use Rattle.mesh_base_values.specs.Names.{name_cmp}
use Rattle.mesh_base_values.specs.declared.kinds.Kind.{Kind}
use Rattle.mesh_base_values.specs.declared.kinds.Kind.TheVariants.{Full, View, Seed, Incremental}
use Rattle.mesh_base_values.specs.declared.values.Name.{Name}
use Rattle.mesh_base_values.specs.declared.values.Pair.{Pair}
use Rattle.mesh_base.specs.declared.plans.Category.{Category}
use Rattle.mesh_base.specs.declared.plans.Category.TheVariants.{Unchanged, Added, Breaking, NonBreaking, IndirectBreaking, IndirectNonBreaking}
use Rattle.mesh_base.specs.declared.plans.Entry.{Entry}
use Rattle.mesh_base.specs.declared.plans.Due.{Due}
use Rattle.mesh_base.specs.declared.plans.Due.TheVariants.{Whole, Unit}
use Rattle.mesh_base.specs.declared.snapshots.Node.{Node}
use Rattle.mesh_base.specs.declared.rules.plans.Plan.{Plan}
use Rattle.mesh_cli_print.specs.faults.Lines.{◌·◌, name_text}
use Rattle.mesh_cli_print.specs.declared.plans.differences.Difference.{Difference}
use Rattle.mesh_cli_print.specs.plans.Moments.{moment_text}
use Rattle.mesh_cli_print.specs.plans.Runs.{runs}

abbrev pub category_word : Category → List ℕ
category_word Unchanged = codes "unchanged"
category_word Added = codes "added"
category_word Breaking = codes "breaking"
category_word NonBreaking = codes "non-breaking"
category_word IndirectBreaking = codes "indirect-breaking"
category_word IndirectNonBreaking = codes "indirect-non-breaking"

abbrev pub kind_word : Kind → List ℕ
kind_word Full = codes "FULL"
kind_word View = codes "VIEW"
kind_word Seed = codes "SEED"
kind_word (Incremental time lookback) = codes "INCREMENTAL_BY_TIME_RANGE"

abbrev pub difference_name : Difference → Name
difference_name d = d.name

-- among those so far, by name
abbrev pub with_difference : List Difference → Difference → List Difference
with_difference made d = placed name_cmp difference_name d made

-- a model of the project, unless it is unchanged
abbrev pub with_node_as : List Difference → Node → Category → List Difference
with_node_as made n Unchanged = made
with_node_as made n other = with_difference made (record { name = n.own.name; word = category_word other; kind = kind_word n.own.kind })

-- each model beside its entry
abbrev pub with_nodes : List Difference → List Node → List Entry → List Difference
with_nodes made [] es = made
with_nodes made (n ∷ ns) [] = made
with_nodes made (n ∷ ns) (e ∷ es) = with_nodes (with_node_as made n e.category) ns es

-- the models that the project no longer has, each with the word of its kind
abbrev pub removal : Pair → Difference
removal p = record { name = p.first; word = codes "removed"; kind = p.second.model }

abbrev pub with_removed : List Difference → List Pair → List Difference
with_removed made [] = made
with_removed made (p ∷ ps) = with_removed (with_difference made (removal p)) ps

-- by name, the models that differ from those that the environment lists
abbrev pub differences : Plan → List Difference
differences p = with_removed (with_nodes [] p.project.nodes p.entries) p.removed

abbrev pub difference_line : Difference → List ℕ
difference_line d = d.word · codes " " · name_text d.name · codes " " · d.kind · codes "\n"

abbrev pub difference_lines : List Difference → List ℕ
difference_lines [] = codes "no changes\n"
difference_lines (d ∷ ds) = flat_map difference_line (d ∷ ds)

abbrev pub unsteady_line : Pair → List ℕ
unsteady_line p = codes "unsteady " · name_text p.first · codes " reads " · name_text p.second · codes "\n"

abbrev pub unsteady_lines : List Pair → List ℕ
unsteady_lines ps = flat_map unsteady_line ps

-- the name of the model at a place
unfoldable pub node_text : Option Node → List ℕ
node_text None = []
node_text (Some n) = name_text n.own.name

-- where a unit ends
abbrev pub end_of : Option Due → ℤ
end_of None = pos 0
end_of (Some (Whole node marks)) = pos 0
end_of (Some (Unit node start end)) = end

-- a stretch of time behind a space and before one
unfoldable pub span_text : ℤ → ℤ → List ℕ
span_text start end = codes " " · moment_text start · codes " " · moment_text end · codes " "

abbrev pub whole_line : List Node → ℕ → List ℕ
whole_line nodes node = codes "due " · node_text (slice_get nodes node) · codes " whole\n"

abbrev pub units_line : List Node → ℕ → ℤ → ℤ → ℕ → List ℕ
units_line nodes node start end count = codes "due " · node_text (slice_get nodes node) · span_text start end · decimal count · codes "\n"

-- a run by what is first and last in it, and how many there are
abbrev pub line_of : List Node → Option Due → Option Due → ℕ → List ℕ
line_of nodes None last count = []
line_of nodes (Some (Whole node marks)) last count = whole_line nodes node
line_of nodes (Some (Unit node start end)) last count = units_line nodes node start (end_of last) count

abbrev pub run_line : List Node → List Due → List ℕ
run_line nodes run = line_of nodes (slice_get run 0) (slice_get run (length run - 1)) (length run)

abbrev pub run_lines : List Node → List Due → List ℕ
run_lines nodes dues = flat_map (run_line nodes) (runs dues)

abbrev pub due_lines : List Node → List Due → List ℕ
due_lines nodes [] = codes "nothing due\n"
due_lines nodes (d ∷ ds) = run_lines nodes (d ∷ ds)

unfoldable pub head_word : Bool → List ℕ
head_word run = if run then codes "run " else codes "plan "

abbrev pub head_line : Plan → List ℕ
head_line p = head_word p.run · p.env · codes " at " · moment_text p.moment · codes "\n"

-- a run prints no differences
abbrev pub compared_lines : Bool → Plan → List ℕ
compared_lines run p = if run then [] else difference_lines (differences p) · unsteady_lines p.unsteady

abbrev pub plan_text : Plan → List ℕ
plan_text p = head_line p · compared_lines p.run p · due_lines p.project.nodes p.dues · decimal (length p.dues) · codes " units\n"
