-- The models of a plan with what is due of each.
use Rattle.std.specs.Prelude.{ℕ, suc, Bool, ◌&&◌, List, [], ◌∷◌, Some}
use Rattle.std.specs.List.{list_all}
use Rattle.mesh_base_values.specs.declared.values.Cell.{Cell}
use Rattle.mesh_base.specs.declared.definitions.Defn.{Defn}
use Rattle.mesh_base.specs.declared.definitions.Defn.TheVariants.{Seed, Sql}
use Rattle.mesh_base.specs.declared.plans.Due.{Due}
use Rattle.mesh_base.specs.declared.plans.Entry.{Entry}
use Rattle.mesh_base.specs.declared.snapshots.Node.{Node}
use Rattle.mesh_base.specs.declared.rules.plans.Plan.{Plan}
use Rattle.mesh_base.specs.rules.Proper.{is_body_of}
use Rattle.mesh_exec_works.specs.Executable.{is_due_of}
use Rattle.mesh_exec_works.specs.declared.works.Work.{Work}
use Rattle.mesh_exec_works.specs.Dues.{leading, behind}

-- a model of a plan, its entry, and what is due of it
pub record Part : Type 0 where
  pub node : Node
  pub entry : Entry
  pub dues : List Due

abbrev pub part_of : Work → Part
part_of w = record { node = w.node.now; entry = w.entry.now; dues = w.dues.now }

-- the models of a plan from a place on, each with what is due of it
abbrev pub parts_from : ℕ → List Node → List Entry → List Due → List Part
parts_from place [] es dues = []
parts_from place (n ∷ ns) [] dues = []
parts_from place (n ∷ ns) (e ∷ es) dues = record { node = n; entry = e; dues = leading place dues } ∷ parts_from (suc place) ns es (behind place dues)

abbrev pub parts : Plan → List Part
parts p = parts_from 0 p.project.nodes p.entries p.dues

-- a definition has the body of its kind, and what is due fits the model
abbrev pub is_fit : Node → List Due → Bool
is_fit n dues = is_body_of n.own.kind n.own.defn && list_all (is_due_of (Some n)) dues

abbrev pub are_fit : List Part → Bool
are_fit parts = list_all (λ (p : Part). is_fit p.node p.dues) parts

-- a seed's own rows
abbrev pub seed_rows : Defn → List (List Cell)
seed_rows (Seed columns rows) = rows
seed_rows (Sql q) = []
