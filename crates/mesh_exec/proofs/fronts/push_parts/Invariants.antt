use Rattle.std.proofs.Common.{◌≡◌, ◌++◌, List, drop, length, map}
use Rattle.mesh_base.specs.declared.jobs.Input.{Input}
use Rattle.mesh_exec_works.specs.Plain.{plain_models}
use Rattle.mesh_exec.specs.Cuts.{cut_part}
use Rattle.mesh_exec.specs.Fronts.{cut_rows, front_changes}
use Rattle.mesh_exec.proofs.fronts.push_parts.Given as goal

-- the rows that are left are those of the models that are left, and with what they come to all changes are there
abbrev pub invariant-loop-cut : goal.invariant-loop-cut
invariant-loop-cut l = (pools : List (List Input)) → length pools ≡ length l.cuts → l.rows ≡ cut_rows l.cuts pools →
    (l.rest ≡ cut_rows (drop l.cut-index l.cuts) (drop l.cut-index pools))
    × (l.changes ++ front_changes (plain_models l.nodes l.entries) (map cut_part (drop l.cut-index l.cuts)) (drop l.cut-index pools) ≡ l.initial.changes ++ front_changes (plain_models l.nodes l.entries) (map cut_part l.cuts) pools)
