-- The due parts of a model that one query computes: those of a run of units, each of which begins where the one
-- before it ends, or a part by itself.
use Rattle.std.specs.Prelude.{◌≡◌, ℕ, zero, suc, ℤ, pos, Bool, true, false, ◌&&◌, if◌then◌else◌, List, [], ◌∷◌, Some, None}
use Rattle.std.specs.List.{flat_map, fold, list_all}
use Rattle.std.specs.Ordering.{int_eq}
use Rattle.std.specs.declared.option.Option.{Option}
use Rattle.mesh_base.specs.declared.plans.Due.{Due}
use Rattle.mesh_base.specs.declared.plans.Due.TheVariants.{Whole, Unit}
use Rattle.mesh_base.specs.declared.snapshots.Node.{Node}
use Rattle.mesh_lineage.specs.Joinable.{is_joinable}
use Rattle.mesh_exec_works.specs.Executable.{is_due_of}
use Rattle.mesh_exec.specs.declared.runs.Run.{Run}

-- a unit begins there
abbrev pub begins_at : ℤ → Due → Bool
begins_at end (Unit place start later) = int_eq start end
begins_at end (Whole place marks) = false

abbrev pub end_of : Due → ℤ
end_of (Unit place start end) = end
end_of (Whole place marks) = pos 0

-- a part goes on from the end of the one before it, or is the first
abbrev pub goes_on : Bool → Option ℤ → Due → Bool
goes_on joins None d = true
goes_on joins (Some end) d = joins && begins_at end d

-- the first of some due parts, at most so many, each of which goes on from the one before it
abbrev pub onward : ℕ → Bool → Option ℤ → List Due → List Due
onward zero joins last ds = []
onward (suc most) joins last [] = []
onward (suc most) joins last (d ∷ ds) = if goes_on joins last d then d ∷ onward most joins (Some (end_of d)) ds else []

-- the longest run that leads some due parts
abbrev pub run_ahead : Bool → List Due → List Due
run_ahead joins ds = onward 256 joins None ds

abbrev pub goes_all_on : Bool → Option ℤ → List Due → Bool
goes_all_on joins last [] = true
goes_all_on joins last (d ∷ ds) = goes_on joins last d && goes_all_on joins (Some (end_of d)) ds

-- a part by itself, or adjoining units where units may be joined
abbrev pub is_run : Bool → List Due → Bool
is_run joins [] = false
is_run joins (d ∷ ds) = goes_all_on joins (Some (end_of d)) ds

-- the end of the last of them
abbrev pub last_end : ℤ → List Due → ℤ
last_end end ds = fold (λ before d. end_of d) end ds

-- a unit with another end
abbrev pub up_to : ℤ → Due → Due
up_to end (Unit place start old) = Unit place start end
up_to end (Whole place marks) = Whole place marks

-- a run as one part, from the start of its first to the end of its last
abbrev pub spanned : Due → List Due → Due
spanned d ds = up_to (last_end (end_of d) ds) d

abbrev pub dues_in : Run → List Due
dues_in r = r.dues.now

-- the due parts of a model stand in runs, in their order
pub record AreRunsOf (joins : Bool) (dues : List Due) (runs : List Run) : Type 0 where
  pub whole : flat_map dues_in runs ≡ dues
  pub each : list_all (λ r. is_run joins (dues_in r)) runs ≡ true

-- a run of a model's units, or one of its parts, which fit it
abbrev pub is_fit_run : Node → Run → Bool
is_fit_run n r = is_run (is_joinable n.own) (dues_in r) && list_all (is_due_of (Some n)) (dues_in r)

abbrev pub are_fit_runs : Node → List Run → Bool
are_fit_runs n runs = list_all (is_fit_run n) runs
