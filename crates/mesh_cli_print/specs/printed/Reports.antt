-- What a command prints when it is done.
use Rattle.std.specs.Prelude.{ℕ, ℤ, List, codes}
use Rattle.std.specs.Fmt.{decimal}
use Rattle.mesh_base_values.specs.declared.values.Name.{Name}
use Rattle.mesh_base.specs.declared.jobs.Swept.{Swept}
use Rattle.mesh_cli_print.specs.faults.Lines.{◌·◌, name_text}
use Rattle.mesh_cli_print.specs.plans.Moments.{moment_text}

-- behind the text of a plan, how many changes it took
abbrev pub applied_line : List ℕ → ℕ → List ℕ
applied_line env changes = codes "applied " · env · codes ": " · decimal changes · codes " changes\n"

abbrev pub ran_line : List ℕ → ℕ → List ℕ
ran_line env changes = codes "ran " · env · codes ": " · decimal changes · codes " changes\n"

-- how many rows a file gave to a source
abbrev pub ingested_line : Name → ℕ → List ℕ
ingested_line name rows = codes "ingested " · name_text name · codes ": " · decimal rows · codes " rows\n"

-- how much of each kind went
abbrev pub swept_counts : Swept → List ℕ
swept_counts s = decimal s.environments · codes " environments, " · decimal s.objects · codes " objects, " · decimal s.snapshots · codes " snapshots, " · decimal s.changes · codes " changes\n"

abbrev pub janitor_line : ℤ → Swept → List ℕ
janitor_line t s = codes "janitor at " · moment_text t · codes ": " · swept_counts s

abbrev pub invalidated_line : List ℕ → List ℕ
invalidated_line env = codes "invalidated " · env · codes "\n"

abbrev pub migrated_line : ℕ → List ℕ
migrated_line snapshots = codes "migrated " · decimal snapshots · codes " snapshots\n"
