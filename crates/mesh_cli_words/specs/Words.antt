-- Which words a command line has: the options in front, the commands, and what each of them takes.
use Rattle.std.specs.Prelude.{true, codes, Some}
use Rattle.clap.specs.Walk.{Rule, Text}
use Rattle.clap.specs.Simple.{App, new_app, new_rule, on_top, with_rule, with_subcommand}
use Rattle.clap.specs.declared.builder.action.ArgAction.TheVariants.{Set, SetTrue}
use Rattle.clap.specs.declared.builder.value_parser.ValueParser.TheVariants as parser

-- an option with a value that isn't empty
abbrev pub option_rule : Text → Rule
option_rule id = record (new_rule id) { long = Some id; action = Some Set; parser = Some parser.NonEmptyString }

-- an option without a value
abbrev pub flag_rule : Text → Rule
flag_rule id = record (new_rule id) { long = Some id; action = Some SetTrue }

-- a word in its place
abbrev pub place_rule : Text → Rule
place_rule id = record (new_rule id) { action = Some Set }

abbrev pub needed : Rule → Rule
needed r = record r { required = true }

-- a command that has no help and no version
abbrev pub bare_app : Text → App
bare_app name = on_top (λ s. record s { disable_help_flag = true; disable_version_flag = true; disable_help_subcommand = true }) (new_app name)

-- the environment, the number of workers and the moment, as plan, apply and run take them
abbrev pub timed_app : Text → App
timed_app name = with_rule (with_rule (with_rule (bare_app name) (place_rule (codes "env"))) (option_rule (codes "workers"))) (option_rule (codes "execution-time"))

-- the same, and what is to be computed again
abbrev pub again_app : Text → App
again_app name = with_rule (with_rule (with_rule (timed_app name) (option_rule (codes "restate-model"))) (option_rule (codes "start"))) (option_rule (codes "end"))

abbrev pub plan_app : App
plan_app = with_rule (again_app (codes "plan")) (flag_rule (codes "auto-apply"))

abbrev pub apply_app : App
apply_app = again_app (codes "apply")

abbrev pub run_app : App
run_app = timed_app (codes "run")

abbrev pub evaluate_places_app : App
evaluate_places_app = with_rule (with_rule (bare_app (codes "evaluate")) (needed (place_rule (codes "model")))) (place_rule (codes "env"))

abbrev pub evaluate_app : App
evaluate_app = with_rule (with_rule evaluate_places_app (needed (option_rule (codes "start")))) (needed (option_rule (codes "end")))

abbrev pub fetchdf_app : App
fetchdf_app = with_rule (with_rule (bare_app (codes "fetchdf")) (needed (place_rule (codes "query")))) (place_rule (codes "env"))

abbrev pub ingest_app : App
ingest_app = with_rule (with_rule (with_rule (bare_app (codes "ingest")) (needed (place_rule (codes "name")))) (needed (place_rule (codes "file")))) (flag_rule (codes "append"))

abbrev pub janitor_app : App
janitor_app = with_rule (bare_app (codes "janitor")) (option_rule (codes "execution-time"))

abbrev pub invalidate_app : App
invalidate_app = with_rule (bare_app (codes "invalidate")) (needed (place_rule (codes "env")))

abbrev pub migrate_app : App
migrate_app = bare_app (codes "migrate")

abbrev pub trace_app : App
trace_app = with_rule (with_rule (bare_app (codes "trace")) (needed (place_rule (codes "model")))) (needed (place_rule (codes "column")))

abbrev pub impact_app : App
impact_app = with_rule (with_rule (bare_app (codes "impact")) (needed (place_rule (codes "name")))) (needed (place_rule (codes "column")))

abbrev pub batch_app : App
batch_app = bare_app (codes "batch")

abbrev pub demo_app : App
demo_app = with_rule (with_rule (bare_app (codes "demo")) (needed (place_rule (codes "records")))) (option_rule (codes "workers"))

-- the program, whose own name is no word of its line
abbrev pub unnamed_app : App
unnamed_app = on_top (λ s. record s { subcommand_required = true; no_binary_name = true }) (bare_app (codes "mesh"))

-- the two options in front of a command
abbrev pub basis_app : App
basis_app = with_rule (with_rule unnamed_app (option_rule (codes "paths"))) (option_rule (codes "warehouse"))

abbrev pub to_plan_app : App
to_plan_app = with_subcommand basis_app plan_app.top

abbrev pub to_apply_app : App
to_apply_app = with_subcommand to_plan_app apply_app.top

abbrev pub to_run_app : App
to_run_app = with_subcommand to_apply_app run_app.top

abbrev pub to_evaluate_app : App
to_evaluate_app = with_subcommand to_run_app evaluate_app.top

abbrev pub to_fetchdf_app : App
to_fetchdf_app = with_subcommand to_evaluate_app fetchdf_app.top

abbrev pub to_ingest_app : App
to_ingest_app = with_subcommand to_fetchdf_app ingest_app.top

abbrev pub to_janitor_app : App
to_janitor_app = with_subcommand to_ingest_app janitor_app.top

abbrev pub to_invalidate_app : App
to_invalidate_app = with_subcommand to_janitor_app invalidate_app.top

abbrev pub to_migrate_app : App
to_migrate_app = with_subcommand to_invalidate_app migrate_app.top

abbrev pub to_trace_app : App
to_trace_app = with_subcommand to_migrate_app trace_app.top

abbrev pub to_impact_app : App
to_impact_app = with_subcommand to_trace_app impact_app.top

abbrev pub to_batch_app : App
to_batch_app = with_subcommand to_impact_app batch_app.top

-- all commands
abbrev pub mesh_app : App
mesh_app = with_subcommand to_batch_app demo_app.top
