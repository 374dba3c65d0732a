-- What a command line asks for.
use Rattle.std.specs.Prelude.{◌≡◌, ℕ, ℤ, Bool, false, List, [], codes, Some, None, IsUtf8, if◌then◌else◌}
use Rattle.std.specs.List.{All}
use Rattle.std.specs.Option.{option_and_then, option_map}
use Rattle.std.specs.declared.option.Option.{Option}
use Rattle.clap.specs.Walk.{Row, Text, first_of}
use Rattle.clap.specs.Simple.{matches_of, subcommand_of}
use Rattle.clap.specs.Faults.{fault_of}
use Rattle.mesh_base_values.specs.Picked.{same_text}
use Rattle.mesh_base_values.specs.declared.values.Name.{Name}
use Rattle.mesh_base.specs.declared.forgets.Restate.{Restate}
use Rattle.mesh_cli_words.specs.declared.line.Command.{Command}
use Rattle.mesh_cli_words.specs.declared.line.Command.TheVariants.{Plan, Apply, Run, Evaluate, Fetchdf, Ingest, Janitor, Invalidate, Migrate, Trace, Impact, Batch, Demo}
use Rattle.mesh_cli_words.specs.declared.line.Line.{Line}
use Rattle.mesh_cli_values.specs.options.Values.{IsMomentOf, again_named, column_named, count_named, days_named, env_named, expiring_named, is_other, name_named, workers_named}
use Rattle.mesh_cli_words.specs.Words.{mesh_app}

-- the value that was given under this name
abbrev pub given : Text → List Row → Option Text
given id rows = first_of id rows

abbrev pub is_yes : Option Text → Bool
is_yes None = false
is_yes (Some text) = same_text text (codes "true")

-- a word without a value was given
abbrev pub is_flagged : Text → List Row → Bool
is_flagged id rows = is_yes (given id rows)

abbrev pub env_given : List Row → Option Text
env_given rows = env_named (given (codes "env") rows)

-- an environment that is to expire
abbrev pub expiring_given : List Row → Option Text
expiring_given rows = expiring_named (given (codes "env") rows)

abbrev pub workers_given : List Row → Option ℕ
workers_given rows = workers_named (given (codes "workers") rows)

abbrev pub count_given : List Row → Option ℕ
count_given rows = option_and_then count_named (given (codes "records") rows)

abbrev pub again_given : List Row → Option (Option Restate)
again_given rows = again_named (given (codes "restate-model") rows) (given (codes "start") rows) (given (codes "end") rows)

abbrev pub model_given : Text → List Row → Option Name
model_given id rows = option_and_then name_named (given id rows)

abbrev pub column_given : List Row → Option Text
column_given rows = option_and_then column_named (given (codes "column") rows)

-- the days from the first text's to the last text's
abbrev pub days_between : Option Text → Option Text → Option (ℤ × ℤ)
days_between first last = option_and_then (λ text. option_and_then (days_named text) last) first

abbrev pub days_given : List Row → Option (ℤ × ℤ)
days_given rows = days_between (given (codes "start") rows) (given (codes "end") rows)

-- each command of these words, at a moment if one is given
abbrev pub plan_given : Option ℤ → List Row → Option Command
plan_given t rows =
    option_and_then (λ env. option_and_then (λ workers. option_map (λ again. Plan env (is_flagged (codes "auto-apply") rows) workers t again)
    (again_given rows)) (workers_given rows)) (env_given rows)

abbrev pub apply_given : Option ℤ → List Row → Option Command
apply_given t rows =
    option_and_then (λ env. option_and_then (λ workers. option_map (λ again. Apply env workers t again)
    (again_given rows)) (workers_given rows)) (env_given rows)

abbrev pub run_given : Option ℤ → List Row → Option Command
run_given t rows = option_and_then (λ env. option_map (λ workers. Run env workers t) (workers_given rows)) (env_given rows)

abbrev pub evaluate_given : List Row → Option Command
evaluate_given rows =
    option_and_then (λ model. option_and_then (λ env. option_map (λ (days : ℤ × ℤ). Evaluate model env days.0 days.1)
    (days_given rows)) (env_given rows)) (model_given (codes "model") rows)

abbrev pub fetchdf_given : List Row → Option Command
fetchdf_given rows = option_and_then (λ query. option_map (λ env. Fetchdf query env) (env_given rows)) (given (codes "query") rows)

abbrev pub ingest_given : List Row → Option Command
ingest_given rows =
    option_and_then (λ name. option_map (λ file. Ingest name file (is_flagged (codes "append") rows))
    (given (codes "file") rows)) (model_given (codes "name") rows)

-- production stays, so it can't be named to be over
abbrev pub invalidate_given : List Row → Option Command
invalidate_given rows = option_and_then (λ env. if is_other env then Some (Invalidate env) else None) (env_given rows)

abbrev pub trace_given : List Row → Option Command
trace_given rows = option_and_then (λ model. option_map (λ column. Trace model column) (column_given rows)) (model_given (codes "model") rows)

abbrev pub impact_given : List Row → Option Command
impact_given rows = option_and_then (λ name. option_map (λ column. Impact name column) (column_given rows)) (model_given (codes "name") rows)

abbrev pub demo_given : List Row → Option Command
demo_given rows = option_and_then (λ n. option_map (λ workers. Demo n workers) (workers_given rows)) (count_given rows)

-- the command of this name
abbrev pub command_given : Option ℤ → Text → List Row → Option Command
command_given t name rows =
    if same_text name (codes "plan") then plan_given t rows
    else (if same_text name (codes "apply") then apply_given t rows
    else (if same_text name (codes "run") then run_given t rows
    else (if same_text name (codes "evaluate") then evaluate_given rows
    else (if same_text name (codes "fetchdf") then fetchdf_given rows
    else (if same_text name (codes "ingest") then ingest_given rows
    else (if same_text name (codes "janitor") then Some (Janitor t)
    else (if same_text name (codes "invalidate") then invalidate_given rows
    else (if same_text name (codes "migrate") then Some Migrate
    else (if same_text name (codes "trace") then trace_given rows
    else (if same_text name (codes "impact") then impact_given rows
    else (if same_text name (codes "batch") then Some Batch
    else (if same_text name (codes "demo") then demo_given rows else None))))))))))))

-- the command of a name and what was given to it
pub record IsCommand (name : Text) (rows : List Row) (command : Command) : Type 0 where
  pub moment : Option ℤ
  pub at : IsMomentOf (given (codes "execution-time") rows) moment
  pub is : command_given moment name rows ≡ Some command

abbrev pub IsCommandOf : Option (Text × List Row) → Command → Type 0
IsCommandOf None command = ⊥
IsCommandOf (Some (name, rows)) command = IsCommand name rows command

-- What was given in front of a command, and the command.
pub record IsLineOf (rows : List Row) (sub : Option (Text × List Row)) (line : Line) : Type 0 where
  pub paths : line.paths ≡ given (codes "paths") rows
  pub warehouse : line.warehouse ≡ given (codes "warehouse") rows
  pub command : IsCommandOf sub line.command

-- Texts ask for a line: they are such as the rules say, and their values can be read.
pub record IsRuled (texts : List Text) (line : Line) : Type 0 where
  pub ruled : fault_of mesh_app texts ≡ []
  pub asks : IsLineOf (matches_of mesh_app texts) (subcommand_of mesh_app texts) line

-- Words ask for a line: they are UTF-8, and as texts they ask for it.
pub record IsLine (words : List Text) (line : Line) : Type 0 where
  pub utf8 : All IsUtf8 words
  pub texts : IsRuled words line
