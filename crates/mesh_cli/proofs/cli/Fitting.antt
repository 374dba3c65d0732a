-- The values of a command line are such as its command needs.
use Rattle.std.proofs.Common.{◌≡◌, ℕ, zero, suc, ℤ, pos, negsuc, Bool, true, false, not, codes, List, Some, None, refl, subst, arith, option_map, if◌then◌else◌}
use Rattle.std.specs.Prelude.{IfSome}
use Rattle.std.specs.Option.{option_and_then}
use Rattle.std.specs.declared.option.Option.{Option}
use Rattle.clap.specs.Walk.{Row, Text}
use Rattle.mesh_time_days.specs.Moments.{IsMoment}
use Rattle.mesh_base_values.specs.Picked.{same_text}
use Rattle.mesh_spec_changes.specs.Environments.{prod}
use Rattle.mesh_time_days.specs.casts.Casts.{number_named}
use Rattle.mesh_cli_words.specs.declared.line.Command.{Command}
use Rattle.mesh_cli_words.specs.declared.line.Command.TheVariants.{Invalidate}
use Rattle.mesh_cli_words.specs.declared.line.Line.{Line}
use Rattle.mesh_cli_values.specs.options.Values.{IsMomentOf, crew, is_crew, workers_named}
use Rattle.mesh_cli_words.specs.Lines.{IsCommandOf, IsLine, again_given, apply_given, column_given, command_given, count_given, days_given, demo_given, env_given, evaluate_given, fetchdf_given, given, impact_given, ingest_given, invalidate_given, model_given, plan_given, run_given, trace_given, workers_given}
use Rattle.mesh_cli.specs.cli.Fit.{IsCrew, IsFit}

-- so many are 1 to 64
in_crew : (n : ℤ) → IfSome (crew n) IsCrew
in_crew (pos zero) = tt
in_crew (pos (suc k)) = by_test (is_crew (pos (suc k))) refl where
  by_test : (b : Bool) → is_crew (pos (suc k)) ≡ b → IfSome (if b then Some (suc k) else None) IsCrew
  by_test false e = tt
  by_test true e = (omega arith, grind arith)
in_crew (negsuc k) = tt

crew_in : (n : Option ℤ) → IfSome (option_and_then crew n) IsCrew
crew_in None = tt
crew_in (Some n) = in_crew n

workers_in : (text : Option (List ℕ)) → IfSome (workers_named text) IsCrew
workers_in None = (omega arith, omega arith)
workers_in (Some text) = crew_in (number_named text)

-- a moment that is given is one
moment_in : (text : Option (List ℕ)) (t : Option ℤ) → IsMomentOf text t → IfSome t IsMoment
unfolding Rattle.mesh_time_days.specs.Moments.IsMomentText
moment_in text None h = tt
moment_in None (Some t) h = absurd h
moment_in (Some text) (Some t) h = h.0

-- what is made of a value that keeps P
then_fit : {A : Type 0} (P : A → Type 0) (f : A → Option Command) (o : Option A) → IfSome o P → ((a : A) → P a → IfSome (f a) IsFit) → IfSome (option_and_then f o) IsFit
then_fit P f None h g = tt
then_fit P f (Some a) h g = g a h

map_fit : {A : Type 0} (P : A → Type 0) (f : A → Command) (o : Option A) → IfSome o P → ((a : A) → P a → IsFit (f a)) → IfSome (option_map f o) IsFit
map_fit P f None h g = tt
map_fit P f (Some a) h g = g a h

any : {A : Type 0} (o : Option A) → IfSome o (λ a. Unit {0})
any None = tt
any (Some a) = tt

if_fit : (b : Bool) (x y : Option Command) → IfSome x IsFit → IfSome y IsFit → IfSome (if b then x else y) IsFit
if_fit true x y p q = p
if_fit false x y p q = q

module _ (t : Option ℤ) (rows : List Row) (within : IfSome t IsMoment) where
  plan_fit : IfSome (plan_given t rows) IsFit
  plan_fit = then_fit (λ env. Unit {0}) _ (env_given rows) (any (env_given rows)) (λ env e. then_fit IsCrew _ (workers_given rows) (workers_in (given (codes "workers") rows)) (λ workers crew. map_fit (λ again. Unit {0}) _ (again_given rows) (any (again_given rows)) (λ again a. (crew, within))))

  apply_fit : IfSome (apply_given t rows) IsFit
  apply_fit = then_fit (λ env. Unit {0}) _ (env_given rows) (any (env_given rows)) (λ env e. then_fit IsCrew _ (workers_given rows) (workers_in (given (codes "workers") rows)) (λ workers crew. map_fit (λ again. Unit {0}) _ (again_given rows) (any (again_given rows)) (λ again a. (crew, within))))

  run_fit : IfSome (run_given t rows) IsFit
  run_fit = then_fit (λ env. Unit {0}) _ (env_given rows) (any (env_given rows)) (λ env e. map_fit IsCrew _ (workers_given rows) (workers_in (given (codes "workers") rows)) (λ workers crew. (crew, within)))

  evaluate_fit : IfSome (evaluate_given rows) IsFit
  evaluate_fit = then_fit (λ m. Unit {0}) _ (model_given (codes "model") rows) (any (model_given (codes "model") rows)) (λ model m. then_fit (λ env. Unit {0}) _ (env_given rows) (any (env_given rows)) (λ env e. map_fit (λ d. Unit {0}) _ (days_given rows) (any (days_given rows)) (λ days d. tt)))

  fetchdf_fit : IfSome (fetchdf_given rows) IsFit
  fetchdf_fit = then_fit (λ q. Unit {0}) _ (given (codes "query") rows) (any (given (codes "query") rows)) (λ query q. map_fit (λ env. Unit {0}) _ (env_given rows) (any (env_given rows)) (λ env e. tt))

  ingest_fit : IfSome (ingest_given rows) IsFit
  ingest_fit = then_fit (λ n. Unit {0}) _ (model_given (codes "name") rows) (any (model_given (codes "name") rows)) (λ name n. map_fit (λ f. Unit {0}) _ (given (codes "file") rows) (any (given (codes "file") rows)) (λ file f. tt))

  other_fit : (env : Text) (b : Bool) → same_text env prod ≡ b → IfSome (if not b then Some (Invalidate env) else None) IsFit
  other_fit env true e = tt
  other_fit env false e = e

  invalidate_fit : IfSome (invalidate_given rows) IsFit
  invalidate_fit = then_fit (λ env. Unit {0}) _ (env_given rows) (any (env_given rows)) (λ env e. other_fit env (same_text env prod) refl)

  trace_fit : IfSome (trace_given rows) IsFit
  trace_fit = then_fit (λ m. Unit {0}) _ (model_given (codes "model") rows) (any (model_given (codes "model") rows)) (λ model m. map_fit (λ c. Unit {0}) _ (column_given rows) (any (column_given rows)) (λ column c. tt))

  impact_fit : IfSome (impact_given rows) IsFit
  impact_fit = then_fit (λ n. Unit {0}) _ (model_given (codes "name") rows) (any (model_given (codes "name") rows)) (λ name n. map_fit (λ c. Unit {0}) _ (column_given rows) (any (column_given rows)) (λ column c. tt))

  demo_fit : IfSome (demo_given rows) IsFit
  demo_fit = then_fit (λ n. Unit {0}) _ (count_given rows) (any (count_given rows)) (λ n e. map_fit IsCrew _ (workers_given rows) (workers_in (given (codes "workers") rows)) (λ workers crew. crew))

  command_fit : (n : Text) → IfSome (command_given t n rows) IsFit
  command_fit n =
      if_fit (same_text n (codes "plan")) _ _ plan_fit
      (if_fit (same_text n (codes "apply")) _ _ apply_fit
      (if_fit (same_text n (codes "run")) _ _ run_fit
      (if_fit (same_text n (codes "evaluate")) _ _ evaluate_fit
      (if_fit (same_text n (codes "fetchdf")) _ _ fetchdf_fit
      (if_fit (same_text n (codes "ingest")) _ _ ingest_fit
      (if_fit (same_text n (codes "janitor")) _ _ within
      (if_fit (same_text n (codes "invalidate")) _ _ invalidate_fit
      (if_fit (same_text n (codes "migrate")) _ _ tt
      (if_fit (same_text n (codes "trace")) _ _ trace_fit
      (if_fit (same_text n (codes "impact")) _ _ impact_fit
      (if_fit (same_text n (codes "batch")) _ _ tt
      (if_fit (same_text n (codes "demo")) _ _ demo_fit tt))))))))))))

command_is : (sub : Option (Text × List Row)) (c : Command) → IsCommandOf sub c → IsFit c
command_is None c h = absurd h
command_is (Some (name, rows)) c h = subst (λ o. IfSome o IsFit) h.is (command_fit h.moment rows (moment_in _ h.moment h.at) name)

-- a command that words ask for is fit
pub fits : (words : List Text) (line : Line) → IsLine words line → IsFit line.command
fits words line h = command_is _ line.command h.texts.asks.command
