-- Which lines a script may have.
use Rattle.std.proofs.Common.{◌≡◌, ℕ, ℤ, Bool, true, false, not, ◌&&◌, codes, List, Some, None, Ok, Err, Result, refl, sym, ◌∙◌, ap, subst, option_map, if◌then◌else◌}
use Rattle.std.specs.Option.{is_none, option_and_then, unwrap_or}
use Rattle.std.specs.declared.option.Option.{Option}
use Rattle.clap.specs.Walk.{Row, Text}
use Rattle.mesh_base_values.specs.Picked.{same_text}
use Rattle.mesh_cli_words.specs.declared.line.Command.{Command}
use Rattle.mesh_cli_words.specs.declared.line.Line.{Line}
use Rattle.mesh_cli_words.specs.Lines.{IsCommandOf, IsLine, again_given, apply_given, command_given, env_given, plan_given, run_given, workers_given}
use Rattle.mesh_cli_values.specs.scripts.Scripts.{words_of}
use Rattle.std.specs.Prelude.{IfOk, IfErr, IsErrOf}
use Rattle.mesh_cli_print.specs.declared.printed.refusals.Refusal.{Refusal}
use Rattle.mesh_cli_print.specs.declared.printed.refusals.Refusal.TheVariants.{Usage}
use Rattle.mesh_cli.specs.cli.Fit.{IsFit}
use Rattle.mesh_cli.specs.cli.Scripts.{IsTextLine, may_stand, stands_alone}

then_alike : {A : Type 0} (f g : A → Option Command) → ((a : A) → option_map stands_alone (f a) ≡ option_map stands_alone (g a)) → (o : Option A) → option_map stands_alone (option_and_then f o) ≡ option_map stands_alone (option_and_then g o)
then_alike f g h None = refl
then_alike f g h (Some a) = h a

map_alike : {A : Type 0} (f g : A → Command) → ((a : A) → stands_alone (f a) ≡ stands_alone (g a)) → (o : Option A) → option_map stands_alone (option_map f o) ≡ option_map stands_alone (option_map g o)
map_alike f g h None = refl
map_alike f g h (Some a) = ap Some (h a)

if_alike : (b : Bool) (x x' y y' : Option Command) → option_map stands_alone x ≡ option_map stands_alone x' → option_map stands_alone y ≡ option_map stands_alone y' → option_map stands_alone (if b then x else y) ≡ option_map stands_alone (if b then x' else y')
if_alike true x x' y y' p q = p
if_alike false x x' y y' p q = q

plan_alike : (t u : Option ℤ) (rows : List Row) → option_map stands_alone (plan_given t rows) ≡ option_map stands_alone (plan_given u rows)
plan_alike t u rows =
    then_alike _ _ (λ env. then_alike _ _ (λ workers. map_alike _ _ (λ again. refl) (again_given rows)) (workers_given rows)) (env_given rows)

apply_alike : (t u : Option ℤ) (rows : List Row) → option_map stands_alone (apply_given t rows) ≡ option_map stands_alone (apply_given u rows)
apply_alike t u rows =
    then_alike _ _ (λ env. then_alike _ _ (λ workers. map_alike _ _ (λ again. refl) (again_given rows)) (workers_given rows)) (env_given rows)

run_alike : (t u : Option ℤ) (rows : List Row) → option_map stands_alone (run_given t rows) ≡ option_map stands_alone (run_given u rows)
run_alike t u rows = then_alike _ _ (λ env. map_alike _ _ (λ workers. refl) (workers_given rows)) (env_given rows)

-- whether words ask for what no script has doesn't hang on the moment
command_alike : (t u : Option ℤ) (n : Text) (rows : List Row) → option_map stands_alone (command_given t n rows) ≡ option_map stands_alone (command_given u n rows)
command_alike t u n rows =
    if_alike (same_text n (codes "plan")) _ _ _ _ (plan_alike t u rows)
    (if_alike (same_text n (codes "apply")) _ _ _ _ (apply_alike t u rows)
    (if_alike (same_text n (codes "run")) _ _ _ _ (run_alike t u rows)
    (if_alike (same_text n (codes "evaluate")) _ _ _ _ refl
    (if_alike (same_text n (codes "fetchdf")) _ _ _ _ refl
    (if_alike (same_text n (codes "ingest")) _ _ _ _ refl
    (if_alike (same_text n (codes "janitor")) _ _ _ _ refl refl))))))

alone_alike : (sub : Option (Text × List Row)) (a b : Command) → IsCommandOf sub a → IsCommandOf sub b → stands_alone a ≡ stands_alone b
alone_alike None a b h k = absurd h
alone_alike (Some (n, rows)) a b h k =
    let same : Some (stands_alone a) ≡ Some (stands_alone b) = sym (ap (option_map stands_alone) h.is) ∙ command_alike h.moment k.moment n rows ∙ ap (option_map stands_alone) k.is in
    ap (λ (o : Option Bool). unwrap_or o true) same

-- the same words ask for lines of which a script may have both, or none
stand_alike : (words : List Text) (a b : Line) → IsLine words a → IsLine words b → may_stand a ≡ may_stand b
stand_alike words a b h k =
    ap (λ x. not x && is_none a.warehouse) (alone_alike _ a.command b.command h.texts.asks.command k.texts.asks.command)
    ∙ ap (λ o. not (stands_alone b.command) && is_none o) (h.texts.asks.warehouse ∙ sym k.texts.asks.warehouse)

-- a line that a script may not have is none that its text asks for
pub may_not : (text : List ℕ) (words : List Text) (line : Line) → words_of text ≡ Some words → IsLine words line → may_stand line ≡ false → (other : Line) → ¬ IsTextLine text other
may_not text words line split read no_line other h =
    let same : h.words ≡ words = ap (λ (o : Option (List Text)). unwrap_or o words) (sym h.split ∙ split) in
    let e : may_stand other ≡ false = stand_alike words other line (subst (λ ws. IsLine ws other) same h.read) read ∙ no_line in
    absurd (let clash : true ≡ false = sym h.may ∙ e in cc)

-- what a line keeps is kept where it is passed on
pub line_fit : (line : Line) (result : Result Line Refusal) → IsFit line.command → IfOk result (λ it. (it ≡ line) × (may_stand line ≡ true)) → IfOk result (λ it. IsFit it.command)
line_fit line (Ok it) fit ok = subst (λ (x : Line). IsFit x.command) (sym ok.0) fit
line_fit line (Err r) fit ok = tt

-- a line that isn't passed on is none that its text asks for, and no other is
pub line_usage : (text : List ℕ) (words : List Text) (line : Line) (result : Result Line Refusal) → words_of text ≡ Some words → IsLine words line
    → IfErr result (λ r. (r ≡ Usage) × (may_stand line ≡ false)) → IsErrOf result Usage → (other : Line) → ¬ IsTextLine text other
line_usage text words line (Ok it) split read err is other h = absurd (cc)
line_usage text words line (Err r) split read err is other h = may_not text words line split read err.1 other h
