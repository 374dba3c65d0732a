-- What a command's words give, and which words give none.
use Rattle.std.proofs.Common.{◌≡◌, refl, sym, ◌∙◌, ap, subst, ℤ, Bool, true, false, List, Some, None, codes, option_map, if◌then◌else◌}
use Rattle.std.specs.Option.{option_and_then, unwrap_or, is_some}
use Rattle.std.specs.declared.option.Option.{Option}
use Rattle.clap.specs.Walk.{Row, Text}
use Rattle.mesh_base_values.specs.Picked.{same_text}
use Rattle.mesh_cli_values.specs.options.Values.{is_other, other_than_prod}
use Rattle.mesh_cli_words.specs.declared.line.Command.{Command}
use Rattle.mesh_cli_words.specs.declared.line.Command.TheVariants.{Invalidate}
use Rattle.mesh_cli_words.specs.declared.line.Line.{Line}
use Rattle.mesh_cli_words.specs.Lines.{IsCommand, IsCommandOf, IsLineOf, again_given, apply_given, command_given, env_given, plan_given, run_given, workers_given}

-- a name and rows that are there are those of one thing
pub both_of : {B : Type 0} (name : B → Text) (rows : B → List Row) (pair : B → Text × List Row) → ((b : B) → pair b ≡ (name b, rows b)) → (x : Option B) (n : Text) (r : List Row)
    → Some n ≡ option_map name x → Some r ≡ option_map (λ (p : Text × List Row). p.1) (option_map pair x)
    → option_map pair x ≡ Some (n, r)
both_of name rows pair h None n r e f = absurd (cc)
both_of name rows pair h (Some b) n r e f =
    ap Some (h b) ∙ (ap (λ a. Some (a, rows b)) (sym (ap (λ o. unwrap_or o n) e)) ∙ ap (λ a. Some (n, a)) (ap (λ (p : Text × List Row). p.1) (sym (h b)) ∙ sym (ap (λ o. unwrap_or o r) f)))

then_same : {A : Type 0} (f g : A → Option Command) → ((a : A) → is_some (f a) ≡ is_some (g a)) → (o : Option A) → is_some (option_and_then f o) ≡ is_some (option_and_then g o)
then_same f g h None = refl
then_same f g h (Some a) = h a

map_same : {A : Type 0} (f g : A → Command) (o : Option A) → is_some (option_map f o) ≡ is_some (option_map g o)
map_same f g None = refl
map_same f g (Some a) = refl

if_same : (b : Bool) (x x' y y' : Option Command) → is_some x ≡ is_some x' → is_some y ≡ is_some y' → is_some (if b then x else y) ≡ is_some (if b then x' else y')
if_same true x x' y y' p q = p
if_same false x x' y y' p q = q

-- whether words are a command doesn't hang on the moment
plan_same : (t u : Option ℤ) (rows : List Row) → is_some (plan_given t rows) ≡ is_some (plan_given u rows)
plan_same t u rows =
    then_same _ _ (λ env. then_same _ _ (λ workers. map_same _ _ (again_given rows)) (workers_given rows)) (env_given rows)

apply_same : (t u : Option ℤ) (rows : List Row) → is_some (apply_given t rows) ≡ is_some (apply_given u rows)
apply_same t u rows =
    then_same _ _ (λ env. then_same _ _ (λ workers. map_same _ _ (again_given rows)) (workers_given rows)) (env_given rows)

run_same : (t u : Option ℤ) (rows : List Row) → is_some (run_given t rows) ≡ is_some (run_given u rows)
run_same t u rows = then_same _ _ (λ env. map_same _ _ (workers_given rows)) (env_given rows)

command_same : (t u : Option ℤ) (n : Text) (rows : List Row) → is_some (command_given t n rows) ≡ is_some (command_given u n rows)
command_same t u n rows =
    if_same (same_text n (codes "plan")) _ _ _ _ (plan_same t u rows)
    (if_same (same_text n (codes "apply")) _ _ _ _ (apply_same t u rows)
    (if_same (same_text n (codes "run")) _ _ _ _ (run_same t u rows)
    (if_same (same_text n (codes "evaluate")) _ _ _ _ refl
    (if_same (same_text n (codes "fetchdf")) _ _ _ _ refl
    (if_same (same_text n (codes "ingest")) _ _ _ _ refl
    (if_same (same_text n (codes "janitor")) _ _ _ _ refl refl))))))

-- words that are no command at one moment are no line
pub refuses : (rows : List Row) (sub : Option (Text × List Row)) (n : Text) (given : List Row) (t : Option ℤ)
    → sub ≡ Some (n, given) → None ≡ command_given t n given → (line : Line) → ¬ IsLineOf rows sub line
refuses rows sub n given t is none line h =
    let k : IsCommand n given line.command = subst (λ s. IsCommandOf s line.command) is h.command in
    let e : false ≡ true = ap (λ (o : Option Command). is_some o) none ∙ command_same t k.moment n given ∙ ap (λ (o : Option Command). is_some o) k.is in
    absurd (cc)

-- an environment that is to expire is another than production
pub expires : (env : Option Text) → option_map Invalidate (option_and_then other_than_prod env) ≡ option_and_then (λ e. if is_other e then Some (Invalidate e) else None) env
expires None = refl
expires (Some e) = by_test (is_other e) where
  by_test : (b : Bool) → option_map Invalidate (if b then Some e else None) ≡ (if b then Some (Invalidate e) else None)
  by_test true = refl
  by_test false = refl
