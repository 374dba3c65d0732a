-- What is answered where some words or a text ask for a line.
use Rattle.std.proofs.Common.{◌≡◌, ◌⊎◌, inl, inr, ℕ, Bool, true, false, not, ◌&&◌, List, Err, Result, refl, sym, ◌∙◌, ap}
use Rattle.std.specs.Option.{is_none}
use Rattle.mesh_cli_print.specs.declared.printed.refusals.Refusal.{Refusal}
use Rattle.mesh_cli_print.specs.declared.printed.refusals.Refusal.TheVariants.{Usage, Memory}
use Rattle.mesh_cli_words.specs.declared.line.Command.{Command}
use Rattle.mesh_cli_words.specs.declared.line.Command.TheVariants.{Plan, Apply, Run, Evaluate, Fetchdf, Ingest, Janitor, Invalidate, Migrate, Trace, Impact, Batch, Demo}
use Rattle.mesh_cli_words.specs.declared.line.Line.{Line}
use Rattle.mesh_cli_words.specs.declared.line.UsageFault.{UsageFault}
use Rattle.mesh_cli_words.specs.declared.line.UsageFault.TheVariants as fault
use Rattle.mesh_cli.specs.cli.Scripts.{AskedAnswers, LineAnswers, command, usage, wanting, is_batch, may_stand, of_usage, stands_alone}
use Rattle.mesh_cli.specs.cli.Sides.{Sides}

-- what isn't kept out of scripts is no batch
alone_batch : (c : Command) → stands_alone c ≡ false → is_batch c ≡ false
alone_batch (Plan env auto workers moment again) e = refl
alone_batch (Apply env workers moment again) e = refl
alone_batch (Run env workers moment) e = refl
alone_batch (Evaluate model env first last) e = refl
alone_batch (Fetchdf query env) e = refl
alone_batch (Ingest name file append) e = refl
alone_batch (Janitor moment) e = refl
alone_batch (Invalidate env) e = refl
alone_batch Migrate e = refl
alone_batch (Trace model column) e = refl
alone_batch (Impact name column) e = refl
alone_batch Batch e = absurd (let clash : true ≡ false = e in cc)
alone_batch (Demo n workers) e = refl

-- a line that a script may have isn't itself a batch
pub not_batch : (line : Line) → may_stand line ≡ true → is_batch line.command ≡ false
not_batch line may = by_test (stands_alone line.command) refl where
  by_test : (b : Bool) → stands_alone line.command ≡ b → is_batch line.command ≡ false
  by_test false e = alone_batch line.command e
  by_test true e = absurd (let clash : false ≡ true = sym (ap (λ x. not x && is_none line.warehouse) e) ∙ may in cc)

module _ (asks : Line → Type 0) (dir : List ℕ) (old : Sides) where
  -- they ask for none, or memory was wanting
  pub asked_refused : (r : Refusal) → (r ≡ Usage) ⊎ (r ≡ Memory) → (r ≡ Usage → (line : Line) → ¬ asks line) → AskedAnswers asks dir old old (Err r)
  asked_refused r (inl is) no_line = usage (no_line is) refl (ap (λ (x : Refusal). Err x) is)
  asked_refused r (inr is) no_line = wanting refl (ap (λ (x : Refusal). Err x) is)

  -- they ask for this line
  pub asked_answered : (new : Sides) (line : Line) (answer : Result (List ℕ) Refusal) → asks line → is_batch line.command ≡ false → LineAnswers dir line old new answer → AskedAnswers asks dir old new answer
  asked_answered new line answer is alone (inl by) = command line is alone by
  asked_answered new line answer is alone (inr by) = wanting by.0 by.1

-- words that are no command line, or memory was wanting while they were read
pub of_usage_is : (f : UsageFault) → (of_usage f ≡ Usage) ⊎ (of_usage f ≡ Memory)
of_usage_is fault.Usage = inl refl
of_usage_is fault.Memory = inr refl

pub usage_is : (f : UsageFault) → of_usage f ≡ Usage → f ≡ fault.Usage
usage_is fault.Usage e = refl
usage_is fault.Memory e = absurd (let clash : Memory ≡ Usage = e in cc)
