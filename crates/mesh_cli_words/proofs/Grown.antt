-- What a command has with one more argument, or with another command below it.
use Rattle.std.proofs.Common.{◌≡◌, ◌||◌, false, Result, Ok, Err, IfOk, ◌∙◌, ap, ap₂}
use Rattle.clap.specs.Words.{App, Rule, AddsArg, AddsSubcommand, app_of, rule_of}
use Rattle.clap.specs.Simple.{with_rule, with_subcommand}
use Rattle.clap.specs.declared.builder.arg.Arg.{Arg}
use Rattle.clap.specs.declared.builder.command.Command.{Command}
use Rattle.clap.specs.declared.builder.command.Command.TheViews.{out-Command}

pub argument_added : {E : Type 0} (old : Command) (x : Arg) (made : Result Command E) (a : App) (r : Rule) → x.global ≡ false → IfOk made (λ n. AddsArg old x n) → rule_of x ≡ r → app_of old ≡ a
    → IfOk made (λ c. app_of c ≡ with_rule a r)
argument_added old x (Ok n) a r here added rule is = added.shape here ∙ ap₂ with_rule is rule
argument_added old x (Err e) a r here added rule is = tt

pub still_local : {E : Type 0} (old : Command) (x : Arg) (made : Result Command E) → x.global ≡ false → IfOk made (λ n. AddsArg old x n) → (out-Command old).has_globals ≡ false
    → IfOk made (λ c. (out-Command c).has_globals ≡ false)
still_local old x (Ok n) here added is = added.globals ∙ ap₂ (λ p q. p || q) is here
still_local old x (Err e) here added is = tt

pub command_added : {E : Type 0} (old sub : Command) (made : Result Command E) (a b : App) → IfOk made (λ n. AddsSubcommand old sub n) → app_of old ≡ a → app_of sub ≡ b → (out-Command sub).has_globals ≡ false
    → IfOk made (λ c. app_of c ≡ with_subcommand a b.top)
command_added old sub (Ok n) a b added is below here = added.shape here ∙ ap₂ with_subcommand is (ap (λ (y : App). y.top) below)
command_added old sub (Err e) a b added is below here = tt

pub both_local : {E : Type 0} (old sub : Command) (made : Result Command E) → IfOk made (λ n. AddsSubcommand old sub n) → (out-Command old).has_globals ≡ false → (out-Command sub).has_globals ≡ false
    → IfOk made (λ c. (out-Command c).has_globals ≡ false)
both_local old sub (Ok n) added is here = added.globals ∙ ap₂ (λ p q. p || q) is here
both_local old sub (Err e) added is here = tt
