-- The rule of an argument, and what a command is, after a setting of it was changed.
use Rattle.std.proofs.Common.{◌≡◌, ◌∙◌, true, Some, ap}
use Rattle.std.specs.Borrow.{Bor}
use Rattle.clap.specs.Walk.{Rule, Text, rule_of}
use Rattle.clap.specs.Simple.{App, Shape, app_of, app_of_fields, on_top}
use Rattle.clap.specs.declared.builder.action.ArgAction.{ArgAction}
use Rattle.clap.specs.declared.builder.arg.Arg.{Arg}
use Rattle.clap.specs.declared.builder.command.Command.{Command}
use Rattle.clap.specs.declared.builder.command.Command.TheViews.{out-Command}
use Rattle.clap.specs.declared.builder.command.Command.TheOpen.{Command-F}
use Rattle.clap.specs.declared.builder.value_parser.ValueParser.{ValueParser}

pub long_rule : (a b : Arg) (name : Bor Text) (r : Rule) → b ≡ record a { long = Some name } → rule_of a ≡ r → rule_of b ≡ record r { long = Some name.now }
long_rule a b name r is rule = ap rule_of is ∙ ap (λ (x : Rule). record x { long = Some name.now }) rule

pub action_rule : (a b : Arg) (action : ArgAction) (r : Rule) → b ≡ record a { action = Some action } → rule_of a ≡ r → rule_of b ≡ record r { action = Some action }
action_rule a b action r is rule = ap rule_of is ∙ ap (λ (x : Rule). record x { action = Some action }) rule

pub parser_rule : (a b : Arg) (parser : ValueParser) (r : Rule) → b ≡ record a { value_parser = b.value_parser } → b.value_parser ≡ Some parser → rule_of a ≡ r → rule_of b ≡ record r { parser = Some parser }
parser_rule a b parser r is given rule = ap rule_of is ∙ (ap (λ p. rule_of (record a { value_parser = p })) given ∙ ap (λ (x : Rule). record x { parser = Some parser }) rule)

pub required_rule : (a b : Arg) (r : Rule) → b ≡ record a { required = true } → rule_of a ≡ r → rule_of b ≡ record r { required = true }
required_rule a b r is rule = ap rule_of is ∙ ap (λ (x : Rule). record x { required = true }) rule

-- a command's fields after a setting of it was changed, as a function on them and on what is read of it
pub set_app : (f : Command-F Command → Command-F Command) (g : Shape → Shape) → ((c : Command-F Command) → app_of_fields (f c) ≡ on_top g (app_of_fields c)) → (old new : Command) (a : App)
    → out-Command new ≡ f (out-Command old) → app_of old ≡ a → app_of new ≡ on_top g a
set_app f g h old new a is app = ap app_of_fields is ∙ (h (out-Command old) ∙ ap (on_top g) app)
