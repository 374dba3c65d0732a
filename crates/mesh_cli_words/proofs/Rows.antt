-- Words that are taken and words that are refused, by computation.
use Rattle.std.proofs.Common.{◌≡◌, refl, codes, Some, [], ◌∷◌, option_map}
use Rattle.clap.specs.Walk.{first_of}
use Rattle.clap.specs.Simple.{subcommand_of}
use Rattle.clap.specs.Words.{fault_of}
use Rattle.clap.specs.declared.error.kind.ErrorKind.TheVariants as kind
use Rattle.clap.proofs.OnLiterals.{clap_on_literals}
use Rattle.mesh_cli_words.specs.Words.{mesh_app}

-- options stand in front of the command or behind it, with their values behind a sign or a blank
taken : fault_of mesh_app (codes "--paths" ∷ codes "d" ∷ codes "plan" ∷ codes "--workers=3" ∷ codes "dev" ∷ []) ≡ []
unfolding clap_on_literals
taken = refl

three : option_map (λ p. first_of (codes "workers") p.1) (subcommand_of mesh_app (codes "plan" ∷ codes "--workers=3" ∷ codes "dev" ∷ [])) ≡ Some (Some (codes "3"))
unfolding clap_on_literals
three = refl

-- an option stands once
twice : fault_of mesh_app (codes "plan" ∷ codes "--workers" ∷ codes "3" ∷ codes "--workers" ∷ codes "4" ∷ []) ≡ kind.ArgumentConflict ∷ []
unfolding clap_on_literals
twice = refl

-- its value isn't empty
empty_value : fault_of mesh_app (codes "--paths=" ∷ codes "plan" ∷ []) ≡ kind.InvalidValue ∷ []
unfolding clap_on_literals
empty_value = refl

-- no word is no command
unnamed : fault_of mesh_app [] ≡ kind.MissingSubcommand ∷ []
unfolding clap_on_literals
unnamed = refl
