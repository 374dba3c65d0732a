use Rattle.std.proofs.Common.{◌≡◌, drop, None}
use Rattle.std.specs.Option.{option_copied}
use Rattle.mesh_house_book.specs.WellFormed.{breach_from, is_env_fit}
use Rattle.mesh_house_book.proofs.fault.envs_breach.Given as goal

abbrev pub invariant-loop-i : goal.invariant-loop-i
invariant-loop-i l = breach_from (is_env_fit l.all) (option_copied l.before) l.i (drop l.i l.env-items) ≡ breach_from (is_env_fit l.all) None 0 l.envs
