use Rattle.std.proofs.Common.{◌≡◌, drop, None}
use Rattle.std.specs.Option.{option_copied}
use Rattle.mesh_base_values.specs.Names.{name_cmp}
use Rattle.mesh_house_book.specs.Changes.{version_object}
use Rattle.mesh_house_book.specs.WellFormed.{breach_from, is_above}
use Rattle.mesh_house_book.proofs.fault.versions_breach.Given as goal

abbrev pub invariant-loop-i : goal.invariant-loop-i
invariant-loop-i l = breach_from (is_above name_cmp version_object) (option_copied l.before) l.i (drop l.i l.version-items) ≡ breach_from (is_above name_cmp version_object) None 0 l.versions
