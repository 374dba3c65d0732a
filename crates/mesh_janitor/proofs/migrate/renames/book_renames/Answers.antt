use Rattle.std.proofs.Common.{List, ap, subst, sym, ◌∙◌}
use Rattle.mesh_base.specs.declared.forgets.Rename.{Rename}
use Rattle.mesh_janitor.specs.migrate.Migration.{TellsTwins}
use Rattle.mesh_janitor.specs.migrate.Walk.{near_twins}
use Rattle.mesh_janitor.proofs.migrate.Near.{none_at_all, tells_the_first}
use Rattle.mesh_janitor.proofs.migrate.renames.book_renames.Goals as goal

pub returns-in-Ok-without_twins-clause-apart : goal.returns-in-Ok-without_twins-clause-apart
returns-in-Ok-without_twins-clause-apart c =
    none_at_all c.args.b.now c.in-Ok.renames c.requires c.in-Ok.ensures (ap near_twins (sym c.as_slice.ensures) ∙ c.in-Ok-without_twins.ensures.ok)

pub returns-in-Err-without_twins-clause-refused : goal.returns-in-Err-without_twins-clause-refused
returns-in-Err-without_twins-clause-refused c =
    tells_the_first c.args.b.now c.in-Ok.renames c.in-Err-without_twins.fault c.requires c.in-Ok.ensures
    (subst (λ (all : List Rename). TellsTwins (near_twins all) c.in-Err-without_twins.fault) c.as_slice.ensures c.in-Err-without_twins.ensures.err)
