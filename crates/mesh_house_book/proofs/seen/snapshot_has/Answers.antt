use Rattle.std.proofs.Common.{sym, ◌∙◌, ap}
use Rattle.std.specs.declared.option.Option.{Option}
use Rattle.std.specs.Option.{option_copied}
use Rattle.mesh_base.specs.declared.snapshots.Snapshot.{Snapshot}
use Rattle.mesh_base.specs.rules.Seen.{has_column}
use Rattle.mesh_house_book.specs.WellFormed.{columns_at}
use Rattle.mesh_house_book.proofs.seen.snapshot_has.Goals as goal

pub returns-in-Some : goal.returns-in-Some
returns-in-Some c = c.own_has.ensures ∙ ap (λ (o : Option Snapshot). has_column (columns_at o) c.args.column.now) (sym (ap option_copied c.in-Some.is) ∙ c.find.ensures)

pub returns-in-None : goal.returns-in-None
returns-in-None c = ap (λ (o : Option Snapshot). has_column (columns_at o) c.args.column.now) (sym (ap option_copied c.in-None.is) ∙ c.find.ensures)
