use Rattle.std.proofs.Common.{sym, subst, Err}
use Rattle.mesh_cli_print.specs.declared.printed.refusals.Refusal.{Refusal}
use Rattle.mesh_cli_answer.specs.Present.{ReadsPresent}
use Rattle.mesh_cli_answer.proofs.Answering.{unread}
use Rattle.mesh_cli_answer.proofs.books.present_book.Goals as goal

pub returns-in-Err : goal.returns-in-Err
returns-in-Err g c = subst (λ (r : Refusal). ReadsPresent (g.W.Warehouse.told c.args.house.now) (g.W.Warehouse.told c.book.new.self) (Err r)) (sym c.as_refusal.ensures) (unread _ _ c.in-Err.fail c.in-Err.ensures)
