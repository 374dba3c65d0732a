use Rattle.std.proofs.Common.{◌∙◌, ap, map}
use Rattle.mesh_layer.proofs.Finding.{and_then, answers, part_fails, stays, told_later}
use Rattle.mesh_spec_model.specs.Sources.{declared}
use Rattle.mesh_exec_works.proofs.Pools.{all_there, none_there}
use Rattle.mesh_exec_works.specs.Plain.{model_of}
use Rattle.mesh_exec_works.proofs.fronts.tables_now.Goals as goal

pub returns-in-None : goal.returns-in-None
returns-in-None g c =
    let found = c.in_ok-tables.ensures in
    answers _ _ _ _ _ _ found.untouched (λ w told plain. none_there w (model_of c.args.node.now c.args.entry.now) c.args.parents.now c.in_ok-tables.tables (found.ok w told plain) c.in-None.is)

pub returns-in_ok-append-in-Some : goal.returns-in_ok-append-in-Some
returns-in_ok-append-in-Some g c =
    let found = c.in_ok-tables.ensures in
    let read = c.in_ok-read-in-Some.ensures in
    answers _ _ _ _ _ _ (and_then _ _ _ found.untouched read.untouched) (λ w told plain.
    all_there w (model_of c.args.node.now c.args.entry.now) c.args.parents.now c.in_ok-tables.tables c.in-Some.tables c.in_ok-read-in-Some.read c.append.new.self (found.ok w told plain) c.in-Some.is
    (read.ok w (told_later _ _ w found.untouched told) plain ∙ ap (map (declared w.sources)) c.as_slice.ensures) c.in_ok-append-in-Some.ensures)

pub returns-in_err-tables : goal.returns-in_err-tables
returns-in_err-tables g c =
    part_fails _ _ _ _ _ _ _ _ _ c.in_err-tables.field-0.0 c.from_residual.result (stays _) c.in_err-tables.ensures c.from_residual.ensures.1
    (λ w told plain. (plain, λ o is. is))

pub returns-in_err-read-in-Some : goal.returns-in_err-read-in-Some
returns-in_err-read-in-Some g c =
    part_fails _ _ _ _ _ _ _ _ _ c.in_err-read-in-Some.field-0.0 c.from_residual-in_err-read-in-Some.result c.in_ok-tables.ensures.untouched c.in_err-read-in-Some.ensures c.from_residual-in_err-read-in-Some.ensures.1
    (λ w told plain. (plain, λ o is. is))
