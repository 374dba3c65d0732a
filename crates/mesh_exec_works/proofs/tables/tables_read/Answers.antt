use Rattle.std.proofs.Common.{◌≡◌, List, Some, None, ◌++◌, map, sym, ap, ◌∙◌}
use Rattle.mesh_base.specs.declared.jobs.Input.{Input}
use Rattle.mesh_spec_model.specs.Sources.{declared}
use Rattle.mesh_layer.proofs.Finding.{and_then, answers, part_fails, stays, told_later}
use Rattle.mesh_exec_works.proofs.Parents.{lost_are, read_all}
use Rattle.mesh_exec_works.specs.Plain.{model_of, parents_at, plain_models, work_model}
use Rattle.mesh_exec_works.proofs.tables.tables_read.Goals as goal

pub returns-in_err-read : goal.returns-in_err-read
returns-in_err-read g c =
    part_fails _ _ _ _ _ _ _ _ _ c.in_err-read.field-0.0 c.from_residual-in_err-read.result (stays _) c.in_err-read.ensures c.from_residual-in_err-read.ensures.1
    (λ w told plain. (plain, λ o is. absurd (let no : None ≡ Some o = is in cc)))

pub returns-in_err-tables : goal.returns-in_err-tables
returns-in_err-tables g c =
    let all = plain_models c.args.nodes.now c.args.entries.now in
    let ks : map work_model c.as_slice-3.result.now ≡ parents_at all c.args.node.now.parents = ap (map work_model) c.as_slice-3.ensures ∙ c.in_ok-parents.ensures ∙ ap (parents_at all) c.as_slice.ensures in
    part_fails _ _ _ _ _ _ _ _ _ c.in_err-tables.field-0.0 c.from_residual-in_err-tables.result c.in_ok-read.ensures.untouched c.in_err-tables.ensures c.from_residual-in_err-tables.ensures.1
    (λ w told plain. (plain, λ o is. sym (lost_are w _ _ ks) ∙ is))

pub returns : goal.returns
returns g c =
    let all = plain_models c.args.nodes.now c.args.entries.now in
    let ks : map work_model c.as_slice-3.result.now ≡ parents_at all c.args.node.now.parents = ap (map work_model) c.as_slice-3.ensures ∙ c.in_ok-parents.ensures ∙ ap (parents_at all) c.as_slice.ensures in
    let read = c.in_ok-read.ensures in
    let tables = c.in_ok-tables.ensures in
    answers _ _ _ _ _ _ (and_then _ _ _ read.untouched tables.untouched) (λ w told plain.
    let front = read.ok w told plain in
    let back = tables.ok w (told_later _ _ w read.untouched told) plain in
    let joined : c.append.new.self ≡ c.in_ok-read.read ++ c.in_ok-tables.tables = c.in_ok-append.ensures in
    read_all w all (model_of c.args.node.now c.args.entry.now) _ c.in_ok-tables.tables ks back
    ∙ ap Some (sym (joined ∙ ap (λ (l : List Input). l ++ c.in_ok-tables.tables) (front ∙ ap (map (declared w.sources)) c.as_slice-2.ensures))))
