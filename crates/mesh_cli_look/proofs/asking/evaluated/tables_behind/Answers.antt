use Rattle.std.proofs.Common.{◌≡◌, List, Some, ◌++◌, map, sym, ap, ◌∙◌}
use Rattle.std.specs.Option.{option_map}
use Rattle.mesh_base_values.specs.declared.values.Name.{Name}
use Rattle.mesh_base.specs.declared.jobs.Input.{Input}
use Rattle.mesh_base.specs.Keys.{ref_name}
use Rattle.mesh_spec_model.specs.Sources.{declared, inputs}
use Rattle.mesh_spec_changes.specs.shown.Shown.{each_there}
use Rattle.mesh_layer.specs.Asked.{lost_model, view_table}
use Rattle.mesh_layer.specs.Lost.{first_of}
use Rattle.mesh_layer.proofs.Finding.{and_then, answers, part_fails, told_later}
use Rattle.mesh_cli_look.specs.asking.Evaluated.{parents_of}
use Rattle.mesh_cli_look.proofs.asking.evaluated.tables_behind.Goals as goal

pub returns-in_err-tables : goal.returns-in_err-tables
returns-in_err-tables g c =
    let names : c.as_slice-3.result.now ≡ parents_of c.args.s.now = c.as_slice-3.ensures ∙ c.in_ok-models.ensures ∙ ap (map ref_name) c.as_slice.ensures in
    part_fails _ _ _ _ _ _ _ _ _ c.in_err-tables.field-0.0 c.from_residual-in_err-tables.result c.in_ok-read.ensures.untouched c.in_err-tables.ensures c.from_residual-in_err-tables.ensures.1
    (λ w told plain. (plain, λ o is. sym (ap (λ (l : List Name). first_of (map (lost_model c.args.env.now w) l)) names) ∙ is))

pub returns : goal.returns
returns g c =
    let names : c.as_slice-3.result.now ≡ parents_of c.args.s.now = c.as_slice-3.ensures ∙ c.in_ok-models.ensures ∙ ap (map ref_name) c.as_slice.ensures in
    let read = c.in_ok-read.ensures in
    let tables = c.in_ok-tables.ensures in
    answers _ _ _ _ _ _ (and_then _ _ _ read.untouched tables.untouched) (λ w told plain.
    let front = read.ok w told plain in
    let back = tables.ok w (told_later _ _ w read.untouched told) plain in
    let joined : c.append.new.self ≡ c.in_ok-read.read ++ c.in_ok-tables.tables = c.in_ok-append.ensures in
    ap (option_map (inputs w.sources c.args.s.now.own)) (sym (ap (λ (l : List Name). each_there (map (view_table c.args.env.now w) l)) names) ∙ back)
    ∙ ap Some (sym (joined ∙ ap (λ (l : List Input). l ++ c.in_ok-tables.tables) (front ∙ ap (map (declared w.sources)) c.as_slice-2.ensures))))
