use Rattle.std.proofs.Common.{◌≡◌, ◌++◌, List, sym, ap, ◌∙◌}
use Rattle.mesh_house.specs.declared.world.Change.{Change}
use Rattle.mesh_exec_works.specs.Plain.{work_model}
use Rattle.mesh_exec.specs.Fills.{fillings, zipped}
use Rattle.mesh_exec.proofs.Fronting.{on_ok, zipped_fills}
use Rattle.mesh_exec.proofs.fronts.push_fills.Goals as goal

pub returns-then-is_computed : goal.returns-then-is_computed
returns-then-is_computed c tables rows_are =
    let cut = c.args.cut.now in
    let m = work_model cut.work in
    let old = c.args.changes.now in
    on_ok (c.push_zipped.new.changes ≡ old ++ zipped m c.as_slice.result.now c.args.rows.now) (c.push_zipped.new.changes ≡ old ++ fillings m tables cut.work.dues.now) c.push_zipped.result
    (λ is. is ∙ ap (λ (l : List Change). old ++ l) (ap (λ rs. zipped m rs c.args.rows.now) c.as_slice.ensures ∙ zipped_fills cut c.requires.cut tables c.args.rows.now c.requires.fit (sym c.is_computed.ensures ∙ c.if-is_computed.true) rows_are))
    c.push_zipped.ensures
