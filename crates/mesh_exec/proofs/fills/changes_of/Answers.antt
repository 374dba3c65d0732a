use Rattle.std.proofs.Common.{◌≡◌, List, [], ◌∙◌}
use Rattle.mesh_base_values.proofs.Tests.{both_parts as is_both}
use Rattle.mesh_base.specs.declared.jobs.Input.{Input}
use Rattle.mesh_house.specs.declared.world.Change.{Change}
use Rattle.mesh_spec_changes.specs.Changes.{ascending}
use Rattle.mesh_exec_works.specs.Plain.{model_of}
use Rattle.mesh_exec_works.specs.Works.{seed_rows}
use Rattle.mesh_exec.proofs.Filling.{ok_more, seed_fills, view_fills}
use Rattle.mesh_exec.specs.Fills.{each_with, fillings}
use Rattle.mesh_exec.proofs.fills.changes_of.Goals as goal

pub returns-in-View : goal.returns-in-View
returns-in-View c =
    let n = c.args.node.now in
    let e = c.args.entry.now in
    let dues = c.args.dues.now in
    ok_more (λ (changes : List Change). changes ≡ each_with (model_of n e) dues []) (λ (changes : List Change). (tables : List Input) → changes ≡ fillings (model_of n e) tables dues) c.viewed.result
    (λ changes is tables. is ∙ view_fills n e tables dues [] c.in-View.is) c.viewed.ensures

pub returns-in-Seed : goal.returns-in-Seed
returns-in-Seed c =
    let n = c.args.node.now in
    let e = c.args.entry.now in
    let dues = c.args.dues.now in
    ok_more (λ (changes : List Change). changes ≡ each_with (model_of n e) dues (ascending (seed_rows n.own.defn))) (λ (changes : List Change). (tables : List Input) → changes ≡ fillings (model_of n e) tables dues) c.seeded.result
    (λ changes is tables. is ∙ seed_fills n e tables dues c.in-Seed.is (is_both _ _ c.requires.fit).0) c.seeded.ensures
