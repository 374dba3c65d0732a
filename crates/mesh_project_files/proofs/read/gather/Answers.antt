use Rattle.std.proofs.Common.{◌≡◌, drop, ◌+◌, sym, ◌∙◌, subst, arith}
use Rattle.std.specs.List.{All}
use Rattle.mesh_project_files.specs.Kept.{IsReadFile}
use Rattle.mesh_project_files.specs.Project.{with_file}
use Rattle.mesh_project_files.proofs.Gathering.{next_path, gather_more, gather_wanting}
use Rattle.mesh_project_files.proofs.Kept.{all_kept}
use Rattle.mesh_project_files.proofs.Reading.{Goes}
use Rattle.mesh_project_files.proofs.read.gather.Goals as goal

pub returns-in_err-add-clause-says : goal.returns-in_err-add-clause-says
returns-in_err-add-clause-says g c =
    let i = c.loop-path.path-index in
    let path = c.path-item.result in
    let all = c.args.paths.now in
    let v = c.loop-path.invariant in
    gather_wanting c.args.dir.now all (drop i all) _ _ c.loop-path.models v.files v.faults v.rest path (drop (i + 1) all) (next_path all i path c.loop-path-test.true c.path-item.is) _ c.from_residual-in_err-add.result c.in_ok-file.file c.in_ok-file.ensures.says
    c.from_residual-in_err-add.ensures.1

pub loop-path-preserved : goal.loop-path-preserved
loop-path-preserved g c =
    let i = c.loop-path.path-index in
    let path = c.path-item.result in
    let all = c.args.paths.now in
    let dir = c.args.dir.now in
    let models = c.loop-path.models in
    let file = c.in_ok-file.file in
    let v = c.loop-path.invariant in
    let read = c.in_ok-file.ensures.says in
    let added : c.add.new.models ≡ with_file models file = c.in_ok-add.ensures in
    let f = read.faults in
    let b = v.faults in
    record {
      files = read.files ∙ v.files;
      faults = omega (arith, f, b);
      kept = subst (λ l. All IsReadFile l) (sym added) (all_kept models file v.kept c.in_ok-file.ensures.kept);
      rest = λ fs e.
          subst (λ l. Goes fs dir all (drop (i + 1) all) l) (sym added)
          (gather_more fs dir all (drop i all) models path (drop (i + 1) all) file (next_path all i path c.loop-path-test.true c.path-item.is) (v.rest fs e) (read.gives fs (v.files ∙ e)));
    }
