use Rattle.std.proofs.Common.{◌≡◌, List, [], ◌+◌, drop, map, Ok, Err, sym, ◌∙◌, ap, arith}
use Rattle.std.proofs.Math.ListN.{drop_of_length-le}
use Rattle.mesh_audit_files.specs.Files.{IsFileAdded}
use Rattle.mesh_audit_files.specs.Listing.{plain}
use Rattle.mesh_audit_files.proofs.Walking.{ends, goes_on, next_of, stops}
use Rattle.mesh_audit_files.proofs.sets.files_at.Goals as goal

pub returns-in-Err : goal.returns-in-Err
returns-in-Err g c =
    let i = c.loop-path.path-index in
    let paths = c.args.paths.now in
    let all = map plain c.args.all.now in
    let v = c.loop-path.invariant in
    let q = c.in-Err.ensures in
    let f = q.faults in
    let b = v.faults in
    record {
      files = q.files ∙ v.files;
      faults = omega (f, b, arith);
      gives = λ fs e.
          stops (IsFileAdded fs c.args.dir.now c.args.known.now all) [] paths c.loop-path.done c.path-item.result (drop i paths) (drop (i + 1) paths) c.in-Err.fault
          (next_of paths i c.path-item.result c.loop-path-test.true c.path-item.is) (v.rest fs e) (q.gives fs (v.files ∙ e));
      failed = λ h. let rose = q.failed h in omega (rose, b, arith);
    }

pub loop-path-preserved : goal.loop-path-preserved
loop-path-preserved g c =
    let i = c.loop-path.path-index in
    let paths = c.args.paths.now in
    let all = map plain c.args.all.now in
    let v = c.loop-path.invariant in
    let q = c.in-Ok.ensures in
    let f = q.faults in
    let b = v.faults in
    record {
      files = q.files ∙ v.files;
      faults = omega (f, b, arith);
      rest = λ fs e.
          goes_on (IsFileAdded fs c.args.dir.now c.args.known.now all) [] paths c.loop-path.done c.path-item.result (drop i paths) (drop (i + 1) paths) c.in-Ok.more
          (next_of paths i c.path-item.result c.loop-path-test.true c.path-item.is) (v.rest fs e) (q.gives fs (v.files ∙ e));
    }

pub returns : goal.returns
returns g c =
    let i = c.loop-path.path-index in
    let paths = c.args.paths.now in
    let all = map plain c.args.all.now in
    let v = c.loop-path.invariant in
    record {
      files = v.files;
      faults = v.faults;
      gives = λ fs e. ends (IsFileAdded fs c.args.dir.now c.args.known.now all) [] paths c.loop-path.done (drop i paths) (drop_of_length-le paths (omega arith)) (v.rest fs e);
      failed = λ h. absurd (cc h);
    }
