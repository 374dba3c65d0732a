use Rattle.std.proofs.Common.{[], arith}
use Rattle.std.proofs.lemmas.Result.{err_from_is_err_and}
use Rattle.mesh_model_csv.specs.external.Externals.{declare_all}
use Rattle.mesh_model_csv.proofs.external.DeclareSteps.{record_read, record_refused, all_read}
use Rattle.mesh_model_csv.proofs.external.read.declare_all.Goals as goal

pub returns-in_err-sources : goal.returns-in_err-sources
returns-in_err-sources c =
    let p = err_from_is_err_and c.from_residual.result c.from_residual.ensures.1 in
    rw (p.1, p.2) (record_refused c.in_err-sources.field-0.0 c.args.records.now c.loop-i.i c.index-records-i.result c.loop-i.sources (declare_all 2 [] c.args.records.now)
    c.loop-i-test.true c.index-records-i.is c.in_err-sources.ensures c.loop-i.invariant)

pub loop-i-preserved : goal.loop-i-preserved
loop-i-preserved c =
    record_read c.args.records.now c.loop-i.i c.index-records-i.result c.loop-i.sources c.in_ok-sources.sources (declare_all 2 [] c.args.records.now)
    c.loop-i-test.true c.index-records-i.is c.in_ok-sources.ensures c.loop-i.invariant

pub returns : goal.returns
returns c = all_read c.args.records.now c.loop-i.i c.loop-i.sources (declare_all 2 [] c.args.records.now) (omega arith) c.loop-i.invariant
