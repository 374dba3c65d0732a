use Rattle.std.proofs.Common.{◌≡◌, ◌++◌, ◌∷◌, [], length, length-append, sym, ap, ◌∙◌, subst, refl, arith}
use Rattle.mesh_exec.specs.Cuts.{AreCuts, count_runs}
use Rattle.mesh_exec.specs.declared.ready.Cut.{Cut}
use Rattle.mesh_exec.proofs.Fronting.{count_more, cuts_more, first_more}
use Rattle.mesh_exec.specs.Cuts.{work_of}
use Rattle.std.proofs.Common.{map}
use Rattle.mesh_exec.proofs.ready.ready_of.Goals as goal

pub loop-work-preserved : goal.loop-work-preserved
loop-work-preserved c =
    let so_far = c.loop-work.invariant in
    let made = c.loop-work.made in
    let cut : Cut = record { work = c.work-item.result; runs = c.in_ok-runs.runs } in
    let is : c.push.new.self ≡ made ++ cut ∷ [] = c.in_ok-push.ensures.ok in
    record {
      first = ap (map work_of) is ∙ first_more c.args.works.now c.loop-work.work-index c.work-item.result made cut c.loop-work-test.true c.work-item.is so_far.first refl;
      many = omega (arith, ap length is, length-append made (cut ∷ []), so_far.many);
      each = subst AreCuts (sym is) (cuts_more made cut so_far.each c.in_ok-runs.ensures);
      models = omega (arith, ap length is, length-append made (cut ∷ []), c.if-len-most.false, c.len.ensures);
      count = omega (arith, ap count_runs is, count_more made cut, so_far.count, c.len-count.ensures);
      runs = omega (arith, c.if-len-count.false, c.len-count.ensures, c.len-in-loop-work.ensures, so_far.runs);
    }
