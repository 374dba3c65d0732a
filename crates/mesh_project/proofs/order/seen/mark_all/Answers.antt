use Rattle.std.proofs.Common.{List, ℕ, take, sym, subst, ◌∙◌}
use Rattle.std.specs.Prelude.{slice_index}
use Rattle.std.proofs.lemmas.List.{take_more}
use Rattle.mesh_project.specs.order.Seen.{IsGrown}
use Rattle.mesh_project.proofs.order.Walking.{grown_more}
use Rattle.mesh_project.proofs.order.seen.mark_all.Goals as goal

pub loop-at-preserved : goal.loop-at-preserved
loop-at-preserved c =
    let before = c.args.seen.now.list.items in
    let places = c.args.places.now in
    let i = c.loop-at.at-index in
    record {
      marks = c.in_ok-mark.ensures.marks;
      grown = subst (λ (l : List ℕ). IsGrown before c.mark.new.seen.list.items l) (sym (take_more places i 0 c.loop-at-test.true))
          (grown_more before c.loop-at.seen.list.items c.mark.new.seen.list.items (take i places) (slice_index places i) c.loop-at.invariant.grown c.in_ok-mark.ensures.grown);
      as_many = c.in_ok-mark.ensures.as_many ∙ c.loop-at.invariant.as_many;
    }
