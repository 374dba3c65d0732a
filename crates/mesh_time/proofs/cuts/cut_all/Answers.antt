use Rattle.std.proofs.Common.{subst, ◌≤◌, List, length, pos}
use Rattle.mesh_base_values.specs.declared.times.Bounds.{Bounds}
use Rattle.mesh_time.proofs.Without.{all_cut, rest_apart, span_cut}
use Rattle.mesh_time.proofs.cuts.cut_all.Goals as goal

abbrev none : Bounds
none = record { start = pos 0; end = pos 0 }

pub loop-span-preserved : goal.loop-span-preserved
loop-span-preserved c = record {
  made = span_cut c.loop-span.made c.cut.new.made c.args.gone.now c.loop-span.rest.now c.in_ok-rest.rest.now c.args.spans.now c.as_slice-span-items.result.now c.loop-span.span-index none c.as_slice-span-items.ensures c.loop-span-test.true c.loop-span.invariant.apart c.loop-span.invariant.made c.in_ok-rest.ensures.made c.in_ok-rest.ensures.rest;
  order = c.in_ok-rest.ensures.order;
  apart = rest_apart c.loop-span.made c.cut.new.made c.args.gone.now c.loop-span.rest.now c.in_ok-rest.rest.now c.args.spans.now c.as_slice-span-items.result.now c.loop-span.span-index none c.as_slice-span-items.ensures c.loop-span-test.true c.loop-span.invariant.apart;
}

pub returns : goal.returns
returns c = all_cut c.loop-span.made c.args.gone.now c.loop-span.rest.now c.args.spans.now c.loop-span.span-index c.loop-span.invariant.made (subst (λ (l : List Bounds). length l ≤ c.loop-span.span-index) c.as_slice-span-items.ensures c.loop-span-test.false)
