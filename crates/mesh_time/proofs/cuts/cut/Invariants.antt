use Rattle.std.proofs.Common.{◌≡◌, true, List, ◌++◌, drop}
use Rattle.mesh_base_values.specs.declared.times.Bounds.{Bounds}
use Rattle.mesh_time.specs.Ranges.{is_apart_after}
use Rattle.mesh_time.specs.Edits.{filled, rises, spans_without_each}
use Rattle.mesh_time.proofs.cuts.cut.Given as goal

abbrev pub invariant-loop-i : goal.invariant-loop-i
invariant-loop-i l = record {
  made : l.made ++ spans_without_each (drop l.i l.gone) (filled l.low l.span.end) ≡ l.initial.made ++ spans_without_each l.gone (filled l.span.start l.span.end);
  rest : (later : List Bounds) → is_apart_after l.span.end later ≡ true → spans_without_each (drop l.i l.gone) later ≡ spans_without_each l.gone later;
  order : rises (drop l.i l.gone) ≡ true;
}
