use Rattle.std.proofs.Common.{◌≡◌, true, ◌++◌, drop}
use Rattle.mesh_time.specs.Ranges.{is_apart}
use Rattle.mesh_time.specs.Edits.{rises, spans_without_each}
use Rattle.mesh_time.proofs.cuts.cut_all.Given as goal

abbrev pub invariant-loop-span : goal.invariant-loop-span
invariant-loop-span l = record {
  made : l.made ++ spans_without_each l.rest (drop l.span-index l.spans) ≡ spans_without_each l.gone l.spans;
  order : rises l.rest ≡ true;
  apart : is_apart (drop l.span-index l.spans) ≡ true;
}
