use Rattle.std.proofs.Common.{arith, refl, sym, ◌∙◌}
use Rattle.mesh_query_tokens.specs.Pieces.{note_len}
use Rattle.mesh_query_tokens.proofs.Steps.{note_closes, note_ends, note_goes_on}
use Rattle.mesh_query_tokens.proofs.lengths.note_len.Goals as goal

pub returns-then-at-bytes-clause-value : goal.returns-then-at-bytes-clause-value
returns-then-at-bytes-clause-value c = note_ends c.args.bytes.now c.loop-at.at (note_len c.args.bytes.now) c.if-at-bytes.true c.loop-at.invariant.so_far

pub returns-then-closes_note-clause-value : goal.returns-then-closes_note-clause-value
returns-then-closes_note-clause-value c = note_closes c.args.bytes.now c.loop-at.at _ _ (note_len c.args.bytes.now) (omega arith) refl refl (sym c.closes_note.ensures ∙ c.if-closes_note.true) c.loop-at.invariant.so_far

pub loop-at-preserved : goal.loop-at-preserved
loop-at-preserved c = record {
  so_far = note_goes_on c.args.bytes.now c.loop-at.at _ _ (note_len c.args.bytes.now) (omega arith) refl refl (sym c.closes_note.ensures ∙ c.if-closes_note.false) c.loop-at.invariant.so_far;
  within = omega arith;
}
