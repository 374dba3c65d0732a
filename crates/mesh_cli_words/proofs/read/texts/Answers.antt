use Rattle.std.proofs.Common.{◌∙◌, ap, sym, subst, arith, map, IsUtf8}
use Rattle.std.proofs.lemmas.List.{take_all}
use Rattle.mesh_cli_words.proofs.Below.{one_more, one_more_value}
use Rattle.mesh_cli_words.proofs.read.texts.Goals as goal

pub returns-in-None : goal.returns-in-None
returns-in-None c all = c.in-None.ensures (subst IsUtf8 (sym c.word-item.is) (all c.loop-word.word-index _ c.loop-word-test.true))

pub loop-word-preserved : goal.loop-word-preserved
loop-word-preserved c = (
  one_more IsUtf8 c.args.words.now c.loop-word.word-index _ c.loop-word-test.true c.loop-word.invariant.0 (subst IsUtf8 c.word-item.is c.in-Some.ensures.0),
  ap (map (λ s. s.now)) c.in_ok-push-in-Some.ensures.items
      ∙ one_more_value (λ s. s.now) _ c.args.words.now c.loop-word.word-index c.in-Some.text _ c.loop-word-test.true c.loop-word.invariant.1 (c.in-Some.ensures.1 ∙ c.word-item.is),
)

pub returns : goal.returns
returns c = (
  λ k d h. c.loop-word.invariant.0 k d (omega (arith, h, c.loop-word-test.false)),
  c.loop-word.invariant.1 ∙ take_all c.loop-word.word-index c.args.words.now c.loop-word-test.false,
)
