use Rattle.std.proofs.Common.{◌≡◌, sym, ◌∙◌, ap, w64, true, false, refl, ◌∷◌, [], ◌++◌, ℤ, arith, to_z, of_z}
use Rattle.std.specs.Prelude.{FitsSigned}
use Rattle.std.specs.declared.option.Option.{Option}
use Rattle.std.specs.Int.Signed.{lt_z, le_z}
use Rattle.std.proofs.lemmas.Int.{ints}
use Rattle.mesh_base_values.specs.declared.values.Name.{Name}
use Rattle.mesh_base.specs.declared.forgets.Forget.TheVariants.{Range}
use Rattle.mesh_house_book.specs.declared.moves.forgets.Held.{Held}
use Rattle.mesh_house_book.specs.moves.Held.{changed, forgotten, settled, without_spans}
use Rattle.mesh_house_book.proofs.moves.Changed.{holds_more}
use Rattle.mesh_house_book.proofs.moves.forgets.hold.Goals as goal

whole : (a : ℤ) → FitsSigned w64 a → to_z w64 (of_z w64 a) ≡ a
whole a f = omega (arith, ints)

below : (a b : ℤ) → FitsSigned w64 a → FitsSigned w64 b → le_z (to_z w64 (of_z w64 b)) (to_z w64 (of_z w64 a)) ≡ false → lt_z a b ≡ true
below a b fa fb h = grind (arith, ints)

pub returns-in_ok-push-in-Some : goal.returns-in_ok-push-in-Some
returns-in_ok-push-in-Some c =
    let same = c.if-same.ensures.0 refl in
    let vs = c.args.versions.now in
    let more = c.in-Some.more in
    (λ i. changed more.object (without_spans (c.in_ok-push-in-Some.ensures.ok i)) vs)
    ∙ (λ i. changed more.object (without_spans (more.spans ++ record { start = whole c.args.start c.ranges.start i; end = whole c.args.end c.ranges.end i } ∷ [])) vs)
    ∙ holds_more more.object more.spans c.args.start c.args.end vs (below c.args.start c.args.end c.ranges.start c.ranges.end c.if-start-end.false)
    ∙ ap (λ (n : Name). forgotten (changed more.object (without_spans more.spans) vs) (Range n c.args.start c.args.end)) same
    ∙ ap (λ (o : Option Held). forgotten (settled o vs) (Range c.args.object.now c.args.start c.args.end)) (sym c.in-Some.is)
