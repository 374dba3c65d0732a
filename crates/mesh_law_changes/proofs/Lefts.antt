-- What is left in doubt after some changes, and then more.
use Rattle.std.proofs.Common.{◌≡◌, Bool, true, false, not, ◌&&◌, ◌||◌, List, [], ◌∷◌, ◌++◌, refl, ◌∙◌, ap}
use Rattle.std.specs.List.{list_any}
use Rattle.mesh_base.specs.declared.forgets.Forget.{Forget}
use Rattle.mesh_house.specs.declared.world.Change.{Change}
use Rattle.mesh_spec_changes.specs.due.Parts.{Parts}
use Rattle.mesh_spec_promise.specs.Histories.{left, taken_by}

or_more : (a b c : Bool) → (a || (b || c)) ≡ ((a || b) || c)
or_more true b c = refl
or_more false b c = refl

any_appended : (p : Change → Bool) (made more : List Change) → list_any p (made ++ more) ≡ (list_any p made || list_any p more)
any_appended p [] more = refl
any_appended p (c ∷ cs) more = ap (λ (b : Bool). p c || b) (any_appended p cs more) ∙ or_more (p c) (list_any p cs) (list_any p more)

neither : (a b c : Bool) → (a && not (b || c)) ≡ ((a && not b) && not c)
neither true true c = refl
neither true false c = refl
neither false b c = refl

pub left_appended : (made more : List Change) (x : Parts) (q : Forget) → left (made ++ more) x q ≡ left more (left made x) q
left_appended made more x q =
    ap (λ (b : Bool). x q && not b) (any_appended (λ c. taken_by c q) made more)
    ∙ neither (x q) (list_any (λ c. taken_by c q) made) (list_any (λ c. taken_by c q) more)
