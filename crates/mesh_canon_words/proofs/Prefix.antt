-- What stands behind a word.
use Rattle.std.proofs.Common.{◌≡◌, ◌≢◌, ℕ, Bool, true, false, cond, ◌==◌, List, [], ◌∷◌, ◌++◌, Option, Some, None, refl, sym, ap, ◌∙◌, Bor}
use Rattle.std.specs.Prelude.{MatchOption}
use Rattle.std.proofs.lemmas.Bool.{eq-eqb, eqb-true}
use Rattle.mesh_canon_words.specs.Words.{after}

pub after_again : (word rest : List ℕ) → after word (word ++ rest) ≡ Some rest
unfolding after
after_again [] rest = refl
after_again (w ∷ word) rest = rw (eq-eqb w w refl) (after_again word rest)

some_is : (x y : List ℕ) → ◌≡◌ {A = Option (List ℕ)} (Some x) (Some y) → x ≡ y
some_is x y e = cc

none_is_not : (x : List ℕ) → ◌≡◌ {A = Option (List ℕ)} None (Some x) → ⊥
none_is_not x e = cc

behind_by : (b : Bool) (w v : ℕ) (word bytes rest : List ℕ) → (w == v) ≡ b → (after word bytes ≡ Some rest → bytes ≡ word ++ rest) → cond b (after word bytes) None ≡ Some rest → v ∷ bytes ≡ (w ∷ word) ++ rest
behind_by true w v word bytes rest t f e = let same = eqb-true w v t in λ i. sym same i ∷ f e i
behind_by false w v word bytes rest t f e = absurd (none_is_not rest e)

pub after_takes : (word bytes rest : List ℕ) → after word bytes ≡ Some rest → bytes ≡ word ++ rest
unfolding after
after_takes [] bytes rest e = some_is bytes rest e
after_takes (w ∷ word) [] rest e = absurd (none_is_not rest e)
after_takes (w ∷ word) (v ∷ bytes) rest e = behind_by (w == v) w v word bytes rest refl (after_takes word bytes rest) e

absent_by : (word bytes : List ℕ) (o : Option (List ℕ)) → after word bytes ≡ o → ((rest : List ℕ) → bytes ≢ word ++ rest) → after word bytes ≡ None
absent_by word bytes None e h = e
absent_by word bytes (Some rest) e h = absurd (h rest (after_takes word bytes rest e))

pub stripped : (word bytes : List ℕ) (r : Option (Bor (List ℕ))) → MatchOption r ((rest : List ℕ) → bytes ≢ word ++ rest) (λ x. bytes ≡ word ++ x.now) → MatchOption r (after word bytes ≡ None) (λ x. after word bytes ≡ Some x.now)
stripped word bytes None h = absent_by word bytes (after word bytes) refl h
stripped word bytes (Some x) h = ap (after word) h ∙ after_again word x.now
