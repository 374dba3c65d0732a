-- The marks of a model by the bits of a row by numbers.
use Rattle.std.proofs.Common.{◌≡◌, ℕ, zero, suc, ◌+◌, ◌*◌, ◌/◌, ◌%◌, ◌-◌, ◌<◌, ◌≤◌, ◌⊎◌, inl, inr, ℤ, Bool, true, false, ◌&&◌, ◌||◌, cond, nat_eq, List, [], ◌∷◌, ◌++◌, map, take, length, get_or, refl, sym, ap, ◌∙◌, arith, append-nil, subst}
use Rattle.std.specs.Int.{bit_at}
use Rattle.std.specs.List.{filter, slice_get}
use Rattle.std.specs.declared.option.Option.TheVariants.{Some}
use Rattle.std.proofs.lemmas.Bool.{cases_lt}
use Rattle.std.proofs.lemmas.List.{map-append, take_all, take_more}
use Rattle.std.proofs.lemmas.List.Elements.{filter-append}
use Rattle.std.proofs.lemmas.Nat.Bits.{bit_at-zero}
use Rattle.std.proofs.lemmas.Option.{slice_get-get_or}
use Rattle.mesh_plan_due.specs.declared.marks.Spot.{Spot}
use Rattle.mesh_plan_due.specs.Lineages.{has_bit}
use Rattle.mesh_plan_due.specs.Marked.{counts, row_marks}
use Rattle.mesh_plan_due.specs.Numbered.{HasCounted, HasNone, HasNumber, IsLowest, IsNumbering, IsWithout}

-- the marks that the first models give
module _ (spots : List Spot) (row : List ℕ) (place : ℕ) where
  abbrev marks_to : ℕ → List ℤ
  marks_to n = row_marks (take n spots) row place

  -- a model that doesn't count
  passed_more : (i : ℕ) (d : Spot) → i < length spots → counts row place (get_or spots i d) ≡ false → marks_to (i + 1) ≡ marks_to i
  passed_more i d inside none =
      ap (λ l. row_marks l row place) (take_more spots i d inside)
      ∙ ap (map (λ (s : Spot). s.horizon)) (filter-append (counts row place) (take i spots) (get_or spots i d ∷ []))
      ∙ map-append (λ (s : Spot). s.horizon) (filter (counts row place) (take i spots)) (filter (counts row place) (get_or spots i d ∷ []))
      ∙ ap (λ c. marks_to i ++ map (λ (s : Spot). s.horizon) (cond c (get_or spots i d ∷ []) [])) none
      ∙ append-nil (marks_to i)

  none_more : (i : ℕ) → ((s : Spot) → slice_get spots i ≡ Some s → counts row place s ≡ false) → marks_to (i + 1) ≡ marks_to i
  none_more i none = go (cases_lt i (length spots))
    where
      by_item : (xs : List Spot) → i < length xs → xs ≡ spots → marks_to (i + 1) ≡ marks_to i
      by_item [] l e = absurd (omega (arith, l))
      by_item (x ∷ xs) l e =
          let here : slice_get spots i ≡ Some (get_or (x ∷ xs) i x) = ap (λ ys. slice_get ys i) (sym e) ∙ slice_get-get_or (x ∷ xs) i x l in
          passed_more i x (subst (λ ys. i < length ys) e l) (ap (λ ys. counts row place (get_or ys i x)) (sym e) ∙ none (get_or (x ∷ xs) i x) here)

      go : (i < length spots) ⊎ (length spots ≤ i) → marks_to (i + 1) ≡ marks_to i
      go (inr over) = ap (λ l. row_marks l row place) (take_all (i + 1) spots (omega (arith, over)) ∙ sym (take_all i spots over))
      go (inl inside) = by_item spots inside refl

  -- models one after another, none of which counts
  none_to : (from k : ℕ) → ((b : ℕ) (s : Spot) → b < k → slice_get spots (from + b) ≡ Some s → counts row place s ≡ false) → marks_to (from + k) ≡ marks_to from
  none_to from zero none = ap marks_to (omega arith)
  none_to from (suc k) none = ap marks_to (omega arith) ∙ none_more (from + k) (λ s here. none k s (omega arith) here) ∙ none_to from k (λ b s h here. none b s (omega (arith, h)) here)

  -- the models from one bit of a word to the next
  pub none_between : (word first from to : ℕ) → HasCounted spots row place word first → from ≤ to → to ≤ 64 → HasNone word from to
      → row_marks (take (first + to) spots) row place ≡ row_marks (take (first + from) spots) row place
  none_between word first from to counted up few none =
      ap marks_to (omega (arith, up))
      ∙ none_to (first + from) (to - from) (λ b s h here. counted (from + b) s (omega (arith, h, few)) (ap (slice_get spots) (omega arith) ∙ here) (none (from + b) (omega arith) (omega (arith, h))))

  -- the rest of a word has the bits from some place on, and the marks are those of the models before it
  abbrev pub Done : ℕ → ℕ → ℕ → List ℤ → Type 0
  Done word first rest made =
      (from : ℕ) × (from ≤ 64) × HasNone rest 0 from × ((b : ℕ) → from ≤ b → bit_at rest b ≡ bit_at word b) × (made ≡ row_marks (take (first + from) spots) row place)

  module _ (word first : ℕ) (counted : HasCounted spots row place word first) (rest : ℕ) (made : List ℤ) (done : Done word first rest made) where
    pub done_all : rest ≡ 0 → made ≡ row_marks (take (first + 64) spots) row place
    done_all none = go done
      where
        go : Done word first rest made → made ≡ row_marks (take (first + 64) spots) row place
        go (from, few, lower, same, is) =
            is ∙ sym (none_between word first from 64 counted few (omega arith) (λ b up below. sym (same b up) ∙ ap (λ n. bit_at n b) none ∙ bit_at-zero b))

    module _ (bit : ℕ) (few : bit < 64) (lowest : IsLowest rest bit) where
      behind : (from : ℕ) → HasNone rest 0 from → (bit < from) ⊎ (from ≤ bit) → from ≤ bit
      behind from lower (inr g) = g
      behind from lower (inl g) = absurd (omega (arith, lower bit (omega arith) g, lowest.0))

      pub done_to : made ≡ row_marks (take (first + bit) spots) row place
      done_to = go done
        where
          go : Done word first rest made → made ≡ row_marks (take (first + bit) spots) row place
          go (from, l, lower, same, is) =
              is ∙ sym (none_between word first from bit counted (behind from lower (cases_lt bit from)) (omega (arith, few)) (λ b up below. sym (same b up) ∙ lowest.1 b (omega arith) below))

      pub done_more : (next : ℕ) → IsWithout rest bit next → (more : List ℤ) → more ≡ row_marks (take (first + bit + 1) spots) row place → Done word first next more
      done_more next without more is = go done
        where
          go : Done word first rest made → Done word first next more
          go (from, l, lower, same, was) =
              (bit + 1, omega (arith, few), λ b up below. gone b (cases_lt b bit) below, λ b up. kept b up (behind from lower (cases_lt bit from)), is ∙ ap marks_to (omega arith))
            where
              gone : (b : ℕ) → (b < bit) ⊎ (bit ≤ b) → b < bit + 1 → bit_at next b ≡ 0
              gone b (inl g) below = without.1 b (λ e. absurd (omega (arith, e, g))) ∙ lowest.1 b (omega arith) g
              gone b (inr g) below = let e : b ≡ bit = omega (arith, g, below) in ap (bit_at next) e ∙ without.0

              kept : (b : ℕ) → bit + 1 ≤ b → from ≤ bit → bit_at next b ≡ bit_at word b
              kept b up under = without.1 b (λ e. absurd (omega (arith, e, up))) ∙ same b (omega (arith, up, under))

  -- the models that count have their bits in the words of a row by numbers
  module _ (numbers made : List ℕ) (numbering : IsNumbering spots numbers) (found : (p : ℕ) → has_bit row p ≡ true → HasNumber numbers made p) where
    pub all_counted : (at word : ℕ) → word ≡ get_or made at 0 → HasCounted spots row place word (64 * at)
    all_counted at word is b s few here none = by_bit (has_bit row s.place) refl
      where
        word_of : (64 * at + b) / 64 ≡ at
        word_of = omega (arith, few)

        bit_of : (64 * at + b) % 64 ≡ b
        bit_of = omega (arith, few)

        no_bit : has_bit made (64 * at + b) ≡ false
        no_bit = (λ j. nat_eq (bit_at (get_or made (word_of j) 0) (bit_of j)) 1) ∙ ap (λ w. nat_eq (bit_at w b) 1) (sym is) ∙ ap (λ n. nat_eq n 1) none

        by_bit : (c : Bool) → has_bit row s.place ≡ c → counts row place s ≡ false
        by_bit false f = ap (λ c. c && (nat_eq s.place place || s.computed)) f
        by_bit true f =
            let yes : has_bit made (64 * at + b) ≡ true = ap (has_bit made) (sym (numbering.each (64 * at + b) s here)) ∙ found s.place f (numbering.below (64 * at + b) s here) in
            let no : true ≡ false = sym yes ∙ no_bit in
            absurd (cc)
