-- The parts of what a book has besides its lists, by whether its version is said.
use Rattle.std.proofs.Common.{◌≡◌, ℕ, Bool, true, false, if◌then◌else◌, List, [], ◌∷◌, length, refl, sym, ap, ◌∙◌, arith}
use Rattle.std.proofs.lemmas.Bool.{eqb-true}
use Rattle.std.specs.Prelude.{◌==◌}
use Rattle.mesh_keep_records.specs.declared.book_records.BookHead.{BookHead}
use Rattle.mesh_keep_records.specs.Records.{head_parts, newer_parts}
use Rattle.std.specs.Fmt.{signed_decimal}

by_version : (b : Bool) (short long : List (List ℕ)) → length short ≡ 1 → length long ≡ 2 → (ts : List (List ℕ)) → ts ≡ (if b then short else long) → (length ts ≡ 1 → (b ≡ true) × (ts ≡ short)) × ((length ts ≡ 1 → ⊥) → (b ≡ false) × (ts ≡ long))
by_version true short long s l ts e = (λ one. (refl, e), λ other. absurd (other (ap length e ∙ s)))
by_version false short long s l ts e = (λ one. absurd (omega (arith, ap length e)), λ other. (refl, e))

pub old_head : (h : BookHead) (ts : List (List ℕ)) → ts ≡ head_parts h → length ts ≡ 1 → (h.version ≡ 1) × (ts ≡ signed_decimal h.moment ∷ [])
old_head h ts e one =
    let r = (by_version (h.version == 1) (signed_decimal h.moment ∷ []) (newer_parts h) refl refl ts e).0 one in
    (eqb-true h.version 1 r.0, r.1)

pub new_head : (h : BookHead) (ts : List (List ℕ)) → ts ≡ head_parts h → (length ts ≡ 1 → ⊥) → ((h.version == 1) ≡ false) × (ts ≡ newer_parts h)
new_head h ts e other = (by_version (h.version == 1) (signed_decimal h.moment ∷ []) (newer_parts h) refl refl ts e).1 other

pub not_one : (n : ℕ) → (n == 1) ≡ false → n ≡ 1 → ⊥
not_one n f e = absurd (let h : true ≡ false = ap (λ k. k == 1) (sym e) ∙ f in cc)
