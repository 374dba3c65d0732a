-- A definition that is read from either of its texts.
use Rattle.std.proofs.Common.{◌≡◌, ℕ, List, Result, Ok, inl, inr}
use Rattle.std.specs.Prelude.{◌⊎◌, IfOk}
use Rattle.std.proofs.lemmas.Result.{IfOk-at_ok}
use Rattle.mesh_base_values.specs.Kinds.{lookback_of}
use Rattle.mesh_base.specs.declared.definitions.Own.{Own}
use Rattle.mesh_canon_text.specs.declared.form.Form.TheVariants.{Current, Former}
use Rattle.mesh_canon_text.specs.Text.{own_text, own_text_old}
use Rattle.mesh_canon_words.specs.declared.fault.CanonFault.{CanonFault}
use Rattle.mesh_canon.specs.canon.Forms.{IsOwnText}

pub either_found : (text : List ℕ) (now former : Result Own CanonFault) (m : Own) → IfOk now (λ x. text ≡ own_text x) → IfOk former (λ x. text ≡ own_text_old x) → IfOk former (λ x. lookback_of x.kind ≡ 0) → (now ≡ Ok m) ⊎ (former ≡ Ok m) → IsOwnText text m
either_found text now former m a b n (inl e) = (Current, tt, IfOk-at_ok (λ x. text ≡ own_text x) e a)
either_found text now former m a b n (inr e) = (Former, IfOk-at_ok (λ x. lookback_of x.kind ≡ 0) e n, IfOk-at_ok (λ x. text ≡ own_text_old x) e b)

pub either_only : (text : List ℕ) (m : Own) (A B R : Type 0) → (text ≡ own_text m → A) → (lookback_of m.kind ≡ 0 → text ≡ own_text_old m → B) → (A → R) → (B → R) → IsOwnText text m → R
either_only text m A B R a b f g (Current, said, e) = f (a e)
either_only text m A B R a b f g (Former, said, e) = g (b said e)
