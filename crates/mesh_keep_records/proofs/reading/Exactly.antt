-- What a text says exactly, by a reader that undoes its writer.
use Rattle.std.proofs.Common.{◌≡◌, ℕ, Bool, true, false, ◌&&◌, if◌then◌else◌, List, Option, Some, None, inl, inr, refl, sym, ap, ◌∙◌}
use Rattle.std.specs.Prelude.{◌↔◌, ◌⊎◌}
use Rattle.std.proofs.lemmas.Bool.{and_parts}
use Rattle.mesh_base_values.specs.Picked.{same_text}
use Rattle.mesh_base_values.proofs.Equals.{text_is as same_is, text_itself as same_itself}
use Rattle.mesh_canon_text.specs.declared.form.Form.{Form}
use Rattle.mesh_canon_text.specs.declared.form.Form.TheVariants.{Current, Former}
use Rattle.mesh_canon_words.specs.Words.{◌>>=◌}
use Rattle.mesh_canon_reading.specs.Fits.{text_fits}
use Rattle.mesh_canon_reading.proofs.Exact.{some_is}
use Rattle.mesh_canon_reading.proofs.Steps.{bound}
use Rattle.mesh_keep_records.specs.reading.Reading.{exactly, or_else}

-- the text of a value that fits is read as that value
abbrev pub Reads : {A : Type 0} → (A → List ℕ) → (A → Bool) → (List ℕ → Option A) → Type 0
Reads {A = A} text fits read = (x : A) → fits x ≡ true → text_fits (text x) ≡ true → read (text x) ≡ Some x

-- what passed a test
passed : {A : Type 0} (test : Bool) (o : Option A) (x : A) → (if test then o else None) ≡ Some x → (test ≡ true) × (o ≡ Some x)
passed true o x e = (refl, e)
passed false o x e = absurd cc

says : {A : Type 0} (text : A → List ℕ) (fits : A → Bool) (said : List ℕ → Option A) (t : List ℕ) (x : A) → exactly text fits said t ≡ Some x → (text_fits t ≡ true) × (fits x ≡ true) × (t ≡ text x)
unfolding exactly
says text fits said t x e =
    let p = passed (text_fits t) (said t >>= λ y. if fits y && same_text t (text y) then Some y else None) x e in
    let q = bound (said t) (λ y. if fits y && same_text t (text y) then Some y else None) x p.1 in
    let r = passed (fits q.0 && same_text t (text q.0)) (Some q.0) x q.2 in
    let s = and_parts (fits q.0) (same_text t (text q.0)) r.0 in
    let same : q.0 ≡ x = some_is q.0 x r.1 in
    (p.0, sym (ap fits same) ∙ s.0, same_is t (text q.0) s.1 ∙ ap text same)

is_said : {A : Type 0} (text : A → List ℕ) (fits : A → Bool) (said : List ℕ → Option A) → Reads text fits said → (t : List ℕ) (x : A) → text_fits t ≡ true → fits x ≡ true → t ≡ text x → exactly text fits said t ≡ Some x
unfolding exactly
is_said text fits said reads t x f fit e =
    let r : said t ≡ Some x = ap said e ∙ reads x fit (sym (ap text_fits e) ∙ f) in
    let s : same_text t (text x) ≡ true = ap (same_text t) (sym e) ∙ same_itself t in
    rw (f, r, fit, s) refl

-- a text says exactly the value that fits and has it
pub exactly_is : {A : Type 0} (text : A → List ℕ) (fits : A → Bool) (said : List ℕ → Option A) → Reads text fits said → (t : List ℕ) (x : A) → (exactly text fits said t ≡ Some x) ↔ ((text_fits t ≡ true) × (fits x ≡ true) × (t ≡ text x))
exactly_is text fits said reads t x = (says text fits said t x, λ h. is_said text fits said reads t x h.0 h.1 h.2)

-- what is read in one form or the other is read in one of them
pub by_form : {A : Type 0} (read : Form → Option A) (x : A) → or_else (read Current) (read Former) ≡ Some x → (form : Form) × (read form ≡ Some x)
by_form read x e = elim (which (read Current) (read Former) x e) [
  | inl p ↦ (Current, p)
  | inr p ↦ (Former, p)
]
  where
    which : {A : Type 0} (p q : Option A) (x : A) → or_else p q ≡ Some x → (p ≡ Some x) ⊎ (q ≡ Some x)
    which None q x e = inr e
    which (Some y) q x e = inl e

or_found : {A : Type 0} (p q : Option A) (x : A) → ((y : A) → p ≡ Some y → y ≡ x) → q ≡ Some x → or_else p q ≡ Some x
or_found None q x same e = e
or_found (Some y) q x same e = ap Some (same y refl)

-- what is read in one form is read, where forms agree
pub in_form : {A : Type 0} (read : Form → Option A) (x : A) (form : Form) → ((y : A) → read Current ≡ Some y → y ≡ x) → read form ≡ Some x → or_else (read Current) (read Former) ≡ Some x
in_form read x Current same e = rw e refl
in_form read x Former same e = or_found (read Current) (read Former) x same e
