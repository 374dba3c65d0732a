-- One step of a command that only looks, and then the next.
use Rattle.std.proofs.Common.{◌≡◌, ⊎_elim, inl, inr, false, Ok, Err, Result, sym, subst, ap, ◌∙◌, arith}
use Rattle.std.specs.Result.{IsErrAnd}
use Rattle.mesh_list.specs.Counts.{Rose}
use Rattle.mesh_house.specs.declared.world.World.{World}
use Rattle.mesh_house.specs.House.{Told}
use Rattle.mesh_layer.specs.Shows.{IsUntouched, Tells}
use Rattle.mesh_layer.proofs.Finding.{and_then, stays}
use Rattle.mesh_cli_print.specs.declared.printed.refusals.Refusal.{Refusal}
use Rattle.mesh_cli_print.specs.declared.printed.refusals.Refusal.TheVariants as refusal
use Rattle.mesh_cli_look.specs.asking.Looks.{◌>>=◌, Gives, IsAnswered, Looks, is_fault}

tells_later : (a b : Told) (w : World) → IsUntouched a b → Tells a w → Tells b w
tells_later a b w p t = record { world = p.world ∙ t.world; plain = t.plain }

rose_later : (a b c : Told) → IsUntouched a b → Rose b.faults c.faults → Rose a.faults c.faults
rose_later a b c p rose = omega (arith, p.faults, rose)

module _ {A T : Type 0} where
  -- the next step answers
  pub later : (first : World → Result A Refusal) (rest : World → A → Result T Refusal) (mine : World → Result T Refusal) (a b c : Told) (x : A) (r : Result T Refusal)
      → Looks first a b (Ok x) → Looks mine b c r → ((w : World) → first w ≡ Ok x → mine w ≡ rest w x) → Looks (λ w. first w >>= rest w) a c r
  later first rest mine a b c x r h k same = record {
    untouched = and_then a b c h.untouched k.untouched;
    answered = λ w tells.
        let here : first w ≡ Ok x = h.answered w tells in
        subst (IsAnswered r) (same w here ∙ sym (ap (λ (m : Result A Refusal). m >>= rest w) here)) (k.answered w (tells_later a b w h.untouched tells));
    failed = λ e. rose_later a b c h.untouched (k.failed e);
    inside = k.inside;
  }

  -- a step is refused
  pub stops : (first : World → Result A Refusal) (rest : World → A → Result T Refusal) (a b : Told) (e : Refusal) (r : Result T Refusal)
      → Looks first a b (Err e) → IsErrAnd r (λ y. y ≡ e) → Looks (λ w. first w >>= rest w) a b r
  stops first rest a b e (Ok x) h is = absurd is
  stops first rest a b e (Err y) h is = record {
    untouched = h.untouched;
    answered = λ w tells not_fault.
        let refused : first w ≡ Err e = h.answered w tells (sym (ap is_fault is) ∙ not_fault) in
        ap (λ (m : Result A Refusal). m >>= rest w) refused ∙ ap Err (sym is);
    failed = λ f. let told : y ≡ refusal.Warehouse = cc in h.failed (ap Err (sym is ∙ told));
    inside = λ f. let told : y ≡ refusal.Input = cc in h.inside (ap Err (sym is ∙ told));
  }

  -- the same after a step that asks no house
  pub given_later : (m : Result A Refusal) (rest : World → A → Result T Refusal) (a b : Told) (x : A) (r : Result T Refusal)
      → m ≡ Ok x → Looks (λ w. rest w x) a b r → Looks (λ w. m >>= rest w) a b r
  given_later m rest a b x r is k = record {
    untouched = k.untouched;
    answered = λ w tells. subst (IsAnswered r) (sym (ap (λ (n : Result A Refusal). n >>= rest w) is)) (k.answered w tells);
    failed = k.failed;
    inside = k.inside;
  }

  pub given_stops : (m : Result A Refusal) (rest : World → A → Result T Refusal) (a : Told) (e : Refusal) (r : Result T Refusal)
      → Gives (Err e) m → IsErrAnd r (λ y. y ≡ e) → Looks (λ w. m >>= rest w) a a r
  given_stops m rest a e (Ok x) h is = absurd is
  given_stops m rest a e (Err y) h is = record {
    untouched = stays a;
    answered = λ w tells not_fault. ⊎_elim
        (λ memory. absurd (let no : is_fault refusal.Memory ≡ false = sym (ap is_fault memory) ∙ sym (ap is_fault is) ∙ not_fault in cc))
        (λ refused. ap (λ (n : Result A Refusal). n >>= rest w) refused.1 ∙ ap Err (sym is)) h;
    failed = λ f.
        let told : y ≡ refusal.Warehouse = cc in
        let same : e ≡ refusal.Warehouse = sym is ∙ told in
        ⊎_elim
        (λ memory. absurd (let no : refusal.Memory ≡ refusal.Warehouse = sym memory ∙ same in cc))
        (λ other. absurd (let no : is_fault refusal.Warehouse ≡ false = sym (ap is_fault same) ∙ other.0 in cc)) h;
    inside = λ f.
        let told : y ≡ refusal.Input = cc in
        let same : e ≡ refusal.Input = sym is ∙ told in
        ⊎_elim
        (λ memory. absurd (let no : refusal.Memory ≡ refusal.Input = sym memory ∙ same in cc))
        (λ other. absurd (let no : is_fault refusal.Input ≡ false = sym (ap is_fault same) ∙ other.0 in cc)) h;
  }

  -- the same for what is given
  pub refused : (m : Result A Refusal) (f : A → Result T Refusal) (e : Refusal) (r : Result T Refusal) → Gives (Err e) m → IsErrAnd r (λ y. y ≡ e) → Gives r (m >>= f)
  refused m f e (Ok x) h is = absurd is
  refused m f e (Err y) h is = ⊎_elim
      (λ memory. inl (is ∙ memory))
      (λ other. inr (ap is_fault is ∙ other.0, ap (λ (n : Result A Refusal). n >>= f) other.1 ∙ ap Err (sym is))) h

  pub given : (m : Result A Refusal) (f : A → Result T Refusal) (x : A) (r : Result T Refusal) → m ≡ Ok x → Gives r (f x) → Gives r (m >>= f)
  given m f x r is h = subst (Gives r) (sym (ap (λ (n : Result A Refusal). n >>= f) is)) h
