-- The lines of a script, one after another.
use Rattle.std.proofs.Common.{◌≡◌, ℕ, ◌+◌, ◌<◌, ◌≤◌, List, ◌∷◌, length, drop, get_or, sym, ◌∙◌, ap, subst}
use Rattle.std.proofs.lemmas.List.{drop_more, drop_all}
use Rattle.mesh_cli.specs.cli.Scripts.{StepEnds, TextsEnd, ended, went, stopped}
use Rattle.mesh_cli.specs.cli.Sides.{Sides}
use Rattle.mesh_cli_print.specs.printed.Printing.{Sinks}

-- what comes of the rest comes of all
abbrev pub GoesOn : List ℕ → List (List ℕ) → List (List ℕ) → Sides → Sides → Sinks → Sinks → Type 0
GoesOn dir texts rest old now sinks said = (new : Sides) (printed : Sinks) (s : ℕ) → TextsEnd dir rest now new said printed s → TextsEnd dir texts old new sinks printed s

module _ (dir : List ℕ) (texts : List (List ℕ)) (old now next : Sides) (sinks said more : Sinks) where
  next_text : (i : ℕ) (x : List ℕ) → i < length texts → x ≡ get_or texts i x → drop i texts ≡ x ∷ drop (i + 1) texts
  next_text i x lt is = drop_more texts i x lt ∙ ap (λ y. y ∷ drop (i + 1) texts) (sym is)

  -- one more text came, and its status is 0
  pub goes_on : (i : ℕ) (x : List ℕ) (s : ℕ) → i < length texts → x ≡ get_or texts i x → GoesOn dir texts (drop i texts) old now sinks said → StepEnds dir x now next said more s → s ≡ 0 → GoesOn dir texts (drop (i + 1) texts) old next sinks more
  goes_on i x s lt is before step none = λ new printed t h.
      before new printed t (subst (λ l. TextsEnd dir l now new said printed t) (sym (next_text i x lt is)) (went x (drop (i + 1) texts) now next new said more printed t (subst (λ n. StepEnds dir x now next said more n) none step) h))

  -- one more text came, and its status isn't 0
  pub stops_at : (i : ℕ) (x : List ℕ) (s : ℕ) → i < length texts → x ≡ get_or texts i x → GoesOn dir texts (drop i texts) old now sinks said → StepEnds dir x now next said more s → ¬ (s ≡ 0) → TextsEnd dir texts old next sinks more s
  stops_at i x s lt is before step some = before next more s (subst (λ l. TextsEnd dir l now next said more s) (sym (next_text i x lt is)) (stopped x (drop (i + 1) texts) now next said more s some step))

-- all texts came
pub goes_to_the_end : (dir : List ℕ) (texts : List (List ℕ)) (old now : Sides) (sinks said : Sinks) (i : ℕ) → length texts ≤ i → GoesOn dir texts (drop i texts) old now sinks said → TextsEnd dir texts old now sinks said 0
goes_to_the_end dir texts old now sinks said i le before = before now said 0 (subst (λ l. TextsEnd dir l now now said said 0) (sym (drop_all i texts le)) (ended now said))
