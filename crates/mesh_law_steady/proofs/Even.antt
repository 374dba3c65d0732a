-- What stands below an even model is even; so laws of models may ask it of the model alone.
use Rattle.std.proofs.Common.{◌≡◌, Bool, true, false, not, ◌&&◌, ◌||◌, List, [], ◌∷◌, refl, sym, ap, ◌∙◌}
use Rattle.std.specs.List.{Contains, list_any}
use Rattle.std.proofs.lemmas.Bool.{not-true as not_true}
use Rattle.mesh_base_values.specs.Bag.{IsSameBag}
use Rattle.mesh_base_values.specs.Kinds.{is_incremental}
use Rattle.mesh_base_values.specs.declared.kinds.Kind.TheVariants.{Full}
use Rattle.mesh_base_values.specs.declared.times.Bounds.{Bounds}
use Rattle.mesh_base.specs.declared.jobs.Input.{Input}
use Rattle.mesh_spec_model.specs.Closures.{Closure, Closures, Model, Alone, With, ancestors, own_of, standing}
use Rattle.mesh_spec_model.specs.Horizons.{Clock, schedule}
use Rattle.mesh_spec_model.specs.Scratch.{from_scratch, piece}
use Rattle.mesh_law_query.proofs.Lists.{Each, Each_left, Each_right, each}
use Rattle.mesh_spec_changes.proofs.due.Later.{Each_both}
use Rattle.mesh_spec_changes.specs.due.Marks.{marks, same_marks}
use Rattle.mesh_spec_promise.specs.Sound.{HasEachOnce}
use Rattle.mesh_spec_changes.specs.steady.Even.{is_even, is_uneven}
use Rattle.mesh_spec_changes.specs.steady.Steady.{is_steady, is_steady_as, reaches_timed}
use Rattle.mesh_law_steady.specs.Kept.{AreKept, IsKept}
use Rattle.mesh_law_steady.proofs.Marks.{same_horizons}
use Rattle.mesh_law_steady.proofs.Staying.{Fine, pieces_stay}
use Rattle.mesh_law_steady.proofs.Units.{none_any}
use Rattle.mesh_law_steady.proofs.Whole.{whole_same}

-- what holds of all that a closure stands on holds of all that each of these stands on
module _ (P : Closure → Type 0) where
  mutual
    standing_each : (c : Closure) → Each P (standing c) → Each (λ d. Each P (standing d)) (standing c)
    standing_each (Model own parents) h = (h, ancestors_each parents h.1)

    ancestors_each : (cs : Closures) → Each P (ancestors cs) → Each (λ d. Each P (standing d)) (ancestors cs)
    ancestors_each Alone h = tt
    ancestors_each (With c cs) h =
        Each_both (λ d. Each P (standing d)) (standing c) (ancestors cs) (standing_each c (Each_left P (standing c) (ancestors cs) h)) (ancestors_each cs (Each_right P (standing c) (ancestors cs) h))

any_none : {X : Type 0} (p : X → Bool) (xs : List X) → Each (λ x. p x ≡ false) xs → list_any p xs ≡ false
any_none p [] h = refl
any_none p (x ∷ xs) h = λ i. h.0 i || any_none p xs h.1 i

all_fine : (before after : List Input) (clock later : Clock) (cs : List Closure) → Each (IsKept before after clock later) cs → Each (λ d. Each (λ s. is_uneven s ≡ false) (standing d)) cs → Each (Fine before after clock later) cs
all_fine before after clock later [] h e = tt
all_fine before after clock later (c ∷ cs) h e = (record { kept = h.0; even = ap not (any_none is_uneven (standing c) e.0) }, all_fine before after clock later cs h.1 e.1)

module _ (before after : List Input) (clock later : Clock) (c : Closure) (kept : AreKept before after clock later c) (even : is_even c ≡ true) where
  fine : Each (Fine before after clock later) (standing c)
  fine =
      all_fine before after clock later (standing c) (each (IsKept before after clock later) (standing c) kept)
      (standing_each (λ s. is_uneven s ≡ false) c (none_any is_uneven (standing c) (not_true (list_any is_uneven (standing c)) even)))

  pub units_stay : is_incremental (own_of c).kind ≡ true → (u : Bounds) → Contains (schedule clock c) u → IsSameBag (piece before clock c u) (piece after later c u)
  units_stay = pieces_stay before after clock later c fine

  its_steady : (d : Closure) → Each (Fine before after clock later) (standing d) → is_steady d ≡ true
  its_steady (Model own parents) h = h.0.kept.steady

  pub full_reaches : (d : Closure) → (own_of d).kind ≡ Full → is_steady d ≡ true → reaches_timed d ≡ false
  full_reaches (Model own parents) e h = not_true (reaches_timed (Model own parents)) (sym (ap (is_steady_as own parents) e) ∙ h)

  pub full_stays : (own_of c).kind ≡ Full → HasEachOnce c → same_marks (marks clock c) (marks later c) ≡ true → IsSameBag (from_scratch before clock c) (from_scratch after later c)
  full_stays e once same =
      whole_same before after clock later c fine (same_horizons clock later c once same)
      (λ i. not (is_incremental (e i)) && full_reaches c e (its_steady c fine) i)
