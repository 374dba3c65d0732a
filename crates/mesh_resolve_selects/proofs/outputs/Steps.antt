-- A loop that takes one step for each member of a list: none yet, one more member, a fault, and the end.
use Rattle.std.proofs.Common.{◌≡◌, ℕ, ◌+◌, ◌<◌, ◌≤◌, List, [], ◌∷◌, ◌++◌, length, take, drop, get_or, Result, Ok, refl, sym, ap, subst, ◌∙◌}
use Rattle.std.proofs.lemmas.List.{take_all, take_more, drop_more, take-append-drop}
use Rattle.mesh_query_tokens.specs.Gives.{◌>>=◌, Refuses}
use Rattle.mesh_query_tokens.specs.declared.faults.ReadFault.{ReadFault}
use Rattle.mesh_query_tokens.specs.declared.faults.ReadFault.TheVariants as faults
use Rattle.mesh_query_tokens.specs.Walk.{along}
use Rattle.mesh_query_tokens.proofs.Along.{along_snoc, along_cut}

-- a refusal of the first of two steps
pub refused_on : {A B : Type 0} (e : ReadFault) (r : Result A ReadFault) (next : A → Result B ReadFault) → Refuses e r → Refuses e (r >>= next)
refused_on faults.Memory r next stop = tt
refused_on (faults.Fault at kind) r next stop = ap (λ q. q >>= next) stop

module _ {S A : Type 0} (step : S → A → Result S ReadFault) where
  pub none_along : (s : S) → along step s [] ≡ Ok s
  unfolding along
  none_along s = refl

  pub one_more : (s now next : S) (xs : List A) (i : ℕ) (x : A) → i < length xs → x ≡ get_or xs i x
      → along step s (take i xs) ≡ Ok now → step now x ≡ Ok next → along step s (take (i + 1) xs) ≡ Ok next
  one_more s now next xs i x lt is so_far stepped =
      ap (along step s) (take_more xs i x lt ∙ ap (λ y. take i xs ++ y ∷ []) (sym is)) ∙ along_snoc step s (take i xs) x ∙ ap (λ r. r >>= λ n. step n x) so_far ∙ stepped

  pub stops : (s now : S) (xs : List A) (i : ℕ) (x : A) (e : ReadFault) → i < length xs → x ≡ get_or xs i x
      → along step s (take i xs) ≡ Ok now → Refuses e (step now x) → Refuses e (along step s xs)
  stops s now xs i x e lt is so_far stop =
      subst (λ l. Refuses e (along step s l))
      (ap (λ y. take i xs ++ y ∷ drop (i + 1) xs) is ∙ ap (λ l. take i xs ++ l) (sym (drop_more xs i x lt)) ∙ take-append-drop i xs)
      (along_cut step s now (take i xs) (drop (i + 1) xs) x e so_far stop)

  pub all_along : (s now : S) (xs : List A) (i : ℕ) → length xs ≤ i → along step s (take i xs) ≡ Ok now → along step s xs ≡ Ok now
  all_along s now xs i le so_far = ap (along step s) (sym (take_all i xs le)) ∙ so_far
