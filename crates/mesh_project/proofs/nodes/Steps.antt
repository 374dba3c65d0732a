-- A loop that takes one step for each member of a list: none yet, one more member, a fault, and the end.
use Rattle.std.proofs.Common.{◌≡◌, ℕ, ◌+◌, ◌<◌, ◌≤◌, List, [], ◌∷◌, ◌++◌, length, take, drop, get_or, Result, Ok, Err, refl, sym, ap, subst, ◌∙◌}
use Rattle.std.proofs.lemmas.List.{take_all, take_more, drop_more, take-append-drop}
use Rattle.mesh_project_files.specs.Loading.{◌>>=◌, Refuses}
use Rattle.mesh_project_files.specs.declared.faults.LoadFault.{LoadFault}
use Rattle.mesh_project_files.specs.declared.faults.LoadFault.TheVariants.{Fault, Folder, Memory}
use Rattle.mesh_project.specs.nodes.Walk.{along}

-- a refusal of the first of two steps
pub refused_on : {A B : Type 0} (e : LoadFault) (r : Result A LoadFault) (next : A → Result B LoadFault) → Refuses e r → Refuses e (r >>= next)
refused_on Memory r next stop = tt
refused_on Folder r next stop = tt
refused_on (Fault file at kind) r next stop = ap (λ q. q >>= next) stop

module _ {S A : Type 0} (step : S → A → Result S LoadFault) where
  along_more : (s : S) (xs ys : List A) → along step s (xs ++ ys) ≡ (along step s xs >>= λ n. along step n ys)
  unfolding along
  along_more s [] ys = refl
  along_more s (x ∷ xs) ys = by_step (step s x) (λ n. along_more n xs ys)
    where
      by_step : (r : Result S LoadFault) → ((n : S) → along step n (xs ++ ys) ≡ (along step n xs >>= λ m. along step m ys))
          → (r >>= λ n. along step n (xs ++ ys)) ≡ ((r >>= λ n. along step n xs) >>= λ m. along step m ys)
      by_step (Ok n) more = more n
      by_step (Err e) more = refl

  pub along_first : (s : S) (x : A) (xs : List A) → along step s (x ∷ xs) ≡ (step s x >>= λ n. along step n xs)
  unfolding along
  along_first s x xs = refl

  one_step : (s : S) (x : A) → along step s (x ∷ []) ≡ step s x
  unfolding along
  one_step s x = by_step (step s x)
    where
      by_step : (r : Result S LoadFault) → (r >>= λ n. Ok n) ≡ r
      by_step (Ok n) = refl
      by_step (Err e) = refl

  pub none_along : (s : S) → along step s [] ≡ Ok s
  unfolding along
  none_along s = refl

  pub one_more : (s now next : S) (xs : List A) (i : ℕ) (x : A) → i < length xs → x ≡ get_or xs i x
      → along step s (take i xs) ≡ Ok now → step now x ≡ Ok next → along step s (take (i + 1) xs) ≡ Ok next
  one_more s now next xs i x lt is so_far stepped =
      ap (along step s) (take_more xs i x lt ∙ ap (λ y. take i xs ++ y ∷ []) (sym is)) ∙ along_more s (take i xs) (x ∷ []) ∙ ap (λ r. r >>= λ n. along step n (x ∷ [])) so_far
      ∙ one_step now x ∙ stepped

  pub stops : (s now : S) (xs : List A) (i : ℕ) (x : A) (e : LoadFault) → i < length xs → x ≡ get_or xs i x
      → along step s (take i xs) ≡ Ok now → Refuses e (step now x) → Refuses e (along step s xs)
  stops s now xs i x e lt is so_far stop =
      let cut : along step s xs ≡ (step now x >>= λ n. along step n (drop (i + 1) xs)) =
      ap (along step s) (sym (ap (λ y. take i xs ++ y ∷ drop (i + 1) xs) is ∙ ap (λ l. take i xs ++ l) (sym (drop_more xs i x lt)) ∙ take-append-drop i xs))
      ∙ along_more s (take i xs) (x ∷ drop (i + 1) xs) ∙ ap (λ r. r >>= λ n. along step n (x ∷ drop (i + 1) xs)) so_far ∙ along_first now x (drop (i + 1) xs) in
      subst (Refuses e) (sym cut) (refused_on e (step now x) (λ n. along step n (drop (i + 1) xs)) stop)

  pub all_along : (s now : S) (xs : List A) (i : ℕ) → length xs ≤ i → along step s (take i xs) ≡ Ok now → along step s xs ≡ Ok now
  all_along s now xs i le so_far = ap (along step s) (sym (take_all i xs le)) ∙ so_far

  -- the same where the member is one that is copied
  pub one_more_at : (s now next : S) (xs : List A) (i : ℕ) (d : A) → i < length xs → along step s (take i xs) ≡ Ok now → step now (get_or xs i d) ≡ Ok next → along step s (take (i + 1) xs) ≡ Ok next
  one_more_at s now next xs i d lt so_far stepped =
      ap (along step s) (take_more xs i d lt) ∙ along_more s (take i xs) (get_or xs i d ∷ []) ∙ ap (λ r. r >>= λ n. along step n (get_or xs i d ∷ [])) so_far ∙ one_step now (get_or xs i d) ∙ stepped

  pub stops_at : (s now : S) (xs : List A) (i : ℕ) (d : A) (e : LoadFault) → i < length xs → along step s (take i xs) ≡ Ok now → Refuses e (step now (get_or xs i d)) → Refuses e (along step s xs)
  stops_at s now xs i d e lt so_far stop =
      let x = get_or xs i d in
      let cut : along step s xs ≡ (step now x >>= λ n. along step n (drop (i + 1) xs)) =
      ap (along step s) (sym (ap (λ l. take i xs ++ l) (sym (drop_more xs i d lt)) ∙ take-append-drop i xs))
      ∙ along_more s (take i xs) (x ∷ drop (i + 1) xs) ∙ ap (λ r. r >>= λ n. along step n (x ∷ drop (i + 1) xs)) so_far ∙ along_first now x (drop (i + 1) xs) in
      subst (Refuses e) (sym cut) (refused_on e (step now x) (λ n. along step n (drop (i + 1) xs)) stop)
