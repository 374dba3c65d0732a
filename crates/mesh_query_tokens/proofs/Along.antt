-- A walk over the first so many, and over one more.
use Rattle.std.proofs.Common.{◌≡◌, ℕ, zero, suc, ◌+◌, ◌<◌, ◌≤◌, List, [], ◌∷◌, ◌++◌, length, take, drop, map, get_or, Result, Ok, Err, refl, sym, ap, subst, take_all, ◌∙◌, arith}
use Rattle.std.proofs.lemmas.List.{map_more, drop_more}
use Rattle.mesh_query_tokens.specs.Gives.{◌>>=◌, Refuses}
use Rattle.mesh_query_tokens.specs.declared.faults.ReadFault.{ReadFault}
use Rattle.mesh_query_tokens.specs.declared.faults.ReadFault.TheVariants as faults
use Rattle.mesh_query_tokens.specs.Walk.{along}

bind_ok : {S : Type 0} (r : Result S ReadFault) → (r >>= λ x. Ok x) ≡ r
bind_ok (Ok x) = refl
bind_ok (Err e) = refl

module _ {S A : Type 0} (step : S → A → Result S ReadFault) where
  bind_then : (r : Result S ReadFault) (xs ys : List A)
      → (r >>= λ n. (along step n xs >>= λ m. along step m ys)) ≡ ((r >>= λ n. along step n xs) >>= λ m. along step m ys)
  bind_then (Ok x) xs ys = refl
  bind_then (Err e) xs ys = refl

  -- two walks, one after the other
  pub along_append : (s : S) (xs ys : List A) → along step s (xs ++ ys) ≡ (along step s xs >>= λ n. along step n ys)
  unfolding along
  along_append s [] ys = refl
  along_append s (x ∷ xs) ys = ap (λ f. step s x >>= f) (λ i n. along_append n xs ys i) ∙ bind_then (step s x) xs ys

  -- one more step
  pub along_snoc : (s : S) (xs : List A) (x : A) → along step s (xs ++ x ∷ []) ≡ (along step s xs >>= λ n. step n x)
  unfolding along
  along_snoc s xs x = along_append s xs (x ∷ []) ∙ ap (λ f. along step s xs >>= f) (λ i n. bind_ok (step n x) i)

  -- a fault ends the walk
  pub along_cut : (s now : S) (xs ys : List A) (x : A) (e : ReadFault) → along step s xs ≡ Ok now → Refuses e (step now x) → Refuses e (along step s (xs ++ x ∷ ys))
  unfolding along
  along_cut s now xs ys x faults.Memory so_far stop = tt
  along_cut s now xs ys x (faults.Fault at kind) so_far stop =
      along_append s xs (x ∷ ys) ∙ ap (λ r. r >>= λ n. step n x >>= λ m. along step m ys) so_far ∙ ap (λ r. r >>= λ m. along step m ys) stop

map_append : {X Y : Type 0} (f : X → Y) (xs ys : List X) → map f (xs ++ ys) ≡ map f xs ++ map f ys
map_append f [] ys = refl
map_append f (x ∷ xs) ys = ap (λ l. f x ∷ l) (map_append f xs ys)

cut_at : {X : Type 0} (i : ℕ) (xs : List X) → take i xs ++ drop i xs ≡ xs
cut_at zero xs = refl
cut_at (suc i) [] = refl
cut_at (suc i) (x ∷ xs) = ap (λ l. x ∷ l) (cut_at i xs)

parted : {X : Type 0} (xs : List X) (i : ℕ) (x : X) → i < length xs → x ≡ get_or xs i x → take i xs ++ x ∷ drop (i + 1) xs ≡ xs
parted xs i x lt is = ap (λ y. take i xs ++ y ∷ drop (i + 1) xs) is ∙ ap (λ l. take i xs ++ l) (sym (drop_more xs i x lt)) ∙ cut_at i xs

-- A loop over a list of which each member stands for something: one more member, a fault, and the end.
module _ {S X A : Type 0} (step : S → A → Result S ReadFault) (f : X → A) where
  pub one_more_of : (s now next : S) (xs : List X) (i : ℕ) (x : X) → i < length xs → x ≡ get_or xs i x
      → along step s (map f (take i xs)) ≡ Ok now → step now (f x) ≡ Ok next → along step s (map f (take (i + 1) xs)) ≡ Ok next
  one_more_of s now next xs i x lt is so_far stepped =
      ap (along step s) (map_more f xs i x lt ∙ ap (λ y. map f (take i xs) ++ f y ∷ []) (sym is)) ∙ along_snoc step s (map f (take i xs)) (f x) ∙ ap (λ r. r >>= λ n. step n (f x)) so_far ∙ stepped

  pub fault_at : (s now : S) (xs : List X) (i : ℕ) (x : X) (e : ReadFault) → i < length xs → x ≡ get_or xs i x
      → along step s (map f (take i xs)) ≡ Ok now → Refuses e (step now (f x)) → Refuses e (along step s (map f xs))
  fault_at s now xs i x e lt is so_far stop =
      subst (λ l. Refuses e (along step s l)) (sym (map_append f (take i xs) (x ∷ drop (i + 1) xs)) ∙ ap (map f) (parted xs i x lt is))
      (along_cut step s now (map f (take i xs)) (map f (drop (i + 1) xs)) (f x) e so_far stop)

  pub all_of_them : (s now : S) (xs : List X) (i : ℕ) → length xs ≤ i → along step s (map f (take i xs)) ≡ Ok now → along step s (map f xs) ≡ Ok now
  all_of_them s now xs i le so_far = ap (λ l. along step s (map f l)) (sym (take_all i xs le)) ∙ so_far
