-- Items that lie in units are the joined items of the units.
use Rattle.std.proofs.Common.{◌≡◌, Bool, true, false, cond, not, ◌||◌, List, [], ◌∷◌, ◌++◌, refl, ap}
use Rattle.std.specs.List.{filter, flat_map, list_any}
use Rattle.mesh_law_query.proofs.Lists.{Each}
use Rattle.mesh_law_query.proofs.Perm.{Perm, nil, skip, trans, is, before, middle, appended}

module _ {X U : Type 0} (lies : U → X → Bool) where
  halves : (t : X → Bool) (xs : List X) → Perm xs (filter t xs ++ filter (λ x. not (t x)) xs)
  halves t [] = nil
  halves t (x ∷ xs) = go (t x) (halves t xs)
    where
      go : (b : Bool) → Perm xs (filter t xs ++ filter (λ x. not (t x)) xs) → Perm (x ∷ xs) (cond b (x ∷ filter t xs) (filter t xs) ++ cond (not b) (x ∷ filter (λ x. not (t x)) xs) (filter (λ x. not (t x)) xs))
      go true p = skip p
      go false p = trans (skip p) (middle x (filter t xs) (filter (λ x. not (t x)) xs))

  -- two filters, where what the one passes the other doesn't
  pub passed : (t s : X → Bool) → ((x : X) → t x ≡ true → s x ≡ false) → (xs : List X) → filter t (filter (λ x. not (s x)) xs) ≡ filter t xs
  passed t s h [] = refl
  passed t s h (x ∷ xs) = go (s x) refl (t x) refl (passed t s h xs)
    where
      go : (a : Bool) → s x ≡ a → (b : Bool) → t x ≡ b → filter t (filter (λ x. not (s x)) xs) ≡ filter t xs
          → filter t (cond (not a) (x ∷ filter (λ x. not (s x)) xs) (filter (λ x. not (s x)) xs)) ≡ cond (t x) (x ∷ filter t xs) (filter t xs)
      go false e b f ih = ap (λ l. cond (t x) (x ∷ l) l) ih
      go true e true f ih = let k : s x ≡ false = h x f in absurd (cc)
      go true e false f ih = rw f ih

  -- no item lies in two of the units
  abbrev pub AreApart : List U → Type 0
  AreApart [] = Unit {0}
  AreApart (u ∷ us) = Each (λ v. (x : X) → lies v x ≡ true → lies u x ≡ false) us × AreApart us

  -- each item lies in one of them
  abbrev pub LieAmong : List U → List X → Type 0
  LieAmong us xs = Each (λ x. list_any (λ u. lies u x) us ≡ true) xs

  later : (u : U) (xs : List X) (us : List U) → Each (λ v. (x : X) → lies v x ≡ true → lies u x ≡ false) us
      → flat_map (λ v. filter (lies v) (filter (λ x. not (lies u x)) xs)) us ≡ flat_map (λ v. filter (lies v) xs) us
  later u xs [] h = refl
  later u xs (v ∷ us) h = λ i. passed (lies v) (lies u) h.0 xs i ++ later u xs us h.1 i

  rest_lie : (u : U) (us : List U) (xs : List X) → LieAmong (u ∷ us) xs → LieAmong us (filter (λ x. not (lies u x)) xs)
  rest_lie u us [] h = tt
  rest_lie u us (x ∷ xs) h = go (lies u x) h.0 (rest_lie u us xs h.1)
    where
      go : (b : Bool) → (b || list_any (λ v. lies v x) us) ≡ true → LieAmong us (filter (λ x. not (lies u x)) xs)
          → LieAmong us (cond (not b) (x ∷ filter (λ x. not (lies u x)) xs) (filter (λ x. not (lies u x)) xs))
      go true e ih = ih
      go false e ih = (e, ih)

  pub joined : (us : List U) (xs : List X) → AreApart us → LieAmong us xs → Perm xs (flat_map (λ u. filter (lies u) xs) us)
  joined [] [] a h = nil
  joined [] (x ∷ xs) a h = absurd (let e : false ≡ true = h.0 in cc)
  joined (u ∷ us) xs a h =
      trans (halves (lies u) xs) (before (filter (lies u) xs) (trans (joined us (filter (λ x. not (lies u x)) xs) a.1 (rest_lie u us xs h)) (is _ _ (later u xs us a.0))))

pub flat_those : {X Y : Type 0} (f g : X → List Y) (xs : List X) → Each (λ x. Perm (f x) (g x)) xs → Perm (flat_map f xs) (flat_map g xs)
flat_those f g [] h = nil
flat_those f g (x ∷ xs) h = appended h.0 (flat_those f g xs h.1)
