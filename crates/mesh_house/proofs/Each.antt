-- Changes that are made for each item of a list, one item after another.
use Rattle.std.proofs.Common.{◌≡◌, ℕ, zero, suc, ◌+◌, ◌<◌, ◌≤◌, List, [], ◌∷◌, ◌++◌, length, take, drop, get_or, Ok, Err, Result, sym, ◌∙◌, ap, arith, append_assoc}
use Rattle.std.specs.List.{flat_map}
use Rattle.std.specs.Result.{IsErrAnd}
use Rattle.std.proofs.lemmas.List.{take_all, take_more, append-nil}
use Rattle.std.proofs.lemmas.Grind.{flat_map-append}
use Rattle.mesh_house.specs.declared.world.Change.{Change}
use Rattle.mesh_house.specs.declared.house.WhFail.{WhFail}
use Rattle.mesh_house.specs.House.{Told}
use Rattle.mesh_house.specs.Runs.{Ran, Makes}
use Rattle.mesh_house.proofs.Runs.{ran_nothing, ran_then, makes_ok, makes_err}

module _ {A : Type 0} (changes_of : A → List Change) where
  one_more : (xs : List A) (i : ℕ) (x : A) → i < length xs → x ≡ get_or xs i x → flat_map changes_of (take (i + 1) xs) ≡ flat_map changes_of (take i xs) ++ changes_of x
  one_more xs i x lt here =
      ap (flat_map changes_of) (take_more xs i x lt ∙ ap (λ y. take i xs ++ y ∷ []) (sym here))
      ∙ flat_map-append changes_of (take i xs) (x ∷ [])
      ∙ ap (λ (l : List Change). flat_map changes_of (take i xs) ++ l) (append-nil (changes_of x))

  in_parts : (xs : List A) (i : ℕ) (x : A) → i < length xs → x ≡ get_or xs i x → flat_map changes_of xs ≡ flat_map changes_of (take i xs) ++ (changes_of x ++ flat_map changes_of (drop (suc i) xs))
  in_parts [] i x lt here = absurd (omega arith)
  in_parts (y ∷ ys) zero x lt here = ap (λ z. changes_of z ++ flat_map changes_of ys) (sym here)
  in_parts (y ∷ ys) (suc i) x lt here =
      ap (λ (l : List Change). changes_of y ++ l) (in_parts ys i x (omega arith) here)
      ∙ sym (append_assoc (changes_of y) (flat_map changes_of (take i ys)) (changes_of x ++ flat_map changes_of (drop (suc i) ys)))

  -- no item has come
  pub ran_first : (xs : List A) (a : Told) → Ran (λ w. flat_map changes_of (take 0 xs)) a a
  ran_first xs a = ran_nothing a

  -- one more item has come
  pub ran_more : (xs : List A) (i : ℕ) (x : A) (a b c : Told) → i < length xs → x ≡ get_or xs i x → Ran (λ w. flat_map changes_of (take i xs)) a b → Ran (λ w. changes_of x) b c → Ran (λ w. flat_map changes_of (take (i + 1) xs)) a c
  ran_more xs i x a b c lt here p q = ran_then (λ w. flat_map changes_of (take i xs)) (λ w. changes_of x) (λ w. flat_map changes_of (take (i + 1) xs)) a b c p q (λ w told. one_more xs i x lt here)

  -- an item's changes stopped
  pub stops_at : {T U : Type 0} (xs : List A) (i : ℕ) (x : A) (a b c : Told) (e : WhFail) (r : Result T WhFail) → i < length xs → x ≡ get_or xs i x → Ran (λ w. flat_map changes_of (take i xs)) a b → Makes {T = U} (λ w. changes_of x) b c (Err e) → IsErrAnd r (λ y. y ≡ e) → Makes (λ w. flat_map changes_of xs) a c r
  stops_at xs i x a b c e r lt here p q is =
      makes_err (λ w. flat_map changes_of (take i xs)) (λ w. changes_of x) (λ w. flat_map changes_of xs) (λ w. flat_map changes_of (drop (suc i) xs)) a b c e r p q is (λ w told. in_parts xs i x lt here)

  -- all items have come
  pub ran_all : (xs : List A) (i : ℕ) (a b : Told) → length xs ≤ i → Ran (λ w. flat_map changes_of (take i xs)) a b → Ran (λ w. flat_map changes_of xs) a b
  ran_all xs i a b le p = rw (← take_all i xs le) p

  pub makes_all : {T : Type 0} (xs : List A) (i : ℕ) (a b : Told) (x : T) → length xs ≤ i → Ran (λ w. flat_map changes_of (take i xs)) a b → Makes (λ w. flat_map changes_of xs) a b (Ok x)
  makes_all xs i a b x le p = makes_ok (λ w. flat_map changes_of xs) a b x (ran_all xs i a b le p)
