-- What a step gives has a property, where what it stands on has it.
use Rattle.std.proofs.Common.{◌≡◌, Bool, true, false, List, [], ◌∷◌, ◌++◌, map, Option, Some, None, Result, Ok, Err, refl, subst}
use Rattle.std.specs.List.{AllByRecursion}
use Rattle.std.specs.Option.{ForSome}
use Rattle.mesh_query_tokens.specs.Gives.{◌>>=◌}
use Rattle.mesh_query_tokens.specs.declared.faults.ReadFault.{ReadFault}
use Rattle.mesh_query_tokens.specs.Walk.{provided, along, one_more, all_of, some_of}

-- a value that is given has this property
abbrev pub Good : {A : Type 0} → (A → Type 0) → Result A ReadFault → Type 0
Good {A} P r = (x : A) → r ≡ Ok x → P x

pub given : {A : Type 0} (P : A → Type 0) (x : A) → P x → Good P (Ok x)
given P x p y e = subst P (cc) p

pub refused : {A : Type 0} (P : A → Type 0) (fault : ReadFault) → Good P (Err fault)
refused P fault y e = absurd (cc)

pub then_good : {A B : Type 0} (P : A → Type 0) (R : B → Type 0) (r : Result A ReadFault) (next : A → Result B ReadFault) → Good P r → ((x : A) → P x → Good R (next x)) → Good R (r >>= next)
then_good P R (Ok x) next g h = h x (g x refl)
then_good P R (Err fault) next g h = refused R fault

-- a walk keeps what each of its steps keeps
pub along_good : {S A : Type 0} (P : S → Type 0) (E : A → Type 0) (step : S → A → Result S ReadFault) → ((s : S) (x : A) → P s → E x → Good P (step s x))
    → (s : S) → P s → (xs : List A) → AllByRecursion E xs → Good P (along step s xs)
unfolding along
along_good P E step h s p [] all = given P s p
along_good P E step h s p (x ∷ xs) all = then_good P P (step s x) (λ n. along step n xs) (h s x p all.0) (λ n q. along_good P E step h n q xs all.1)

pub AllByRecursion-push : {A : Type 0} (P : A → Type 0) (xs : List A) (x : A) → P x → AllByRecursion P xs → AllByRecursion P (xs ++ x ∷ [])
AllByRecursion-push P [] x p h = (p, tt)
AllByRecursion-push P (y ∷ xs) x p h = (h.0, AllByRecursion-push P xs x p h.1)

pub all_good : {A : Type 0} (P : A → Type 0) (rs : List (Result A ReadFault)) → AllByRecursion (Good P) rs → Good (AllByRecursion P) (all_of rs)
all_good P rs all =
    along_good (AllByRecursion P) (Good P) one_more (λ made r so_far g. then_good P (AllByRecursion P) r (λ x. Ok (made ++ x ∷ [])) g (λ x p. given (AllByRecursion P) (made ++ x ∷ []) (AllByRecursion-push P made x p so_far)))
    [] tt rs all

pub none_good : {A : Type 0} (P : A → Type 0) → Good (λ (o : Option A). ForSome o P) (Ok None)
none_good P = given (λ o. ForSome o P) None (λ x e. absurd (cc))

pub some_good : {A : Type 0} (P : A → Type 0) (r : Result A ReadFault) → Good P r → Good (λ (o : Option A). ForSome o P) (some_of (Some r))
some_good P r g = then_good P (λ o. ForSome o P) r (λ x. Ok (Some x)) g (λ x p. given (λ o. ForSome o P) (Some x) (λ y e. subst P (cc) p))

-- members that come with what is known of them
pub each_good : {X Y : Type 0} (K : X → Type 0) (E : Y → Type 0) (f : X → Y) → ((x : X) → K x → E (f x)) → (xs : List ((x : X) × K x)) → AllByRecursion E (map f (map (λ x. x.0) xs))
each_good K E f h [] = tt
each_good K E f h (x ∷ xs) = (h x.0 x.1, each_good K E f h xs)

-- of members of which nothing is asked
pub any : {X : Type 0} (xs : List X) → AllByRecursion (λ (x : X). Unit {0}) xs
any [] = tt
any (x ∷ xs) = (tt, any xs)

pub provided_good : {A : Type 0} (P : A → Type 0) (b : Bool) (x : A) (fault : ReadFault) → (b ≡ true → P x) → Good P (provided b x fault)
provided_good P true x fault h = given P x (h refl)
provided_good P false x fault h = refused P fault

pub each_weaker : {A : Type 0} (P R : A → Type 0) (xs : List A) → ((x : A) → P x → R x) → AllByRecursion P xs → AllByRecursion R xs
each_weaker P R [] h all = tt
each_weaker P R (x ∷ xs) h all = (h x all.0, each_weaker P R xs h all.1)
