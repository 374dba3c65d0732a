-- The names of a kind's entries, one after the other.
use Rattle.std.proofs.Common.{◌≡◌, ℕ, zero, suc, ◌+◌, ◌-◌, ◌<◌, ◌≤◌, Bool, true, false, ◌||◌, List, [], ◌∷◌, length, Result, Ok, Err, refl, sym, ◌∙◌, ap, arith}
use Rattle.mesh_query_tokens.specs.Gives.{◌>>=◌, Refuses}
use Rattle.mesh_query_tokens.specs.declared.faults.ReadFault.{ReadFault}
use Rattle.mesh_query_tokens.specs.declared.faults.ReadFault.TheVariants as faults
use Rattle.mesh_query_tokens.specs.declared.tokens.Token.{Token}
use Rattle.mesh_model_statement.specs.declared.kinds.KindWord.{KindWord}
use Rattle.mesh_model_statement.specs.declared.kinds.KindWord.TheVariants as the_kind
use Rattle.mesh_model_statement.specs.Faults.{provided}
use Rattle.mesh_model_statement.specs.Kinds.{one_name, names_from, has_needed}

-- the kind, where the entry that it needs has been found or is among these names
abbrev pub sought : ReadFault → KindWord → Bool → Result (List (List ℕ)) ReadFault → Result KindWord ReadFault
sought fault kind found names = names >>= λ names. provided (found || has_needed kind names) kind fault

regroup : (a b c : Bool) → (a || (b || c)) ≡ ((a || (b || false)) || c)
regroup true b c = refl
regroup false true c = refl
regroup false false c = refl

one_more : (kind : KindWord) (found : Bool) (name : List ℕ) (names : List (List ℕ)) → (found || has_needed kind (name ∷ names)) ≡ ((found || has_needed kind (name ∷ [])) || has_needed kind names)
one_more the_kind.Full true name names = refl
one_more the_kind.Full false name names = refl
one_more the_kind.View true name names = refl
one_more the_kind.View false name names = refl
one_more the_kind.Seed found name names = regroup found _ _
one_more the_kind.Incremental found name names = regroup found _ _

-- a name in front of the others
in_front : List ℕ → Result (List (List ℕ)) ReadFault → Result (List (List ℕ)) ReadFault
in_front name names = names >>= λ names. Ok (name ∷ names)

noticed : (fault : ReadFault) (kind : KindWord) (found : Bool) (name : List ℕ) (names : Result (List (List ℕ)) ReadFault)
    → sought fault kind found (in_front name names) ≡ sought fault kind (found || has_needed kind (name ∷ [])) names
unfolding in_front
noticed fault kind found name (Ok names) = ap (λ (b : Bool). provided b kind fault) (one_more kind found name names)
noticed fault kind found name (Err e) = refl

-- what follows a name
then_on : ℕ → ReadFault → Result (List ℕ × List Token) ReadFault → Result (List (List ℕ)) ReadFault
then_on most fault r = r >>= λ r. in_front r.0 (names_from most fault r.1)

left : (n i : ℕ) → i < n → n - i ≡ suc (n - (i + 1))
left n i lt = omega arith

none_left : (n i : ℕ) → n ≤ i → n - i ≡ 0
none_left n i le = omega arith

one : (most : ℕ) (fault : ReadFault) (ts : List Token) → 0 < length ts → names_from (suc most) fault ts ≡ then_on most fault (one_name fault ts)
unfolding names_from then_on in_front
one most fault [] lt = absurd (omega arith)
one most fault (k ∷ ks) lt = refl

here : (n i : ℕ) (fault : ReadFault) (kind : KindWord) (found : Bool) (ts : List Token) (total : Result KindWord ReadFault) → i < n → 0 < length ts
    → sought fault kind found (names_from (n - i) fault ts) ≡ total → sought fault kind found (then_on (n - (i + 1)) fault (one_name fault ts)) ≡ total
here n i fault kind found ts total lt some so_far =
    sym (ap (λ m. sought fault kind found (names_from m fault ts)) (left n i lt) ∙ ap (sought fault kind found) (one (n - (i + 1)) fault ts some)) ∙ so_far

pub name_read : (n i : ℕ) (fault : ReadFault) (kind : KindWord) (found : Bool) (name : List ℕ) (ts rest : List Token) (total : Result KindWord ReadFault) → i < n → 0 < length ts
    → one_name fault ts ≡ Ok (name, rest) → sought fault kind found (names_from (n - i) fault ts) ≡ total
    → sought fault kind (found || has_needed kind (name ∷ [])) (names_from (n - (i + 1)) fault rest) ≡ total
unfolding then_on
name_read n i fault kind found name ts rest total lt some is so_far =
    sym (ap (λ r. sought fault kind found (then_on (n - (i + 1)) fault r)) is ∙ noticed fault kind found name (names_from (n - (i + 1)) fault rest))
    ∙ here n i fault kind found ts total lt some so_far

pub name_refused : (x : ReadFault) (n i : ℕ) (fault : ReadFault) (kind : KindWord) (found : Bool) (ts : List Token) (total : Result KindWord ReadFault) → i < n → 0 < length ts
    → Refuses x (one_name fault ts) → sought fault kind found (names_from (n - i) fault ts) ≡ total → Refuses x total
unfolding then_on
name_refused faults.Memory n i fault kind found ts total lt some is so_far = tt
name_refused (faults.Fault at what) n i fault kind found ts total lt some is so_far =
    sym (here n i fault kind found ts total lt some so_far) ∙ ap (λ r. sought fault kind found (then_on (n - (i + 1)) fault r)) is

pub all_read : (most : ℕ) (fault : ReadFault) (kind : KindWord) (found : Bool) (ts : List Token) (total : Result KindWord ReadFault) → length ts ≡ 0
    → sought fault kind found (names_from most fault ts) ≡ total → provided (found || has_needed kind []) kind fault ≡ total
unfolding names_from
all_read zero fault kind found [] total none so_far = so_far
all_read (suc most) fault kind found [] total none so_far = so_far
all_read most fault kind found (k ∷ ks) total none so_far = absurd (omega (none, arith))

pub too_many : (n i : ℕ) (fault : ReadFault) (kind : KindWord) (found : Bool) (ts : List Token) (total : Result KindWord ReadFault) → n ≤ i → 0 < length ts
    → sought fault kind found (names_from (n - i) fault ts) ≡ total → total ≡ Err fault
unfolding names_from
too_many n i fault kind found [] total le some so_far = absurd (omega arith)
too_many n i fault kind found (k ∷ ks) total le some so_far = sym so_far ∙ ap (λ m. sought fault kind found (names_from m fault (k ∷ ks))) (none_left n i le)
