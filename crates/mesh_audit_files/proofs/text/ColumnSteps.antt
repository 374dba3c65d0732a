-- Columns, one after the other.
use Rattle.std.proofs.Common.{◌≡◌, ℕ, suc, ◌+◌, ◌-◌, ◌<◌, ◌≤◌, Bool, true, false, cond, List, [], ◌∷◌, ◌++◌, length, refl, sym, ◌∙◌, ap, arith}
use Rattle.std.specs.declared.option.Option.{Option}
use Rattle.std.specs.declared.option.Option.TheVariants.{None, Some}
use Rattle.mesh_query_tokens.specs.bounds.Found.{◌>>=◌}
use Rattle.mesh_query_tokens.specs.declared.tokens.Token.{Token}
use Rattle.mesh_audit_files.specs.text.Entries.{columns_from, one_column}

left : (n i : ℕ) → i < n → n - i ≡ suc (n - (i + 1))
left n i lt = omega arith

none_left : (n i : ℕ) → n ≤ i → n - i ≡ 0
none_left n i le = omega arith

-- what follows a column
then_on : ℕ → List (List ℕ) → Option (List ℕ × Bool × List Token) → Option (List (List ℕ))
then_on most front o = o >>= λ r. cond r.1 (Some (front ++ r.0 ∷ [])) (columns_from most (front ++ r.0 ∷ []) r.2)

here : (n i : ℕ) (front : List (List ℕ)) (ts : List Token) (total : Option (List (List ℕ))) → i < n → columns_from (n - i) front ts ≡ total → then_on (n - (i + 1)) front (one_column ts) ≡ total
unfolding columns_from then_on
here n i front ts total lt so_far = sym (ap (λ m. columns_from m front ts) (left n i lt)) ∙ so_far

pub last_read : (n i : ℕ) (front : List (List ℕ)) (ts : List Token) (name : List ℕ) (last : Bool) (rest : List Token) (total : Option (List (List ℕ))) → i < n → Some (name, last, rest) ≡ one_column ts → last ≡ true
    → columns_from (n - i) front ts ≡ total → Some (front ++ name ∷ []) ≡ total
unfolding then_on
last_read n i front ts name last rest total lt is e so_far =
    sym (ap (λ (b : Bool). cond b (Some (front ++ name ∷ [])) (columns_from (n - (i + 1)) (front ++ name ∷ []) rest)) e) ∙ ap (then_on (n - (i + 1)) front) is ∙ here n i front ts total lt so_far

pub one_read : (n i : ℕ) (front : List (List ℕ)) (ts : List Token) (name : List ℕ) (last : Bool) (rest : List Token) (total : Option (List (List ℕ))) → i < n → Some (name, last, rest) ≡ one_column ts → last ≡ false
    → columns_from (n - i) front ts ≡ total → columns_from (n - (i + 1)) (front ++ name ∷ []) rest ≡ total
unfolding then_on
one_read n i front ts name last rest total lt is e so_far =
    sym (ap (λ (b : Bool). cond b (Some (front ++ name ∷ [])) (columns_from (n - (i + 1)) (front ++ name ∷ []) rest)) e) ∙ ap (then_on (n - (i + 1)) front) is ∙ here n i front ts total lt so_far

pub none_read : (n i : ℕ) (front : List (List ℕ)) (ts : List Token) (total : Option (List (List ℕ))) → i < n → None ≡ one_column ts → columns_from (n - i) front ts ≡ total → None ≡ total
unfolding then_on
none_read n i front ts total lt is so_far = ap (then_on (n - (i + 1)) front) is ∙ here n i front ts total lt so_far

pub too_many : (n i : ℕ) (front : List (List ℕ)) (ts : List Token) (total : Option (List (List ℕ))) → n ≤ i → columns_from (n - i) front ts ≡ total → None ≡ total
unfolding columns_from
too_many n i front ts total le so_far = sym (ap (λ m. columns_from m front ts) (none_left n i le)) ∙ so_far
