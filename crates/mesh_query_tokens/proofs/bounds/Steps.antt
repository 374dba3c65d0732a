-- The tokens of a value, one after the other.
use Rattle.std.proofs.Common.{◌≡◌, ℕ, suc, ◌+◌, ◌<◌, ◌≤◌, Bool, true, false, cond, List, drop, length, get_or, Result, Ok, Err, refl, sym, ◌∙◌, ap, arith}
use Rattle.std.proofs.lemmas.List.{drop_more, drop_all}
use Rattle.mesh_query_tokens.specs.Gives.{◌>>=◌, Refuses}
use Rattle.mesh_query_tokens.specs.declared.faults.ReadFault.{ReadFault}
use Rattle.mesh_query_tokens.specs.declared.faults.ReadFault.TheVariants as faults
use Rattle.mesh_query_tokens.specs.declared.tokens.Token.{Token}
use Rattle.mesh_query_tokens.specs.bounds.Faults.{broken}
use Rattle.mesh_query_tokens.specs.bounds.Brackets.{Open, opened, ends_value, value_len}

-- i tokens more
abbrev pub plus : ℕ → Result ℕ ReadFault → Result ℕ ReadFault
plus i r = r >>= λ n. Ok (i + n)

-- the value's length, where i tokens have been passed
abbrev pub len_from : Bool → ℕ → Open → List Token → ℕ → Result ℕ ReadFault
len_from any last held ts i = plus i (value_len any last held (drop i ts))

more_len : Bool → Open → ℕ → Token → List Token → Result Open ReadFault → Result ℕ ReadFault
more_len any held i k ks r = r >>= λ more. value_len any k.end more ks >>= λ n. Ok (suc n)

here : (any : Bool) (last : ℕ) (held : Open) (ts : List Token) (i : ℕ) (k : Token) → i < length ts → k ≡ get_or ts i k
    → len_from any last held ts i ≡ plus i (cond (ends_value held k) (Ok 0) (more_len any held i k (drop (i + 1) ts) (opened any last held k)))
unfolding value_len more_len
here any last held ts i k lt at = rw (drop_more ts i k lt, ← at) refl

next : (i : ℕ) (r : Result ℕ ReadFault) → plus i (r >>= λ n. Ok (suc n)) ≡ plus (i + 1) r
next i (Ok n) = ap Ok (omega arith)
next i (Err e) = refl

pub ends : (any : Bool) (last : ℕ) (held : Open) (ts : List Token) (i : ℕ) (k : Token) (total : Result ℕ ReadFault) → i < length ts → k ≡ get_or ts i k
    → ends_value held k ≡ true → len_from any last held ts i ≡ total → total ≡ Ok i
ends any last held ts i k total lt at e so_far =
    sym so_far ∙ here any last held ts i k lt at
    ∙ ap (λ (b : Bool). plus i (cond b (Ok 0) (more_len any held i k (drop (i + 1) ts) (opened any last held k)))) e ∙ ap Ok (omega arith)

goes_on : (any : Bool) (last : ℕ) (held : Open) (ts : List Token) (i : ℕ) (k : Token) (total : Result ℕ ReadFault) → i < length ts → k ≡ get_or ts i k
    → ends_value held k ≡ false → len_from any last held ts i ≡ total → plus i (more_len any held i k (drop (i + 1) ts) (opened any last held k)) ≡ total
goes_on any last held ts i k total lt at e so_far =
    sym (here any last held ts i k lt at ∙ ap (λ (b : Bool). plus i (cond b (Ok 0) (more_len any held i k (drop (i + 1) ts) (opened any last held k)))) e) ∙ so_far

pub goes : (any : Bool) (last : ℕ) (held more : Open) (ts : List Token) (i : ℕ) (k : Token) (total : Result ℕ ReadFault) → i < length ts → k ≡ get_or ts i k
    → ends_value held k ≡ false → opened any last held k ≡ Ok more → len_from any last held ts i ≡ total → len_from any k.end more ts (i + 1) ≡ total
unfolding more_len
goes any last held more ts i k total lt at e is so_far =
    sym (ap (λ r. plus i (more_len any held i k (drop (i + 1) ts) r)) is ∙ next i (value_len any k.end more (drop (i + 1) ts)))
    ∙ goes_on any last held ts i k total lt at e so_far

pub fails : (e : ReadFault) (any : Bool) (last : ℕ) (held : Open) (ts : List Token) (i : ℕ) (k : Token) (total : Result ℕ ReadFault) → i < length ts → k ≡ get_or ts i k
    → ends_value held k ≡ false → Refuses e (opened any last held k) → len_from any last held ts i ≡ total → Refuses e total
unfolding more_len
fails faults.Memory any last held ts i k total lt at e is so_far = tt
fails (faults.Fault place kind) any last held ts i k total lt at e is so_far =
    sym (goes_on any last held ts i k total lt at e so_far) ∙ ap (λ r. plus i (more_len any held i k (drop (i + 1) ts) r)) is

pub runs_out : (any : Bool) (last : ℕ) (held : Open) (ts : List Token) (i : ℕ) (total : Result ℕ ReadFault) → length ts ≤ i → len_from any last held ts i ≡ total → total ≡ Err (broken last)
unfolding value_len
runs_out any last held ts i total le so_far = sym so_far ∙ ap (λ l. plus i (value_len any last held l)) (drop_all i ts le)
