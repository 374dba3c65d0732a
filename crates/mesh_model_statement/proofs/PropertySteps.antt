-- Properties, one after the other.
use Rattle.std.proofs.Common.{◌≡◌, ℕ, suc, ◌+◌, ◌-◌, ◌<◌, ◌≤◌, Bool, true, false, cond, List, Result, Ok, Err, sym, ◌∙◌, ap, arith}
use Rattle.mesh_query_tokens.specs.Gives.{◌>>=◌, Refuses}
use Rattle.mesh_query_tokens.specs.declared.faults.ReadFault.{ReadFault}
use Rattle.mesh_query_tokens.specs.declared.faults.ReadFault.TheVariants as faults
use Rattle.mesh_query_tokens.specs.declared.tokens.Token.{Token}
use Rattle.mesh_model_statement.specs.declared.parts.Parts.{Parts}
use Rattle.mesh_query_tokens.specs.bounds.Faults.{broken}
use Rattle.mesh_model_statement.specs.Statement.{Read, one_property, properties}

left : (n i : ℕ) → i < n → n - i ≡ suc (n - (i + 1))
left n i lt = omega arith

none_left : (n i : ℕ) → n ≤ i → n - i ≡ 0
none_left n i le = omega arith

-- what follows a property
then_on : List ℕ → ℕ → Result (Bool × Read) ReadFault → Result Read ReadFault
then_on file most r = r >>= λ s. cond s.0 (Ok s.1) (properties file most s.1.parts s.1.before s.1.rest)

here : (file : List ℕ) (n i : ℕ) (p : Parts) (before : ℕ) (ts : List Token) (total : Result Read ReadFault) → i < n → properties file (n - i) p before ts ≡ total → then_on file (n - (i + 1)) (one_property file p before ts) ≡ total
unfolding properties then_on
here file n i p before ts total lt so_far = sym (ap (λ m. properties file m p before ts) (left n i lt)) ∙ so_far

pub last_read : (file : List ℕ) (n i : ℕ) (p : Parts) (before : ℕ) (ts : List Token) (last : Bool) (r : Read) (total : Result Read ReadFault) → i < n → one_property file p before ts ≡ Ok (last, r) → last ≡ true
    → properties file (n - i) p before ts ≡ total → total ≡ Ok r
unfolding then_on
last_read file n i p before ts last r total lt is e so_far =
    sym (here file n i p before ts total lt so_far) ∙ ap (then_on file (n - (i + 1))) is ∙ ap (λ (b : Bool). cond b (Ok r) (properties file (n - (i + 1)) r.parts r.before r.rest)) e

pub one_read : (file : List ℕ) (n i : ℕ) (p : Parts) (before : ℕ) (ts : List Token) (last : Bool) (r : Read) (total : Result Read ReadFault) → i < n → one_property file p before ts ≡ Ok (last, r) → last ≡ false
    → properties file (n - i) p before ts ≡ total → properties file (n - (i + 1)) r.parts r.before r.rest ≡ total
unfolding then_on
one_read file n i p before ts last r total lt is e so_far =
    sym (ap (then_on file (n - (i + 1))) is ∙ ap (λ (b : Bool). cond b (Ok r) (properties file (n - (i + 1)) r.parts r.before r.rest)) e) ∙ here file n i p before ts total lt so_far

pub one_refused : (x : ReadFault) (file : List ℕ) (n i : ℕ) (p : Parts) (before : ℕ) (ts : List Token) (total : Result Read ReadFault) → i < n → Refuses x (one_property file p before ts)
    → properties file (n - i) p before ts ≡ total → Refuses x total
unfolding then_on
one_refused faults.Memory file n i p before ts total lt is so_far = tt
one_refused (faults.Fault at what) file n i p before ts total lt is so_far = sym (here file n i p before ts total lt so_far) ∙ ap (then_on file (n - (i + 1))) is

pub too_many : (file : List ℕ) (n i : ℕ) (p : Parts) (before : ℕ) (ts : List Token) (total : Result Read ReadFault) → n ≤ i → properties file (n - i) p before ts ≡ total → total ≡ Err (broken before)
unfolding properties
too_many file n i p before ts total le so_far = sym so_far ∙ ap (λ m. properties file m p before ts) (none_left n i le)
