-- Properties, one after the other.
use Rattle.std.proofs.Common.{◌≡◌, ℕ, suc, ◌+◌, ◌-◌, ◌<◌, ◌≤◌, Bool, true, false, cond, List, Result, Ok, Err, sym, ◌∙◌, ap, arith}
use Rattle.mesh_query_tokens.specs.Gives.{◌>>=◌, Refuses}
use Rattle.mesh_query_tokens.specs.declared.faults.ReadFault.{ReadFault}
use Rattle.mesh_query_tokens.specs.declared.faults.ReadFault.TheVariants as faults
use Rattle.mesh_query_tokens.specs.declared.tokens.Token.{Token}
use Rattle.mesh_audit_files.specs.declared.text.heads.Head.{Head}
use Rattle.mesh_query_tokens.specs.bounds.Faults.{broken}
use Rattle.mesh_audit_files.specs.text.Statement.{Headed, one_property, properties}

left : (n i : ℕ) → i < n → n - i ≡ suc (n - (i + 1))
left n i lt = omega arith

none_left : (n i : ℕ) → n ≤ i → n - i ≡ 0
none_left n i le = omega arith

-- what follows a property
then_on : List (List ℕ) → ℕ → Result (Bool × Headed) ReadFault → Result Headed ReadFault
then_on taken most r = r >>= λ s. cond s.0 (Ok s.1) (properties taken most s.1.head s.1.before s.1.rest)

here : (taken : List (List ℕ)) (n i : ℕ) (p : Head) (before : ℕ) (ts : List Token) (total : Result Headed ReadFault) → i < n → properties taken (n - i) p before ts ≡ total → then_on taken (n - (i + 1)) (one_property taken p before ts) ≡ total
unfolding properties then_on
here taken n i p before ts total lt so_far = sym (ap (λ m. properties taken m p before ts) (left n i lt)) ∙ so_far

pub last_read : (taken : List (List ℕ)) (n i : ℕ) (p : Head) (before : ℕ) (ts : List Token) (last : Bool) (r : Headed) (total : Result Headed ReadFault) → i < n → one_property taken p before ts ≡ Ok (last, r) → last ≡ true
    → properties taken (n - i) p before ts ≡ total → total ≡ Ok r
unfolding then_on
last_read taken n i p before ts last r total lt is e so_far =
    sym (here taken n i p before ts total lt so_far) ∙ ap (then_on taken (n - (i + 1))) is ∙ ap (λ (b : Bool). cond b (Ok r) (properties taken (n - (i + 1)) r.head r.before r.rest)) e

pub one_read : (taken : List (List ℕ)) (n i : ℕ) (p : Head) (before : ℕ) (ts : List Token) (last : Bool) (r : Headed) (total : Result Headed ReadFault) → i < n → one_property taken p before ts ≡ Ok (last, r) → last ≡ false
    → properties taken (n - i) p before ts ≡ total → properties taken (n - (i + 1)) r.head r.before r.rest ≡ total
unfolding then_on
one_read taken n i p before ts last r total lt is e so_far =
    sym (ap (then_on taken (n - (i + 1))) is ∙ ap (λ (b : Bool). cond b (Ok r) (properties taken (n - (i + 1)) r.head r.before r.rest)) e) ∙ here taken n i p before ts total lt so_far

pub one_refused : (x : ReadFault) (taken : List (List ℕ)) (n i : ℕ) (p : Head) (before : ℕ) (ts : List Token) (total : Result Headed ReadFault) → i < n → Refuses x (one_property taken p before ts)
    → properties taken (n - i) p before ts ≡ total → Refuses x total
unfolding then_on
one_refused faults.Memory taken n i p before ts total lt is so_far = tt
one_refused (faults.Fault at what) taken n i p before ts total lt is so_far = sym (here taken n i p before ts total lt so_far) ∙ ap (then_on taken (n - (i + 1))) is

pub too_many : (taken : List (List ℕ)) (n i : ℕ) (p : Head) (before : ℕ) (ts : List Token) (total : Result Headed ReadFault) → n ≤ i → properties taken (n - i) p before ts ≡ total → total ≡ Err (broken before)
unfolding properties
too_many taken n i p before ts total le so_far = sym so_far ∙ ap (λ m. properties taken m p before ts) (none_left n i le)
