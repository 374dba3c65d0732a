-- The entries of a kind, and the properties of a statement, one after the other.
use Rattle.std.proofs.Common.{◌≡◌, ℕ, zero, suc, ◌+◌, ◌-◌, ◌<◌, ◌≤◌, ◌==◌, true, false, List, [], ◌∷◌, length, Result, Ok, Err, refl, sym, ◌∙◌, ap, arith}
use borrow.Author.Tests.{eqb-true}
use Rattle.mesh_query_tokens.specs.Gives.{◌>>=◌, Refuses}
use Rattle.mesh_query_tokens.specs.declared.faults.ReadFault.{ReadFault}
use Rattle.mesh_query_tokens.specs.declared.faults.ReadFault.TheVariants as faults
use Rattle.mesh_query_tokens.specs.declared.tokens.Token.{Token}
use Rattle.mesh_model_statement.specs.declared.kinds.KindWord.{KindWord}
use Rattle.mesh_model_statement.specs.declared.kinds.Entries.{Entries}
use Rattle.mesh_model_statement.specs.Answers.{Refused}
use Rattle.mesh_model_statement.specs.Kinds.{one_entry, entries_from}

left : (n i : ℕ) → i < n → n - i ≡ suc (n - (i + 1))
left n i lt = omega arith

none_left : (n i : ℕ) → n ≤ i → n - i ≡ 0
none_left n i le = omega arith

-- one entry where tokens are left
one : (most : ℕ) (file : List ℕ) (fault : ReadFault) (kind : KindWord) (e : Entries) (ts : List Token) → 0 < length ts
    → entries_from file (suc most) fault kind e ts ≡ (one_entry file fault kind e ts >>= λ r. entries_from file most fault kind r.0 r.1)
unfolding entries_from
one most file fault kind e [] lt = absurd (omega arith)
one most file fault kind e (k ∷ ks) lt = refl

pub all_read : (most : ℕ) (file : List ℕ) (fault : ReadFault) (kind : KindWord) (e : Entries) (ts : List Token) (total : Result Entries ReadFault) → length ts ≡ 0
    → entries_from file most fault kind e ts ≡ total → total ≡ Ok e
unfolding entries_from
all_read zero file fault kind e [] total none so_far = sym so_far
all_read (suc most) file fault kind e [] total none so_far = sym so_far
all_read most file fault kind e (k ∷ ks) total none so_far = absurd (omega (none, arith))

pub entry_read : (n i : ℕ) (file : List ℕ) (fault : ReadFault) (kind : KindWord) (e more : Entries) (ts rest : List Token) (total : Result Entries ReadFault) → i < n → 0 < length ts
    → one_entry file fault kind e ts ≡ Ok (more, rest) → entries_from file (n - i) fault kind e ts ≡ total → entries_from file (n - (i + 1)) fault kind more rest ≡ total
entry_read n i file fault kind e more ts rest total lt some is so_far =
    sym (ap (λ m. entries_from file m fault kind e ts) (left n i lt) ∙ one (n - (i + 1)) file fault kind e ts some
    ∙ ap (λ (r : Result (Entries × List Token) ReadFault). r >>= λ r. entries_from file (n - (i + 1)) fault kind r.0 r.1) is) ∙ so_far

pub entry_refused : (x : ReadFault) (n i : ℕ) (file : List ℕ) (fault : ReadFault) (kind : KindWord) (e : Entries) (ts : List Token) (total : Result Entries ReadFault) → i < n → 0 < length ts
    → Refuses x (one_entry file fault kind e ts) → entries_from file (n - i) fault kind e ts ≡ total → Refuses x total
entry_refused faults.Memory n i file fault kind e ts total lt some is so_far = tt
entry_refused (faults.Fault at what) n i file fault kind e ts total lt some is so_far =
    sym so_far ∙ ap (λ m. entries_from file m fault kind e ts) (left n i lt) ∙ one (n - (i + 1)) file fault kind e ts some
    ∙ ap (λ (r : Result (Entries × List Token) ReadFault). r >>= λ r. entries_from file (n - (i + 1)) fault kind r.0 r.1) is

pub too_many : (n i : ℕ) (file : List ℕ) (fault : ReadFault) (kind : KindWord) (e : Entries) (ts : List Token) (total : Result Entries ReadFault) → n ≤ i → 0 < length ts
    → entries_from file (n - i) fault kind e ts ≡ total → total ≡ Err fault
unfolding entries_from
too_many n i file fault kind e [] total le some so_far = absurd (omega arith)
too_many n i file fault kind e (k ∷ ks) total le some so_far = sym so_far ∙ ap (λ m. entries_from file m fault kind e (k ∷ ks)) (none_left n i le)

pub is_no_length : (ts : List Token) → (length ts == 0) ≡ true → length ts ≡ 0
is_no_length ts e = eqb-true (length ts) 0 e

pub some_length : (ts : List Token) → (length ts == 0) ≡ false → 0 < length ts
some_length [] e = cc e
some_length (k ∷ ks) e = omega arith

pub refused_is : {A : Type 0} (x fault : ReadFault) (total : Result A ReadFault) → total ≡ Err fault → Refused x fault → Refuses x total
refused_is faults.Memory fault total e is = tt
refused_is (faults.Fault at kind) fault total e is = e ∙ ap Err is
