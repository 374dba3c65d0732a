-- The records of the file, one after the other.
use Rattle.std.proofs.Common.{◌≡◌, ℕ, ◌+◌, ◌<◌, ◌≤◌, List, drop, length, get_or, Result, Ok, sym, ◌∙◌, ap, arith}
use Rattle.std.proofs.lemmas.List.{drop_more, drop_all}
use Rattle.mesh_base.specs.declared.definitions.Decl.{Decl}
use Rattle.mesh_query_tokens.specs.Gives.{◌>>=◌, Refuses}
use Rattle.mesh_query_tokens.specs.declared.faults.ReadFault.{ReadFault}
use Rattle.mesh_query_tokens.specs.declared.faults.ReadFault.TheVariants as faults
use Rattle.mesh_model_csv.specs.seeds.Cells.{Record}
use Rattle.mesh_model_csv.specs.external.Externals.{declare, declare_all}

-- what the records from a place on add to the sources so far
abbrev pub declared_from : List Record → ℕ → List Decl → Result (List Decl) ReadFault
declared_from rs i sources = declare_all (i + 2) sources (drop i rs)

-- what follows a record
then_on : List Record → ℕ → Result (List Decl) ReadFault → Result (List Decl) ReadFault
then_on rs i r = r >>= λ more. declared_from rs i more

here : (rs : List Record) (i : ℕ) (r : Record) (sources : List Decl) → i < length rs → r ≡ get_or rs i r → declared_from rs i sources ≡ then_on rs (i + 1) (declare (i + 2) sources r)
unfolding then_on
here rs i r sources lt at =
    let more : i + 2 + 1 ≡ i + 1 + 2 = omega arith in
    ap (declare_all (i + 2) sources) (drop_more rs i r lt) ∙ (λ j. declare (i + 2) sources (sym at j) >>= λ m. declare_all (more j) m (drop (i + 1) rs))

pub record_read : (rs : List Record) (i : ℕ) (r : Record) (sources more : List Decl) (total : Result (List Decl) ReadFault) → i < length rs → r ≡ get_or rs i r
    → declare (i + 2) sources r ≡ Ok more → declared_from rs i sources ≡ total → declared_from rs (i + 1) more ≡ total
unfolding then_on
record_read rs i r sources more total lt at is so_far = sym (here rs i r sources lt at ∙ ap (then_on rs (i + 1)) is) ∙ so_far

pub record_refused : (x : ReadFault) (rs : List Record) (i : ℕ) (r : Record) (sources : List Decl) (total : Result (List Decl) ReadFault) → i < length rs → r ≡ get_or rs i r
    → Refuses x (declare (i + 2) sources r) → declared_from rs i sources ≡ total → Refuses x total
unfolding then_on
record_refused faults.Memory rs i r sources total lt at is so_far = tt
record_refused (faults.Fault place kind) rs i r sources total lt at is so_far = sym so_far ∙ here rs i r sources lt at ∙ ap (then_on rs (i + 1)) is

pub all_read : (rs : List Record) (i : ℕ) (sources : List Decl) (total : Result (List Decl) ReadFault) → length rs ≤ i → declared_from rs i sources ≡ total → total ≡ Ok sources
all_read rs i sources total le so_far = sym so_far ∙ ap (declare_all (i + 2) sources) (drop_all i rs le)
