-- What comes of the steps that are left comes of all.
use Rattle.std.proofs.Common.{◌≡◌, ℕ, ◌+◌, ◌<◌, List, [], ◌∷◌, drop, length, get_or, Result, Ok, Err, refl, sym, ap, subst, ◌∙◌}
use Rattle.std.proofs.lemmas.List.{drop_more}
use Rattle.std.specs.Result.{IsErrAnd}
use Rattle.mesh_project_files.specs.Loading.{Gives, Refuses}
use Rattle.mesh_project_files.specs.declared.faults.LoadFault.{LoadFault}
use Rattle.mesh_project_files.specs.declared.faults.LoadFault.TheVariants.{Fault, Folder, Memory}
use Rattle.mesh_audit_files.specs.Walks.{Along, Then}

pub gives_itself : {X : Type 0} (r : Result X LoadFault) → Gives r r
gives_itself (Ok x) = refl
gives_itself (Err (Fault file at kind)) = refl
gives_itself (Err Folder) = tt
gives_itself (Err Memory) = tt

-- the folder failed or memory ran out: no files say when
abbrev pub IsSilent : LoadFault → Type 0
IsSilent (Fault file at kind) = ⊥
IsSilent Folder = Unit {0}
IsSilent Memory = Unit {0}

pub silent_gives : {X : Type 0} (fault : LoadFault) → IsSilent fault → (r : Result X LoadFault) → Gives (Err fault) r
silent_gives (Fault file at kind) silent r = absurd silent
silent_gives Folder silent r = tt
silent_gives Memory silent r = tt

-- a step refused where the value that was sought is another
pub then_refused : {S : Type 0} (X : Type 0) (meant : Result S LoadFault) (next : S → Type 0) (fault : LoadFault) → Refuses fault meant → ((s : S) → IsSilent fault → next s) → Then {X = X} meant next (Err fault)
then_refused X (Ok s) next (Fault file at kind) is silent = absurd (cc is)
then_refused X (Ok s) next Folder is silent = silent s tt
then_refused X (Ok s) next Memory is silent = silent s tt
then_refused X (Err g) next (Fault file at kind) is silent = let same : g ≡ Fault file at kind = cc is in ap (λ (x : LoadFault). Err x) same
then_refused X (Err g) next Folder is silent = tt
then_refused X (Err g) next Memory is silent = tt

module _ {S A : Type 0} (Step : S → A → Result S LoadFault → Type 0) where
  abbrev pub Goes : S → List A → S → List A → Type 0
  Goes start all now left = (r : Result S LoadFault) → Along Step now left r → Along Step start all r

  pub goes_on : (start : S) (all : List A) (now : S) (x : A) (left rest : List A) (next : S) → left ≡ x ∷ rest → Goes start all now left → Step now x (Ok next) → Goes start all next rest
  goes_on start all now x left rest next first goes step r h = goes r (subst (λ (l : List A). Along Step now l r) (sym first) (Ok next, step, h))

  pub stops : (start : S) (all : List A) (now : S) (x : A) (left rest : List A) (fault : LoadFault) → left ≡ x ∷ rest → Goes start all now left → Step now x (Err fault) → Along Step start all (Err fault)
  stops start all now x left rest fault first goes step = goes (Err fault) (subst (λ (l : List A). Along Step now l (Err fault)) (sym first) (Err fault, step, gives_itself (Err fault)))

  pub ends : (start : S) (all : List A) (now : S) (left : List A) → left ≡ [] → Goes start all now left → Along Step start all (Ok now)
  ends start all now left none goes = goes (Ok now) (subst (λ (l : List A). Along Step now l (Ok now)) (sym none) refl)

  pub wants : ((now : S) (x : A) → Step now x (Err Memory)) → (fault : LoadFault) → IsSilent fault → (now : S) (xs : List A) → Along Step now xs (Err fault)
  wants unknown fault silent now [] = silent_gives fault silent (Ok now)
  wants unknown fault silent now (x ∷ xs) = (Err Memory, unknown now x, silent_gives fault silent (Err Memory))

pub next_of : {A : Type 0} (xs : List A) (i : ℕ) (x : A) → i < length xs → x ≡ get_or xs i x → drop i xs ≡ x ∷ drop (i + 1) xs
next_of xs i x lt is = drop_more xs i x lt ∙ ap (λ y. y ∷ drop (i + 1) xs) (sym is)

pub memory_gives : {X : Type 0} (result r : Result X LoadFault) → IsErrAnd result (λ y. y ≡ Memory) → Gives result r
memory_gives (Ok x) r is = absurd is
memory_gives (Err Memory) r is = tt
memory_gives (Err Folder) r is = tt
memory_gives (Err (Fault file at kind)) r is = absurd (let clash : Fault file at kind ≡ Memory = is in cc)
