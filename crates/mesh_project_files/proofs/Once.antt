-- Answers that say one thing. Only want of memory and a failing folder say nothing.
use Rattle.std.proofs.Common.{◌≡◌, Result, Ok, Err, sym, ◌∙◌, ap, subst}
use Rattle.mesh_project_files.specs.declared.faults.LoadFault.{LoadFault}
use Rattle.mesh_project_files.specs.declared.faults.LoadFault.TheVariants.{Fault, Folder, Memory}
use Rattle.mesh_project_files.specs.Loading.{◌>>=◌, Gives}

-- an answer that says something of the files
abbrev pub IsNews : {X : Type 0} → Result X LoadFault → Type 0
IsNews (Ok x) = Unit {0}
IsNews (Err (Fault file at kind)) = Unit {0}
IsNews (Err Folder) = ⊥
IsNews (Err Memory) = ⊥

-- an answer with news is what is meant
pub given : {X : Type 0} (a meant : Result X LoadFault) → IsNews a → Gives a meant → meant ≡ a
given (Ok x) meant n g = g
given (Err (Fault file at kind)) meant n g = g
given (Err Folder) meant n g = absurd n
given (Err Memory) meant n g = absurd n

-- two answers with news are one
abbrev pub Once : {X : Type 0} → Result X LoadFault → Result X LoadFault → Type 0
Once a b = IsNews a → IsNews b → a ≡ b

pub once : {X : Type 0} (a b meant other : Result X LoadFault) → Once meant other → Gives a meant → Gives b other → Once a b
once a b meant other same g h n m =
    let A = given a meant n g in
    let B = given b other m h in
    sym A ∙ same (subst (λ z. IsNews z) (sym A) n) (subst (λ z. IsNews z) (sym B) m) ∙ B

-- what goes on behind answers that are one is one
pub once_behind : {X Y : Type 0} (next : X → Result Y LoadFault) (p q : Result X LoadFault) → Once p q → Once (p >>= next) (q >>= next)
once_behind next (Ok x) (Ok y) same n m = let both : Ok x ≡ Ok y = same tt tt in ap (λ z. z >>= next) both
once_behind next (Ok x) (Err (Fault file at kind)) same n m = let wrong : Ok x ≡ Err (Fault file at kind) = same tt tt in cc
once_behind next (Err (Fault file at kind)) (Ok y) same n m = let wrong : Err (Fault file at kind) ≡ Ok y = same tt tt in cc
once_behind next (Err (Fault file at kind)) (Err (Fault other to what)) same n m =
    let both : Err (Fault file at kind) ≡ Err (Fault other to what) = same tt tt in ap (λ z. z >>= next) both
once_behind next p (Err Folder) same n m = absurd m
once_behind next p (Err Memory) same n m = absurd m
once_behind next (Err Folder) q same n m = absurd n
once_behind next (Err Memory) q same n m = absurd n
