-- Calls that ask the folder, one after the other.
use Rattle.std.proofs.Common.{◌≡◌, List, Result, Ok, Err, refl, sym, ◌∙◌, ap, subst, arith}
use Rattle.std.specs.Prelude.{IsErrOf}
use Rattle.std.specs.Result.{IsErrAnd}
use Rattle.mesh_io.specs.declared.files.File.{File}
use Rattle.mesh_io.specs.Told.{FolderTold}
use Rattle.mesh_project_files.specs.declared.faults.LoadFault.{LoadFault}
use Rattle.mesh_project_files.specs.declared.faults.LoadFault.TheVariants.{Folder, Memory}
use Rattle.mesh_project_files.specs.Loading.{AsksAs}

-- a call failed, and its fault is handed on
pub asks_err : {A B : Type 0} (First : List File → Result A LoadFault → Type 0) (Answers : List File → Result B LoadFault → Type 0) (a b : FolderTold)
    (fault : LoadFault) (result : Result B LoadFault) → AsksAs First a b (Err fault) → IsErrAnd result (λ y. y ≡ fault)
    → ((fs : List File) → First fs (Err fault) → Answers fs (Err fault)) → AsksAs Answers a b result
asks_err First Answers a b fault (Ok x) asked is next = absurd is
asks_err First Answers a b fault (Err y) asked is next = record {
  files = asked.files;
  faults = asked.faults;
  gives = λ fs e. subst (λ z. Answers fs (Err z)) (sym is) (next fs (asked.gives fs e));
  failed = λ h. let same : y ≡ Folder = cc in asked.failed (ap (λ z. Err z) (sym is ∙ same));
}

-- a call was answered, and then another
pub asks_then : {A B : Type 0} (First : List File → Result A LoadFault → Type 0) (Second Answers : List File → Result B LoadFault → Type 0) (a b c : FolderTold)
    (x : A) (result : Result B LoadFault) → AsksAs First a b (Ok x) → AsksAs Second b c result
    → ((fs : List File) → First fs (Ok x) → Second fs result → Answers fs result) → AsksAs Answers a c result
asks_then First Second Answers a b c x result p q next = record {
  files = q.files ∙ p.files;
  faults = let f = p.faults in let s = q.faults in omega (arith, f, s);
  gives = λ fs e. next fs (p.gives fs e) (q.gives fs (p.files ∙ e));
  failed = λ h. let rose = q.failed h in let f = p.faults in omega (arith, rose, f);
}

-- a call was answered, and then one that doesn't ask
pub asks_alone : {A B : Type 0} (First : List File → Result A LoadFault → Type 0) (Answers : List File → Result B LoadFault → Type 0) (a b : FolderTold)
    (x : A) (result : Result B LoadFault) → AsksAs First a b (Ok x) → (IsErrOf result Folder → ⊥)
    → ((fs : List File) → First fs (Ok x) → Answers fs result) → AsksAs Answers a b result
asks_alone First Answers a b x result p alone next = record {
  files = p.files;
  faults = p.faults;
  gives = λ fs e. next fs (p.gives fs e);
  failed = λ h. absurd (alone h);
}

-- no call asked
pub asks_none : {B : Type 0} (Answers : List File → Result B LoadFault → Type 0) (a : FolderTold) (result : Result B LoadFault)
    → (IsErrOf result Folder → ⊥) → ((fs : List File) → Answers fs result) → AsksAs Answers a a result
asks_none Answers a result alone next = record {
  files = refl;
  faults = omega arith;
  gives = λ fs e. next fs;
  failed = λ h. absurd (alone h);
}

-- memory ran out before any call
pub asks_memory : {B : Type 0} (Answers : List File → Result B LoadFault → Type 0) (a : FolderTold) (result : Result B LoadFault)
    → IsErrAnd result (λ y. y ≡ Memory) → ((fs : List File) → Answers fs (Err Memory)) → AsksAs Answers a a result
asks_memory Answers a (Ok x) is next = absurd is
asks_memory Answers a (Err y) is next = asks_none Answers a (Err y) (λ h. let wrong : Memory ≡ Folder = sym is ∙ cc in cc wrong) (λ fs. subst (λ z. Answers fs (Err z)) (sym is) (next fs))

-- memory ran out behind a call
pub asks_wanting : {A B : Type 0} (First : List File → Result A LoadFault → Type 0) (Answers : List File → Result B LoadFault → Type 0) (a b : FolderTold)
    (x : A) (result : Result B LoadFault) → AsksAs First a b (Ok x) → IsErrAnd result (λ y. y ≡ Memory)
    → ((fs : List File) → First fs (Ok x) → Answers fs (Err Memory)) → AsksAs Answers a b result
asks_wanting First Answers a b x (Ok y) p is next = absurd is
asks_wanting First Answers a b x (Err y) p is next =
    asks_alone First Answers a b x (Err y) p (λ h. let wrong : Memory ≡ Folder = sym is ∙ cc in cc wrong) (λ fs f. subst (λ z. Answers fs (Err z)) (sym is) (next fs f))
