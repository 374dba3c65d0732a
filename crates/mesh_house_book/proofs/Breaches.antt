-- A book has no breach exactly where it is well formed.
use Rattle.std.proofs.Common.{◌≡◌, ℕ, ◌+◌, ℤ, Bool, true, false, cond, ◌&&◌, not, List, [], ◌∷◌, Some, None, refl, sym, ◌∙◌, ap}
use Rattle.std.specs.Prelude.{◌↔◌, IsTrue, IsNone}
use Rattle.std.specs.declared.option.Option.{Option}
use Rattle.std.specs.Option.{is_some}
use Rattle.std.proofs.lemmas.Bool.{not-true as not_true}
use Rattle.mesh_base_values.specs.Names.{name_cmp}
use Rattle.mesh_house_book.specs.Changes.{version_object}
use Rattle.mesh_house_book.specs.WellFormed.{all_fit, book_fault, breach_from, breach_or, envs_breach, is_above, is_env_fit, is_moment, is_snapshot_fit, is_version, is_well_formed_book, front_breach, snapshots_breach, versions_breach}
use Rattle.mesh_house_book.specs.declared.book.Book.{Book}
use Rattle.mesh_house_book.specs.declared.fault.BookFault.{BookFault}

abbrev none : {A : Type 0} → Option A → Bool
none o = not (is_some o)

each_fits : {A : Type 0} (rule : Option A → A → Bool) (before : Option A) (place : ℕ) (xs : List A) → none (breach_from rule before place xs) ≡ all_fit rule before xs
each_fits rule before place [] = refl
each_fits rule before place (x ∷ xs) = at (rule before x) (each_fits rule (Some x) (place + 1) xs)
  where
    at : (b : Bool) → none (breach_from rule (Some x) (place + 1) xs) ≡ all_fit rule (Some x) xs → none (cond b (breach_from rule (Some x) (place + 1) xs) (Some place)) ≡ (b && all_fit rule (Some x) xs)
    at true more = more
    at false more = refl

in_range : (t : ℤ) (version : ℕ) → none (front_breach t version) ≡ (is_moment t && is_version version)
in_range t version = at (is_moment t && is_version version)
  where
    at : (b : Bool) → none {A = ℕ} (cond b None (Some 0)) ≡ b
    at true = refl
    at false = refl

either : (part : ℕ) (o : Option ℕ) (later : Option BookFault) → none (breach_or part o later) ≡ (none o && none later)
either part None later = refl
either part (Some place) later = refl

and_true : (b : Bool) → (b && true) ≡ b
and_true true = refl
and_true false = refl

all_parts : (b : Book) → none (book_fault b) ≡ is_well_formed_book b
all_parts b =
    let fourth = breach_or 4 (envs_breach b.snapshots b.environments) None in
    let third = breach_or 3 (versions_breach b.versions) fourth in
    let second = breach_or 2 (snapshots_breach b.version b.snapshots) third in
    let last : none fourth ≡ all_fit (is_env_fit b.snapshots) None b.environments =
    either 4 (envs_breach b.snapshots b.environments) None ∙ and_true (none (envs_breach b.snapshots b.environments)) ∙ each_fits (is_env_fit b.snapshots) None 0 b.environments in
    let middle : none third ≡ (all_fit (is_above name_cmp version_object) None b.versions && all_fit (is_env_fit b.snapshots) None b.environments) =
    either 3 (versions_breach b.versions) fourth ∙ (λ i. each_fits (is_above name_cmp version_object) None 0 b.versions i && last i) in
    either 1 (front_breach b.moment b.version) second
    ∙ (λ i. in_range b.moment b.version i && (either 2 (snapshots_breach b.version b.snapshots) third ∙ (λ j. each_fits (is_snapshot_fit b.version b.snapshots) None 0 b.snapshots j && middle j)) i)

pub without_fault : (b : Book) (o : Option BookFault) → o ≡ book_fault b → IsNone o ↔ IsTrue (is_well_formed_book b)
without_fault b o is =
    let same : none o ≡ is_well_formed_book b = ap none is ∙ all_parts b in
    (λ h. sym same ∙ ap not h, λ h. not_true (is_some o) (same ∙ h))
