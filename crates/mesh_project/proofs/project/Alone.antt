-- Readers that are apart, where no name stands twice.
use Rattle.std.proofs.Common.{◌≡◌, ℕ, zero, suc, ◌<◌, Bool, true, false, cond, List, [], ◌∷◌, map, length, Result, Ok, Err, refl, sym, ap, subst, ◌∙◌, arith}
use Rattle.std.proofs.lemmas.Cmp.{tied_itself}
use Rattle.std.proofs.lemmas.List.{length-map}
use Rattle.std.specs.Ordering.{is_eq}
use Rattle.mesh_base_values.specs.NameOrder.{names_total}
use Rattle.mesh_project.specs.order.Order.{AreApart, name_at}
use Rattle.std.specs.BTreeSet.{BTreeSet, contains}
use Rattle.mesh_base_values.specs.declared.values.Name.{Name}
use Rattle.mesh_base_values.specs.Names.{name_cmp}
use Rattle.mesh_base.specs.declared.definitions.Decl.{Decl}
use Rattle.mesh_base.specs.rules.Relations.{is_declared}
use Rattle.mesh_project_files.specs.Loading.{◌>>=◌, Gives}
use Rattle.mesh_project_files.specs.declared.faults.LoadFault.{LoadFault}
use Rattle.mesh_project_files.specs.declared.project.ModelFile.{ModelFile}
use Rattle.mesh_project.specs.nodes.Apart.{Taken, apart, duplicate, names_of, with_model_name, with_name}
use Rattle.mesh_project.specs.project.Project.{reader_of}
use Rattle.mesh_project.specs.nodes.Walk.{Leads, along}
use Rattle.mesh_project.proofs.nodes.Steps.{refused_on}

-- a name that is neither taken nor that of a model
untaken : (b t : Bool) → cond b true t ≡ false → (b ≡ false) × (t ≡ false)
untaken true t e = absurd (cc)
untaken false t e = (refl, e)

tail_walks : (f : ModelFile) (fs : List ModelFile) (taken end : Taken) → along with_model_name taken (f ∷ fs) ≡ Ok end → (taken f.text.name ≡ false) × (along with_model_name (with_name taken f.text.name) fs ≡ Ok end)
unfolding along
tail_walks f fs taken end e = by_test (taken f.text.name) refl e
  where
    by_test : (b : Bool) → taken f.text.name ≡ b → (cond b (Err (duplicate f)) (Ok (with_name taken f.text.name)) >>= λ next. along with_model_name next fs) ≡ Ok end
        → (taken f.text.name ≡ false) × (along with_model_name (with_name taken f.text.name) fs ≡ Ok end)
    by_test true is h = absurd (cc)
    by_test false is h = (is, h)

fresh : (files : List ModelFile) (taken end : Taken) (k : ℕ) → along with_model_name taken files ≡ Ok end → k < length files → taken (name_at (map reader_of files) k) ≡ false
fresh [] taken end k e lt = absurd (omega arith)
fresh (f ∷ fs) taken end zero e lt = (tail_walks f fs taken end e).0
fresh (f ∷ fs) taken end (suc k) e lt =
    (untaken (is_eq (name_cmp f.text.name (name_at (map reader_of fs) k))) (taken (name_at (map reader_of fs) k)) (fresh fs (with_name taken f.text.name) end k (tail_walks f fs taken end e).1 (omega arith))).1

first_differs : (f : ModelFile) (fs : List ModelFile) (taken end : Taken) (k : ℕ) → along with_model_name taken (f ∷ fs) ≡ Ok end → k < length fs → f.text.name ≡ name_at (map reader_of fs) k → ⊥
first_differs f fs taken end k e lt same =
    let apart : is_eq (name_cmp f.text.name (name_at (map reader_of fs) k)) ≡ false =
    (untaken (is_eq (name_cmp f.text.name (name_at (map reader_of fs) k))) (taken (name_at (map reader_of fs) k)) (fresh fs (with_name taken f.text.name) end k (tail_walks f fs taken end e).1 lt)).0 in
    let tied : is_eq (name_cmp f.text.name (name_at (map reader_of fs) k)) ≡ true = ap (λ (x : Name). is_eq (name_cmp f.text.name x)) (sym same) ∙ ap is_eq (tied_itself names_total f.text.name) in
    let clash : true ≡ false = sym tied ∙ apart in cc clash

differ : (files : List ModelFile) (taken end : Taken) → along with_model_name taken files ≡ Ok end → (i j : ℕ) → i < length files → j < length files → name_at (map reader_of files) i ≡ name_at (map reader_of files) j → i ≡ j
differ [] taken end e i j lt less same = absurd (omega (arith, lt))
differ (f ∷ fs) taken end e zero zero lt less same = refl
differ (f ∷ fs) taken end e zero (suc j) lt less same = absurd (first_differs f fs taken end j e (omega (arith, less)) same)
differ (f ∷ fs) taken end e (suc i) zero lt less same = absurd (first_differs f fs taken end i e (omega (arith, lt)) (sym same))
differ (f ∷ fs) taken end e (suc i) (suc j) lt less same = ap suc (differ fs (with_name taken f.text.name) end (tail_walks f fs taken end e).1 i j (omega (arith, lt)) (omega (arith, less)) same)

pub readers_apart : (sources : List Decl) (files : List ModelFile) → apart sources files ≡ Ok tt → AreApart (map reader_of files)
readers_apart sources files e = by_walk (along with_model_name (is_declared sources) files) refl e
  where
    by_walk : (r : Result Taken LoadFault) → along with_model_name (is_declared sources) files ≡ r → (r >>= λ taken. Ok (tt {0})) ≡ Ok (tt {0}) → AreApart (map reader_of files)
    by_walk (Err fault) walked h = absurd (cc)
    by_walk (Ok end) walked h = λ i j lt less same. differ files (is_declared sources) end walked i j (omega (arith, lt, length-map files reader_of)) (omega (arith, less, length-map files reader_of)) same
