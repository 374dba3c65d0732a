-- Files say one thing: one list of sources and models, or one first fault.
use Rattle.std.proofs.Common.{◌≡◌, ◌⊎◌, inl, inr, ℕ, Bool, true, false, List, [], ◌∷◌, drop, take, Result, Ok, Err, refl, sym, ◌∙◌, ap, subst}
use Rattle.std.specs.declared.option.Option.{Option}
use Rattle.std.specs.declared.option.Option.TheVariants.{None, Some}
use Rattle.mesh_base.specs.declared.definitions.Decl.{Decl}
use Rattle.mesh_io.specs.declared.files.File.{File}
use Rattle.mesh_model_statement.specs.declared.model.model.ModelText.{ModelText}
use Rattle.mesh_query.proofs.OneRefusal.{one_refusal, short}
use Rattle.mesh_model_statement.specs.Statement.{Read, statement}
use Rattle.mesh_query_grammar.specs.declared.surface.queries.Surface.{Surface}
use Rattle.mesh_model.specs.declared.model.Whole.{Whole}
use Rattle.mesh_model.specs.Lexed.{file_tokens, file_fault}
use Rattle.mesh_model.specs.ModelTexts.{is_seed_text, body, with_tokens, finished, model_of, query_at}
use Rattle.mesh_model.specs.Reads.{IsQueryRead, IsModelRead}
use Rattle.mesh_query_tokens.specs.Gives.{◌>>=◌ as ◌onto◌, Gives as GivesText}
use Rattle.mesh_query_tokens.specs.declared.faults.FaultKind.{FaultKind}
use Rattle.mesh_query_tokens.specs.declared.faults.ReadFault.{ReadFault}
use Rattle.mesh_query_tokens.specs.declared.faults.ReadFault.TheVariants as read
use Rattle.mesh_query_tokens.specs.declared.tokens.Token.{Token}
use Rattle.mesh_query_grammar.specs.lookahead.Places.{deepest}
use Rattle.mesh_project_files.specs.declared.faults.LoadFault.{LoadFault}
use Rattle.mesh_project_files.specs.declared.faults.LoadFault.TheVariants.{Fault, Folder, Memory}
use Rattle.mesh_project_files.specs.declared.project.ModelFile.{ModelFile}
use Rattle.mesh_project_files.specs.declared.project.ProjectFiles.{ProjectFiles}
use Rattle.mesh_project_files.specs.Loading.{◌>>=◌, Gives, in_file}
use Rattle.mesh_project_files.specs.Places.{below_models, is_python}
use Rattle.mesh_project_files.specs.Models.{with_seed, IsTextRead, IsContentRead, IsReadAs, IsFileRead}
use Rattle.mesh_project_files.specs.Project.{Then, AreRead, AreFiles, FilesGive, meaning, with_file, sources_in, paths_in, model_paths}
use Rattle.mesh_project_files.proofs.Once.{IsNews, given, Once, once, once_behind}

abbrev refused : ReadFault → Result Surface ReadFault
refused f = Err f

of_faults : (f k : ReadFault) → (f ≡ read.Memory) ⊎ ((k ≡ read.Memory) ⊎ (f ≡ k)) → (refused f ≡ refused read.Memory) ⊎ ((refused k ≡ refused read.Memory) ⊎ (refused f ≡ refused k))
of_faults f k (inl e) = inl (ap refused e)
of_faults f k (inr (inl e)) = inr (inl (ap refused e))
of_faults f k (inr (inr e)) = inr (inr (ap refused e))

-- two readings of one query are one, but for want of memory
one_reading : (ts : List Token) (from : ℕ) (p q : Result Surface ReadFault) → IsQueryRead ts from p → IsQueryRead ts from q → (p ≡ Err read.Memory) ⊎ ((q ≡ Err read.Memory) ⊎ (p ≡ q))
one_reading ts from (Ok a) (Ok b) h g = inr (inr (ap (λ z. Ok z) (h.2 b (deepest, g.0))))
one_reading ts from (Ok a) (Err f) h g = inr (inl (ap (λ z. Err z) (short (take from ts) (drop from ts) f a g h.0 h.1)))
one_reading ts from (Err f) (Ok b) h g = inl (ap (λ z. Err z) (short (take from ts) (drop from ts) f b h g.0 g.1))
one_reading ts from (Err f) (Err k) h g = of_faults f k (one_refusal (take from ts) (drop from ts) f k h g)

-- two readings of one text are one, but for want of memory
abbrev OneText : {X : Type 0} → Result X ReadFault → Result X ReadFault → Type 0
OneText a b = (a ≡ Err read.Memory) ⊎ ((b ≡ Err read.Memory) ⊎ (a ≡ b))

-- an answer is what is meant, but for want of memory
settled : {X : Type 0} (a meant : Result X ReadFault) → GivesText a meant → (a ≡ Err read.Memory) ⊎ (meant ≡ a)
settled (Ok x) meant g = inr g
settled (Err (read.Fault at kind)) meant g = inr g
settled (Err read.Memory) meant g = inl refl

one_text : {X : Type 0} (a b meant other : Result X ReadFault) → OneText meant other → GivesText a meant → GivesText b other → OneText a b
one_text a b meant other same g h = either (settled a meant g) (settled b other h) same
  where
    either : (a ≡ Err read.Memory) ⊎ (meant ≡ a) → (b ≡ Err read.Memory) ⊎ (other ≡ b) → OneText meant other → OneText a b
    either (inl e) f s = inl e
    either (inr e) (inl f) s = inr (inl f)
    either (inr e) (inr f) (inl s) = inl (sym e ∙ s)
    either (inr e) (inr f) (inr (inl s)) = inr (inl (sym f ∙ s))
    either (inr e) (inr f) (inr (inr s)) = inr (inr (sym e ∙ s ∙ f))

module _ (file bytes : List ℕ) where
  abbrev ts : List Token
  ts = file_tokens bytes

  abbrev next : Read → Option Surface → Result Whole ReadFault
  next r q = Ok (record { parts = r.parts; query = q })

  -- a statement, and then its query
  abbrev whole_with : Result Read ReadFault → Result Surface ReadFault → Result Whole ReadFault
  whole_with st q = st onto λ r. body (is_seed_text r.parts.kind) r.before r.rest q onto next r

  -- what is read of a query for which memory is wanting is wanting too, or it is the same with any
  body_free : (seed : Bool) (before : ℕ) (rest : List Token) (r : Read) (q : Result Surface ReadFault)
      → ((body seed before rest (Err read.Memory) onto next r) ≡ Err read.Memory) ⊎ ((body seed before rest (Err read.Memory) onto next r) ≡ (body seed before rest q onto next r))
  body_free true before rest r q = inr refl
  body_free false before rest r q = inl refl

  whole_free : (st : Result Read ReadFault) (q : Result Surface ReadFault) → (whole_with st (Err read.Memory) ≡ Err read.Memory) ⊎ (whole_with st (Err read.Memory) ≡ whole_with st q)
  whole_free (Ok r) q = body_free (is_seed_text r.parts.kind) r.before r.rest r q
  whole_free (Err f) q = inr refl

  wanting : (token : Option ReadFault) → (with_tokens ts token (Err read.Memory) onto finished file) ≡ Err read.Memory
  wanting None = refl
  wanting (Some t) = refl

  abbrev model : Result Surface ReadFault → Result ModelText ReadFault
  model q = model_of file ts (file_fault bytes) q

  -- what the file says where memory is wanting for the query is wanting too, or what it says with any
  model_free : (q : Result Surface ReadFault) → (model (Err read.Memory) ≡ Err read.Memory) ⊎ (model (Err read.Memory) ≡ model q)
  model_free q = either (whole_free (statement file ts) q)
    where
      says : Result Whole ReadFault → Result ModelText ReadFault
      says w = with_tokens ts (file_fault bytes) w onto finished file

      either : (whole_with (statement file ts) (Err read.Memory) ≡ Err read.Memory) ⊎ (whole_with (statement file ts) (Err read.Memory) ≡ whole_with (statement file ts) q)
          → (model (Err read.Memory) ≡ Err read.Memory) ⊎ (model (Err read.Memory) ≡ model q)
      either (inl e) = inl (ap says e ∙ wanting (file_fault bytes))
      either (inr e) = inr (ap says e)

  models_meet : (p q : Result Surface ReadFault) → OneText p q → OneText (model p) (model q)
  models_meet p q (inl e) = either (model_free q)
    where
      either : (model (Err read.Memory) ≡ Err read.Memory) ⊎ (model (Err read.Memory) ≡ model q) → OneText (model p) (model q)
      either (inl f) = inl (ap (λ z. model z) e ∙ f)
      either (inr f) = inr (inr (ap (λ z. model z) e ∙ f))
  models_meet p q (inr (inl e)) = either (model_free p)
    where
      either : (model (Err read.Memory) ≡ Err read.Memory) ⊎ (model (Err read.Memory) ≡ model p) → OneText (model p) (model q)
      either (inl f) = inr (inl (ap (λ z. model z) e ∙ f))
      either (inr f) = inr (inr (sym (ap (λ z. model z) e ∙ f)))
  models_meet p q (inr (inr e)) = inr (inr (ap (λ z. model z) e))

  model_once : (a b : Result ModelText ReadFault) → IsModelRead file bytes a → IsModelRead file bytes b → OneText a b
  model_once a b h g = one_text a b (model h.0) (model g.0) (models_meet h.0 g.0 (one_reading ts (query_at file ts) h.0 g.0 h.1 g.1)) h.2 g.2

module _ (fs : List File) (dir : List ℕ) where
  text_once : (file bytes : List ℕ) (a b : Result (Option ModelFile) LoadFault) → IsTextRead fs dir file bytes a → IsTextRead fs dir file bytes b → Once a b
  text_once file bytes a b h g = once a b (says h.0) (says g.0) (either (model_once file bytes h.0 g.0 h.1 g.1)) h.2 g.2
    where
      says : Result ModelText ReadFault → Result (Option ModelFile) LoadFault
      says t = in_file file t >>= with_seed fs dir

      either : OneText h.0 g.0 → Once (says h.0) (says g.0)
      either (inl e) n m = absurd (subst (λ z. IsNews (says z)) e n)
      either (inr (inl e)) n m = absurd (subst (λ z. IsNews (says z)) e m)
      either (inr (inr e)) n m = ap says e

  content_once : (file : List ℕ) (meant : Result (Option (List ℕ)) LoadFault) (a b : Result (Option ModelFile) LoadFault)
      → IsContentRead fs dir file meant a → IsContentRead fs dir file meant b → Once a b
  content_once file (Ok None) a b h g = once a b (Ok None) (Ok None) (λ n m. refl) h g
  content_once file (Ok (Some bytes)) a b h g = text_once file bytes a b h g
  content_once file (Err f) a b h g = once a b (Err f) (Err f) (λ n m. refl) h g

  file_once : (path : List ℕ) (a b : Result (Option ModelFile) LoadFault) → IsFileRead fs dir path a → IsFileRead fs dir path b → Once a b
  file_once path a b = either (is_python path)
    where
      either : (p : Bool) → IsReadAs fs dir (below_models path) p a → IsReadAs fs dir (below_models path) p b → Once a b
      either true h g = once a b _ _ (λ n m. refl) h g
      either false h g = content_once (below_models path) _ a b h g

  -- what was read ends with this answer
  ends : {a : Result (List ModelFile) LoadFault} (f : LoadFault) → IsNews a → Gives a (Err f) → (s : Result (Option ModelFile) LoadFault) → s ≡ Err f → (Err f ≡ a) × IsNews s
  ends {a = a} (Fault file at kind) n g s e = (given a _ n g, subst (λ z. IsNews z) (sym e) tt)
  ends {a = a} Folder n g s e = let wrong : Err Folder ≡ a = given a _ n g in absurd (subst (λ z. IsNews z) (sym wrong) n)
  ends {a = a} Memory n g s e = let wrong : Err Memory ≡ a = given a _ n g in absurd (subst (λ z. IsNews z) (sym wrong) n)

  -- one file, and then those that are left
  files_once : (path : List ℕ) (paths : List (List ℕ)) (models : List ModelFile) (a b : Result (List ModelFile) LoadFault) (s t : Result (Option ModelFile) LoadFault)
      → ((more : List ModelFile) → AreRead fs dir more paths a → AreRead fs dir more paths b → Once a b) → IsFileRead fs dir path s → IsFileRead fs dir path t
      → Then s (λ x. AreRead fs dir (with_file models x) paths a) a → Then t (λ x. AreRead fs dir (with_file models x) paths b) b → Once a b
  files_once path paths models a b (Ok x) (Ok y) left p q u v n m =
      let both : Ok x ≡ Ok y = file_once path (Ok x) (Ok y) p q tt tt in
      let same : x ≡ y = cc in
      left (with_file models x) u (subst (λ z. AreRead fs dir (with_file models z) paths b) (sym same) v) n m
  files_once path paths models a b (Ok x) (Err f) left p q u v n m =
      let e = ends f m v (Err f) refl in
      let wrong : Ok x ≡ Err f = file_once path (Ok x) (Err f) p q tt e.1 in
      cc
  files_once path paths models a b (Err f) (Ok y) left p q u v n m =
      let e = ends f n u (Err f) refl in
      let wrong : Err f ≡ Ok y = file_once path (Err f) (Ok y) p q e.1 tt in
      cc
  files_once path paths models a b (Err f) (Err k) left p q u v n m =
      let e = ends f n u (Err f) refl in
      let d = ends k m v (Err k) refl in
      let both : Err f ≡ Err k = file_once path (Err f) (Err k) p q e.1 d.1 in
      let same : f ≡ k = cc in
      sym e.0 ∙ ap (λ z. Err z) same ∙ d.0

  read_once : (paths : List (List ℕ)) (models : List ModelFile) (a b : Result (List ModelFile) LoadFault) → AreRead fs dir models paths a → AreRead fs dir models paths b → Once a b
  read_once [] models a b h k = once a b (Ok models) (Ok models) (λ n m. refl) h k
  read_once (path ∷ paths) models a b h k = files_once path paths models a b h.0 k.0 (λ more. read_once paths more a b) h.1 k.1 h.2 k.2

  abbrev with_models : List Decl → List ModelFile → Result ProjectFiles LoadFault
  with_models sources models = Ok (record { sources = sources; models = models })

  abbrev behind : Result (List ModelFile) LoadFault → Result (List Decl) LoadFault → Result (List (List ℕ)) LoadFault → Result ProjectFiles LoadFault
  behind models s p = s >>= λ sources. p >>= λ paths. models >>= with_models sources

  -- models that are one are one behind the sources and the paths
  behind_once : (g k : Result (List ModelFile) LoadFault) → Once g k → (s : Result (List Decl) LoadFault) (p : Result (List (List ℕ)) LoadFault) → Once (behind g s p) (behind k s p)
  behind_once g k same (Ok sources) (Ok paths) = once_behind (with_models sources) g k same
  behind_once g k same (Ok sources) (Err f) = λ n m. refl
  behind_once g k same (Err f) p = λ n m. refl

  meant_once : (g k : Result (List ModelFile) LoadFault) → Once g k → Once (meaning fs dir g) (meaning fs dir k)
  meant_once g k same = behind_once g k same (sources_in fs dir) (paths_in fs dir)

  pub all_once : (a b : Result ProjectFiles LoadFault) → AreFiles fs dir a → AreFiles fs dir b → Once a b
  all_once a b h k = once a b (meaning fs dir h.0) (meaning fs dir k.0) (meant_once h.0 k.0 (read_once (model_paths fs dir) [] h.0 k.0 h.1 k.1)) h.2 k.2

-- what is made of files that say one thing is one thing
pub made_once : {X : Type 0} (made : ProjectFiles → Result X LoadFault) (fs : List File) (dir : List ℕ) (a b : Result X LoadFault) → FilesGive made fs dir a → FilesGive made fs dir b → Once a b
made_once made fs dir a b h k = once a b (h.0 >>= made) (k.0 >>= made) (once_behind made h.0 k.0 (all_once fs dir h.0 k.0 h.1 k.1)) h.2 k.2

pub one_project : (fs : List File) (dir : List ℕ) (a b : ProjectFiles) → AreFiles fs dir (Ok a) → AreFiles fs dir (Ok b) → a ≡ b
one_project fs dir a b h k = let same : Ok a ≡ Ok b = all_once fs dir (Ok a) (Ok b) h k tt tt in cc

pub never_faulty : (fs : List File) (dir : List ℕ) (a : ProjectFiles) (file : List ℕ) (at : ℕ) (kind : FaultKind) → AreFiles fs dir (Ok a) → AreFiles fs dir (Err (Fault file at kind)) → ⊥
never_faulty fs dir a file at kind h k = let wrong : Ok a ≡ Err (Fault file at kind) = all_once fs dir (Ok a) (Err (Fault file at kind)) h k tt tt in cc

pub one_fault : (fs : List File) (dir : List ℕ) (file other : List ℕ) (at to : ℕ) (kind what : FaultKind) → AreFiles fs dir (Err (Fault file at kind)) → AreFiles fs dir (Err (Fault other to what))
    → (file ≡ other) × (at ≡ to) × (kind ≡ what)
one_fault fs dir file other at to kind what h k =
    let both : Err (Fault file at kind) ≡ Err (Fault other to what) = all_once fs dir (Err (Fault file at kind)) (Err (Fault other to what)) h k tt tt in
    (cc, cc, cc)
