-- A model's file names a path exactly where its kind is SEED.
use Rattle.std.proofs.Common.{◌≡◌, ℕ, Bool, true, false, cond, not, List, [], ◌∷◌, codes, take, Result, Ok, Err, IfOk, ℤ, refl, subst}
use Rattle.std.specs.Option.{is_some, unwrap_or}
use Rattle.std.specs.Str.{bytes_eq}
use Rattle.std.specs.declared.option.Option.{Option}
use Rattle.std.specs.declared.option.Option.TheVariants.{None, Some}
use Rattle.mesh_base_values.specs.Crons.{CronSets}
use Rattle.mesh_base_values.specs.declared.values.Name.{Name}
use Rattle.mesh_query_grammar.specs.declared.surface.queries.Surface.{Surface}
use Rattle.mesh_query_tokens.specs.Gives.{◌>>=◌}
use Rattle.mesh_query_tokens.specs.declared.faults.ReadFault.{ReadFault}
use Rattle.mesh_query_tokens.specs.declared.tokens.Token.{Token}
use Rattle.mesh_model_statement.specs.declared.kinds.Entries.{Entries}
use Rattle.mesh_model_statement.specs.declared.kinds.KindText.{KindText}
use Rattle.mesh_model_statement.specs.declared.kinds.KindWord.{KindWord}
use Rattle.mesh_model_statement.specs.declared.kinds.KindWord.TheVariants as the_kind
use Rattle.mesh_model_statement.specs.declared.parts.Parts.{Parts}
use Rattle.mesh_query_tokens.specs.bounds.Brackets.{or_fault}
use Rattle.mesh_query_tokens.specs.bounds.Faults.{broken}
use Rattle.mesh_model_statement.specs.Faults.{bad}
use Rattle.mesh_model_statement.specs.Kinds.{kind_or_fault, first_at, is_one_of, formed, entries_in, whole, kind_value}
use Rattle.mesh_model_statement.specs.Statement.{Read, is_free, is_property, put, admitted, value_size, property, statement}
use Rattle.mesh_model_statement.specs.Values.{word, name_of, unit_of, start_of, cron_value, columns_value}
use Rattle.mesh_model_statement.proofs.Held.{after, after_any, either}
use Rattle.mesh_model_statement.proofs.Kept.{bound, stated}
use Rattle.mesh_model_statement.specs.declared.model.model.ModelText.{ModelText}
use Rattle.mesh_model.specs.declared.model.Whole.{Whole as Text}
use Rattle.mesh_model.specs.Lexed.{file_tokens, file_fault}
use Rattle.mesh_model.specs.ModelTexts.{kind_of, is_seed_kind, is_seed_text, body, is_want, with_tokens, started, cron_or_daily, finished, model_of}
use Rattle.mesh_model.specs.ModelTexts as texts

abbrev Fits : KindText → Type 0
Fits k = is_some k.path ≡ is_seed_kind k.kind

abbrev FitsIfAny : Option KindText → Type 0
FitsIfAny None = Unit {0}
FitsIfAny (Some k) = Fits k

whole_fits : (fault : ReadFault) (kind : KindWord) (e : Entries) → IfOk (whole fault kind e) Fits
whole_fits fault the_kind.Full e = refl
whole_fits fault the_kind.View e = refl
whole_fits fault the_kind.Seed e = after_any Fits (or_fault fault e.path) _ (λ path. refl)
whole_fits fault the_kind.Incremental e = after_any Fits (or_fault fault e.time) _ (λ time. refl)

kind_fits : (file : List ℕ) (at : ℕ) (value : List Token) → IfOk (kind_value file at value) Fits
kind_fits file at [] = tt
kind_fits file at (k ∷ ks) =
    let fault = bad at (codes "kind") in
    after_any Fits (or_fault fault (word k)) _ (λ word.
    after_any Fits (kind_or_fault at word) _ (λ named.
    after_any Fits (formed fault named ks) _ (λ kind.
    after_any Fits (entries_in file fault kind ks) _ (λ entries. whole_fits fault kind entries))))

abbrev Has : Parts → Type 0
Has p = FitsIfAny p.kind

admitted_fits : (p : Parts) (at : ℕ) (name : List ℕ) → Has p → IfOk (admitted p at name) Has
admitted_fits p at name h = either Has (not (is_property name)) _ _ tt (either Has (not (is_one_of p.seen name)) _ _ h tt)

put_fits : (file : List ℕ) (p : Parts) (at : ℕ) (name : List ℕ) (value : List Token) → Has p → IfOk (put file p at name value) Has
put_fits file p at name value h =
    either Has (bytes_eq name (codes "name")) _ _ (after_any Has (or_fault (bad at (codes "name")) (name_of value)) _ (λ x. h))
    (either Has (bytes_eq name (codes "kind")) _ _ (after Fits Has (kind_value file at value) _ (kind_fits file at value) (λ x fits. fits))
    (either Has (bytes_eq name (codes "cron")) _ _ (after_any Has (cron_value at value) _ (λ x. h))
    (either Has (bytes_eq name (codes "interval_unit")) _ _ (after_any Has (or_fault (bad at (codes "interval_unit")) (unit_of value)) _ (λ x. h))
    (either Has (bytes_eq name (codes "start")) _ _ (after_any Has (or_fault (bad at (codes "start")) (start_of value)) _ (λ x. h))
    (either Has (bytes_eq name (codes "columns")) _ _ (after_any Has (columns_value at value) _ (λ x. h))
    (either Has (bytes_eq name (codes "audits")) _ _ h h))))))

abbrev Kept : Parts → List Token → Type 0
Kept p ts = Has p

property_fits : (file : List ℕ) (p : Parts) (before : ℕ) (ts : List Token) → Has p → IfOk (property file p before ts) (λ r. Has r.parts)
property_fits file p before [] h = tt
property_fits file p before (k ∷ ks) h =
    let Q : Read → Type 0 = λ r. Has r.parts in
    after_any Q (or_fault (broken before) (word k)) _ (λ name.
    after Has Q (admitted p k.start name) _ (admitted_fits p k.start name h) (λ known has.
    after_any Q (value_size (is_free name) k.end ks) _ (λ n.
    after Has Q (put file known (first_at ks) name (take n ks)) _ (put_fits file known (first_at ks) name (take n ks) has) (λ more found. found))))

statement_fits : (file : List ℕ) (ts : List Token) (r : Read) → statement file ts ≡ Ok r → FitsIfAny r.parts.kind
statement_fits file ts r e = stated file Kept (λ p before ts r e h. subst (λ x. IfOk x (λ r. Has r.parts)) e (property_fits file p before ts h)) (λ p k ks h. h) ts r e tt

-- without a faulty token
unhurt : (ts : List Token) (token : Option ReadFault) (r : Result Text ReadFault) (w : Text) → with_tokens ts token r ≡ Ok w → r ≡ Ok w
unhurt ts None r w e = e
unhurt ts (Some t) (Ok x) w e = cc e
unhurt ts (Some t) (Err f) w e = by (is_want ts f) e
  where
    by : (b : Bool) → cond b (Err t) (Err f) ≡ Ok w → Err f ≡ Ok w
    by true g = cc g
    by false g = cc g

whole_text_fits : (file : List ℕ) (ts : List Token) (query : Result Surface ReadFault) (w : Text) → texts.whole file ts query ≡ Ok w → FitsIfAny w.parts.kind
whole_text_fits file ts query w e =
    let r = bound (statement file ts) (λ (r : Read). body (is_seed_text r.parts.kind) r.before r.rest query >>= λ q. Ok (record { parts = r.parts; query = q })) w e in
    let q = bound (body (is_seed_text r.0.parts.kind) r.0.before r.0.rest query) (λ q. Ok (record { parts = r.0.parts; query = q })) w r.2 in
    let same : (record { parts = r.0.parts; query = q.0 }) ≡ w = cc q.2 in
    subst (λ (w : Text). FitsIfAny w.parts.kind) same (statement_fits file ts r.0 r.1)

kind_is : (k : Option KindText) → FitsIfAny k → Fits (kind_of k)
kind_is None h = refl
kind_is (Some k) h = h

finished_fits : (file : List ℕ) (w : Text) (m : ModelText) → FitsIfAny w.parts.kind → finished file w ≡ Ok m → is_some m.path ≡ is_seed_kind m.kind
finished_fits file w m h e =
    let text : Name → Option ℤ → CronSets → ModelText = λ name start cron. record {
      file = file;
      name = name;
      kind = (kind_of w.parts.kind).kind;
      cron = cron;
      unit = unwrap_or w.parts.unit (texts.unit_of cron);
      start = start;
      columns = w.parts.columns;
      path = (kind_of w.parts.kind).path;
      path_at = (kind_of w.parts.kind).path_at;
      audits = w.parts.audits;
      query = w.query;
    } in
    let n = bound (or_fault (bad 0 (codes "name")) w.parts.name) (λ name. started (kind_of w.parts.kind).kind w.parts.start >>= λ start. cron_or_daily w.parts.cron >>= λ cron. Ok (text name start cron)) m e in
    let s = bound (started (kind_of w.parts.kind).kind w.parts.start) (λ start. cron_or_daily w.parts.cron >>= λ cron. Ok (text n.0 start cron)) m n.2 in
    let c = bound (cron_or_daily w.parts.cron) (λ cron. Ok (text n.0 s.0 cron)) m s.2 in
    let same : text n.0 s.0 c.0 ≡ m = cc c.2 in
    subst (λ (m : ModelText). is_some m.path ≡ is_seed_kind m.kind) {x = text n.0 s.0 c.0} same (kind_is w.parts.kind h)

pub path_fits : (file bytes : List ℕ) (query : Result Surface ReadFault) (m : ModelText) → model_of file (file_tokens bytes) (file_fault bytes) query ≡ Ok m → is_some m.path ≡ is_seed_kind m.kind
path_fits file bytes query m e =
    let ts = file_tokens bytes in
    let w = bound (with_tokens ts (file_fault bytes) (texts.whole file ts query)) (finished file) m e in
    finished_fits file w.0 m (whole_text_fits file ts query w.0 (unhurt ts (file_fault bytes) (texts.whole file ts query) w.0 w.1)) w.2
