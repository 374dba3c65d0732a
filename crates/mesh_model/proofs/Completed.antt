-- What was read is complete.
use Rattle.std.proofs.Common.{◌≡◌, ℕ, Bool, true, false, cond, ◌&&◌, not, nat_le, List, codes, Result, Ok, Err, ℤ, refl, subst}
use Rattle.std.specs.Option.{is_some, unwrap_or}
use Rattle.std.specs.declared.option.Option.{Option}
use Rattle.std.specs.declared.option.Option.TheVariants.{None, Some}
use Rattle.std.proofs.lemmas.Bool.{and_from as and_both}
use Rattle.mesh_base_values.specs.Crons.{CronSets}
use Rattle.mesh_base_values.specs.Kinds.{lookback_of}
use Rattle.mesh_base_values.specs.declared.kinds.Kind.{Kind}
use Rattle.mesh_base_values.specs.declared.values.Name.{Name}
use Rattle.mesh_query_tokens.specs.Gives.{◌>>=◌}
use Rattle.mesh_query_tokens.specs.declared.faults.ReadFault.{ReadFault}
use Rattle.mesh_query_tokens.specs.declared.tokens.Token.{Token}
use Rattle.mesh_query_grammar.specs.declared.surface.queries.Surface.{Surface}
use Rattle.mesh_model_statement.specs.declared.kinds.KindText.{KindText}
use Rattle.mesh_query_tokens.specs.bounds.Brackets.{or_fault}
use Rattle.mesh_query_tokens.specs.bounds.Faults.{broken}
use Rattle.mesh_query_tokens.specs.bounds.Numbers.{longest_lookback}
use Rattle.mesh_model_statement.specs.Faults.{bad, provided}
use Rattle.mesh_model_statement.specs.Kinds.{is_empty}
use Rattle.mesh_model_statement.specs.Lookbacks.{is_short}
use Rattle.mesh_model_statement.specs.Statement.{Read, statement}
use Rattle.mesh_model_statement.proofs.Kept.{bound}
use Rattle.mesh_model_statement.proofs.Lookbacks.{lookback_short}
use Rattle.mesh_model_statement.specs.declared.model.model.ModelText.{ModelText}
use Rattle.mesh_model.specs.declared.model.Whole.{Whole as Text}
use Rattle.mesh_model.specs.Complete.{is_model_name, is_complete}
use Rattle.mesh_model.specs.Lexed.{file_tokens, file_fault}
use Rattle.mesh_model.specs.ModelTexts.{kind_of, is_seed_kind, is_seed_text, body, whole, is_want, with_tokens, is_timed, no_start, started, cron_or_daily, unit_of, finished, model_of}
use Rattle.mesh_model.proofs.Named.{is_name_if_any, statement_named}
use Rattle.mesh_model.proofs.Words.{have_words, file_words}

-- without a faulty token
unhurt : (ts : List Token) (token : Option ReadFault) (r : Result Text ReadFault) (w : Text) → with_tokens ts token r ≡ Ok w → r ≡ Ok w
unhurt ts None r w e = e
unhurt ts (Some t) (Ok x) w e = cc e
unhurt ts (Some t) (Err f) w e = by (is_want ts f) e
  where
    by : (b : Bool) → cond b (Err t) (Err f) ≡ Ok w → Err f ≡ Ok w
    by true g = cc g
    by false g = cc g

-- the name, the query that fits the kind, and the lookback
Sure : Text → Type 0
Sure w = (is_name_if_any w.parts.name ≡ true) × (cond (is_seed_text w.parts.kind) (not (is_some w.query)) (is_some w.query) ≡ true) × (is_short w.parts.kind ≡ true)

body_fits : (seed : Bool) (before : ℕ) (rest : List Token) (query : Result Surface ReadFault) (q : Option Surface) → body seed before rest query ≡ Ok q → cond seed (not (is_some q)) (is_some q) ≡ true
body_fits true before rest query q e = by (is_empty rest) e
  where
    by : (b : Bool) → provided b None (broken before) ≡ Ok q → not (is_some q) ≡ true
    by true f = let same : None ≡ q = cc f in subst (λ (q : Option Surface). not (is_some q) ≡ true) same refl
    by false f = cc f
body_fits false before rest (Ok tree) q e = let same : Some tree ≡ q = cc e in subst (λ (q : Option Surface). is_some q ≡ true) same refl
body_fits false before rest (Err f) q e = cc e

whole_sure : (file : List ℕ) (ts : List Token) (query : Result Surface ReadFault) (w : Text) → have_words ts ≡ true → whole file ts query ≡ Ok w → Sure w
unfolding Sure
whole_sure file ts query w words e =
    let r = bound (statement file ts) (λ (r : Read). body (is_seed_text r.parts.kind) r.before r.rest query >>= λ q. Ok (record { parts = r.parts; query = q })) w e in
    let q = bound (body (is_seed_text r.0.parts.kind) r.0.before r.0.rest query) (λ q. Ok (record { parts = r.0.parts; query = q })) w r.2 in
    let same : (record { parts = r.0.parts; query = q.0 }) ≡ w = cc q.2 in
    subst Sure same (statement_named file ts r.0 words r.1, body_fits (is_seed_text r.0.parts.kind) r.0.before r.0.rest query q.0 q.1, lookback_short file ts r.0 r.1)

name_there : (fault : ReadFault) (found : Option Name) (name : Name) → is_name_if_any found ≡ true → or_fault fault found ≡ Ok name → is_model_name name ≡ true
name_there fault None name h e = cc e
name_there fault (Some n) name h e = let same : n ≡ name = cc e in subst (λ (n : Name). is_model_name n ≡ true) same h

start_there : (k : Kind) (start found : Option ℤ) → started k start ≡ Ok found → cond (is_timed k) (is_some found) true ≡ true
start_there k start found e = by (is_timed k) start e
  where
    by : (b : Bool) (s : Option ℤ) → provided (not (b && not (is_some s))) s no_start ≡ Ok found → cond b (is_some found) true ≡ true
    by false s f = refl
    by true None f = cc f
    by true (Some n) f = let same : Some n ≡ found = cc f in subst (λ (o : Option ℤ). is_some o ≡ true) same refl

one_kind : (k : Option KindText) → is_seed_text k ≡ is_seed_kind (kind_of k).kind
one_kind None = refl
one_kind (Some k) = refl

short_kind : (k : Option KindText) → is_short k ≡ true → nat_le (lookback_of (kind_of k).kind) longest_lookback ≡ true
short_kind None h = refl
short_kind (Some k) h = h

finished_complete : (file : List ℕ) (w : Text) (m : ModelText) → Sure w → finished file w ≡ Ok m → is_complete m ≡ true
unfolding Sure
finished_complete file w m h e =
    let text : Name → Option ℤ → CronSets → ModelText = λ name start cron. record {
      file = file;
      name = name;
      kind = (kind_of w.parts.kind).kind;
      cron = cron;
      unit = unwrap_or w.parts.unit (unit_of cron);
      start = start;
      columns = w.parts.columns;
      path = (kind_of w.parts.kind).path;
      path_at = (kind_of w.parts.kind).path_at;
      audits = w.parts.audits;
      query = w.query;
    } in
    let n = bound (or_fault (bad 0 (codes "name")) w.parts.name) (λ name. started (kind_of w.parts.kind).kind w.parts.start >>= λ start. cron_or_daily w.parts.cron >>= λ cron. Ok (text name start cron)) m e in
    let s = bound (started (kind_of w.parts.kind).kind w.parts.start) (λ start. cron_or_daily w.parts.cron >>= λ cron. Ok (text n.0 start cron)) m n.2 in
    let c = bound (cron_or_daily w.parts.cron) (λ cron. Ok (text n.0 s.0 cron)) m s.2 in
    let same : text n.0 s.0 c.0 ≡ m = cc c.2 in
    subst (λ (m : ModelText). is_complete m ≡ true) {x = text n.0 s.0 c.0} same
    (and_both _ _ (name_there (bad 0 (codes "name")) w.parts.name n.0 h.0 n.1)
    (and_both _ _ (subst (λ (b : Bool). cond b (not (is_some w.query)) (is_some w.query) ≡ true) (one_kind w.parts.kind) h.1)
    (and_both _ _ (start_there (kind_of w.parts.kind).kind w.parts.start s.0 s.1)
    (short_kind w.parts.kind h.2))))

pub model_complete : (file bytes : List ℕ) (query : Result Surface ReadFault) (m : ModelText) → model_of file (file_tokens bytes) (file_fault bytes) query ≡ Ok m → is_complete m ≡ true
model_complete file bytes query m e =
    let ts = file_tokens bytes in
    let w = bound (with_tokens ts (file_fault bytes) (whole file ts query)) (finished file) m e in
    finished_complete file w.0 m (whole_sure file ts query w.0 (file_words bytes) (unhurt ts (file_fault bytes) (whole file ts query) w.0 w.1)) w.2
