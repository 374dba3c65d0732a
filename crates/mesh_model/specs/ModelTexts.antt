-- What a model's file says, or its first fault. Where the file has a faulty token, reading goes as far as the tokens
-- in front of it.
use Rattle.std.specs.Prelude.{ℕ, ℤ, ◌-◌, Bool, true, false, ◌&&◌, not, ◌==◌, List, codes, length, Result, Ok, Err, if◌then◌else◌}
use Rattle.std.specs.Option.{is_some, unwrap_or}
use Rattle.std.specs.declared.option.Option.{Option}
use Rattle.std.specs.declared.option.Option.TheVariants.{None, Some}
use Rattle.mesh_base_values.specs.Crons.{CronSets, is_single}
use Rattle.mesh_base_values.specs.declared.kinds.Kind.{Kind}
use Rattle.mesh_base_values.specs.declared.kinds.Kind.TheVariants as kind
use Rattle.mesh_base_values.specs.declared.times.Unit.{Unit as TimeUnit}
use Rattle.mesh_base_values.specs.declared.times.Unit.TheVariants.{Hour, Day}
use Rattle.mesh_time.specs.CronText.{cron_of}
use Rattle.mesh_query_tokens.specs.Gives.{◌>>=◌}
use Rattle.mesh_query_tokens.specs.declared.faults.FaultKind.TheVariants.{Syntax, NoStart}
use Rattle.mesh_query_tokens.specs.declared.faults.ReadFault.{ReadFault}
use Rattle.mesh_query_tokens.specs.declared.faults.ReadFault.TheVariants.{Fault}
use Rattle.mesh_query_tokens.specs.declared.tokens.Token.{Token}
use Rattle.mesh_query_grammar.specs.declared.surface.queries.Surface.{Surface}
use Rattle.mesh_model_statement.specs.declared.kinds.KindText.{KindText}
use Rattle.mesh_query_tokens.specs.bounds.Brackets.{or_fault}
use Rattle.mesh_query_tokens.specs.bounds.Faults.{broken}
use Rattle.mesh_model_statement.specs.Faults.{bad, provided}
use Rattle.mesh_model_statement.specs.Kinds.{plain, is_empty}
use Rattle.mesh_model_statement.specs.Statement.{Read, end_of, statement}
use Rattle.mesh_model_statement.specs.Values.{quoted}
use Rattle.mesh_model_statement.specs.declared.model.model.ModelText.{ModelText}
use Rattle.mesh_model.specs.declared.model.Whole.{Whole}

-- a model is a VIEW where its kind is absent
abbrev pub kind_of : Option KindText → KindText
kind_of found = unwrap_or found (plain kind.View)

abbrev pub is_seed_kind : Kind → Bool
is_seed_kind kind.Seed = true
is_seed_kind _ = false

abbrev pub is_seed_text : Option KindText → Bool
is_seed_text None = false
is_seed_text (Some k) = is_seed_kind k.kind

-- nothing stands behind the statement of a SEED, which ends at `before`, and a query behind that of another kind
abbrev pub body : Bool → ℕ → List Token → Result Surface ReadFault → Result (Option Surface) ReadFault
body seed before rest query = if seed then provided (is_empty rest) None (broken before) else (query >>= λ q. Ok (Some q))

-- the statement and what stands behind it, where the query is read so
abbrev pub whole : List ℕ → List Token → Result Surface ReadFault → Result Whole ReadFault
whole file ts query = do
  r ← statement file ts
  q ← body (is_seed_text r.parts.kind) r.before r.rest query
  Ok (record { parts = r.parts; query = q })

-- how many tokens stand in front of the query
abbrev pub behind_statement : List Token → Result Read ReadFault → ℕ
behind_statement ts (Ok r) = length ts - length r.rest
behind_statement ts (Err fault) = 0

abbrev pub query_at : List ℕ → List Token → ℕ
query_at file ts = behind_statement ts (statement file ts)

-- a fault that only says that tokens are wanting behind the last one
abbrev pub is_want : List Token → ReadFault → Bool
is_want ts (Fault at Syntax) = at == end_of 0 ts
is_want ts fault = false

-- a faulty token comes behind all faults of the tokens in front of it
abbrev pub earlier : List Token → ReadFault → Result Whole ReadFault → Result Whole ReadFault
earlier ts token (Ok w) = Err token
earlier ts token (Err fault) = if is_want ts fault then Err token else Err fault

abbrev pub with_tokens : List Token → Option ReadFault → Result Whole ReadFault → Result Whole ReadFault
with_tokens ts None w = w
with_tokens ts (Some token) w = earlier ts token w

abbrev pub is_timed : Kind → Bool
is_timed (kind.Incremental time lookback) = true
is_timed _ = false

abbrev pub no_start : ReadFault
no_start = Fault 0 NoStart

-- an incremental model has a start
abbrev pub started : Kind → Option ℤ → Result (Option ℤ) ReadFault
started k start = provided (not (is_timed k && not (is_some start))) start no_start

-- a model's cron is `@daily` where it is absent
abbrev pub cron_or_daily : Option CronSets → Result CronSets ReadFault
cron_or_daily None = quoted 0 (cron_of (codes "@daily"))
cron_or_daily (Some cron) = Ok cron

-- the day for a cron that ticks at one hour of a day
abbrev pub unit_of : CronSets → TimeUnit
unit_of cron = if is_single cron.hour 24 then Day else Hour

-- a model's file, name, start and cron: a name and a start may be wanting, in this order
abbrev pub settled : {N : Type 0} → List ℕ → Option N → Kind → Option ℤ → Option CronSets → Result (List ℕ × N × Option ℤ × CronSets) ReadFault
settled file name kind start cron = do
  n ← or_fault (bad 0 (codes "name")) name
  s ← started kind start
  c ← cron_or_daily cron
  Ok (file, n, s, c)

-- what absences say: a name and a start may be wanting, in this order
abbrev pub finished : List ℕ → Whole → Result ModelText ReadFault
finished file w = do
  name ← or_fault (bad 0 (codes "name")) w.parts.name
  start ← started (kind_of w.parts.kind).kind w.parts.start
  cron ← cron_or_daily w.parts.cron
  Ok (record {
    file = file;
    name = name;
    kind = (kind_of w.parts.kind).kind;
    cron = cron;
    unit = unwrap_or w.parts.unit (unit_of cron);
    start = start;
    columns = w.parts.columns;
    path = (kind_of w.parts.kind).path;
    path_at = (kind_of w.parts.kind).path_at;
    audits = w.parts.audits;
    query = w.query;
  })

-- what a file says whose tokens in front of its faulty one are these, where the query is read so
abbrev pub model_of : List ℕ → List Token → Option ReadFault → Result Surface ReadFault → Result ModelText ReadFault
model_of file ts token query = with_tokens ts token (whole file ts query) >>= finished file
