-- A model's text is made of what its file, name, start and cron are, or refused with them.
use Rattle.std.proofs.Common.{◌≡◌, ℕ, ℤ, List, codes, Result, Ok, Err, Option, ap}
use Rattle.std.specs.Option.{unwrap_or}
use Rattle.mesh_base_values.specs.Crons.{CronSets}
use Rattle.mesh_base_values.specs.declared.times.Unit.{Unit as TimeUnit}
use Rattle.mesh_base_values.specs.declared.values.Name.{Name}
use Rattle.mesh_query_tokens.specs.Gives.{◌>>=◌, Refuses}
use Rattle.mesh_query_tokens.specs.declared.faults.ReadFault.{ReadFault}
use Rattle.mesh_query_tokens.specs.declared.faults.ReadFault.TheVariants as faults
use Rattle.mesh_model_statement.specs.declared.kinds.KindText.{KindText}
use Rattle.mesh_query_tokens.specs.bounds.Brackets.{or_fault}
use Rattle.mesh_model_statement.specs.Faults.{bad}
use Rattle.mesh_model_statement.specs.declared.model.model.ModelText.{ModelText}
use Rattle.mesh_model.specs.declared.model.Whole.{Whole}
use Rattle.mesh_model.specs.ModelTexts.{kind_of, started, cron_or_daily, unit_of, settled, finished}

module _ {A B C S M : Type 0} (F : S → A → B → C → M) (s : S) where
  made_of : (p : Result A ReadFault) (q : Result B ReadFault) (r : Result C ReadFault) (x : S × A × B × C)
      → (p >>= λ a. q >>= λ b. r >>= λ c. Ok (s, a, b, c)) ≡ Ok x → (p >>= λ a. q >>= λ b. r >>= λ c. Ok (F s a b c)) ≡ Ok (F x.0 x.1 x.2 x.3)
  made_of (Ok a) (Ok b) (Ok c) x e = let same : (s, a, b, c) ≡ x = cc in ap (λ (y : S × A × B × C). Ok (F y.0 y.1 y.2 y.3)) same
  made_of (Ok a) (Ok b) (Err f) x e = absurd cc
  made_of (Ok a) (Err f) r x e = absurd cc
  made_of (Err f) q r x e = absurd cc

  refused_of : (e : ReadFault) (p : Result A ReadFault) (q : Result B ReadFault) (r : Result C ReadFault)
      → Refuses {Y = S × A × B × C} e (p >>= λ a. q >>= λ b. r >>= λ c. Ok (s, a, b, c)) → Refuses e (p >>= λ a. q >>= λ b. r >>= λ c. Ok (F s a b c))
  refused_of faults.Memory p q r h = tt
  refused_of (faults.Fault at kind) (Ok a) (Ok b) (Ok c) h = absurd cc
  refused_of (faults.Fault at kind) (Ok a) (Ok b) (Err f) h = let same : f ≡ faults.Fault at kind = cc in ap Err same
  refused_of (faults.Fault at kind) (Ok a) (Err f) r h = let same : f ≡ faults.Fault at kind = cc in ap Err same
  refused_of (faults.Fault at kind) (Err f) q r h = let same : f ≡ faults.Fault at kind = cc in ap Err same

abbrev text_of : Whole → List ℕ → Name → Option ℤ → CronSets → ModelText
text_of w file name start cron = record {
  file = file;
  name = name;
  kind = (kind_of w.parts.kind).kind;
  cron = cron;
  unit = unwrap_or w.parts.unit (unit_of cron);
  start = start;
  columns = w.parts.columns;
  path = (kind_of w.parts.kind).path;
  path_at = (kind_of w.parts.kind).path_at;
  audits = w.parts.audits;
  query = w.query;
}

pub made : (file : List ℕ) (w : Whole) (k : KindText) (x : List ℕ × Name × Option ℤ × CronSets) (u : TimeUnit) → k ≡ kind_of w.parts.kind → u ≡ unwrap_or w.parts.unit (unit_of x.3)
    → settled file w.parts.name k.kind w.parts.start w.parts.cron ≡ Ok x
    → finished file w ≡ Ok (record { file = x.0; name = x.1; kind = k.kind; cron = x.3; unit = u; start = x.2; columns = w.parts.columns; path = k.path; path_at = k.path_at; audits = w.parts.audits; query = w.query })
made file w k x u is unit e =
    let found = rw is at e in
    rw (is, unit) (made_of (text_of w) file (or_fault (bad 0 (codes "name")) w.parts.name) (started (kind_of w.parts.kind).kind w.parts.start) (cron_or_daily w.parts.cron) x found)

pub refused : (e : ReadFault) (file : List ℕ) (w : Whole) (k : KindText) → k ≡ kind_of w.parts.kind → Refuses e (settled file w.parts.name k.kind w.parts.start w.parts.cron) → Refuses e (finished file w)
refused e file w k is h =
    refused_of (text_of w) file e (or_fault (bad 0 (codes "name")) w.parts.name) (started (kind_of w.parts.kind).kind w.parts.start) (cron_or_daily w.parts.cron) (rw is at h)
