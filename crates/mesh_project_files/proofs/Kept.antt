-- Each model's file that is read keeps what it has to.
use Rattle.std.proofs.Common.{◌≡◌, ℕ, Bool, true, false, cond, ◌&&◌, not, nat_eq, List, [], ◌∷◌, Result, Ok, Err, IfOk, refl, sym, ◌∙◌, ap, subst}
use Rattle.std.proofs.lemmas.List.Elements.{All-push}
use Rattle.std.specs.Prelude.{IfSome}
use Rattle.std.specs.List.{All, ends_with}
use Rattle.std.specs.Option.{is_some}
use Rattle.std.specs.declared.option.Option.{Option}
use Rattle.std.specs.declared.option.Option.TheVariants.{None, Some}
use Rattle.std.proofs.lemmas.Bool.{and_from as and_both}
use Rattle.mesh_list.proofs.Ascends.{and_left, and_right}
use Rattle.mesh_base_values.specs.Crons.{is_cron}
use Rattle.mesh_base_values.specs.Kinds.{is_incremental}
use Rattle.mesh_base_values.specs.Names.{is_letter, is_schema, has_two_underscores}
use Rattle.mesh_base_values.specs.declared.kinds.Kind.{Kind}
use Rattle.mesh_base_values.specs.declared.kinds.Kind.TheVariants as kind
use Rattle.mesh_base_values.specs.declared.values.Seed.{Seed}
use Rattle.mesh_base.specs.rules.Proper.{is_plain_schema}
use Rattle.mesh_base.specs.rules.Seen.{are_distinct}
use Rattle.mesh_model_statement.specs.declared.model.model.ModelText.{ModelText}
use Rattle.mesh_query_tokens.specs.declared.faults.ReadFault.{ReadFault}
use Rattle.mesh_query_tokens.specs.declared.faults.ReadFault.TheVariants as read
use Rattle.mesh_model.specs.Complete.{is_word, is_model_name, has_its_query, has_its_start, is_complete}
use Rattle.mesh_model.specs.ModelTexts.{is_seed_kind, is_timed}
use Rattle.mesh_model.specs.Reads.{IsModelRead}
use Rattle.mesh_model.proofs.Completed.{model_complete}
use Rattle.mesh_model_csv.specs.seeds.Seeds.{seed_text}
use Rattle.mesh_project_files.specs.declared.faults.LoadFault.{LoadFault}
use Rattle.mesh_project_files.specs.declared.project.ModelFile.{ModelFile}
use Rattle.mesh_project_files.specs.Loading.{◌>>=◌, Gives, in_file}
use Rattle.mesh_project_files.specs.Models.{seed_if_there}
use Rattle.mesh_project_files.specs.Kept.{IsSeedWhere, HasItsSeed, IsReadFile}
use Rattle.mesh_project_files.specs.Project.{with_file}
use Rattle.mesh_project_files.proofs.Columns.{seed_distinct}
use Rattle.mesh_project_files.proofs.Paths.{path_fits}

-- a seed that was read
there : (path : List ℕ) (read meant : Result Seed ReadFault) (answer : Result (Option Seed) LoadFault) → ((seed : Seed) → meant ≡ Ok seed → are_distinct seed.columns ≡ true)
    → meant ≡ read → Gives answer (in_file path read >>= λ seed. Ok (Some seed)) → IfOk answer (IsSeedWhere true)
there path read meant (Err fault) apart e g = tt
there path (Err (read.Fault at kind)) meant (Ok s) apart e g = cc g
there path (Err read.Memory) meant (Ok s) apart e g = cc g
there path (Ok seed) meant (Ok s) apart e g =
    let same : Some seed ≡ s = cc g in
    subst (IsSeedWhere true) same (record { there = refl; distinct = λ t is. let one : seed ≡ t = cc is in subst (λ (t : Seed). are_distinct t.columns ≡ true) one (apart seed e) })

pub seed_there : (text : ModelText) (path : List ℕ) (bytes : Option (List ℕ)) (answer : Result (Option Seed) LoadFault) → Gives answer (seed_if_there text path bytes) → IfOk answer (IsSeedWhere true)
seed_there text path bytes (Err fault) g = tt
seed_there text path None (Ok s) g = cc g
seed_there text path (Some bytes) (Ok s) g = there path (seed_text text.columns bytes) (seed_text text.columns bytes) (Ok s) (seed_distinct text.columns bytes) refl g

pub no_seed : IsSeedWhere false None
no_seed = record { there = refl; distinct = λ s is. cc is }

-- what a file that was read and its seed keep
read_kept : (path bytes : List ℕ) (text : ModelText) (file : ModelFile) → IsModelRead path bytes (Ok text) → HasItsSeed text file → IsReadFile file
read_kept path bytes text file h k = record {
  complete = subst (λ (t : ModelText). is_complete t ≡ true) (sym k.text) (model_complete path bytes h.0 text h.2);
  cron = subst (λ (t : ModelText). is_cron t.cron ≡ true) (sym k.text) k.cron;
  seed = subst (λ (b : Bool). IsSeedWhere b file.seed) (path_fits path bytes h.0 text h.2 ∙ ap (λ (t : ModelText). is_seed_kind t.kind) (sym k.text)) k.seed;
}

pub text_kept : (path bytes : List ℕ) (read : Result ModelText ReadFault) (text : ModelText) (answer : Result (Option ModelFile) LoadFault) → IsModelRead path bytes read → in_file path read ≡ Ok text
    → IfOk answer (λ f. IfSome f (HasItsSeed text)) → IfOk answer (λ f. IfSome f IsReadFile)
text_kept path bytes read text (Err fault) h e k = tt
text_kept path bytes read text (Ok None) h e k = tt
text_kept path bytes (Err fault) text (Ok (Some file)) h e k = cc e
text_kept path bytes (Ok t) text (Ok (Some file)) h e k = let same : t ≡ text = cc e in read_kept path bytes text file (subst (λ t. IsModelRead path bytes (Ok t)) same h) k

pub all_kept : (files : List ModelFile) (file : Option ModelFile) → All IsReadFile files → IfSome file IsReadFile → All IsReadFile (with_file files file)
all_kept files None all one = all
all_kept files (Some f) all one = All-push IsReadFile files f all one

plain : (s : List ℕ) → is_schema s ≡ true → is_plain_schema s ≡ true
plain [] e = cc
plain (b ∷ bs) e =
    let whole : not (ends_with nat_eq (b ∷ bs) (95 ∷ [])) && not (has_two_underscores (b ∷ bs)) ≡ true = and_right (is_letter b) _ e in
    let ended = and_left (not (ends_with nat_eq (b ∷ bs) (95 ∷ []))) (not (has_two_underscores (b ∷ bs))) whole in
    let apart = and_right (not (ends_with nat_eq (b ∷ bs) (95 ∷ []))) (not (has_two_underscores (b ∷ bs))) whole in
    and_both (not (has_two_underscores (b ∷ bs))) (not (ends_with nat_eq (b ∷ bs) (95 ∷ []))) apart ended

query_by : (seed there : Bool) → cond seed (not there) there ≡ true → there ≡ not seed
query_by true true e = cc e
query_by true false e = refl
query_by false true e = refl
query_by false false e = cc e

start_by : (k : Kind) (there : Bool) → cond (is_timed k) there true ≡ true → is_incremental k ≡ true → there ≡ true
start_by (kind.Incremental time lookback) there e is = e
start_by kind.Full there e is = cc is
start_by kind.View there e is = cc is
start_by kind.Seed there e is = cc is

module _ (file : ModelFile) (h : IsReadFile file) where
  abbrev text : ModelText
  text = file.text

  pub schema_kept : is_plain_schema text.name.schema ≡ true
  schema_kept = plain text.name.schema (and_right (is_word text.name.model) _ (and_right (is_word text.name.schema) _ (and_left (is_model_name text.name) _ h.complete)))

  -- a query is there exactly where the kind isn't SEED
  pub query_kept : is_some text.query ≡ not (is_seed_kind text.kind)
  query_kept = query_by (is_seed_kind text.kind) (is_some text.query) (and_left (has_its_query text) _ (and_right (is_model_name text.name) _ h.complete))

  pub start_kept : is_incremental text.kind ≡ true → is_some text.start ≡ true
  start_kept = start_by text.kind (is_some text.start) (and_left (has_its_start text) _ (and_right (has_its_query text) _ (and_right (is_model_name text.name) _ h.complete)))
