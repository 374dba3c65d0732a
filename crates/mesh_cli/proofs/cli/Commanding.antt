-- What a command does at its moment.
use Rattle.std.proofs.Common.{◌≡◌, ℕ, ℤ, true, false, List, Ok, Err, Result, refl, sym, subst, ◌⊎◌, inl, ap, arith}
use Rattle.std.specs.declared.option.Option.{Option}
use Rattle.mesh_base.specs.declared.forgets.Restate.{Restate}
use Rattle.mesh_base_values.specs.declared.values.Name.{Name}
use Rattle.mesh_io.specs.declared.files.File.{File}
use Rattle.mesh_io.specs.Told.{ClockTold, FolderTold}
use Rattle.mesh_list.specs.Counts.{Rose}
use Rattle.mesh_time_days.specs.Moments.{IsMoment}
use Rattle.mesh_house.specs.declared.world.Change.{Change}
use Rattle.mesh_house.specs.declared.world.World.{World}
use Rattle.mesh_house.specs.House.{Told}
use Rattle.mesh_cli_print.specs.declared.printed.refusals.Refusal.{Refusal}
use Rattle.mesh_cli_print.specs.declared.printed.refusals.Refusal.TheVariants.{Memory}
use Rattle.mesh_cli.specs.demo.Demos.{IsDemo}
use Rattle.mesh_cli_words.specs.declared.line.Command.TheVariants.{Plan, Apply, Run, Janitor, Trace, Impact, Demo}
use Rattle.mesh_cli_apply.specs.Applying.{ApplyGives, ApplyMakes, RunGives, RunMakes}
use Rattle.mesh_cli_apply.specs.Loaded.{IsProject, OfProject}
use Rattle.mesh_cli_apply.specs.Tracing.{ImpactGives, ReadsFolder, TraceGives}
use Rattle.mesh_cli_look.specs.upkeep.Upkeep.{JanitorGives, JanitorMakes}
use Rattle.mesh_cli_answer.specs.Answers.{Answers, IsAsked, no_changes}
use Rattle.mesh_cli_answer.proofs.Answering.{alone_itself, answers_so, refused_alone, told_alone, wanting_first}
use Rattle.mesh_cli.specs.cli.Ends.{Commanded}
use Rattle.mesh_cli.specs.cli.Asked.{Gives, Makes}
use Rattle.mesh_cli.specs.cli.Sides.{IsAt, Sides, Timed, sides}

-- where the outside is told to have failed, more stands
pub reaching : {T near far : Type 0} (makes : World → List Change → Type 0) (gives : World → Result T Refusal → Type 0) (a c : Told) (r : Result T Refusal) → (near → far) → Answers near makes gives a c r → Answers far makes gives a c r
reaching makes gives a c r so by = record {
  faults = by.faults;
  failed = by.failed;
  beyond = λ is. so (by.beyond is);
  early = by.early;
  made = by.made;
  given = by.given;
}

module _ (dir env : List ℕ) (workers : ℕ) (moment : Option ℤ) (again : Option Restate) (f f' : FolderTold) (k k' : ClockTold) (h h' : Told) (t given : ℤ) (answer : Result (List ℕ) Refusal)
    (same : given ≡ t) (timed : Timed moment k k' (Ok t))
    (by : Answers (Rose f.faults f'.faults) (λ w list. IsProject f.files dir (λ nodes. ApplyMakes nodes env given again w list)) (λ w. OfProject f.files dir (λ nodes. ApplyGives nodes env given again w)) h h' answer)
    (asked : IsAsked f f') where
  -- an apply at its moment
  pub applied_at : Commanded dir (Apply env workers moment again) (sides f k h) (sides f' k' h') answer
  applied_at = record {
    house = answers_so _ _ _ _ h h' (λ w told list makes. (given, subst (IsAt moment k.moment) (sym same) timed.is_at, subst IsMoment (sym same) timed.within, makes)) (λ w told r gives. (given, subst (IsAt moment k.moment) (sym same) timed.is_at, subst IsMoment (sym same) timed.within, gives)) answer (reaching _ _ h h' answer (λ rose. inl rose) by);
    files = asked.files;
    moment = timed.moment;
    folder = asked.faults;
    clock = timed.faults;
    unread = λ e. absurd (let clash : true ≡ false = e in cc);
    unasked = timed.unasked;
    unused = λ e. absurd (let clash : true ≡ false = e in cc);
  }

  -- a plan that is applied at once
  pub planned_at : Commanded dir (Plan env true workers moment again) (sides f k h) (sides f' k' h') answer
  planned_at = record {
    house = answers_so _ _ _ _ h h' (λ w told list makes. (given, subst (IsAt moment k.moment) (sym same) timed.is_at, subst IsMoment (sym same) timed.within, makes)) (λ w told r gives. (given, subst (IsAt moment k.moment) (sym same) timed.is_at, subst IsMoment (sym same) timed.within, gives)) answer (reaching _ _ h h' answer (λ rose. inl rose) by);
    files = asked.files;
    moment = timed.moment;
    folder = asked.faults;
    clock = timed.faults;
    unread = λ e. absurd (let clash : true ≡ false = e in cc);
    unasked = timed.unasked;
    unused = λ e. absurd (let clash : true ≡ false = e in cc);
  }

-- a run at its moment
pub ran_at : (dir env : List ℕ) (workers : ℕ) (moment : Option ℤ) (f : FolderTold) (k k' : ClockTold) (h h' : Told) (t given : ℤ) (answer : Result (List ℕ) Refusal)
    → given ≡ t → Timed moment k k' (Ok t) → Answers ⊥ (RunMakes env given) (RunGives env given) h h' answer → Commanded dir (Run env workers moment) (sides f k h) (sides f k' h') answer
ran_at dir env workers moment f k k' h h' t given answer same timed by = record {
  house = answers_so _ _ _ _ h h' (λ w told list makes. (given, subst (IsAt moment k.moment) (sym same) timed.is_at, subst IsMoment (sym same) timed.within, makes)) (λ w told r gives. (given, subst (IsAt moment k.moment) (sym same) timed.is_at, subst IsMoment (sym same) timed.within, gives)) answer (reaching _ _ h h' answer (λ e. absurd e) by);
  files = refl;
  moment = timed.moment;
  folder = omega arith;
  clock = timed.faults;
  unread = λ e. refl;
  unasked = timed.unasked;
  unused = λ e. absurd (let clash : true ≡ false = e in cc);
}

-- a sweep at its moment
pub swept_at : (dir : List ℕ) (moment : Option ℤ) (f : FolderTold) (k k' : ClockTold) (h h' : Told) (t given : ℤ) (answer : Result (List ℕ) Refusal)
    → given ≡ t → Timed moment k k' (Ok t) → Answers ⊥ (JanitorMakes given) (JanitorGives given) h h' answer → Commanded dir (Janitor moment) (sides f k h) (sides f k' h') answer
swept_at dir moment f k k' h h' t given answer same timed by = record {
  house = answers_so _ _ _ _ h h' (λ w told list makes. (given, subst (IsAt moment k.moment) (sym same) timed.is_at, subst IsMoment (sym same) timed.within, makes)) (λ w told r gives. (given, subst (IsAt moment k.moment) (sym same) timed.is_at, subst IsMoment (sym same) timed.within, gives)) answer (reaching _ _ h h' answer (λ e. absurd e) by);
  files = refl;
  moment = timed.moment;
  folder = omega arith;
  clock = timed.faults;
  unread = λ e. refl;
  unasked = timed.unasked;
  unused = λ e. absurd (let clash : true ≡ false = e in cc);
}

-- a demonstration, which uses nothing of what is here
module _ (dir : List ℕ) (n workers : ℕ) (s : Sides) where
  pub demo_told : (text : List ℕ) → IsDemo n text → Commanded dir (Demo n workers) s s (Ok text)
  demo_told text is = record {
    house = told_alone (Makes dir s (Demo n workers)) (Gives dir s (Demo n workers)) s.house s.house text (alone_itself s.house) (omega arith) (λ w told. refl) (λ w told. is);
    files = refl;
    moment = refl;
    folder = omega arith;
    clock = omega arith;
    unread = λ e. refl;
    unasked = λ e. refl;
    unused = λ e. (refl, λ w. is);
  }

  pub demo_wanting : Commanded dir (Demo n workers) s s (Err Memory)
  demo_wanting = record {
    house = wanting_first (Makes dir s (Demo n workers)) (Gives dir s (Demo n workers)) s.house;
    files = refl;
    moment = refl;
    folder = omega arith;
    clock = omega arith;
    unread = λ e. refl;
    unasked = λ e. refl;
    unused = λ e. (refl, λ w fine. absurd (let clash : true ≡ false = fine in cc));
  }

-- what the files of the folder give is answered, whatever the warehouse is, which isn't used
module _ (gives : Option (List File) → Result (List ℕ) Refusal → Type 0) (f f' : FolderTold) (k : ClockTold) (h : Told) where
  abbrev FromFiles : World → Result (List ℕ) Refusal → Type 0
  FromFiles w r = gives f.files r

  from_files : (answer : Result (List ℕ) Refusal) → ReadsFolder gives f f' answer → Answers (Rose f.faults f'.faults ⊎ Rose k.faults k.faults) no_changes FromFiles h h answer
  from_files (Ok text) by = told_alone no_changes FromFiles h h text (alone_itself h) (omega arith) (λ w told. refl) (λ w told. by.given)
  from_files (Err r) by = refused_alone no_changes FromFiles h h r (alone_itself h) (omega arith) (λ e. absurd (by.inside (ap (λ (x : Refusal). Err x) e))) (λ e. inl (by.failed (ap (λ (x : Refusal). Err x) e))) (λ w told fine. by.given fine)

-- a column's trace
pub trace_told : (dir : List ℕ) (model : Name) (column : List ℕ) (f f' : FolderTold) (k : ClockTold) (h : Told) (answer : Result (List ℕ) Refusal)
    → ReadsFolder (λ files. TraceGives files dir model column) f f' answer → Commanded dir (Trace model column) (sides f k h) (sides f' k h) answer
trace_told dir model column f f' k h answer by = record {
  house = from_files (λ files. TraceGives files dir model column) f f' k h answer by;
  files = by.files;
  moment = refl;
  folder = by.faults;
  clock = omega arith;
  unread = λ e. absurd (let clash : true ≡ false = e in cc);
  unasked = λ e. refl;
  unused = λ e. (refl, λ w. by.given);
}

-- what hangs on a column
pub impact_told : (dir : List ℕ) (name : Name) (column : List ℕ) (f f' : FolderTold) (k : ClockTold) (h : Told) (answer : Result (List ℕ) Refusal)
    → ReadsFolder (λ files. ImpactGives files dir name column) f f' answer → Commanded dir (Impact name column) (sides f k h) (sides f' k h) answer
impact_told dir name column f f' k h answer by = record {
  house = from_files (λ files. ImpactGives files dir name column) f f' k h answer by;
  files = by.files;
  moment = refl;
  folder = by.faults;
  clock = omega arith;
  unread = λ e. absurd (let clash : true ≡ false = e in cc);
  unasked = λ e. refl;
  unused = λ e. (refl, λ w. by.given);
}
