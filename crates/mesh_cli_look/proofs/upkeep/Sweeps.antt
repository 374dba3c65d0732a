-- What the janitor's call leaves, as a command tells it.
use Rattle.std.proofs.Common.{◌≡◌, ◌↔◌, ◌&&◌, not, inr, Ok, Err, Result, Bool, true, false, cond, ℕ, ℤ, List, [], refl, sym, ◌∙◌, ap, subst}
use Rattle.std.specs.Prelude.{IsTrue}
use Rattle.std.specs.Int.Signed.{lt_z}
use Rattle.mesh_house_book.specs.declared.book.Book.{Book}
use Rattle.mesh_house.specs.declared.world.World.{World}
use Rattle.mesh_house.specs.declared.world.Change.{Change}
use Rattle.mesh_house.specs.House.{Told, Reads}
use Rattle.mesh_house.specs.Runs.{IsPrefixRun}
use Rattle.mesh_house.specs.World.{book}
use Rattle.mesh_spec_changes.specs.Commands.{is_present}
use Rattle.mesh_spec_changes.specs.Kept.{sweeps}
use Rattle.mesh_janitor.specs.declared.janitor.faults.Swept.{Swept}
use Rattle.mesh_janitor.specs.declared.janitor.faults.SweepFault.{SweepFault}
use Rattle.mesh_janitor.specs.declared.janitor.faults.SweepFault.TheVariants as faults
use Rattle.mesh_janitor.specs.janitor.Sweeping.{Sweeps}
use Rattle.mesh_layer.specs.Shows.{Tells}
use Rattle.mesh_layer.proofs.Finding.{read_is}
use Rattle.mesh_cli_print.specs.declared.printed.refusals.Refusal.{Refusal}
use Rattle.mesh_cli_print.specs.declared.printed.refusals.Refusal.TheVariants.{Warehouse, Memory, Input}
use Rattle.mesh_cli_answer.specs.Answers.{Answers}
use Rattle.mesh_cli_answer.proofs.Answering.{answers_so, read_first, same_refusal}
use Rattle.mesh_cli_look.specs.upkeep.Upkeep.{JanitorGives, JanitorMakes, NumbersGiven, SweepGives, janitor_changes}

-- a sweep that isn't refused for its moment, and stopped
module _ (t : ℤ) (b : Book) (present : is_present b ≡ true) (a c : Told) (r : Result Swept SweepFault)
    (behind : IsTrue (lt_z t b.moment) ↔ (r ≡ Err (faults.Moment t b.moment))) (sweep : Sweeps (sweeps b t) a c r) where
  whole : (r ≡ Err (faults.Moment t b.moment) → ⊥) → janitor_changes t b ≡ sweeps b t
  whole other = go (lt_z t b.moment) refl
    where
      go : (d : Bool) → lt_z t b.moment ≡ d → janitor_changes t b ≡ sweeps b t
      go true e = absurd (other (behind.0 e))
      go false e = λ i. cond (present i && not (e i)) (sweeps b t) []

  part : (f : SweepFault) → r ≡ Err f → (f ≡ faults.Moment t b.moment → ⊥) → (w : World) → Tells a w → IsPrefixRun (janitor_changes t b) w a.calls c
  part f is other w told =
      let stopped : Sweeps (sweeps b t) a c (Err f) = subst (λ (q : Result Swept SweepFault). Sweeps (sweeps b t) a c q) is sweep in
      let all : janitor_changes t b ≡ sweeps b t = whole (λ e. other (let same : Err f ≡ Err (faults.Moment t b.moment) = sym is ∙ e in cc)) in
      subst (λ (l : List Change). IsPrefixRun l w a.calls c) (sym all) (stopped.err.told w told.world)

  pub failed : r ≡ Err faults.Warehouse → Answers ⊥ (λ w list. list ≡ janitor_changes t b) (λ w. NumbersGiven t b) a c (Err Warehouse)
  failed is =
      let stopped : Sweeps (sweeps b t) a c (Err faults.Warehouse) = subst (λ (q : Result Swept SweepFault). Sweeps (sweeps b t) a c q) is sweep in
      record {
        faults = stopped.err.faults;
        failed = λ e. stopped.failed refl;
        beyond = λ e. absurd (let clash : Warehouse ≡ Input = same_refusal {T = Swept} Warehouse Input e in cc);
        early = λ early. absurd (let clash : false ≡ true = early in cc);
        made = λ w told. inr (janitor_changes t b, refl, part faults.Warehouse is (λ e. let clash : faults.Warehouse ≡ faults.Moment t b.moment = e in cc) w told);
        given = λ w told fine. absurd (let clash : true ≡ false = fine in cc);
      }

  pub wanted : r ≡ Err faults.Memory → Answers ⊥ (λ w list. list ≡ janitor_changes t b) (λ w. NumbersGiven t b) a c (Err Memory)
  wanted is =
      let stopped : Sweeps (sweeps b t) a c (Err faults.Memory) = subst (λ (q : Result Swept SweepFault). Sweeps (sweeps b t) a c q) is sweep in
      record {
        faults = stopped.err.faults;
        failed = λ e. absurd (let clash : Err Memory ≡ Err Warehouse = e in cc);
        beyond = λ e. absurd (let clash : Memory ≡ Input = same_refusal {T = Swept} Memory Input e in cc);
        early = λ early. absurd (let clash : false ≡ true = early in cc);
        made = λ w told. inr (janitor_changes t b, refl, part faults.Memory is (λ e. let clash : faults.Memory ≡ faults.Moment t b.moment = e in cc) w told);
        given = λ w told fine. absurd (let clash : true ≡ false = fine in cc);
      }

-- what was answered of the book that was read is answered of the world's book
pub by_the_book : (t : ℤ) (a m c : Told) (b : Book) → Reads book a m (Ok b) → (r : Result (List ℕ) Refusal)
    → Answers ⊥ (λ w list. list ≡ janitor_changes t b) (λ w. SweepGives t b) m c r → Answers ⊥ (JanitorMakes t) (JanitorGives t) a c r
by_the_book t a m c b reads r by =
    answers_so (λ w list. list ≡ janitor_changes t b) (JanitorMakes t) (λ w. SweepGives t b) (JanitorGives t) a c
    (λ w told list made clock. made ∙ ap (janitor_changes t) (read_is book a m b reads w told.world))
    (λ w told q gives. subst (λ (k : Book). SweepGives t k q) (read_is book a m b reads w told.world) gives) r
    (read_first (λ w list. list ≡ janitor_changes t b) (λ w. SweepGives t b) a m c (record { world = reads.world; calls = reads.calls }) reads.faults r by)
