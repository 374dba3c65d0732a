-- What the end of a command says of its changes and of what it printed.
use Rattle.std.proofs.Common.{◌≡◌, ◌⊎◌, inl, inr, ℕ, true, false, List, Ok, Err, Result, refl, sym, ◌∙◌, subst}
use Rattle.mesh_list.specs.Counts.{Rose}
use Rattle.mesh_house.specs.declared.world.Change.{Change}
use Rattle.mesh_house.specs.declared.world.World.{World}
use Rattle.mesh_house.specs.Runs.{IsRun}
use Rattle.mesh_io.specs.Told.{SinkTold}
use Rattle.mesh_layer.specs.Shows.{Tells}
use Rattle.mesh_cli_answer.specs.Answers.{IsAlone, is_early, is_fault}
use Rattle.mesh_cli_print.specs.printed.Refusals.{refusal_line, status}
use Rattle.mesh_cli_print.specs.declared.printed.refusals.Refusal.{Refusal}
use Rattle.mesh_cli_print.specs.declared.printed.refusals.Refusal.TheVariants as refusal
use Rattle.mesh_cli_words.specs.declared.line.Command.{Command}
use Rattle.mesh_cli.specs.cli.Asked.{Gives, Makes}
use Rattle.mesh_cli.specs.cli.Ends.{Commanded, Ended}
use Rattle.mesh_cli_print.specs.printed.Printing.{IsPut, IsWritten, Printed, Sinks}
use Rattle.mesh_cli.specs.cli.Sides.{Sides}

-- no refusal has status 0
some_status : (r : Refusal) → status r ≡ 0 → ⊥
some_status (refusal.Model file at kind) e = absurd (let clash : 1 ≡ 0 = e in cc)
some_status refusal.Usage e = absurd (let clash : 2 ≡ 0 = e in cc)
some_status refusal.Warehouse e = absurd (let clash : 3 ≡ 0 = e in cc)
some_status refusal.Memory e = absurd (let clash : 4 ≡ 0 = e in cc)
some_status refusal.Input e = absurd (let clash : 5 ≡ 0 = e in cc)
some_status (refusal.MomentBehind given kept) e = absurd (let clash : 7 ≡ 0 = e in cc)
some_status (refusal.EnvUnknown env) e = absurd (let clash : 7 ≡ 0 = e in cc)
some_status (refusal.EnvPending env) e = absurd (let clash : 7 ≡ 0 = e in cc)
some_status (refusal.BookBroken part place) e = absurd (let clash : 7 ≡ 0 = e in cc)
some_status (refusal.ObjectMissing object) e = absurd (let clash : 7 ≡ 0 = e in cc)
some_status (refusal.StateOld version) e = absurd (let clash : 7 ≡ 0 = e in cc)

-- a text that was put with status 0 was to be put with it, and was written
put_whole : (text : List ℕ) (whole : ℕ) (a b : SinkTold) → IsPut text whole a b 0 → (whole ≡ 0) × IsWritten text a b
put_whole text whole a b (inl by) = (sym by.0, by.1)
put_whole text whole a b (inr (inl by)) = absurd (let clash : 0 ≡ 6 = by.0 in cc)
put_whole text whole a b (inr (inr by)) = absurd (let clash : 0 ≡ 4 = by.0 in cc)

module _ (dir : List ℕ) (c : Command) (old new : Sides) (sinks printed : Sinks) (w : World) where
  pub done_made : Ended dir c old new sinks printed 0 → Tells old.house w → (list : List Change) × Makes dir old c w list × IsRun list w old.house.calls new.house
  done_made ended told = by_answer ended.answer ended.commanded ended.said where
    by_answer : (answer : Result (List ℕ) Refusal) → Commanded dir c old new answer → Printed answer sinks printed 0 → (list : List Change) × Makes dir old c w list × IsRun list w old.house.calls new.house
    by_answer (Ok text) commanded said = commanded.house.made w told
    by_answer (Err r) commanded said = absurd (some_status r (put_whole (refusal_line r) (status r) sinks.err printed.err said.0).0)

  pub done_told : Ended dir c old new sinks printed 0 → Tells old.house w → (text : List ℕ) × Gives dir old c w (Ok text) × IsWritten text sinks.out printed.out × (printed.err ≡ sinks.err)
  done_told ended told = by_answer ended.answer ended.commanded ended.said where
    by_answer : (answer : Result (List ℕ) Refusal) → Commanded dir c old new answer → Printed answer sinks printed 0 → (text : List ℕ) × Gives dir old c w (Ok text) × IsWritten text sinks.out printed.out × (printed.err ≡ sinks.err)
    by_answer (Ok text) commanded said = (text, commanded.house.given w told, (put_whole text 0 sinks.out printed.out said.0).1, said.1)
    by_answer (Err r) commanded said = absurd (some_status r (put_whole (refusal_line r) (status r) sinks.err printed.err said.0).0)

pub refused_left_alone : (dir : List ℕ) (c : Command) (old new : Sides) (sinks printed : Sinks) (s : ℕ) (ended : Ended dir c old new sinks printed s) (r : Refusal) → ended.answer ≡ Err r → is_early r ≡ true → IsAlone old.house new.house
refused_left_alone dir c old new sinks printed s ended r is early = commanded.house.early early where
  commanded : Commanded dir c old new (Err r)
  commanded = subst (λ (answer : Result (List ℕ) Refusal). Commanded dir c old new answer) is ended.commanded

module _ (dir : List ℕ) (c : Command) (old new : Sides) (sinks printed : Sinks) (w : World) (s : ℕ) (told : Tells old.house w)
    (none : (r : Refusal) → is_fault r ≡ false → ¬ Gives dir old c w (Err r)) (house : ¬ Rose old.house.faults new.house.faults) (folder : ¬ Rose old.folder.faults new.folder.faults) (clock : ¬ Rose old.clock.faults new.clock.faults)
    (out : ¬ Rose sinks.out.faults printed.out.faults) (err : ¬ Rose sinks.err.faults printed.err.faults) where
  put_well : (text : List ℕ) (whole : ℕ) (a b : SinkTold) → ¬ Rose a.faults b.faults → IsPut text whole a b s → (whole ≡ 0) ⊎ (whole ≡ 4) → (s ≡ 0) ⊎ (s ≡ 4)
  put_well text whole a b well (inl by) (inl is) = inl (by.0 ∙ is)
  put_well text whole a b well (inl by) (inr is) = inr (by.0 ∙ is)
  put_well text whole a b well (inr (inl by)) is = absurd (well by.1)
  put_well text whole a b well (inr (inr by)) is = inr by.0

  -- what is refused all the same is want of memory
  wanting : (r : Refusal) → Commanded dir c old new (Err r) → status r ≡ 4
  wanting refusal.Memory by = refl
  wanting refusal.Warehouse by = absurd (house (by.house.failed refl))
  wanting refusal.Input by = absurd (outside (by.house.beyond refl)) where
    outside : Rose old.folder.faults new.folder.faults ⊎ Rose old.clock.faults new.clock.faults → ⊥
    outside (inl rose) = folder rose
    outside (inr rose) = clock rose
  wanting (refusal.Model file at kind) by = absurd (none _ refl (by.house.given w told refl))
  wanting refusal.Usage by = absurd (none _ refl (by.house.given w told refl))
  wanting (refusal.MomentBehind given kept) by = absurd (none _ refl (by.house.given w told refl))
  wanting (refusal.EnvUnknown env) by = absurd (none _ refl (by.house.given w told refl))
  wanting (refusal.EnvPending env) by = absurd (none _ refl (by.house.given w told refl))
  wanting (refusal.BookBroken part place) by = absurd (none _ refl (by.house.given w told refl))
  wanting (refusal.ObjectMissing object) by = absurd (none _ refl (by.house.given w told refl))
  wanting (refusal.StateOld version) by = absurd (none _ refl (by.house.given w told refl))

  ends_well : (answer : Result (List ℕ) Refusal) → Commanded dir c old new answer → Printed answer sinks printed s → (s ≡ 0) ⊎ (s ≡ 4)
  ends_well (Ok text) by said = put_well text 0 sinks.out printed.out out said.0 (inl refl)
  ends_well (Err r) by said = put_well (refusal_line r) (status r) sinks.err printed.err err said.0 (inr (wanting r by))

pub nothing_against_it : (dir : List ℕ) (c : Command) (old new : Sides) (sinks printed : Sinks) (w : World) (s : ℕ) → Ended dir c old new sinks printed s → Tells old.house w →
    ((r : Refusal) → is_fault r ≡ false → ¬ Gives dir old c w (Err r)) → ¬ Rose old.house.faults new.house.faults → ¬ Rose old.folder.faults new.folder.faults → ¬ Rose old.clock.faults new.clock.faults →
    ¬ Rose sinks.out.faults printed.out.faults → ¬ Rose sinks.err.faults printed.err.faults → (s ≡ 0) ⊎ (s ≡ 4)
nothing_against_it dir c old new sinks printed w s ended told none house folder clock out err = ends_well dir c old new sinks printed w s told none house folder clock out err ended.answer ended.commanded ended.said
