-- A plan that is executed over a sound world never meets an object that dangles.
use Rattle.std.proofs.Common.{◌≡◌, ℕ, ℤ, cond, ◌&&◌, inl, inr, List, [], ◌∷◌, ◌++◌, length, map, Option, Some, None, Err, refl, sym, ap, ◌∙◌, subst, arith, length-append}
use Rattle.std.proofs.lemmas.List.{append_assoc, append-nil}
use Rattle.std.specs.List.{flat_map}
use Rattle.std.specs.Option.{option_and_then, option_map}
use Rattle.mesh_base_values.specs.declared.kinds.Kind.{Kind}
use Rattle.mesh_base_values.specs.declared.kinds.Kind.TheVariants.{Full, View, Seed, Incremental}
use Rattle.mesh_base_values.specs.declared.values.Cell.{Cell}
use Rattle.mesh_base_values.specs.declared.values.Name.{Name}
use Rattle.mesh_base.specs.declared.forgets.Restate.{Restate}
use Rattle.mesh_base.specs.declared.jobs.Input.{Input}
use Rattle.mesh_base.specs.declared.plans.Due.{Due}
use Rattle.mesh_base.specs.declared.snapshots.Node.{Node}
use Rattle.mesh_base.specs.declared.rules.plans.Plan.{Plan as Made}
use Rattle.mesh_time_days.specs.Moments.{IsMoment}
use Rattle.mesh_spec_model.specs.Horizons.{Clock, Shows}
use Rattle.mesh_spec_model.specs.Scratch.{table_of}
use Rattle.mesh_spec_model.specs.Sources.{inputs}
use Rattle.mesh_house.specs.House.{Told}
use Rattle.mesh_house.specs.Step.{run}
use Rattle.mesh_house.specs.declared.world.Change.{Change}
use Rattle.mesh_house.specs.declared.world.Change.TheVariants.{Finalize}
use Rattle.mesh_house.specs.declared.world.World.{World}
use Rattle.mesh_house.proofs.Runs.{run-append}
use Rattle.mesh_spec_changes.specs.shown.Shown.{each_there, object_rows}
use Rattle.mesh_spec_changes.specs.due.Marks.{is_computed}
use Rattle.mesh_spec_changes.specs.due.Parts.{Parts}
use Rattle.mesh_spec_changes.specs.due.Plans.{Planned}
use Rattle.mesh_spec_changes.specs.Changes.{followed, opens, parent_table, run_opens, tables_for}
use Rattle.mesh_spec_changes.specs.Changes as book
use Rattle.mesh_layer.specs.Lost.{first_of, lost_object}
use Rattle.mesh_layer.specs.Shows.{Tells}
use Rattle.mesh_layer.proofs.Asking.{object_lost}
use Rattle.mesh_spec_promise.specs.Sound.{Sound}
use Rattle.mesh_exec_works.specs.Dues.{is_any}
use Rattle.mesh_exec_works.specs.Lost.{lost_if, lost_part, lost_parents}
use Rattle.mesh_exec_works.specs.Plain.{making, model_of, models, opened, parents_at}
use Rattle.mesh_exec_works.specs.Works.{Part, parts}
use Rattle.mesh_exec.specs.Answers.{Executes, IsCut}
use Rattle.mesh_exec.specs.Executed.{executes, filled, fills, part_fills}
use Rattle.mesh_exec.specs.Planned.{IsOf, as_planned, planned_models}
use Rattle.mesh_exec.specs.Steps.{IsLost}
use Rattle.mesh_exec.specs.declared.faults.ExecFault.TheVariants as fault
use Rattle.mesh_exec.proofs.Books.{ends, ends_as_the_book, opens_same}
use Rattle.mesh_house_book.specs.declared.book.Book.{Book}
use Rattle.mesh_spec_changes.specs.Environments.{env_at}
use Rattle.mesh_law_promise.proofs.formed.Commands.{applies_whole, runs_whole}
use Rattle.mesh_plan.specs.Plans.{promised}
use Rattle.mesh_cli_apply.specs.Planning.{IsPlanned, IsRunPlanned}
use Rattle.mesh_cli_apply.proofs.Promised.{plan_is_of, run_is_of}
use Rattle.mesh_cli.proofs.promise.Asked.{apply_allowed, run_allowed, run_of}
use Rattle.mesh_cli.proofs.promise.Calling.{apply_met, run_met}
use Rattle.mesh_cli_apply.proofs.Ends as behind
use Rattle.mesh_cli_apply.proofs.Ends.{ends_are, tail}

-- what shows rows isn't lost
row_found : (w : World) (n : Name) (rows : List (List Cell)) → object_rows w n ≡ Some rows → lost_object w n ≡ None
row_found w n rows h = go (lost_object w n) refl
  where
    go : (o : Option Name) → lost_object w n ≡ o → lost_object w n ≡ None
    go None e = e
    go (Some o) e = absurd (let clash : None ≡ Some rows = sym (object_lost n w o e) ∙ h in cc)

none_lost : (w : World) (ps : List Planned) (ts : List Input) → each_there (map (parent_table w) ps) ≡ Some ts → lost_parents w ps ≡ None
none_lost w [] ts h = refl
none_lost w (p ∷ ps) ts h = go (object_rows w p.object) refl h (none_lost w ps)
  where
    rest : (o : Option (List Input)) → each_there (map (parent_table w) ps) ≡ o → (t : Input) → option_map (λ xs. t ∷ xs) o ≡ Some ts → ((us : List Input) → each_there (map (parent_table w) ps) ≡ Some us → lost_parents w ps ≡ None) → lost_parents w ps ≡ None
    rest None e t k more = absurd (let clash : None ≡ Some ts = k in cc)
    rest (Some us) e t k more = more us e

    go : (o : Option (List (List Cell))) → object_rows w p.object ≡ o → option_and_then (λ x. option_map (λ xs. x ∷ xs) (each_there (map (parent_table w) ps))) (option_map (table_of p.node.own) o) ≡ Some ts
        → ((us : List Input) → each_there (map (parent_table w) ps) ≡ Some us → lost_parents w ps ≡ None) → lost_parents w (p ∷ ps) ≡ None
    go None e k more = absurd (let clash : None ≡ Some ts = k in cc)
    go (Some rows) e k more =
        ap (λ (o : Option Name). first_of (o ∷ map (λ (q : Planned). lost_object w q.object) ps)) (row_found w p.object rows e)
        ∙ rest (each_there (map (parent_table w) ps)) refl (table_of p.node.own rows) k more

-- a model that reads what is lost isn't filled
module _ (all : List Planned) (v : World) (p : Part) (o : Name) where
  abbrev model : Planned
  model = model_of p.node p.entry

  abbrev its : List Planned
  its = parents_at all p.node.parents

  read_cut : lost_parents v its ≡ Some o → option_map (inputs v.sources p.node.own) (each_there (map (parent_table v) its)) ≡ None
  read_cut h = go (each_there (map (parent_table v) its)) refl
    where
      go : (t : Option (List Input)) → each_there (map (parent_table v) its) ≡ t → option_map (inputs v.sources p.node.own) t ≡ None
      go None e = refl
      go (Some ts) e = absurd (let clash : None ≡ Some o = sym (none_lost v its ts e) ∙ h in cc)

  tables_cut : (kind : Kind) → lost_if (is_computed kind) v its ≡ Some o → tables_for v all model kind ≡ None
  tables_cut Seed h = absurd (let clash : None ≡ Some o = h in cc)
  tables_cut View h = absurd (let clash : None ≡ Some o = h in cc)
  tables_cut Full h = read_cut h
  tables_cut (Incremental time lookback) h = read_cut h

  part_cut : lost_part v all p ≡ Some o → part_fills v all p ≡ None
  part_cut h = go p.dues h
    where
      go : (dues : List Due) → lost_if (is_any dues && is_computed p.node.own.kind) v its ≡ Some o → fills v all model dues ≡ None
      go [] k = absurd (let clash : None ≡ Some o = k in cc)
      go (d ∷ ds) k = ap (option_map (λ tables. flat_map (filled model tables) (d ∷ ds))) (tables_cut p.node.own.kind k)

-- nothing comes behind it
cut : (all : List Planned) (last : List Change) (before : List Part) (part : Part) (after : List Part) (w v : World) (o : Name) → v ≡ run w (executes all before w ++ making all part) → lost_part v all part ≡ Some o → tail all last (before ++ part ∷ after) w ≡ []
cut all last [] part after w v o is lost =
    ap (λ (t : Option (List Change)). behind.after (run w (making all part)) t (tail all last after)) (part_cut all (run w (making all part)) part o (subst (λ (u : World). lost_part u all part ≡ Some o) is lost))
cut all last (b ∷ bs) part after w v o is lost = go (part_fills (run w (making all b)) all b) refl (λ u k. cut all last bs part after u v o k lost)
  where
    go : (t : Option (List Change)) → part_fills (run w (making all b)) all b ≡ t → ((u : World) → v ≡ run u (executes all bs u ++ making all part) → tail all last (bs ++ part ∷ after) u ≡ []) → behind.after (run w (making all b)) t (tail all last (bs ++ part ∷ after)) ≡ []
    go None e next = refl
    go (Some list) e next =
        let front : List Change = making all b in
        let more : List Change = executes all bs (run (run w front) list) in
        let first : executes all (b ∷ bs) w ≡ front ++ (list ++ more) = ap (λ (t : Option (List Change)). front ++ followed (run w front) t (executes all bs)) e in
        let there : v ≡ run (run (run w front) list) (more ++ making all part) =
        is
        ∙ ap (λ (l : List Change). run w (l ++ making all part)) first
        ∙ ap (run w) (append_assoc front (list ++ more) (making all part))
        ∙ run-append w front ((list ++ more) ++ making all part)
        ∙ ap (run (run w front)) (append_assoc list more (making all part))
        ∙ run-append (run w front) list (more ++ making all part) in
        next (run (run w front) list) there

-- so where an object is lost, what is made ends there, whatever was to come last: it isn't made whole
module _ (p : Made) (w v : World) (o : Name) (lost : IsLost (models p) (parts p) (run w (opened p)) v o) (clock : Clock) (b : Book) (is : IsOf clock b p) (start : List Change) (first : opened p ≡ start) where
  abbrev mine : List Change
  mine = opened p ++ executes (models p) (parts p) (run w (opened p))

  nothing_behind : (last : List Change) → tail (models p) last (parts p) (run w (opened p)) ≡ []
  nothing_behind last =
      subst (λ (ps : List Part). tail (models p) last ps (run w (opened p)) ≡ []) (sym lost.split) (cut (models p) last lost.before lost.part lost.after (run w (opened p)) v o lost.world lost.lost)

  cuts : (last : List Change) → start ++ book.executes clock b p.forgets (planned_models p) last (planned_models p) (run w start) ≡ mine
  cuts last =
      ap (λ (l : List Change). start ++ l) (sym (ends_as_the_book clock b p is last (run w start)))
      ∙ sym (λ i. first i ++ ends (models p) last (parts p) (run w (first i)))
      ∙ ap (λ (l : List Change). opened p ++ l)
      (ends_are (models p) last (parts p) (run w (opened p))
      ∙ ap (λ (l : List Change). executes (models p) (parts p) (run w (opened p)) ++ l) (nothing_behind last)
      ∙ append-nil (executes (models p) (parts p) (run w (opened p))))

  pub never : (made : List Change) → ((last : List Change) → start ++ book.executes clock b p.forgets (planned_models p) last (planned_models p) (run w start) ≡ made ++ last) → ⊥
  never made whole =
      let none : length (made ++ []) ≡ length mine = ap length (sym (whole []) ∙ cuts []) in
      let one : length (made ++ Finalize [] ∷ []) ≡ length mine = ap length (sym (whole (Finalize [] ∷ [])) ∙ cuts (Finalize [] ∷ [])) in
      absurd (omega (arith, none, one, length-append made [], length-append made (Finalize [] ∷ [])))

-- the world that is told then
told_then : (p : Made) (w : World) (old new : Told) → Tells old w → IsCut p w old new → (v : World) × (new.world ≡ Some v)
told_then p w old new told (inl un) = (w, un.0 ∙ told.world)
told_then p w old new told (inr (ready, h)) = (run w h.made, h.world)

module _ (before after : Clock) (x : Parts) (w : World) (was : Shows before w.book.moment) (t : ℤ) (real : IsMoment t) (is : Shows after t) (sound : Sound x w) where
  pub apply_never : (nodes : List Node) (env : List ℕ) (again : Option Restate) (p : Made) → IsPlanned w.book nodes env t again p → (old new : Told) (o : Name) → Tells old w → Executes p old new (Err (fault.Dangling o)) → ⊥
  apply_never nodes env again p planned old new o told made =
      let (v, at) = told_then p w old new told (made.err w told) in
      let lost = (made.dangling o refl w told).1 v at in
      let (list, whole) = applies_whole x w (promised p) before after (apply_met before after x w was t real is nodes env again p planned) (apply_allowed w nodes env t again p planned) sound in
      never p w v o lost.reached after w.book (plan_is_of w.book nodes env t again p planned.plan after is) (opens (promised p))
      (opens_same p ∙ (λ i. cond (planned.plan.runs i) (run_opens (as_planned p)) (opens (as_planned p)))) list whole

  pub run_never : (env : List ℕ) (p : Made) → IsRunPlanned w.book env t p → (old new : Told) (o : Name) → Tells old w → Executes p old new (Err (fault.Dangling o)) → ⊥
  run_never env p planned old new o told made =
      let (v, at) = told_then p w old new told (made.err w told) in
      let lost = (made.dangling o refl w told).1 v at in
      let (e, known, of) = run_of w.book env t p (env_at w.book env) refl planned.plan in
      let (list, whole) = runs_whole x w (promised p) before after (run_met before after x w was t real is env p planned) (run_allowed w env t p planned) sound in
      never p w v o lost.reached after w.book (run_is_of w.book env e t p of after is) (run_opens (promised p))
      (opens_same p ∙ (λ i. cond (of.runs i) (run_opens (as_planned p)) (opens (as_planned p)))) list whole
