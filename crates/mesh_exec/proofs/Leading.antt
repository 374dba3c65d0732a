-- The tables that were found before some models were made are those that each of them is filled over at its turn.
use Rattle.std.proofs.Common.{◌≡◌, false, List, [], ◌∷◌, ◌++◌, length, take, Some, None, refl, sym, ap, ◌∙◌, arith, append_assoc, length-append}
use Rattle.std.specs.Ordering.{is_eq}
use Rattle.std.specs.declared.option.Option.{Option}
use Rattle.mesh_base_values.specs.Names.{name_cmp}
use Rattle.mesh_base_values.specs.declared.values.Name.{Name}
use Rattle.mesh_base.specs.declared.jobs.Input.{Input}
use Rattle.mesh_house.specs.declared.world.Change.{Change}
use Rattle.mesh_house.specs.declared.world.World.{World}
use Rattle.mesh_house.specs.Step.{run}
use Rattle.mesh_house.specs.World.{object_at}
use Rattle.mesh_house.proofs.Runs.{run-append}
use Rattle.mesh_spec_changes.specs.due.Plans.{Planned}
use Rattle.mesh_spec_changes.specs.Changes.{followed}
use Rattle.mesh_exec_works.specs.Dues.{is_any}
use Rattle.mesh_exec_works.specs.Fronts.{or_end, pool_now, pools_from}
use Rattle.mesh_exec_works.specs.Plain.{making, model_of}
use Rattle.mesh_exec_works.specs.Works.{Part}
use Rattle.mesh_exec_works.proofs.Ahead.{Spares, pool_stays, spares_more}
use Rattle.mesh_exec_works.proofs.Frames.{each_stays, makes_stay, written_stays}
use Rattle.mesh_exec.specs.Executed.{executes, filled, part_fills, part_filling, part_outline, parts_outline}
use Rattle.mesh_exec.specs.Fills.{fillings}
use Rattle.mesh_exec.specs.Fronts.{front_changes, part_changes}
use Rattle.mesh_exec.proofs.Models.{fillings_many, fillings_sources, found_fills, making_keeps}

module _ (all : List Planned) where
  -- where a part is made and filled
  module _ (p : Part) (tables : List Input) where
    made : World → World
    made v = run v (making all p)

    pub part_sources : (v : World) → (run v (part_changes all p tables)).sources ≡ v.sources
    part_sources v =
        ap (λ (u : World). u.sources) (run-append v (making all p) (fillings (model_of p.node p.entry) tables p.dues))
        ∙ fillings_sources all p tables (run v (making all p)) ∙ making_keeps all p v

    made_stays : (v : World) (n : Name) → is_eq (name_cmp p.entry.object n) ≡ false → object_at (run v (making all p)) n ≡ object_at v n
    made_stays v n other = makes_stay (model_of p.node p.entry) n other v all p.node.own.kind p.entry.made (is_any p.dues)

    part_stays : (v : World) (n : Name) → is_eq (name_cmp p.entry.object n) ≡ false → object_at (run v (part_changes all p tables)) n ≡ object_at v n
    part_stays v n other =
        let m = model_of p.node p.entry in
        ap (λ (u : World). object_at u n) (run-append v (making all p) (fillings m tables p.dues))
        ∙ each_stays m n other (filled m tables) (λ u d. written_stays m n other u p.node.own.kind d _) (run v (making all p)) p.dues
        ∙ made_stays v n other

    part_many : length (part_changes all p tables) ≡ length (part_outline all p)
    part_many = omega (arith, length-append (making all p) (fillings (model_of p.node p.entry) tables p.dues), fillings_many all p tables, length-append (making all p) (part_filling p))

    -- over the tables that it finds at its turn
    at_turn : (v : World) (next : List Part) → part_fills (run v (making all p)) all p ≡ Some (fillings (model_of p.node p.entry) tables p.dues)
        → executes all (p ∷ next) v ≡ part_changes all p tables ++ executes all next (run v (part_changes all p tables))
    at_turn v next found =
        let f : List Change = fillings (model_of p.node p.entry) tables p.dues in
        ap (λ (o : Option (List Change)). making all p ++ followed (run v (making all p)) o (executes all next)) found
        ∙ sym (append_assoc (making all p) f (executes all next (run (run v (making all p)) f)))
        ∙ ap (λ (u : World). part_changes all p tables ++ executes all next u) (sym (run-append v (making all p) f))

  pub front_sources : (ps : List Part) (pools : List (List Input)) (v : World) → (run v (front_changes all ps pools)).sources ≡ v.sources
  front_sources [] pools v = refl
  front_sources (p ∷ ps) [] v = refl
  front_sources (p ∷ ps) (t ∷ ts) v =
      ap (λ (u : World). u.sources) (run-append v (part_changes all p t) (front_changes all ps ts))
      ∙ front_sources ps ts (run v (part_changes all p t)) ∙ part_sources p t v

  pub front_many : (ps : List Part) (pools : List (List Input)) → length (front_changes all ps pools) ≡ length (parts_outline all (take (length pools) ps))
  front_many [] [] = refl
  front_many [] (t ∷ ts) = refl
  front_many (p ∷ ps) [] = refl
  front_many (p ∷ ps) (t ∷ ts) =
      omega (arith, part_many p t, front_many ps ts, length-append (part_changes all p t) (front_changes all ps ts), length-append (part_outline all p) (parts_outline all (take (length ts) ps)))

  module _ (w : World) where
    -- what makes and fills the first of some models comes first, whatever comes next
    pub leads : (before ps : List Part) (v : World) (pools : List (List Input)) → Spares before w v → pools ≡ pools_from w all before ps → (next : List Part)
        → executes all (take (length pools) ps ++ next) v ≡ front_changes all ps pools ++ executes all next (run v (front_changes all ps pools))
    leads before [] v [] spares is next = refl
    leads before [] v (t ∷ ts) spares is next = absurd (let no : t ∷ ts ≡ [] = is in cc)
    leads before (p ∷ ps) v [] spares is next = refl
    leads before (p ∷ ps) v (t ∷ ts) spares is next = at (pool_now w all (before ++ p ∷ []) p) refl is (λ u ups uis. leads (before ++ p ∷ []) ps u ts ups uis next)
      where
        at : (o : Option (List Input)) → pool_now w all (before ++ p ∷ []) p ≡ o → t ∷ ts ≡ or_end o (pools_from w all (before ++ p ∷ []) ps)
            → ((u : World) → Spares (before ++ p ∷ []) w u → ts ≡ pools_from w all (before ++ p ∷ []) ps → executes all (take (length ts) ps ++ next) u ≡ front_changes all ps ts ++ executes all next (run u (front_changes all ps ts)))
            → executes all (p ∷ (take (length ts) ps ++ next)) v ≡ (part_changes all p t ++ front_changes all ps ts) ++ executes all next (run v (part_changes all p t ++ front_changes all ps ts))
        at None found e more = absurd (let no : t ∷ ts ≡ [] = e in cc)
        at (Some s) found e more =
            let head : t ≡ s = (let k : t ∷ ts ≡ s ∷ pools_from w all (before ++ p ∷ []) ps = e in cc) in
            let tail : ts ≡ pools_from w all (before ++ p ∷ []) ps = (let k : t ∷ ts ≡ s ∷ pools_from w all (before ++ p ∷ []) ps = e in cc) in
            let now : pool_now w all (before ++ p ∷ []) p ≡ Some t = found ∙ ap Some (sym head) in
            let v1 : World = run v (making all p) in
            let v2 : World = run v (part_changes all p t) in
            let spared : Spares (before ++ p ∷ []) w v1 = spares_more before p w v v1 spares (making_keeps all p v) (made_stays p t v) in
            let filled_is : part_fills v1 all p ≡ Some (fillings (model_of p.node p.entry) t p.dues) = found_fills v1 all (model_of p.node p.entry) p.dues t (pool_stays w v1 (before ++ p ∷ []) spared all p t now) in
            let f = front_changes all ps ts in
            at_turn p t v (take (length ts) ps ++ next) filled_is
            ∙ ap (λ (l : List Change). part_changes all p t ++ l) (more v2 (spares_more before p w v v2 spares (part_sources p t v) (part_stays p t v)) tail)
            ∙ sym (append_assoc (part_changes all p t) f (executes all next (run v2 f)))
            ∙ ap (λ (u : World). (part_changes all p t ++ f) ++ executes all next u) (sym (run-append v (part_changes all p t) f))
