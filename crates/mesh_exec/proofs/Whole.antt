-- A plan is looked at and made.
use Rattle.std.proofs.Common.{◌≡◌, ◌+◌, ◌<◌, ℕ, ℤ, Bool, true, false, cond, List, [], ◌∷◌, ◌++◌, length, Some, None, Ok, Err, Result, IsTrue, inl, inr, refl, sym, ap, ◌∙◌, subst, arith, length-append}
use Rattle.std.specs.List.{Contains}
use Rattle.std.specs.Result.{IsErrAnd}
use Rattle.std.specs.declared.option.Option.{Option}
use Rattle.std.proofs.lemmas.List.{append-nil}
use Rattle.mesh_list.specs.Counts.{risen}
use Rattle.mesh_base_values.specs.declared.values.Name.{Name}
use Rattle.mesh_base.specs.declared.forgets.Forget.{Forget}
use Rattle.mesh_base.specs.declared.jobs.Done.{Done}
use Rattle.mesh_base.specs.declared.rules.plans.Plan.{Plan}
use Rattle.mesh_query_tokens.specs.declared.faults.FaultKind.{FaultKind}
use Rattle.mesh_house.specs.declared.house.WhFail.{WhFail}
use Rattle.mesh_house.specs.declared.house.WhFail.TheVariants as house
use Rattle.mesh_house.specs.declared.world.Change.{Change}
use Rattle.mesh_house.specs.declared.world.Change.TheVariants.{Moment, PutSnapshot}
use Rattle.mesh_house.specs.declared.world.World.{World}
use Rattle.mesh_house.specs.House.{Told}
use Rattle.mesh_house.specs.Runs.{IsRun, IsPrefixRun, Makes}
use Rattle.mesh_house.specs.Sources.{are_plain}
use Rattle.mesh_house.specs.Step.{run, step}
use Rattle.mesh_house.proofs.Runs.{run-append}
use Rattle.mesh_spec_changes.specs.due.Plans.{Planned}
use Rattle.mesh_spec_changes.specs.Changes.{forgetting, snapshot_of}
use Rattle.mesh_layer.specs.Shows.{Finds, IsUntouched, Tells}
use Rattle.mesh_layer.specs.declared.faults.ShowFault.{ShowFault}
use Rattle.mesh_layer.specs.declared.faults.ShowFault.TheVariants as show
use Rattle.mesh_exec_works.specs.Plain.{models, opened, puts_of}
use Rattle.mesh_exec_works.specs.Works.{Part, parts}
use Rattle.mesh_exec.specs.declared.faults.ExecFault.{ExecFault}
use Rattle.mesh_exec.specs.declared.faults.ExecFault.TheVariants as fault
use Rattle.mesh_exec.specs.declared.sources.Lack.{Lack}
use Rattle.mesh_exec.specs.Answers.{Executes, IsLostIn, of_house, of_show}
use Rattle.mesh_exec.specs.Executed.{executed, executes, outline, parts_outline}
use Rattle.mesh_exec.specs.Sources.{first_lack}
use Rattle.mesh_exec.specs.Steps.{IsLost, Looks, MakesParts, MakesPlan}
use Rattle.mesh_exec.proofs.Stepping.{prefix_more, prefix_then, run_then, whole_prefix}

abbrev unit_err : ExecFault → Result (Unit {0}) ExecFault
unit_err f = Err f

abbrev nat_err : ExecFault → Result ℕ ExecFault
nat_err f = Err f

-- what comes before the models keeps the sources
puts_sources : (t : ℤ) (all ps : List Planned) (w : World) → (run w (puts_of t all ps)).sources ≡ w.sources
puts_sources t all [] w = refl
puts_sources t all (p ∷ ps) w = puts_sources t all ps (step w (PutSnapshot (snapshot_of t all p)))

forget_sources : (w : World) (list : List Forget) → (run w (forgetting list)).sources ≡ w.sources
forget_sources w [] = refl
forget_sources w (q ∷ qs) = refl

either_puts : (b : Bool) (w : World) (t : ℤ) (all : List Planned) → (run w (cond b [] (puts_of t all all))).sources ≡ w.sources
either_puts true w t all = refl
either_puts false w t all = puts_sources t all all w

module _ (p : Plan) where
  opened_sources : (w : World) → (run w (opened p)).sources ≡ w.sources
  opened_sources w =
      let v = step w (Moment p.moment) in
      let front = cond p.run [] (puts_of p.moment (models p) (models p)) in
      ap (λ (u : World). u.sources) (run-append v front (forgetting p.forgets)) ∙ forget_sources (run v front) p.forgets ∙ either_puts p.run v p.moment (models p)

  later : (a b : Told) (w : World) → Tells a w → IsRun (opened p) w a.calls b → Tells b (run w (opened p))
  later a b w t r = record { world = r.world; plain = subst (λ s. IsTrue (are_plain s)) (sym (opened_sources w)) t.plain }

  abbrev err : ExecFault → Result ℕ ExecFault
  err f = Err f

  no_model : (f : ExecFault) (e : WhFail) → f ≡ of_house e → (name : Name) (kind : FaultKind) → err f ≡ err (fault.Model name kind) → ⊥
  no_model f house.Failed is name kind k = cc
  no_model f house.Memory is name kind k = cc

  no_dangling : (f : ExecFault) (e : WhFail) → f ≡ of_house e → (o : Name) → err f ≡ err (fault.Dangling o) → ⊥
  no_dangling f house.Failed is o k = cc
  no_dangling f house.Memory is o k = cc

  abbrev house_err : WhFail → Result ℕ WhFail
  house_err e = Err e

  same_fault : (f : ExecFault) (e : WhFail) → f ≡ of_house e → err f ≡ err fault.Warehouse → house_err e ≡ house_err house.Failed
  same_fault f house.Failed is k = refl
  same_fault f house.Memory is k = absurd (cc)

  pub open_stops : (a b : Told) (e : WhFail) (r : Result ℕ ExecFault) → Makes {T = ℕ} (λ w. opened p) a b (Err e) → IsErrAnd r (λ f. f ≡ of_house e) → MakesPlan p a b r
  open_stops a b e (Ok x) made is = absurd is
  open_stops a b e (Err f) made is = record {
    faults = made.err.faults;
    ok = tt;
    err = λ w t. prefix_more (opened p) _ w a.calls b (made.err.told w t.world);
    unmade = no_model f e is;
    dangling = λ o k. absurd (no_dangling f e is o k);
    failed = λ k. made.failed (same_fault f e is k);
    number = tt;
    calls = tt;
  }

  -- the models and their parts are the plan's
  pub at_plan : (b c : Told) (r : Result ℕ ExecFault) (all : List Planned) (ps : List Part) → all ≡ models p → ps ≡ parts p → MakesParts all ps b c r → MakesParts (models p) (parts p) b c r
  at_plan b c r all ps same_all same_parts h = subst (λ (l : List Part). MakesParts (models p) l b c r) same_parts (subst (λ (q : List Planned). MakesParts q ps b c r) same_all h)

  pub parts_stop : (a b c : Told) (x : ℕ) (ps : List Part) (e : ExecFault) (r : Result ℕ ExecFault) → ps ≡ parts p → Makes (λ w. opened p) a b (Ok x) → MakesParts (models p) ps b c (Err e) → IsErrAnd r (λ f. f ≡ e) → MakesPlan p a c r
  parts_stop a b c x ps e (Ok y) same made rest is = absurd is
  parts_stop a b c x ps e (Err f) same made rest is = subst (λ (g : ExecFault). MakesPlan p a c (Err g)) (sym is) (at (subst (λ (l : List Part). MakesParts (models p) l b c (Err e)) same rest))
    where
      at : MakesParts (models p) (parts p) b c (Err e) → MakesPlan p a c (Err e)
      at h = record {
        faults = omega (arith, made.ok.faults, h.faults);
        ok = tt;
        err = λ w t.
            let r = made.ok.told w t.world in
            let v = run w (opened p) in
            subst (λ (l : List Change). IsPrefixRun (opened p ++ l) w a.calls c) (append-nil (executes (models p) (parts p) v))
            (prefix_then (opened p) (executes (models p) (parts p) v) [] w a.calls b c r (h.err v (later a b w t r)));
        unmade = h.unmade;
        dangling = λ o k w t. h.dangling o k (run w (opened p)) (later a b w t (made.ok.told w t.world));
        failed = λ k. let rose = h.failed k in omega (arith, rose, made.ok.faults);
        number = tt;
        calls = tt;
      }

  whole : (a b c : Told) (x y : ℕ) → Makes (λ w. opened p) a b (Ok x) → MakesParts (models p) (parts p) b c (Ok y) → (w : World) → Tells a w → IsRun (executed p w) w a.calls c × (length (executed p w) ≡ length (outline p))
  whole a b c x y made h w t =
      let r = made.ok.told w t.world in
      let v = run w (opened p) in
      let s = h.ok v (later a b w t r) in (
        run_then (opened p) (executes (models p) (parts p) v) w a.calls b c r s.0,
        omega (arith, s.1, length-append (opened p) (executes (models p) (parts p) v), length-append (opened p) (parts_outline (models p) (parts p))),
      )

  pub count_stops : (a b c : Told) (x y : ℕ) (ps : List Part) (r : Result ℕ ExecFault) → ps ≡ parts p → Makes (λ w. opened p) a b (Ok x) → MakesParts (models p) ps b c (Ok y) → IsErrAnd r (λ f. f ≡ fault.Memory) → MakesPlan p a c r
  count_stops a b c x y ps (Ok z) same made rest is = absurd is
  count_stops a b c x y ps (Err f) same made rest is = at (subst (λ (l : List Part). MakesParts (models p) l b c (Ok y)) same rest)
    where
      at : MakesParts (models p) (parts p) b c (Ok y) → MakesPlan p a c (Err f)
      at h = record {
        faults = omega (arith, made.ok.faults, h.faults);
        ok = tt;
        err = λ w t. subst (λ (l : List Change). IsPrefixRun l w a.calls c) (append-nil (executed p w)) (whole_prefix (executed p w) [] w a.calls c (whole a b c x y made h w t).0);
        unmade = λ name kind k. cc;
        dangling = λ o k. absurd (cc);
        failed = λ k. absurd (cc);
        number = tt;
        calls = tt;
      }

  pub plan_made : (a b c : Told) (x y n : ℕ) (ps : List Part) → ps ≡ parts p → Makes (λ w. opened p) a b (Ok x) → x ≡ length (opened p) → b.calls ≡ risen x a.calls → MakesParts (models p) ps b c (Ok y) → n ≡ x + y → MakesPlan p a c (Ok n)
  plan_made a b c x y n ps same made number calls rest sum = at (subst (λ (l : List Part). MakesParts (models p) l b c (Ok y)) same rest)
    where
      at : MakesParts (models p) (parts p) b c (Ok y) → MakesPlan p a c (Ok n)
      at h = record {
        faults = omega (arith, made.ok.faults, h.faults);
        ok = whole a b c x y made h;
        err = tt;
        unmade = λ name kind k. cc;
        dangling = λ o k. absurd (cc);
        failed = λ k. absurd (cc);
        number = omega (arith, sum, number, h.number, length-append (opened p) (parts_outline (models p) (parts p)));
        calls = omega (arith, sum, calls, h.calls);
      }

-- the sources are looked at
module _ (ps : List Part) where
  abbrev found_err : ShowFault → Result (Option Lack) ShowFault
  found_err e = Err e

  abbrev Found : Told → Told → Result (Option Lack) ShowFault → Type 0
  Found a b r = Finds (λ w. IsTrue (are_plain w.sources)) (λ w lack. lack ≡ first_lack w.sources ps) (λ w. None) a b r

  look_err : (a b : Told) (e : ShowFault) (f : ExecFault) → Found a b (Err e) → f ≡ of_show e → Looks ps a b (unit_err f)
  look_err a b (show.Dangling object) f found is = record {
    untouched = found.untouched;
    ok = tt;
    lacking = λ name kind k. absurd (cc);
    dangling = λ o k w t. absurd (let e_is : found_err (show.Dangling object) ≡ found_err (show.Dangling o) = cc in let l = found.dangling o e_is w t.world t.plain in cc);
    failed = λ k. absurd (cc);
  }
  look_err a b show.Warehouse f found is = record {
    untouched = found.untouched;
    ok = tt;
    lacking = λ name kind k. absurd (cc);
    dangling = λ o k w t. absurd (cc);
    failed = λ k. found.failed refl;
  }
  look_err a b show.Memory f found is = record {
    untouched = found.untouched;
    ok = tt;
    lacking = λ name kind k. absurd (cc);
    dangling = λ o k w t. absurd (cc);
    failed = λ k. absurd (cc);
  }

  pub look_stops : (a b : Told) (e : ShowFault) (r : Result (Unit {0}) ExecFault) → Found a b (Err e) → IsErrAnd r (λ f. f ≡ of_show e) → Looks ps a b r
  look_stops a b e (Ok x) found is = absurd is
  look_stops a b e (Err f) found is = look_err a b e f found is

  pub look_clear : (a b : Told) (x : Unit {0}) (o : Option Lack) → o ≡ None → Found a b (Ok o) → Looks ps a b (Ok x)
  look_clear a b x o is found = record {
    untouched = found.untouched;
    ok = λ w t. sym (found.ok w t.world t.plain) ∙ is;
    lacking = λ name kind k. absurd (cc);
    dangling = λ o k w t. absurd (cc);
    failed = λ k. absurd (cc);
  }

  pub look_lacks : (a b : Told) (l : Lack) (o : Option Lack) → o ≡ Some l → Found a b (Ok o) → Looks ps a b (unit_err (fault.Model l.model l.kind))
  look_lacks a b l o is found = record {
    untouched = found.untouched;
    ok = tt;
    lacking = λ name kind k w t.
        let n : l.model ≡ name = cc in
        let m : l.kind ≡ kind = cc in
        sym (found.ok w t.world t.plain) ∙ is ∙ (λ i. Some (record { model = n i; kind = m i }));
    dangling = λ q k w t. absurd (cc);
    failed = λ k. absurd (cc);
  }

-- and then the plan is made
module _ (p : Plan) where
  abbrev done_err : ExecFault → Result Done ExecFault
  done_err f = Err f

  stays_told : (a b : Told) (w : World) → IsUntouched a b → Tells a w → Tells b w
  stays_told a b w u t = record { world = u.world ∙ t.world; plain = t.plain }

  pub begins_not : (a : Told) (r : Result Done ExecFault) → IsErrAnd r (λ f. f ≡ fault.Memory) → Executes p a a r
  begins_not a (Ok x) is = absurd is
  begins_not a (Err f) is = record {
    faults = omega arith;
    ok = tt;
    err = λ w t. inl (refl, refl);
    unmade = λ name kind k. absurd (cc);
    lacking = λ name kind k. absurd (cc);
    dangling = λ o k. absurd (cc);
    failed = λ k. absurd (cc);
    number = tt;
    calls = tt;
  }

  pub looks_stop : (a b : Told) (ps : List Part) (e : ExecFault) (r : Result Done ExecFault) → ps ≡ parts p → Looks {T = Unit {0}} ps a b (Err e) → IsErrAnd r (λ f. f ≡ e) → Executes p a b r
  looks_stop a b ps e (Ok x) same looked is = absurd is
  looks_stop a b ps e (Err f) same looked is = record {
    faults = looked.untouched.faults;
    ok = tt;
    err = λ w t. inl (looked.untouched.world, looked.untouched.calls);
    unmade = λ name kind k. (looked.untouched.world, looked.untouched.calls);
    lacking = λ name kind k w t. ap (first_lack w.sources) (sym same) ∙ looked.lacking name kind (let x : unit_err e ≡ unit_err (fault.Model name kind) = cc in x) w t;
    dangling = λ o k w t. absurd (looked.dangling o (let x : unit_err e ≡ unit_err (fault.Dangling o) = cc in x) w t);
    failed = λ k. looked.failed (let x : unit_err e ≡ unit_err fault.Warehouse = cc in x);
    number = tt;
    calls = tt;
  }

  -- the models of smaller rank stand before a model
  abbrev AreRanked : Type 0
  AreRanked = (before after : List Part) (part q : Part) → parts p ≡ before ++ part ∷ after → Contains (parts p) q → q.node.rank < part.node.rank → Contains before q

  lost_in : (w v : World) (o : Name) → AreRanked → IsLost (models p) (parts p) (run w (opened p)) v o → IsLostIn p w v o
  lost_in w v o ranked lost = record { reached = lost; lower = λ q has lower. ranked lost.before lost.after lost.part q lost.split has lower }

  pub plan_stops : AreRanked → (a b c : Told) (ps : List Part) (x : Unit {0}) (e : ExecFault) (r : Result Done ExecFault) → ps ≡ parts p → Looks ps a b (Ok x) → MakesPlan p b c (Err e) → IsErrAnd r (λ f. f ≡ e) → Executes p a c r
  plan_stops ranked a b c ps x e (Ok y) same looked made is = absurd is
  plan_stops ranked a b c ps x e (Err f) same looked made is = record {
    faults = omega (arith, looked.untouched.faults, made.faults);
    ok = tt;
    err = λ w t. inr (ap (first_lack w.sources) (sym same) ∙ looked.ok w t, subst (λ k. IsPrefixRun (executed p w) w k c) looked.untouched.calls (made.err w (stays_told a b w looked.untouched t)));
    unmade = λ name kind k. absurd (made.unmade name kind (let z : nat_err e ≡ nat_err (fault.Model name kind) = cc in z));
    lacking = λ name kind k. absurd (made.unmade name kind (let z : nat_err e ≡ nat_err (fault.Model name kind) = cc in z));
    dangling = λ o k w t. (ap (first_lack w.sources) (sym same) ∙ looked.ok w t, λ v v_is. lost_in w v o ranked (made.dangling o (let z : nat_err e ≡ nat_err (fault.Dangling o) = cc in z) w (stays_told a b w looked.untouched t) v v_is));
    failed = λ k. let rose = made.failed (let z : nat_err e ≡ nat_err fault.Warehouse = cc in z) in omega (arith, rose, looked.untouched.faults);
    number = tt;
    calls = tt;
  }

  pub plan_done : (a b c : Told) (ps : List Part) (x : Unit {0}) (n : ℕ) → ps ≡ parts p → Looks ps a b (Ok x) → MakesPlan p b c (Ok n) → Executes p a c (Ok (record { units = length p.dues; changes = n }))
  plan_done a b c ps x n same looked made = record {
    faults = omega (arith, looked.untouched.faults, made.faults);
    ok = λ w t.
        let r = made.ok w (stays_told a b w looked.untouched t) in
        (ap (first_lack w.sources) (sym same) ∙ looked.ok w t, subst (λ k. IsRun (executed p w) w k c) looked.untouched.calls r.0, r.1);
    err = tt;
    unmade = λ name kind k. absurd (cc);
    lacking = λ name kind k. absurd (cc);
    dangling = λ o k. absurd (cc);
    failed = λ k. absurd (cc);
    number = ap (λ (k : ℕ). record { units = length p.dues; changes = k }) made.number;
    calls = omega (arith, made.calls, looked.untouched.calls);
  }
