-- A model is made and filled, and then the next one.
use Rattle.std.proofs.Common.{◌≡◌, ◌≤◌, ◌<◌, ◌+◌, ℕ, zero, suc, true, List, [], ◌∷◌, ◌++◌, length, take, drop, map, get_or, Some, None, Ok, Err, Result, IsTrue, refl, sym, ap, ◌∙◌, subst, arith, append_assoc, add-one, length-append}
use Rattle.std.specs.Result.{IsErrAnd}
use Rattle.std.specs.Option.{option_map}
use Rattle.std.specs.List.{flat_map}
use Rattle.std.specs.declared.option.Option.{Option}
use Rattle.std.proofs.lemmas.List.{append-nil, drop_all, take_all}
use Rattle.mesh_list.specs.Counts.{risen}
use Rattle.mesh_base_values.specs.declared.values.Name.{Name}
use Rattle.mesh_base_values.proofs.Tests.{both_parts as is_both}
use Rattle.mesh_query_tokens.specs.declared.faults.FaultKind.{FaultKind}
use Rattle.mesh_base.specs.declared.jobs.Input.{Input}
use Rattle.mesh_base.specs.declared.plans.Due.{Due}
use Rattle.mesh_house.specs.declared.house.WhFail.{WhFail}
use Rattle.mesh_house.specs.declared.house.WhFail.TheVariants as house
use Rattle.mesh_house.specs.declared.world.Change.{Change}
use Rattle.mesh_house.specs.declared.world.World.{World}
use Rattle.mesh_house.specs.House.{Told}
use Rattle.mesh_house.specs.Runs.{IsRun, IsPrefixRun, Makes}
use Rattle.mesh_house.specs.Sources.{are_plain}
use Rattle.mesh_house.specs.Step.{run}
use Rattle.mesh_house.proofs.Runs.{run-append}
use Rattle.mesh_spec_changes.specs.due.Plans.{Planned}
use Rattle.mesh_spec_changes.specs.Changes.{followed}
use Rattle.mesh_layer.specs.Shows.{Finds, IsUntouched, Tells}
use Rattle.mesh_layer.specs.declared.faults.ShowFault.{ShowFault}
use Rattle.mesh_layer.specs.declared.faults.ShowFault.TheVariants as show
use Rattle.mesh_exec_works.specs.Dues.{is_any}
use Rattle.mesh_exec_works.specs.Written.{written}
use Rattle.mesh_exec_works.specs.Lost.{lost_part}
use Rattle.mesh_exec_works.specs.Plain.{making, model_of}
use Rattle.mesh_exec_works.specs.Tables.{part_tables, tables_if}
use Rattle.mesh_exec_works.specs.Works.{Part, are_fit, is_fit, part_of}
use Rattle.mesh_exec_works.specs.declared.works.Work.{Work}
use Rattle.mesh_exec.specs.declared.faults.ExecFault.{ExecFault}
use Rattle.mesh_exec.specs.declared.faults.ExecFault.TheVariants as fault
use Rattle.mesh_exec.specs.Answers.{of_house, of_show}
use Rattle.mesh_exec.specs.Executed.{executes, fills, filled, part_fills, part_filling, part_outline, parts_outline}
use Rattle.mesh_exec.specs.Fills.{fillings}
use Rattle.mesh_exec.specs.Steps.{IsPartMade, MakesPart, MakesParts, Reached, Tries, or_nothing}
use Rattle.mesh_exec.proofs.Stepping.{each_many, each_sources, making_sources, none_made, prefix_more, prefix_then, run_then, whole_prefix, written_many, written_sources}

-- the tables that a part finds are those that its fills are over
pub found_fills : (w : World) (all : List Planned) (m : Planned) (dues : List Due) (ts : List Input) → tables_if (is_any dues) w all m ≡ Some ts → fills w all m dues ≡ Some (fillings m ts dues)
found_fills w all m [] ts h = refl
found_fills w all m (d ∷ ds) ts h = ap (option_map (λ (tables : List Input). flat_map (filled m tables) (d ∷ ds))) h

abbrev err : ExecFault → Result ℕ ExecFault
err f = Err f

abbrev house_err : WhFail → Result ℕ WhFail
house_err e = Err e

abbrev show_err : ShowFault → Result (List Input) ShowFault
show_err e = Err e

pub no_model : {f : ExecFault} (e : WhFail) → f ≡ of_house e → (name : Name) (kind : FaultKind) → err f ≡ err (fault.Model name kind) → ⊥
no_model house.Failed is name kind k = cc
no_model house.Memory is name kind k = cc

pub no_dangling : {f : ExecFault} (e : WhFail) → f ≡ of_house e → (o : Name) → err f ≡ err (fault.Dangling o) → ⊥
no_dangling house.Failed is o k = cc
no_dangling house.Memory is o k = cc

pub same_fault : {f : ExecFault} (e : WhFail) → f ≡ of_house e → err f ≡ err fault.Warehouse → house_err e ≡ house_err house.Failed
same_fault house.Failed is k = refl
same_fault house.Memory is k = absurd (cc)

module _ (all : List Planned) (p : Part) where
  abbrev m : Planned
  m = model_of p.node p.entry

  -- as many as without rows
  pub fillings_many : (ts : List Input) → length (fillings m ts p.dues) ≡ length (part_filling p)
  fillings_many ts = each_many (filled m ts) (λ d. written m p.node.own.kind d []) (λ d. written_many m p.node.own.kind d _ []) p.dues

  pub fillings_sources : (ts : List Input) (w : World) → (run w (fillings m ts p.dues)).sources ≡ w.sources
  fillings_sources ts w = each_sources (filled m ts) (λ v d. written_sources v m p.node.own.kind d _) w p.dues

  pub making_keeps : (w : World) → (run w (making all p)).sources ≡ w.sources
  making_keeps w = making_sources w all m p.node.own.kind p.entry.made (is_any p.dues)

  pub tells_later : (list : List Change) (a b : Told) (w : World) → Tells a w → IsRun list w a.calls b → (run w list).sources ≡ w.sources → Tells b (run w list)
  tells_later list a b w t r s = record { world = r.world; plain = subst (λ (x : List Input). IsTrue (are_plain x)) (sym s) t.plain }

  -- the tables were found, and all was filled
  pub filled_ok : (a b c : Told) (ts : List Input) (n : ℕ) → Finds (λ w. IsTrue (are_plain w.sources)) (λ w tables. part_tables w all p ≡ Some tables) (λ w. lost_part w all p) a b (Ok ts)
      → Makes (λ w. fillings m ts p.dues) b c (Ok n) → n ≡ length (fillings m ts p.dues) → c.calls ≡ risen n b.calls
      → Tries (λ w. part_fills w all p) (λ w. lost_part w all p) (length (part_filling p)) a c (Ok n)
  filled_ok a b c ts n found made number calls = record {
    faults = omega (arith, found.untouched.faults, made.ok.faults);
    ok = λ w t.
        let there = found.ok w t.world t.plain in
        let r = made.ok.told w (found.untouched.world ∙ t.world) in
        record {
          made = fillings m ts p.dues;
          is = found_fills w all m p.dues ts there;
          ran = record { world = r.world; calls = omega (arith, r.calls, found.untouched.calls) };
          sources = fillings_sources ts w;
          many = fillings_many ts;
        };
    err = tt;
    unmade = λ name kind is. cc;
    dangling = λ o is. absurd (cc);
    failed = λ is. absurd (cc);
    number = number ∙ fillings_many ts;
    calls = omega (arith, calls, found.untouched.calls);
  }

  -- the tables weren't found
  pub tables_err : (a b : Told) (e : ShowFault) (f : ExecFault) → Finds (λ w. IsTrue (are_plain w.sources)) (λ w tables. part_tables w all p ≡ Some tables) (λ w. lost_part w all p) a b (Err e) → f ≡ of_show e
      → Tries (λ w. part_fills w all p) (λ w. lost_part w all p) (length (part_filling p)) a b (Err f)
  tables_err a b e f found is = record {
    faults = found.untouched.faults;
    ok = tt;
    err = λ w t. none_made _ w _ b (found.untouched.world ∙ t.world) found.untouched.calls;
    unmade = at e is;
    dangling = λ o f_is w t v v_is.
        let same : w ≡ v = (let k : Some w ≡ Some v = sym (found.untouched.world ∙ t.world) ∙ v_is in cc) in
        (sym same, subst (λ (u : World). lost_part u all p ≡ Some o) same (found.dangling o (dangles e is o f_is) w t.world t.plain));
    failed = λ f_is. found.failed (fails e is f_is);
    number = tt;
    calls = tt;
  }
    where
      at : (e : ShowFault) → f ≡ of_show e → (name : Name) (kind : FaultKind) → err f ≡ err (fault.Model name kind) → ⊥
      at (show.Dangling object) is name kind k = cc
      at show.Warehouse is name kind k = cc
      at show.Memory is name kind k = cc

      dangles : (e : ShowFault) → f ≡ of_show e → (o : Name) → err f ≡ err (fault.Dangling o) → show_err e ≡ show_err (show.Dangling o)
      dangles (show.Dangling object) is o k = cc
      dangles show.Warehouse is o k = absurd (cc)
      dangles show.Memory is o k = absurd (cc)

      fails : (e : ShowFault) → f ≡ of_show e → err f ≡ err fault.Warehouse → show_err e ≡ show_err show.Warehouse
      fails (show.Dangling object) is k = absurd (cc)
      fails show.Warehouse is k = refl
      fails show.Memory is k = absurd (cc)

  -- memory ran out before anything was made
  pub tries_memory : (a b : Told) (f : ExecFault) → IsUntouched a b → f ≡ fault.Memory → Tries (λ w. part_fills w all p) (λ w. lost_part w all p) (length (part_filling p)) a b (Err f)
  tries_memory a b f u is = record {
    faults = u.faults;
    ok = tt;
    err = λ w t. none_made _ w _ b (u.world ∙ t.world) u.calls;
    unmade = λ name kind k. cc;
    dangling = λ o k. absurd (cc);
    failed = λ k. absurd (cc);
    number = tt;
    calls = tt;
  }

  -- the filling stopped
  pub filled_err : (a b c : Told) (ts : List Input) (e : WhFail) (f : ExecFault) → Finds (λ w. IsTrue (are_plain w.sources)) (λ w tables. part_tables w all p ≡ Some tables) (λ w. lost_part w all p) a b (Ok ts)
      → Makes {T = ℕ} (λ w. fillings m ts p.dues) b c (Err e) → f ≡ of_house e
      → Tries (λ w. part_fills w all p) (λ w. lost_part w all p) (length (part_filling p)) a c (Err f)
  filled_err a b c ts e f found made is = record {
    faults = omega (arith, found.untouched.faults, made.err.faults);
    ok = tt;
    err = λ w t.
        let r = made.err.told w (found.untouched.world ∙ t.world) in
        subst (λ (l : Option (List Change)). IsPrefixRun (or_nothing l) w a.calls c) (sym (found_fills w all m p.dues ts (found.ok w t.world t.plain)))
        (subst (λ k. IsPrefixRun (fillings m ts p.dues) w k c) found.untouched.calls r);
    unmade = no_model e is;
    dangling = λ o k. absurd (no_dangling e is o k);
    failed = λ k. let rose = made.failed (same_fault e is k) in omega (arith, rose, found.untouched.faults);
    number = tt;
    calls = tt;
  }

  pub tables_stop : (a b : Told) (e : ShowFault) (r : Result ℕ ExecFault) → Finds (λ w. IsTrue (are_plain w.sources)) (λ w tables. part_tables w all p ≡ Some tables) (λ w. lost_part w all p) a b (Err e) → IsErrAnd r (λ f. f ≡ of_show e)
      → Tries (λ w. part_fills w all p) (λ w. lost_part w all p) (length (part_filling p)) a b r
  tables_stop a b e (Ok x) found is = absurd is
  tables_stop a b e (Err f) found is = tables_err a b e f found is

  pub memory_stops : (a b : Told) (r : Result ℕ ExecFault) → IsUntouched a b → IsErrAnd r (λ f. f ≡ fault.Memory) → Tries (λ w. part_fills w all p) (λ w. lost_part w all p) (length (part_filling p)) a b r
  memory_stops a b (Ok x) u is = absurd is
  memory_stops a b (Err f) u is = tries_memory a b f u is

  pub filling_stops : (a b c : Told) (ts pool : List Input) (e : WhFail) (r : Result ℕ ExecFault) → pool ≡ ts → Finds (λ w. IsTrue (are_plain w.sources)) (λ w tables. part_tables w all p ≡ Some tables) (λ w. lost_part w all p) a b (Ok ts)
      → Makes {T = ℕ} (λ w. fillings m pool p.dues) b c (Err e) → IsErrAnd r (λ f. f ≡ of_house e)
      → Tries (λ w. part_fills w all p) (λ w. lost_part w all p) (length (part_filling p)) a c r
  filling_stops a b c ts pool e (Ok x) same found made is = absurd is
  filling_stops a b c ts pool e (Err f) same found made is = filled_err a b c ts e f found (subst (λ (l : List Input). Makes {T = ℕ} (λ w. fillings m l p.dues) b c (Err e)) same made) is

  pub filling_ok : (a b c : Told) (ts pool : List Input) (n : ℕ) → pool ≡ ts → Finds (λ w. IsTrue (are_plain w.sources)) (λ w tables. part_tables w all p ≡ Some tables) (λ w. lost_part w all p) a b (Ok ts)
      → Makes (λ w. fillings m pool p.dues) b c (Ok n) → n ≡ length (fillings m pool p.dues) → c.calls ≡ risen n b.calls
      → Tries (λ w. part_fills w all p) (λ w. lost_part w all p) (length (part_filling p)) a c (Ok n)
  filling_ok a b c ts pool n same found made number calls =
      filled_ok a b c ts n found (subst (λ (l : List Input). Makes (λ w. fillings m l p.dues) b c (Ok n)) same made) (number ∙ ap (λ (l : List Input). length (fillings m l p.dues)) same) calls

  -- the object was made, and all was filled
  pub part_made : (a b c : Told) (x y : ℕ) → Makes (λ w. making all p) a b (Ok x) → Tries (λ w. part_fills w all p) (λ w. lost_part w all p) (length (part_filling p)) b c (Ok y)
      → (w : World) → Tells a w → IsPartMade all p w a.calls c
  part_made a b c x y made tried w t =
      let r = made.ok.told w t.world in
      let s = tried.ok (run w (making all p)) (tells_later (making all p) a b w t r (making_keeps w)) in
      record {
        list = making all p ++ s.made;
        first = λ rest.
            ap (λ (o : Option (List Change)). making all p ++ followed (run w (making all p)) o (executes all rest)) s.is
            ∙ sym (append_assoc (making all p) s.made (executes all rest (run (run w (making all p)) s.made)))
            ∙ ap (λ (v : World). (making all p ++ s.made) ++ executes all rest v) (sym (run-append w (making all p) s.made));
        made = run_then (making all p) s.made w a.calls b c r s.ran;
        sources = ap (λ (v : World). v.sources) (run-append w (making all p) s.made) ∙ s.sources ∙ making_keeps w;
        many = omega (arith, s.many, length-append (making all p) s.made, length-append (making all p) (part_filling p));
      }

  pub part_ok : (a b c : Told) (x y n : ℕ) → Makes (λ w. making all p) a b (Ok x) → x ≡ length (making all p) → b.calls ≡ risen x a.calls
      → Tries (λ w. part_fills w all p) (λ w. lost_part w all p) (length (part_filling p)) b c (Ok y) → n ≡ x + y → MakesPart all p a c (Ok n)
  part_ok a b c x y n made number calls tried sum = record {
    faults = omega (arith, made.ok.faults, tried.faults);
    ok = part_made a b c x y made tried;
    err = tt;
    unmade = λ name kind is. cc;
    dangling = λ o is. absurd (cc);
    failed = λ is. absurd (cc);
    number = omega (arith, sum, number, tried.number, length-append (making all p) (part_filling p));
    calls = omega (arith, sum, calls, tried.calls);
  }

  pub object_err : (a b : Told) (e : WhFail) (f : ExecFault) → Makes {T = ℕ} (λ w. making all p) a b (Err e) → f ≡ of_house e → MakesPart all p a b (Err f)
  object_err a b e f made is = record {
    faults = made.err.faults;
    ok = tt;
    err = λ w t rest. prefix_more (making all p) _ w a.calls b (made.err.told w t.world);
    unmade = no_model e is;
    dangling = λ o k. absurd (no_dangling e is o k);
    failed = λ k. made.failed (same_fault e is k);
    number = tt;
    calls = tt;
  }

  followed_more : (w : World) (o : Option (List Change)) (next : World → List Change) → (rest : List Change) × (followed w o next ≡ or_nothing o ++ rest)
  followed_more w None next = ([], refl)
  followed_more w (Some list) next = (next (run w list), refl)

  pub part_err : (a b c : Told) (x : ℕ) (f : ExecFault) → Makes (λ w. making all p) a b (Ok x)
      → Tries (λ w. part_fills w all p) (λ w. lost_part w all p) (length (part_filling p)) b c (Err f) → MakesPart all p a c (Err f)
  part_err a b c x f made tried = record {
    faults = omega (arith, made.ok.faults, tried.faults);
    ok = tt;
    err = λ w t rest.
        let r = made.ok.told w t.world in
        let v = run w (making all p) in
        let o = part_fills v all p in
        let more = followed_more v o (executes all rest) in
        subst (λ (l : List Change). IsPrefixRun (making all p ++ l) w a.calls c) (sym more.1)
        (prefix_then (making all p) (or_nothing o) more.0 w a.calls b c r (tried.err v (tells_later (making all p) a b w t r (making_keeps w))));
    unmade = tried.unmade;
    dangling = λ o k w t. tried.dangling o k (run w (making all p)) (tells_later (making all p) a b w t (made.ok.told w t.world) (making_keeps w));
    failed = λ k. let rose = tried.failed k in omega (arith, rose, made.ok.faults);
    number = tt;
    calls = tt;
  }

  pub sum_err : (a b c : Told) (x y : ℕ) (f : ExecFault) → Makes (λ w. making all p) a b (Ok x) → Tries (λ w. part_fills w all p) (λ w. lost_part w all p) (length (part_filling p)) b c (Ok y)
      → f ≡ fault.Memory → MakesPart all p a c (Err f)
  sum_err a b c x y f made tried is = record {
    faults = omega (arith, made.ok.faults, tried.faults);
    ok = tt;
    err = λ w t rest.
        let q = part_made a b c x y made tried w t in
        subst (λ (l : List Change). IsPrefixRun l w a.calls c) (sym (q.first rest)) (whole_prefix q.list _ w a.calls c q.made);
    unmade = λ name kind k. cc;
    dangling = λ o k. absurd (cc);
    failed = λ k. absurd (cc);
    number = tt;
    calls = tt;
  }

module _ (all : List Planned) (p : Part) where
  pub object_stops : (a b : Told) (e : WhFail) (r : Result ℕ ExecFault) → Makes {T = ℕ} (λ w. making all p) a b (Err e) → IsErrAnd r (λ f. f ≡ of_house e) → MakesPart all p a b r
  object_stops a b e (Ok x) made is = absurd is
  object_stops a b e (Err f) made is = object_err all p a b e f made is

  pub part_stops_there : (a b c : Told) (x : ℕ) (e : ExecFault) (r : Result ℕ ExecFault) → Makes (λ w. making all p) a b (Ok x)
      → Tries (λ w. part_fills w all p) (λ w. lost_part w all p) (length (part_filling p)) b c (Err e) → IsErrAnd r (λ f. f ≡ e) → MakesPart all p a c r
  part_stops_there a b c x e (Ok y) made tried is = absurd is
  part_stops_there a b c x e (Err f) made tried is = subst (λ (g : ExecFault). MakesPart all p a c (Err g)) (sym is) (part_err all p a b c x e made tried)

  pub sum_stops : (a b c : Told) (x y : ℕ) (r : Result ℕ ExecFault) → Makes (λ w. making all p) a b (Ok x) → Tries (λ w. part_fills w all p) (λ w. lost_part w all p) (length (part_filling p)) b c (Ok y)
      → IsErrAnd r (λ f. f ≡ fault.Memory) → MakesPart all p a c r
  sum_stops a b c x y (Ok n) made tried is = absurd is
  sum_stops a b c x y (Err f) made tried is = sum_err all p a b c x y f made tried is

-- some models were made, and the others are left
pub record SoFar (all : List Planned) (parts done rest : List Part) (number : ℕ) (old now : Told) : Type 0 where
  pub faults : old.faults ≤ now.faults
  pub split : parts ≡ done ++ rest
  pub told : (w : World) → Tells old w → Reached all done w old.calls now
  pub count : number ≡ length (parts_outline all done)
  pub calls : now.calls ≡ risen number old.calls

module _ (all : List Planned) (parts : List Part) where
  pub begun : (a : Told) → SoFar all parts [] parts 0 a a
  begun a = record {
    faults = omega arith;
    split = refl;
    told = λ w t. record { list = []; first = λ more. refl; made = record { world = t.world; calls = omega arith }; sources = refl; many = refl };
    count = refl;
    calls = omega arith;
  }

  outline_more : (done : List Part) (p : Part) → length (parts_outline all (done ++ p ∷ [])) ≡ length (parts_outline all done) + length (part_outline all p)
  outline_more [] p = omega (arith, ap length (append-nil (part_outline all p)))
  outline_more (q ∷ qs) p = omega (arith, outline_more qs p, length-append (part_outline all q) (parts_outline all (qs ++ p ∷ [])), length-append (part_outline all q) (parts_outline all qs))

  pub one_more : (done rest : List Part) (p : Part) (n x n' : ℕ) (a b c : Told) → SoFar all parts done (p ∷ rest) n a b → MakesPart all p b c (Ok x) → n' ≡ n + x → SoFar all parts (done ++ p ∷ []) rest n' a c
  one_more done rest p n x n' a b c so_far made sum = record {
    faults = omega (arith, so_far.faults, made.faults);
    split = so_far.split ∙ sym (append_assoc done (p ∷ []) rest);
    told = λ w t.
        let r = so_far.told w t in
        let q = made.ok (run w r.list) (tells_later all p r.list a b w t r.made r.sources) in
        record {
          list = r.list ++ q.list;
          first = λ more.
              ap (λ (l : List Part). executes all l w) (append_assoc done (p ∷ []) more)
              ∙ r.first (p ∷ more) ∙ ap (λ (l : List Change). r.list ++ l) (q.first more) ∙ sym (append_assoc r.list q.list (executes all more (run (run w r.list) q.list)))
              ∙ ap (λ (v : World). (r.list ++ q.list) ++ executes all more v) (sym (run-append w r.list q.list));
          made = run_then r.list q.list w a.calls b c r.made q.made;
          sources = ap (λ (v : World). v.sources) (run-append w r.list q.list) ∙ q.sources ∙ r.sources;
          many = omega (arith, r.many, q.many, outline_more done p, length-append r.list q.list);
        };
    count = omega (arith, sum, so_far.count, made.number, outline_more done p);
    calls = omega (arith, sum, so_far.calls, made.calls);
  }

  whole_of : (done rest : List Part) (w : World) (k : ℕ) (b : Told) → parts ≡ done ++ rest → (r : Reached all done w k b) → executes all parts w ≡ r.list ++ executes all rest (run w r.list)
  whole_of done rest w k b split r = ap (λ (l : List Part). executes all l w) split ∙ r.first rest

  list_is : (done : List Part) (w : World) (k : ℕ) (b : Told) → (r : Reached all done w k b) → executes all done w ≡ r.list
  list_is done w k b r = ap (λ (l : List Part). executes all l w) (sym (append-nil done)) ∙ r.first [] ∙ append-nil r.list

  pub all_made : (done : List Part) (n : ℕ) (a b : Told) → done ≡ parts → SoFar all parts done [] n a b → MakesParts all parts a b (Ok n)
  all_made done n a b is so_far = record {
    faults = so_far.faults;
    ok = λ w t.
        let r = so_far.told w t in
        let same : executes all parts w ≡ r.list = whole_of done [] w a.calls b so_far.split r ∙ append-nil r.list in
        (subst (λ (l : List Change). IsRun l w a.calls b) (sym same) r.made, ap length same ∙ r.many ∙ ap (λ (l : List Part). length (parts_outline all l)) is);
    err = tt;
    unmade = λ name kind k. cc;
    dangling = λ o k. absurd (cc);
    failed = λ k. absurd (cc);
    number = so_far.count ∙ ap (λ (l : List Part). length (parts_outline all l)) is;
    calls = so_far.calls;
  }

  pub part_stops : (done rest : List Part) (p : Part) (n : ℕ) (a b c : Told) (f : ExecFault) → SoFar all parts done (p ∷ rest) n a b → MakesPart all p b c (Err f) → MakesParts all parts a c (Err f)
  part_stops done rest p n a b c f so_far made = record {
    faults = omega (arith, so_far.faults, made.faults);
    ok = tt;
    err = λ w t.
        let r = so_far.told w t in
        let q = made.err (run w r.list) (tells_later all p r.list a b w t r.made r.sources) rest in
        subst (λ (l : List Change). IsPrefixRun l w a.calls c) (ap (λ (l : List Change). r.list ++ l) (append-nil (executes all (p ∷ rest) (run w r.list))) ∙ sym (whole_of done (p ∷ rest) w a.calls b so_far.split r))
        (prefix_then r.list (executes all (p ∷ rest) (run w r.list)) [] w a.calls b c r.made q);
    unmade = made.unmade;
    dangling = λ o k w t v v_is.
        let r = so_far.told w t in
        let q = made.dangling o k (run w r.list) (tells_later all p r.list a b w t r.made r.sources) v v_is in
        record {
          before = done;
          part = p;
          after = rest;
          split = so_far.split;
          whole = ap length (list_is done w a.calls b r) ∙ r.many;
          world = q.0 ∙ sym (run-append w r.list (making all p)) ∙ ap (λ (l : List Change). run w (l ++ making all p)) (sym (list_is done w a.calls b r));
          lost = q.1;
        };
    failed = λ k. let rose = made.failed k in omega (arith, rose, so_far.faults);
    number = tt;
    calls = tt;
  }

  pub count_stops : (done rest : List Part) (n : ℕ) (a b : Told) (f : ExecFault) → SoFar all parts done rest n a b → f ≡ fault.Memory → MakesParts all parts a b (Err f)
  count_stops done rest n a b f so_far is = record {
    faults = so_far.faults;
    ok = tt;
    err = λ w t.
        let r = so_far.told w t in
        subst (λ (l : List Change). IsPrefixRun l w a.calls b) (sym (whole_of done rest w a.calls b so_far.split r)) (whole_prefix r.list _ w a.calls b r.made);
    unmade = λ name kind k. cc;
    dangling = λ o k. absurd (cc);
    failed = λ k. absurd (cc);
    number = tt;
    calls = tt;
  }

-- the same over the models of a plan as they come
module _ (all : List Planned) (works : List Work) (i : ℕ) (x : Work) (lt : i < length works) (here : x ≡ get_or works i x) where
  abbrev parts_are : List Part
  parts_are = map part_of works

  abbrev front : List Part
  front = map part_of (take i works)

  abbrev back : List Part
  back = map part_of (drop i works)

  left : back ≡ part_of x ∷ map part_of (drop (suc i) works)
  left = at works i lt here
    where
      at : (ks : List Work) (j : ℕ) → j < length ks → x ≡ get_or ks j x → map part_of (drop j ks) ≡ part_of x ∷ map part_of (drop (suc j) ks)
      at [] j l h = absurd (omega arith)
      at (k ∷ ks) zero l h = ap (λ (y : Work). part_of y ∷ map part_of ks) (sym h)
      at (k ∷ ks) (suc j) l h = at ks j (omega arith) h

  come : map part_of (take (suc i) works) ≡ front ++ part_of x ∷ []
  come = at works i lt here
    where
      at : (ks : List Work) (j : ℕ) → j < length ks → x ≡ get_or ks j x → map part_of (take (suc j) ks) ≡ map part_of (take j ks) ++ part_of x ∷ []
      at [] j l h = absurd (omega arith)
      at (k ∷ ks) zero l h = ap (λ (y : Work). part_of y ∷ []) (sym h)
      at (k ∷ ks) (suc j) l h = ap (λ (l : List Part). part_of k ∷ l) (at ks j (omega arith) h)

  pub loop_more : (n k n' : ℕ) (a b c : Told) → SoFar all parts_are front back n a b → MakesPart all (part_of x) b c (Ok k) → n' ≡ n + k
      → SoFar all parts_are (map part_of (take (i + 1) works)) (map part_of (drop (i + 1) works)) n' a c
  loop_more n k n' a b c so_far made sum =
      let next = one_more all parts_are front (map part_of (drop (suc i) works)) (part_of x) n k n' a b c (subst (λ (l : List Part). SoFar all parts_are front l n a b) left so_far) made sum in
      rw (add-one i) (subst (λ (l : List Part). SoFar all parts_are l (map part_of (drop (suc i) works)) n' a c) (sym come) next)

  pub loop_stops : (n : ℕ) (a b c : Told) (e : ExecFault) (r : Result ℕ ExecFault) → SoFar all parts_are front back n a b → MakesPart all (part_of x) b c (Err e) → IsErrAnd r (λ f. f ≡ e) → MakesParts all parts_are a c r
  loop_stops n a b c e (Ok y) so_far made is = absurd is
  loop_stops n a b c e (Err f) so_far made is =
      subst (λ (g : ExecFault). MakesParts all parts_are a c (Err g)) (sym is)
      (part_stops all parts_are front (map part_of (drop (suc i) works)) (part_of x) n a b c e (subst (λ (l : List Part). SoFar all parts_are front l n a b) left so_far) made)

  pub loop_counts : (n k : ℕ) (a b c : Told) (r : Result ℕ ExecFault) → SoFar all parts_are front back n a b → MakesPart all (part_of x) b c (Ok k) → IsErrAnd r (λ f. f ≡ fault.Memory) → MakesParts all parts_are a c r
  loop_counts n k a b c (Ok y) so_far made is = absurd is
  loop_counts n k a b c (Err f) so_far made is =
      count_stops all parts_are _ _ (n + k) a c f (one_more all parts_are front (map part_of (drop (suc i) works)) (part_of x) n k (n + k) a b c (subst (λ (l : List Part). SoFar all parts_are front l n a b) left so_far) made refl) is

pub loop_ends : (all : List Planned) (works : List Work) (i n : ℕ) (a b : Told) → length works ≤ i → SoFar all (map part_of works) (map part_of (take i works)) (map part_of (drop i works)) n a b → MakesParts all (map part_of works) a b (Ok n)
loop_ends all works i n a b le so_far =
    all_made all (map part_of works) (map part_of (take i works)) n a b (ap (map part_of) (take_all i works le))
    (subst (λ (l : List Work). SoFar all (map part_of works) (map part_of (take i works)) (map part_of l) n a b) (drop_all i works le) so_far)

pub fit_at : (works : List Work) (i : ℕ) (x : Work) → are_fit (map part_of works) ≡ true → i < length works → x ≡ get_or works i x → is_fit x.node.now x.dues.now ≡ true
fit_at [] i x h lt here = absurd (omega arith)
fit_at (k ∷ ks) zero x h lt here = ap (λ (y : Work). is_fit y.node.now y.dues.now) here ∙ (is_both (is_fit k.node.now k.dues.now) (are_fit (map part_of ks)) h).0
fit_at (k ∷ ks) (suc i) x h lt here = fit_at ks i x (is_both (is_fit k.node.now k.dues.now) (are_fit (map part_of ks)) h).1 (omega arith) here
