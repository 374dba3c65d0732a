-- The first of some models are made and filled, and then the next ones.
use Rattle.std.proofs.Common.{◌≡◌, ◌≤◌, ◌<◌, ◌+◌, ℕ, zero, suc, true, List, [], ◌∷◌, ◌++◌, length, take, drop, get_or, map, Some, None, Ok, Err, Result, IsTrue, refl, sym, ap, ◌∙◌, subst, arith, append_assoc, length-append}
use Rattle.std.specs.Result.{IsErrAnd}
use Rattle.std.proofs.lemmas.Grind.{flat_map-append}
use Rattle.std.proofs.lemmas.List.{append-nil, length-map, map-append, take-append-drop}
use Rattle.mesh_base_values.specs.declared.values.Name.{Name}
use Rattle.mesh_query_tokens.specs.declared.faults.FaultKind.{FaultKind}
use Rattle.mesh_base.specs.declared.jobs.Input.{Input}
use Rattle.mesh_house.specs.declared.house.WhFail.{WhFail}
use Rattle.mesh_house.specs.declared.world.Change.{Change}
use Rattle.mesh_house.specs.declared.world.World.{World}
use Rattle.mesh_house.specs.House.{Told}
use Rattle.mesh_list.specs.Counts.{risen}
use Rattle.mesh_house.specs.Runs.{IsRun, IsPrefixRun, Makes}
use Rattle.mesh_house.specs.Sources.{are_plain}
use Rattle.mesh_house.specs.Step.{run}
use Rattle.mesh_house.proofs.Runs.{run-append}
use Rattle.mesh_spec_changes.specs.due.Plans.{Planned}
use Rattle.mesh_layer.specs.Shows.{Finds, Tells}
use Rattle.mesh_layer.specs.declared.faults.ShowFault.{ShowFault}
use Rattle.mesh_layer.specs.declared.faults.ShowFault.TheVariants as show
use Rattle.mesh_exec_works.specs.declared.fronts.Pooled.{Pooled}
use Rattle.mesh_exec_works.specs.Fronts.{each_pool, pool_at, pools_from}
use Rattle.mesh_exec_works.specs.Plain.{making}
use Rattle.mesh_exec_works.specs.Works.{Part, are_fit, is_fit, part_of}
use Rattle.mesh_exec_works.specs.declared.works.Work.{Work}
use Rattle.mesh_exec_works.proofs.Ahead.{Spares}
use Rattle.mesh_exec.specs.declared.faults.ExecFault.{ExecFault}
use Rattle.mesh_exec.specs.declared.faults.ExecFault.TheVariants as fault
use Rattle.mesh_exec.specs.declared.making.Next.{Next}
use Rattle.mesh_exec.specs.Answers.{of_house, of_show}
use Rattle.mesh_exec.specs.Cuts.{IsReady, cut_part, work_of}
use Rattle.mesh_exec.specs.declared.ready.Cut.{Cut}
use Rattle.mesh_exec.specs.Executed.{executes, part_outline, parts_outline}
use Rattle.mesh_exec.specs.Fronts.{front_changes, part_changes}
use Rattle.mesh_exec.specs.Steps.{MakesNext, MakesPart, MakesParts, Reached}
use Rattle.mesh_exec.proofs.Leading.{front_many, front_sources, leads}
use Rattle.mesh_exec.proofs.Models.{SoFar, count_stops, no_dangling, no_model, same_fault}
use Rattle.mesh_exec.proofs.Running.{all_take}
use Rattle.mesh_exec.proofs.Stepping.{none_made, prefix_more, prefix_then, run_then}

abbrev count_err : ExecFault → Result ℕ ExecFault
count_err f = Err f

abbrev next_err : ExecFault → Result Next ExecFault
next_err f = Err f

abbrev show_next : ShowFault → Result Pooled ShowFault
show_next e = Err e

tells_at : (list : List Change) (a b : Told) (w : World) → Tells a w → IsRun list w a.calls b → (run w list).sources ≡ w.sources → Tells b (run w list)
tells_at list a b w t r s = record { world = r.world; plain = subst (λ (x : List Input). IsTrue (are_plain x)) (sym s) t.plain }

module _ (all : List Planned) where
  outline_both : (xs ys : List Part) → length (parts_outline all (xs ++ ys)) ≡ length (parts_outline all xs) + length (parts_outline all ys)
  outline_both xs ys = omega (arith, ap length (flat_map-append (part_outline all) xs ys), length-append (parts_outline all xs) (parts_outline all ys))

  -- some more were made
  reached_more : (done next : List Part) (a b c : Told) (w : World) → Tells a w → (r : Reached all done w a.calls b) → Reached all next (run w r.list) b.calls c → Reached all (done ++ next) w a.calls c
  reached_more done next a b c w t r q = record {
    list = r.list ++ q.list;
    first = λ more.
        ap (λ (l : List Part). executes all l w) (append_assoc done next more)
        ∙ r.first (next ++ more) ∙ ap (λ (l : List Change). r.list ++ l) (q.first more) ∙ sym (append_assoc r.list q.list (executes all more (run (run w r.list) q.list)))
        ∙ ap (λ (v : World). (r.list ++ q.list) ++ executes all more v) (sym (run-append w r.list q.list));
    made = run_then r.list q.list w a.calls b c r.made q.made;
    sources = ap (λ (v : World). v.sources) (run-append w r.list q.list) ∙ q.sources ∙ r.sources;
    many = omega (arith, r.many, q.many, outline_both done next, length-append r.list q.list);
  }

  module _ (parts : List Part) where
    pub next_more : (done rest : List Part) (next : Next) (n n' : ℕ) (a b c : Told) → SoFar all parts done rest n a b → MakesNext all rest b c (Ok next) → n' ≡ n + next.changes
        → SoFar all parts (done ++ take next.models rest) (drop next.models rest) n' a c
    next_more done rest next n n' a b c so_far made sum = record {
      faults = omega (arith, so_far.faults, made.faults);
      split = so_far.split ∙ ap (λ (l : List Part). done ++ l) (sym (take-append-drop next.models rest)) ∙ sym (append_assoc done (take next.models rest) (drop next.models rest));
      told = λ w t.
          let r = so_far.told w t in
          reached_more done (take next.models rest) a b c w t r (made.ok (run w r.list) (tells_at r.list a b w t r.made r.sources));
      count = omega (arith, sum, so_far.count, made.number, outline_both done (take next.models rest));
      calls = omega (arith, sum, so_far.calls, made.calls);
    }

    whole_is : (done rest : List Part) (w : World) (k : ℕ) (b : Told) → parts ≡ done ++ rest → (r : Reached all done w k b) → executes all parts w ≡ r.list ++ executes all rest (run w r.list)
    whole_is done rest w k b split r = ap (λ (l : List Part). executes all l w) split ∙ r.first rest

    pub next_stops : (done rest : List Part) (n : ℕ) (a b c : Told) (f : ExecFault) → SoFar all parts done rest n a b → MakesNext all rest b c (Err f) → MakesParts all parts a c (Err f)
    next_stops done rest n a b c f so_far made = record {
      faults = omega (arith, so_far.faults, made.faults);
      ok = tt;
      err = λ w t.
          let r = so_far.told w t in
          let q = made.err (run w r.list) (tells_at r.list a b w t r.made r.sources) in
          subst (λ (l : List Change). IsPrefixRun l w a.calls c) (ap (λ (l : List Change). r.list ++ l) (append-nil (executes all rest (run w r.list))) ∙ sym (whole_is done rest w a.calls b so_far.split r))
          (prefix_then r.list (executes all rest (run w r.list)) [] w a.calls b c r.made q);
      unmade = λ name kind k. made.unmade name kind (fails (fault.Model name kind) k);
      dangling = λ o k w t v v_is.
          let r = so_far.told w t in
          let q = made.dangling o (fails (fault.Dangling o) k) (run w r.list) (tells_at r.list a b w t r.made r.sources) v v_is in
          let both : executes all (done ++ q.before) w ≡ r.list ++ executes all q.before (run w r.list) = r.first q.before in
          record {
            before = done ++ q.before;
            part = q.part;
            after = q.after;
            split = so_far.split ∙ ap (λ (l : List Part). done ++ l) q.split ∙ sym (append_assoc done q.before (q.part ∷ q.after));
            whole = omega (arith, ap length both, length-append r.list (executes all q.before (run w r.list)), r.many, q.whole, outline_both done q.before);
            world =
                q.world
                ∙ sym (run-append w r.list (executes all q.before (run w r.list) ++ making all q.part))
                ∙ ap (run w) (sym (append_assoc r.list (executes all q.before (run w r.list)) (making all q.part)) ∙ ap (λ (l : List Change). l ++ making all q.part) (sym both));
            lost = q.lost;
          };
      failed = λ k. let rose = made.failed (fails fault.Warehouse k) in omega (arith, rose, so_far.faults);
      number = tt;
      calls = tt;
    }
      where
        fails : (g : ExecFault) → count_err f ≡ count_err g → next_err f ≡ next_err g
        fails g k = cc

  -- the first by itself
  module _ (p : Part) (rest : List Part) where
    pub first_ok : (n : ℕ) (a b : Told) → MakesPart all p a b (Ok n) → MakesNext all (p ∷ rest) a b (Ok (record { models = 1; changes = n }))
    first_ok n a b made = record {
      faults = made.faults;
      any = omega arith;
      within = omega arith;
      ok = λ w t.
          let q = made.ok w t in
          record { list = q.list; first = q.first; made = q.made; sources = q.sources; many = q.many ∙ ap length (sym (append-nil (part_outline all p))) };
      err = tt;
      unmade = λ name kind k. cc;
      dangling = λ o k. absurd (cc);
      failed = λ k. absurd (cc);
      number = made.number ∙ ap length (sym (append-nil (part_outline all p)));
      calls = made.calls;
    }

    pub first_err : (a b : Told) (f : ExecFault) → MakesPart all p a b (Err f) → MakesNext all (p ∷ rest) a b (Err f)
    first_err a b f made = record {
      faults = made.faults;
      any = tt;
      within = tt;
      ok = tt;
      err = λ w t. made.err w t rest;
      unmade = λ name kind k. made.unmade name kind (fails (fault.Model name kind) k);
      dangling = λ o k w t v v_is.
          let q = made.dangling o (fails (fault.Dangling o) k) w t v v_is in
          record { before = []; part = p; after = rest; split = refl; whole = refl; world = q.0; lost = q.1 };
      failed = λ k. made.failed (fails fault.Warehouse k);
      number = tt;
      calls = tt;
    }
      where
        fails : (g : ExecFault) → next_err f ≡ next_err g → count_err f ≡ count_err g
        fails g k = cc

  -- those whose rows were computed side by side
  module _ (parts : List Part) (ready models : ℕ) where
    abbrev seen : List Part
    seen = take ready parts

    abbrev pools_found : World → Pooled → Type 0
    pools_found w pooled = each_pool pooled ≡ pools_from w all [] seen

    abbrev Found : Told → Told → Result Pooled ShowFault → Type 0
    Found a b r = Finds (λ w. IsTrue (are_plain w.sources)) pools_found (λ w. None) a b r

    front_same : (ps : List Part) (pools : List (List Input)) → front_changes all ps pools ≡ front_changes all (take (length pools) ps) pools
    front_same [] [] = refl
    front_same [] (t ∷ ts) = refl
    front_same (p ∷ ps) [] = refl
    front_same (p ∷ ps) (t ∷ ts) = ap (λ (l : List Change). part_changes all p t ++ l) (front_same ps ts)

    taken_twice : (n m : ℕ) (ps : List Part) → n ≤ m → take n (take m ps) ≡ take n ps
    taken_twice zero m ps le = refl
    taken_twice (suc n) zero ps le = absurd (omega (arith, le))
    taken_twice (suc n) (suc m) [] le = refl
    taken_twice (suc n) (suc m) (p ∷ ps) le = ap (λ (l : List Part). p ∷ l) (taken_twice n m ps (omega (arith, le)))

    module _ (pooled : Pooled) (a b : Told) (found : Found a b (Ok pooled)) (is : length (each_pool pooled) ≡ models) (few : models ≤ ready) where
      abbrev pools : List (List Input)
      pools = each_pool pooled

      abbrev list : List Change
      list = front_changes all (take models parts) pools

      list_is : front_changes all seen pools ≡ list
      list_is = front_same seen pools ∙ (λ i. front_changes all (take (is i) seen) pools) ∙ ap (λ (l : List Part). front_changes all l pools) (taken_twice models ready parts few)

      comes_first : (w : World) → Tells a w → (more : List Part) → executes all (take models parts ++ more) w ≡ list ++ executes all more (run w list)
      comes_first w t more =
          let spared : Spares [] w w = record { sources = refl; objects = λ n h. refl } in
          let lead = leads all w [] seen w pools spared (found.ok w t.world t.plain) more in
          ap (λ (l : List Part). executes all (l ++ more) w) (sym (taken_twice models ready parts few) ∙ sym (ap (λ (n : ℕ). take n seen) is))
          ∙ lead
          ∙ (λ i. list_is i ++ executes all more (run w (list_is i)))

      many_is : length list ≡ length (parts_outline all (take models parts))
      many_is =
          front_many all (take models parts) pools
          ∙ ap (λ (l : List Part). length (parts_outline all l)) ((λ i. take (is i) (take models parts)) ∙ taken_twice models models parts (omega arith))

      front_reached : (c : Told) (n : ℕ) → Makes (λ w. list) b c (Ok n) → (w : World) → Tells a w → Reached all (take models parts) w a.calls c
      front_reached c n made w t =
          let r = made.ok.told w (found.untouched.world ∙ t.world) in
          record {
            list = list;
            first = comes_first w t;
            made = record { world = r.world; calls = omega (arith, r.calls, found.untouched.calls) };
            sources = front_sources all (take models parts) pools w;
            many = many_is;
          }

      pub front_ok : (c : Told) (n : ℕ) → Makes (λ w. list) b c (Ok n) → n ≡ length list → c.calls ≡ risen n b.calls → 0 < models → models ≤ length parts
          → MakesNext all parts a c (Ok (record { models = models; changes = n }))
      front_ok c n made number calls any within = record {
        faults = omega (arith, found.untouched.faults, made.ok.faults);
        any = any;
        within = within;
        ok = front_reached c n made;
        err = tt;
        unmade = λ name kind k. cc;
        dangling = λ o k. absurd (cc);
        failed = λ k. absurd (cc);
        number = number ∙ many_is;
        calls = omega (arith, calls, found.untouched.calls);
      }

      pub front_err : (c : Told) (e : WhFail) (f : ExecFault) → Makes {T = ℕ} (λ w. list) b c (Err e) → f ≡ of_house e → MakesNext all parts a c (Err f)
      front_err c e f made f_is = record {
        faults = omega (arith, found.untouched.faults, made.err.faults);
        any = tt;
        within = tt;
        ok = tt;
        err = λ w t.
            let r = made.err.told w (found.untouched.world ∙ t.world) in
            let rest = drop models parts in
            let whole : executes all parts w ≡ list ++ executes all rest (run w list) = ap (λ (l : List Part). executes all l w) (sym (take-append-drop models parts)) ∙ comes_first w t rest in
            subst (λ (l : List Change). IsPrefixRun l w a.calls c) (sym whole)
            (prefix_more list (executes all rest (run w list)) w a.calls c (subst (λ k. IsPrefixRun list w k c) found.untouched.calls r));
        unmade = λ name kind k. no_model e f_is name kind (as_count (fault.Model name kind) k);
        dangling = λ o k. absurd (no_dangling e f_is o (as_count (fault.Dangling o) k));
        failed = λ k. let rose = made.failed (same_fault e f_is (as_count fault.Warehouse k)) in omega (arith, rose, found.untouched.faults);
        number = tt;
        calls = tt;
      }
        where
          as_count : (g : ExecFault) → next_err f ≡ next_err g → count_err f ≡ count_err g
          as_count g k = cc

    -- the tables weren't read
    pub pools_err : (a b : Told) (e : ShowFault) (f : ExecFault) → Found a b (Err e) → f ≡ of_show e → MakesNext all parts a b (Err f)
    pools_err a b e f found is = record {
      faults = found.untouched.faults;
      any = tt;
      within = tt;
      ok = tt;
      err = λ w t. none_made _ w _ b (found.untouched.world ∙ t.world) found.untouched.calls;
      unmade = at e is;
      dangling = λ o k w t. absurd (let no : None ≡ Some o = found.dangling o (dangles e is o k) w t.world t.plain in cc);
      failed = λ k. found.failed (fails e is k);
      number = tt;
      calls = tt;
    }
      where
        at : (e : ShowFault) → f ≡ of_show e → (name : Name) (kind : FaultKind) → next_err f ≡ next_err (fault.Model name kind) → ⊥
        at (show.Dangling object) is name kind k = cc
        at show.Warehouse is name kind k = cc
        at show.Memory is name kind k = cc

        dangles : (e : ShowFault) → f ≡ of_show e → (o : Name) → next_err f ≡ next_err (fault.Dangling o) → show_next e ≡ show_next (show.Dangling o)
        dangles (show.Dangling object) is o k = cc
        dangles show.Warehouse is o k = absurd (cc)
        dangles show.Memory is o k = absurd (cc)

        fails : (e : ShowFault) → f ≡ of_show e → next_err f ≡ next_err fault.Warehouse → show_next e ≡ show_next show.Warehouse
        fails (show.Dangling object) is k = absurd (cc)
        fails show.Warehouse is k = refl
        fails show.Memory is k = absurd (cc)

  -- memory ran out before anything was read
  pub next_memory : (parts : List Part) (a : Told) (f : ExecFault) → f ≡ fault.Memory → MakesNext all parts a a (Err f)
  next_memory parts a f is = record {
    faults = omega arith;
    any = tt;
    within = tt;
    ok = tt;
    err = λ w t. none_made _ w _ a t.world refl;
    unmade = λ name kind k. cc;
    dangling = λ o k. absurd (cc);
    failed = λ k. absurd (cc);
    number = tt;
    calls = tt;
  }

map_take : {A B : Type 0} (f : A → B) (n : ℕ) (xs : List A) → map f (take n xs) ≡ take n (map f xs)
map_take f zero xs = refl
map_take f (suc n) [] = refl
map_take {B = B} f (suc n) (x ∷ xs) = ap (λ (l : List B). f x ∷ l) (map_take f n xs)

map_drop : {A B : Type 0} (f : A → B) (n : ℕ) (xs : List A) → map f (drop n xs) ≡ drop n (map f xs)
map_drop f zero xs = refl
map_drop f (suc n) [] = refl
map_drop f (suc n) (x ∷ xs) = map_drop f n xs

take_plus : {A : Type 0} (n k : ℕ) (xs : List A) → take (n + k) xs ≡ take n xs ++ take k (drop n xs)
take_plus {A = A} zero k xs = let e : zero + k ≡ k = omega arith in ap (λ (i : ℕ). take i xs) e
take_plus {A = A} (suc n) zero [] = let e : suc n + zero ≡ suc n = omega arith in ap (λ (i : ℕ). take {A = A} i []) e
take_plus {A = A} (suc n) (suc k) [] = let e : suc n + suc k ≡ suc (n + suc k) = omega arith in ap (λ (i : ℕ). take {A = A} i []) e
take_plus {A = A} (suc n) k (x ∷ xs) = let e : suc n + k ≡ suc (n + k) = omega arith in ap (λ (i : ℕ). take i (x ∷ xs)) e ∙ ap (λ (l : List A). x ∷ l) (take_plus n k xs)

drop_plus : {A : Type 0} (n k : ℕ) (xs : List A) → drop (n + k) xs ≡ drop k (drop n xs)
drop_plus {A = A} zero k xs = let e : zero + k ≡ k = omega arith in ap (λ (i : ℕ). drop i xs) e
drop_plus {A = A} (suc n) zero [] = let e : suc n + zero ≡ suc n = omega arith in ap (λ (i : ℕ). drop {A = A} i []) e
drop_plus {A = A} (suc n) (suc k) [] = let e : suc n + suc k ≡ suc (n + suc k) = omega arith in ap (λ (i : ℕ). drop {A = A} i []) e
drop_plus {A = A} (suc n) k (x ∷ xs) = let e : suc n + k ≡ suc (n + k) = omega arith in ap (λ (i : ℕ). drop i (x ∷ xs)) e ∙ drop_plus n k xs

module _ (all : List Planned) (works : List Work) where
  abbrev ps : List Part
  ps = map part_of works

  pub memory_first : (a : Told) (r : Result Next ExecFault) → IsErrAnd r (λ f. f ≡ fault.Memory) → MakesNext all ps a a r
  memory_first a (Ok n) is = absurd is
  memory_first a (Err f) is = next_memory all ps a f is

  pub first_stops : (x : Work) (a b : Told) (e : ExecFault) (r : Result Next ExecFault) → 0 < length works → x ≡ get_or works 0 x → MakesPart all (part_of x) a b (Err e) → IsErrAnd r (λ f. f ≡ e) → MakesNext all ps a b r
  first_stops x a b e (Ok n) any here made is = absurd is
  first_stops x a b e (Err f) any here made is =
      subst (λ (g : ExecFault). MakesNext all ps a b (Err g)) (sym is)
      (subst (λ (l : List Part). MakesNext all l a b (Err e)) (sym (headed works any here)) (first_err all (part_of x) (map part_of (drop 1 works)) a b e made))
    where
      headed : (ks : List Work) → 0 < length ks → x ≡ get_or ks 0 x → map part_of ks ≡ part_of x ∷ map part_of (drop 1 ks)
      headed [] lt h = absurd (omega arith)
      headed (k ∷ ks) lt h = ap (λ (y : Work). part_of y ∷ map part_of ks) (sym h)

  pub first_makes : (x : Work) (n : ℕ) (a b : Told) → 0 < length works → x ≡ get_or works 0 x → MakesPart all (part_of x) a b (Ok n) → MakesNext all ps a b (Ok (record { models = 1; changes = n }))
  first_makes x n a b any here made =
      subst (λ (l : List Part). MakesNext all l a b (Ok (record { models = 1; changes = n }))) (sym (headed works any here)) (first_ok all (part_of x) (map part_of (drop 1 works)) n a b made)
    where
      headed : (ks : List Work) → 0 < length ks → x ≡ get_or ks 0 x → map part_of ks ≡ part_of x ∷ map part_of (drop 1 ks)
      headed [] lt h = absurd (omega arith)
      headed (k ∷ ks) lt h = ap (λ (y : Work). part_of y ∷ map part_of ks) (sym h)

  -- some models were made, and the next ones
  module _ (at : ℕ) (rest : List Work) (rest_is : rest ≡ drop at works) where
    abbrev done : List Part
    done = map part_of (take at works)

    at_rest : (n : ℕ) (a b : Told) → SoFar all ps done (map part_of (drop at works)) n a b → SoFar all ps done (map part_of rest) n a b
    at_rest n a b so_far = subst (λ (l : List Work). SoFar all ps done (map part_of l) n a b) (sym rest_is) so_far

    pub some_more : (next : Next) (n n' : ℕ) (a b c : Told) → SoFar all ps (map part_of (take at works)) (map part_of (drop at works)) n a b → MakesNext all (map part_of rest) b c (Ok next) → n' ≡ n + next.changes
        → SoFar all ps (map part_of (take (at + next.models) works)) (map part_of (drop (at + next.models) works)) n' a c
    some_more next n n' a b c so_far made sum =
        let k = next.models in
        let come : done ++ take k (map part_of rest) ≡ map part_of (take (at + k) works) =
        ap (λ (l : List Work). done ++ take k (map part_of l)) rest_is
        ∙ ap (λ (l : List Part). done ++ l) (sym (map_take part_of k (drop at works)))
        ∙ sym (map-append part_of (take at works) (take k (drop at works)))
        ∙ ap (map part_of) (sym (take_plus at k works)) in
        let left : drop k (map part_of rest) ≡ map part_of (drop (at + k) works) =
        ap (λ (l : List Work). drop k (map part_of l)) rest_is ∙ sym (map_drop part_of k (drop at works)) ∙ ap (map part_of) (sym (drop_plus at k works)) in
        subst (λ (l : List Part). SoFar all ps l (map part_of (drop (at + k) works)) n' a c) come
        (subst (λ (l : List Part). SoFar all ps (done ++ take k (map part_of rest)) l n' a c) left
        (next_more all ps done (map part_of rest) next n n' a b c (at_rest n a b so_far) made sum))

    pub some_stop : (n : ℕ) (a b c : Told) (e : ExecFault) (r : Result ℕ ExecFault) → SoFar all ps (map part_of (take at works)) (map part_of (drop at works)) n a b → MakesNext all (map part_of rest) b c (Err e) → IsErrAnd r (λ f. f ≡ e) → MakesParts all ps a c r
    some_stop n a b c e (Ok y) so_far made is = absurd is
    some_stop n a b c e (Err f) so_far made is = subst (λ (g : ExecFault). MakesParts all ps a c (Err g)) (sym is) (next_stops all ps done (map part_of rest) n a b c e (at_rest n a b so_far) made)

    pub sum_stops_there : (next : Next) (n : ℕ) (a b c : Told) (r : Result ℕ ExecFault) → SoFar all ps (map part_of (take at works)) (map part_of (drop at works)) n a b → MakesNext all (map part_of rest) b c (Ok next) → IsErrAnd r (λ f. f ≡ fault.Memory) → MakesParts all ps a c r
    sum_stops_there next n a b c (Ok y) so_far made is = absurd is
    sum_stops_there next n a b c (Err f) so_far made is = count_stops all ps _ _ (n + next.changes) a c f (some_more next n (n + next.changes) a b c so_far made refl) is

    pub some_within : (k : ℕ) → at ≤ length works → k ≤ length (map part_of rest) → at + k ≤ length works
    some_within k le few = omega (arith, le, few, length-map rest part_of, ap length rest_is, left_many at works le)
      where
        left_many : (n : ℕ) (xs : List Work) → n ≤ length xs → length (drop n xs) + n ≡ length xs
        left_many zero xs le = omega arith
        left_many (suc n) [] le = absurd (omega (arith, le))
        left_many (suc n) (x ∷ xs) le = omega (arith, left_many n xs (omega (arith, le)))

  -- those that are ready are the first of the models
  module _ (cuts : List Cut) (ready : IsReady works cuts) where
    cut_works : (n : ℕ) (cs : List Cut) → map cut_part (take n cs) ≡ map part_of (take n (map work_of cs))
    cut_works zero cs = refl
    cut_works (suc n) [] = refl
    cut_works (suc n) (c ∷ cs) = ap (λ (l : List Part). cut_part c ∷ l) (cut_works n cs)

    twice : (n m : ℕ) (ks : List Work) → n ≤ m → take n (take m ks) ≡ take n ks
    twice zero m ks le = refl
    twice (suc n) zero ks le = absurd (omega (arith, le))
    twice (suc n) (suc m) [] le = refl
    twice (suc n) (suc m) (k ∷ ks) le = ap (λ (l : List Work). k ∷ l) (twice n m ks (omega (arith, le)))

    pub cuts_are : (n : ℕ) → n ≤ length cuts → map cut_part (take n cuts) ≡ take n ps
    cuts_are n le =
        cut_works n cuts
        ∙ ap (λ (l : List Work). map part_of (take n l)) ready.first
        ∙ ap (map part_of) (twice n (length cuts) works le)
        ∙ map_take part_of n works

    pub cuts_fit : (n : ℕ) → n ≤ length cuts → are_fit ps ≡ true → are_fit (map cut_part (take n cuts)) ≡ true
    cuts_fit n le fit = ap are_fit (cuts_are n le) ∙ all_take (λ (p : Part). is_fit p.node p.dues) n ps fit

    abbrev FoundAhead : ℕ → Told → Told → Result Pooled ShowFault → Type 0
    FoundAhead m a b r = Finds (λ w. IsTrue (are_plain w.sources)) (λ w pooled. each_pool pooled ≡ pools_from w all [] (map part_of (take m works))) (λ w. None) a b r

    found_is : (m : ℕ) (a b : Told) (r : Result Pooled ShowFault) → FoundAhead m a b r → Finds (λ w. IsTrue (are_plain w.sources)) (λ w pooled. each_pool pooled ≡ pools_from w all [] (take m ps)) (λ w. None) a b r
    found_is m a b r found = subst (λ (l : List Part). Finds (λ w. IsTrue (are_plain w.sources)) (λ w pooled. each_pool pooled ≡ pools_from w all [] l) (λ w. None) a b r) (map_take part_of m works) found

    pub pools_stop : (m : ℕ) (a b : Told) (e : ShowFault) (r : Result Next ExecFault) → FoundAhead m a b (Err e) → IsErrAnd r (λ f. f ≡ of_show e) → MakesNext all ps a b r
    pools_stop m a b e (Ok n) found is = absurd is
    pools_stop m a b e (Err f) found is = pools_err all ps m 0 a b e f (found_is m a b (Err e) found) is

    module _ (m : ℕ) (m_is : m ≡ length cuts) (pooled : Pooled) (models : ℕ) (models_is : models ≡ length pooled.numbers) (few : length pooled.numbers ≤ length (take m works)) (front : List Cut) (front_is : front ≡ take models cuts) (a b : Told) (found : FoundAhead m a b (Ok pooled)) where
      pub models_few : models ≤ m
      models_few = omega (arith, models_is, few, taken_few m works)
        where
          taken_few : (n : ℕ) (xs : List Work) → length (take n xs) ≤ n
          taken_few zero xs = omega arith
          taken_few (suc n) [] = omega arith
          taken_few (suc n) (x ∷ xs) = omega (arith, taken_few n xs)

      many : length (each_pool pooled) ≡ models
      many = length-map pooled.numbers (pool_at pooled.pools) ∙ sym models_is

      front_parts : map cut_part front ≡ take models ps
      front_parts = ap (map cut_part) front_is ∙ cuts_are models (omega (arith, models_few, m_is))

      abbrev Made : Told → Result ℕ WhFail → Type 0
      Made c r = Makes (λ w. front_changes all (map cut_part front) (each_pool pooled)) b c r

      made_is : (c : Told) (r : Result ℕ WhFail) → Made c r → Makes (λ w. front_changes all (take models ps) (each_pool pooled)) b c r
      made_is c r made = subst (λ (l : List Part). Makes (λ w. front_changes all l (each_pool pooled)) b c r) front_parts made

      pub front_stops : (c : Told) (e : WhFail) (r : Result Next ExecFault) → Made c (Err e) → IsErrAnd r (λ f. f ≡ of_house e) → MakesNext all ps a c r
      front_stops c e (Ok n) made is = absurd is
      front_stops c e (Err f) made is = front_err all ps m models pooled a b (found_is m a b (Ok pooled) found) many models_few c e f (made_is c (Err e) made) is

      pub front_makes : (c : Told) (n : ℕ) → Made c (Ok n) → n ≡ length (front_changes all (map cut_part front) (each_pool pooled)) → c.calls ≡ risen n b.calls → 0 < models
          → MakesNext all ps a c (Ok (record { models = models; changes = n }))
      front_makes c n made number calls any =
          let within : models ≤ length ps = omega (arith, models_few, m_is, ready.within, length-map works part_of) in
          front_ok all ps m models pooled a b (found_is m a b (Ok pooled) found) many models_few c n (made_is c (Ok n) made) (number ∙ ap (λ (l : List Part). length (front_changes all l (each_pool pooled))) front_parts) calls any within
