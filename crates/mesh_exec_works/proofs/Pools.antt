-- The tables of the first of some models, one model after another.
use Rattle.std.proofs.Common.{◌≡◌, ◌+◌, ◌-◌, ◌<◌, ◌≤◌, ℕ, zero, suc, Bool, true, false, cond, ◌&&◌, List, [], ◌∷◌, ◌++◌, length, length-append, take, drop, map, get_or, Some, None, refl, sym, ap, ◌∙◌, subst, arith, append_assoc, add-one}
use Rattle.std.specs.Option.{option_and_then, option_map}
use Rattle.std.specs.declared.option.Option.{Option}
use Rattle.std.specs.Prelude.{nat_lt}
use Rattle.std.specs.List.{list_all}
use Rattle.std.proofs.lemmas.Bool.{lt-ltb, ltb-true}
use Rattle.std.proofs.lemmas.List.{append-nil, drop_all, get_or_append_left, map-append}
use Rattle.std.proofs.lemmas.List.Folds.{list_all-append}
use Rattle.std.proofs.Math.Seq.{get_or-append_seam}
use Rattle.mesh_base.specs.declared.jobs.Input.{Input}
use Rattle.mesh_spec_model.specs.Sources.{declared, inputs}
use Rattle.mesh_house.specs.declared.world.World.{World}
use Rattle.mesh_spec_changes.specs.shown.Shown.{each_there}
use Rattle.mesh_spec_changes.specs.due.Plans.{Planned}
use Rattle.mesh_exec_works.specs.declared.works.Work.{Work}
use Rattle.mesh_exec_works.specs.Fronts.{AreAlike, FindsSame, GoesOn, are_read_later, are_there, each_pool, last_pool, or_end, parents_now, pool_at, pool_now, pools_from, table_now, tables_now, work_now}
use Rattle.mesh_exec_works.specs.declared.fronts.Pooled.{Pooled}
use Rattle.mesh_exec_works.specs.Lost.{reads}
use Rattle.mesh_exec_works.specs.Plain.{model_of, parents_at, work_model}
use Rattle.mesh_exec_works.specs.Works.{Part, part_of}

-- where one of them isn't there, not all are
pub one_absent : (f : Work → Option Input) (ks : List Work) (i : ℕ) (k : Work) → i < length ks → k ≡ get_or ks i k → f k ≡ None → each_there (map f ks) ≡ None
one_absent f [] i k lt here none = absurd (omega arith)
one_absent f (x ∷ xs) zero k lt here none = ap (option_and_then (λ (y : Input). option_map (λ (ys : List Input). y ∷ ys) (each_there (map f xs)))) (ap f (sym here) ∙ none)
one_absent f (x ∷ xs) (suc i) k lt here none =
    ap (λ (os : Option (List Input)). option_and_then (λ (y : Input). option_map (λ (ys : List Input). y ∷ ys) os) (f x)) (one_absent f xs i k (omega arith) here none)
    ∙ none_behind (f x)
  where
    none_behind : (o : Option Input) → option_and_then (λ (y : Input). option_map (λ (ys : List Input). y ∷ ys) None) o ≡ None
    none_behind None = refl
    none_behind (Some y) = refl

pub nothing : (o : Option Input) → ((x : Input) → o ≡ Some x → ⊥) → o ≡ None
nothing None h = refl
nothing (Some x) h = absurd (h x refl)

all_now : (w : World) (ks : List Work) → map (work_now w) ks ≡ map (table_now w) (map work_model ks)
all_now w [] = refl
all_now w (k ∷ ks) = ap (λ l. work_now w k ∷ l) (all_now w ks)

-- what is found of the parents is found of the model
pub none_there : (w : World) (p : Planned) (ks : List Work) (o : Option (List Input)) → o ≡ each_there (map (work_now w) ks) → o ≡ None → None ≡ tables_now w p (map work_model ks)
none_there w p ks o found none = sym (ap (option_map (inputs w.sources p.node.own)) (ap each_there (sym (all_now w ks)) ∙ sym found ∙ none))

pub all_there : (w : World) (p : Planned) (ks : List Work) (o : Option (List Input)) (tables read more : List Input) → o ≡ each_there (map (work_now w) ks) → o ≡ Some tables → read ≡ map (declared w.sources) p.node.own.sources → more ≡ read ++ tables
    → Some more ≡ tables_now w p (map work_model ks)
all_there w p ks o tables read more found some sources joined =
    ap Some (joined ∙ ap (λ (l : List Input). l ++ tables) sources)
    ∙ sym (ap (option_map (inputs w.sources p.node.own)) (ap each_there (sym (all_now w ks)) ∙ sym found ∙ some))

module _ (w : World) (all : List Planned) (works : List Work) (i : ℕ) (x : Work) (lt : i < length works) (here : x ≡ get_or works i x) where
  abbrev front : ℕ → List Part
  front n = map part_of (take n works)

  abbrev back : ℕ → List Part
  back n = map part_of (drop n works)

  come : front (suc i) ≡ front i ++ part_of x ∷ []
  come = at works i lt here
    where
      at : (ks : List Work) (j : ℕ) → j < length ks → x ≡ get_or ks j x → map part_of (take (suc j) ks) ≡ map part_of (take j ks) ++ part_of x ∷ []
      at [] j l h = absurd (omega arith)
      at (k ∷ ks) zero l h = ap (λ (y : Work). part_of y ∷ []) (sym h)
      at (k ∷ ks) (suc j) l h = ap (λ (l : List Part). part_of k ∷ l) (at ks j (omega arith) h)

  left : back i ≡ part_of x ∷ back (suc i)
  left = at works i lt here
    where
      at : (ks : List Work) (j : ℕ) → j < length ks → x ≡ get_or ks j x → map part_of (drop j ks) ≡ part_of x ∷ map part_of (drop (suc j) ks)
      at [] j l h = absurd (omega arith)
      at (k ∷ ks) zero l h = ap (λ (y : Work). part_of y ∷ map part_of ks) (sym h)
      at (k ∷ ks) (suc j) l h = at ks j (omega arith) h

  -- the next model's tables come first
  next : (parts : List Part) → parts ≡ front (i + 1) → pools_from w all (front i) (back i) ≡ or_end (pool_now w all parts (part_of x)) (pools_from w all (front (i + 1)) (back (i + 1)))
  next parts is =
      let more : front (i + 1) ≡ front i ++ part_of x ∷ [] = rw (add-one i) come in
      let rest : back (suc i) ≡ back (i + 1) = rw (add-one i) refl in
      ap (pools_from w all (front i)) left
      ∙ (λ j. or_end (pool_now w all (sym more j) (part_of x)) (pools_from w all (sym more j) (rest j)))
      ∙ ap (λ (l : List Part). or_end (pool_now w all l (part_of x)) (pools_from w all (front (i + 1)) (back (i + 1)))) (sym is)

  pub stops_there : (pools target : List (List Input)) (parts : List Part) → parts ≡ front (i + 1) → None ≡ pool_now w all parts (part_of x) → pools ++ pools_from w all (front i) (back i) ≡ target → pools ≡ target
  stops_there pools target parts is none so_far =
      sym (append-nil pools)
      ∙ ap (λ (l : List (List Input)). pools ++ l) (sym (next parts is ∙ ap (λ (o : Option (List Input)). or_end o (pools_from w all (front (i + 1)) (back (i + 1)))) (sym none)))
      ∙ so_far

  pub comes_next : (pools more target : List (List Input)) (tables : List Input) (parts : List Part) → parts ≡ front (i + 1) → Some tables ≡ pool_now w all parts (part_of x) → more ≡ pools ++ tables ∷ [] → pools ++ pools_from w all (front i) (back i) ≡ target
      → more ++ pools_from w all (front (i + 1)) (back (i + 1)) ≡ target
  comes_next pools more target tables parts is there more_is so_far =
      let rest = pools_from w all (front (i + 1)) (back (i + 1)) in
      ap (λ (l : List (List Input)). l ++ rest) more_is
      ∙ append_assoc pools (tables ∷ []) rest
      ∙ ap (λ (l : List (List Input)). pools ++ l) (sym (next parts is ∙ ap (λ (o : Option (List Input)). or_end o rest) (sym there)))
      ∙ so_far

pub all_come : (w : World) (all : List Planned) (works : List Work) (i : ℕ) (pools target : List (List Input)) → length works ≤ i → pools ++ pools_from w all (map part_of (take i works)) (map part_of (drop i works)) ≡ target → pools ≡ target
all_come w all works i pools target le so_far =
    sym (append-nil pools)
    ∙ sym (ap (λ (l : List Work). pools ++ pools_from w all (map part_of (take i works)) (map part_of l)) (drop_all i works le))
    ∙ so_far

-- one more pool, which is that of one more model
module _ (pools : List (List Input)) (t : List Input) where
  abbrev more : List (List Input)
  more = pools ++ t ∷ []

  both : (a b : Bool) → (a && b) ≡ true → (a ≡ true) × (b ≡ true)
  both true true h = (refl, refl)
  both true false h = cc
  both false b h = cc

  same_pools : (numbers : List ℕ) → list_all (λ n. nat_lt n (length pools)) numbers ≡ true → map (pool_at more) numbers ≡ map (pool_at pools) numbers
  same_pools [] h = refl
  same_pools (n ∷ ns) h =
      let b = both (nat_lt n (length pools)) (list_all (λ k. nat_lt k (length pools)) ns) h in
      λ i. get_or_append_left pools (t ∷ []) [] n (ltb-true n (length pools) b.0) i ∷ same_pools ns b.1 i

  still_there : (numbers : List ℕ) → list_all (λ n. nat_lt n (length pools)) numbers ≡ true → list_all (λ n. nat_lt n (length more)) numbers ≡ true
  still_there [] h = refl
  still_there (n ∷ ns) h =
      let b = both (nat_lt n (length pools)) (list_all (λ k. nat_lt k (length pools)) ns) h in
      let lt : n < length more = omega (arith, ltb-true n (length pools) b.0, length-append pools (t ∷ [])) in
      rw (lt-ltb n (length more) lt) (still_there ns b.1)

module _ (p q : Pooled) (t : List Input) (there : are_there p ≡ true) (pools : q.pools ≡ p.pools ++ t ∷ []) (numbers : q.numbers ≡ p.numbers ++ length p.pools ∷ []) where
  pub pool_more : each_pool q ≡ each_pool p ++ t ∷ []
  pool_more =
      (λ i. map (pool_at (pools i)) (numbers i))
      ∙ map-append (pool_at (p.pools ++ t ∷ [])) p.numbers (length p.pools ∷ [])
      ∙ (λ i. same_pools p.pools t p.numbers there i ++ get_or-append_seam p.pools t [] [] i ∷ [])

  pub there_more : are_there q ≡ true
  there_more =
      let lt : length p.pools < length (p.pools ++ t ∷ []) = omega (arith, length-append p.pools (t ∷ [])) in
      (λ i. list_all (λ n. nat_lt n (length (pools i))) (numbers i))
      ∙ list_all-append (λ n. nat_lt n (length (p.pools ++ t ∷ []))) p.numbers (length p.pools ∷ [])
      ∙ rw (still_there p.pools t p.numbers there) (rw (lt-ltb (length p.pools) (length (p.pools ++ t ∷ [])) lt) refl)

-- one more model has the last pool
module _ (p q : Pooled) (any : 0 < length p.pools) (there : are_there p ≡ true) (pools : q.pools ≡ p.pools) (numbers : q.numbers ≡ p.numbers ++ (length p.pools - 1) ∷ []) where
  pub pool_again : each_pool q ≡ each_pool p ++ last_pool p ∷ []
  pool_again = (λ i. map (pool_at (pools i)) (numbers i)) ∙ map-append (pool_at p.pools) p.numbers ((length p.pools - 1) ∷ [])

  pub there_again : are_there q ≡ true
  there_again =
      let lt : length p.pools - 1 < length p.pools = omega (arith, any) in
      (λ i. list_all (λ n. nat_lt n (length (pools i))) (numbers i))
      ∙ list_all-append (λ n. nat_lt n (length p.pools)) p.numbers ((length p.pools - 1) ∷ [])
      ∙ rw there (rw (lt-ltb (length p.pools - 1) (length p.pools) lt) refl)

  pub last_again : last_pool q ≡ last_pool p
  last_again = λ i. pool_at (pools i) (length (pools i) - 1)

pub last_added : (p q : Pooled) (t : List Input) → q.pools ≡ p.pools ++ t ∷ [] → last_pool q ≡ t
last_added p q t pools =
    let n : length (p.pools ++ t ∷ []) - 1 ≡ length p.pools = omega (arith, length-append p.pools (t ∷ [])) in
    (λ i. pool_at (pools i) (length (pools i) - 1)) ∙ ap (pool_at (p.pools ++ t ∷ [])) n ∙ get_or-append_seam p.pools t [] []

-- two parts that read the same find the same
module _ (all : List Planned) (parts : List Part) (b p : Part) where
  abbrev m : Planned
  m = model_of p.node p.entry

  abbrev n : Planned
  n = model_of b.node b.entry

  abbrev ps : List Planned
  ps = parents_at all p.node.parents

  abbrev qs : List Planned
  qs = parents_at all b.node.parents

  same : (w : World) → AreAlike b.node p.node → tables_now w m ps ≡ tables_now w n qs
  same w alike = sym (λ i. option_map (λ (ts : List Input). map (declared w.sources) (alike.0 i) ++ ts) (each_there (map (table_now w) (parents_at all (alike.1 i)))))

  pub finds_alike : reads b ≡ true → reads p ≡ true → AreAlike b.node p.node → are_read_later parts ps ≡ false → FindsSame all parts b p
  finds_alike first second alike later w others tables found =
      ap (λ (r : Bool). cond r (parents_now w parts m ps) (Some [])) second
      ∙ ap (λ (l : Bool). cond l None (tables_now w m ps)) later
      ∙ same w alike
      ∙ by (are_read_later others qs) (ap (λ (r : Bool). cond r (parents_now w others n qs) (Some [])) (sym first) ∙ found)
    where
      by : (l : Bool) → cond l None (tables_now w n qs) ≡ Some tables → tables_now w n qs ≡ Some tables
      by true h = absurd (let no : None ≡ Some tables = h in cc)
      by false h = h

pub goes_some : (all : List Planned) (parts : List Part) (o : Option Work) (p : Part) → GoesOn all parts o p → (b : Work) × (o ≡ Some b) × FindsSame all parts (part_of b) p
goes_some all parts None p goes = absurd goes
goes_some all parts (Some b) p goes = (b, refl, goes)

pub at_last : (w : World) (all : List Planned) (parts : List Part) (x b : Work) (tables last : List Input) → Some x ≡ Some b → pool_now w all parts (part_of x) ≡ Some tables → last ≡ tables → pool_now w all parts (part_of b) ≡ Some last
at_last w all parts x b tables last is found same =
    let here : x ≡ b = (let k : Some x ≡ Some b = is in cc) in
    ap (λ (y : Work). pool_now w all parts (part_of y)) (sym here) ∙ found ∙ ap Some (sym same)
