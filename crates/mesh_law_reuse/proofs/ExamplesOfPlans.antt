-- A plan, worked out by hand: a model gains a column, and what reads another column of it is given the table that it
-- had.
use Rattle.std.proofs.Common.{◌≡◌, ℕ, pos, true, ◌⊎◌, inl, inr, List, [], ◌∷◌, map, length, refl, ap, ◌∙◌, subst, arith}
use Rattle.std.specs.Prelude.{codes}
use Rattle.std.specs.List.{All, AllByRecursion, Contains, fold}
use Rattle.std.specs.declared.option.Option.TheVariants.{None, Some}
use Rattle.hex.specs.Hex.{encode_with}
use Rattle.mesh_base_values.specs.Picked.{same_text}
use Rattle.mesh_base.specs.Keys.{snapshot_ref}
use Rattle.mesh_base.specs.declared.plans.Category.TheVariants.{Unchanged, NonBreaking, IndirectNonBreaking}
use Rattle.mesh_base.specs.declared.snapshots.Node.{Node}
use Rattle.mesh_base.specs.declared.snapshots.Ref.{Ref}
use Rattle.mesh_base.specs.declared.snapshots.Snapshot.{Snapshot}
use Rattle.mesh_base.specs.rules.Proper.{is_proper}
use Rattle.mesh_base.specs.rules.Seen.{is_select_seen, select_sees}
use Rattle.mesh_house_book.specs.Changes.{put_snapshot}
use Rattle.mesh_house_book.specs.WellFormed.{is_well_formed_book, snapshot_at}
use Rattle.mesh_house_book.specs.declared.book.Book.{Book}
use Rattle.mesh_spec_model.specs.Closures.{Closure, closures, own_of}
use Rattle.mesh_spec_model.specs.Horizons.{Clock}
use Rattle.mesh_law_query.proofs.Has.{Has, Has_from}
use Rattle.mesh_law_query.proofs.Lists.{Each}
use Rattle.mesh_law_query.proofs.ReadColumns.{text_self}
use Rattle.mesh_spec_changes.specs.listed.Closing.{IsAlike, IsSnapshot, closing}
use Rattle.mesh_spec_changes.proofs.listed.Books.{is_its_own, its_ref}
use Rattle.mesh_spec_changes.specs.reuse.Cores.{IsTwin}
use Rattle.mesh_spec_changes.specs.due.Plans.{Planned}
use Rattle.mesh_spec_changes.specs.due.Versions.{node_ref}
use Rattle.mesh_spec_changes.specs.Changes.{Plan, parents_in, planned_ref, snapshot_of}
use Rattle.mesh_spec_changes.specs.Planning.{HasNoClash, HasObject, IsKept, IsPlan, IsRunPlan}
use Rattle.mesh_spec_changes.specs.Environments.{prod}
use Rattle.mesh_law_reuse.specs.Shared.{HasPut, IsOfPlan, SharesWithTwins}
use Rattle.mesh_law_reuse.specs.Well.{AreWell}
use Rattle.mesh_law_reuse.proofs.Books.{snapshots_well}
use Rattle.mesh_law_reuse.proofs.Examples.{defn_items, it_is_indirect, it_is_read, narrow, over, reader, rows, wide, wide_adds, x_is_seen, y_is_seen}
use Rattle.mesh_law_reuse.proofs.ExamplesOfBooks.{Where, each_kept, narrow_snapshot, print, production, reader_snapshot, seed_snapshot, shares, table, where_it_is, with_snapshots}
use Rattle.mesh_law_reuse.proofs.Given.{given_twins, run_twins}
use Rattle.mesh_law_reuse.proofs.Projects.{projects_well}
use Rattle.mesh_law_reuse.proofs.Puts.{are_put}
use Rattle.mesh_law_reuse.proofs.Putting.{shares_after}
use Rattle.mesh_law_reuse.proofs.Single.{single}

-- the book of production, before `p` gains a column
abbrev pub before : Book
before = with_snapshots (reader_snapshot ∷ narrow_snapshot ∷ seed_snapshot ∷ [])

-- that book is well formed
pub before_is_well : is_well_formed_book before ≡ true
unfolding is_select_seen select_sees
before_is_well = simp (it_is_read, x_is_seen) refl

-- in it no table is shared, so each is with twins alone
pub before_shares_with_twins : SharesWithTwins before
before_shares_with_twins = shares before (((refl, refl), (tt, (tt, tt))), ((tt, ((refl, refl), (tt, tt))), ((tt, (tt, ((refl, refl), tt))), tt)))

-- the project in which it has y too
abbrev node : Closure → ℕ → List ℕ → ℕ → Node
node c n parents rank = record { own = own_of c; parents = parents; rank = rank; fingerprint = print n }

abbrev seed_node : Node
seed_node = node rows 1 [] 0

abbrev wide_node : Node
wide_node = node wide 4 (0 ∷ []) 1

abbrev reader_node : Node
reader_node = node (over reader wide) 5 (1 ∷ []) 2

abbrev pub nodes : List Node
nodes = seed_node ∷ wide_node ∷ reader_node ∷ []

-- that project is proper
pub it_is_proper : is_proper nodes ≡ true
unfolding is_select_seen select_sees
it_is_proper = simp (it_is_read, x_is_seen, y_is_seen) refl

-- its plan for another environment: `p` has a new table, and the other two have those of production
abbrev seed_model : Planned
seed_model = record { node = seed_node; closure = rows; object = table (codes "t1") }

abbrev wide_model : Planned
wide_model = record { node = wide_node; closure = wide; object = table (codes "a__p__0400000000000000") }

abbrev reader_model : Planned
reader_model = record { node = reader_node; closure = over reader wide; object = table (codes "g3") }

abbrev pub plan : Plan
plan = record { env = codes "dev"; moment = pos 0; models = seed_model ∷ wide_model ∷ reader_model ∷ []; forgets = [] }

-- the categories give the tables
abbrev byte : List ℕ → ℕ
byte [] = 0
byte (b ∷ bs) = b

prints_differ : (n m : ℕ) → ¬ (n ≡ m) → ¬ (print n ≡ print m)
prints_differ n m differ e = differ (ap byte e)

they_differ : ¬ (own_of narrow ≡ own_of wide)
they_differ e = let n : 1 ≡ 2 = ap (λ o. defn_items o.defn) e in absurd (omega (arith, n))

seed_object : HasObject before plan.env seed_model
seed_object = record { category = Unchanged; is = (λ e. tt, λ d. absurd (d refl)); object = refl }

wide_object : HasObject before plan.env wide_model
unfolding encode_with
wide_object = record { category = NonBreaking; is = (λ e. absurd (prints_differ 2 4 (λ n. omega (arith, n)) e), λ d. (they_differ, wide_adds)); object = refl }

reader_object : HasObject before plan.env reader_model
reader_object = record { category = IndirectNonBreaking; is = it_is_indirect (print 3) (print 5) (prints_differ 3 5 (λ n. omega (arith, n))); object = refl }

-- and no fingerprint stands for two models, where each snapshot and each model is looked at
abbrev refs : Planned → List Ref
refs p = map planned_ref (parents_in plan.models p)

abbrev OfSnapshot : Planned → Snapshot → Type 0
OfSnapshot p s = (s.own ≡ p.node.own) × (s.parents ≡ refs p)

abbrev OfModel : Planned → Planned → Type 0
OfModel p q = (q.node.own ≡ p.node.own) × (refs q ≡ refs p)

abbrev Same : Planned → List ℕ → Type 0 → Type 0
Same p f P = Where (same_text f p.node.fingerprint) P

of_same : (p : Planned) (f : List ℕ) (P : Type 0) → Same p f P → f ≡ p.node.fingerprint → P
of_same p f P h e = where_it_is (same_text f p.node.fingerprint) P (ap (λ g. same_text g p.node.fingerprint) e ∙ text_self p.node.fingerprint) h

no_clash : (p : Planned) → Each (λ s. Same p s.fingerprint (OfSnapshot p s)) before.snapshots → Each (λ (q : Planned). Same p q.node.fingerprint (OfModel p q)) plan.models → HasNoClash before plan.models p
no_clash p stored given = record {
  stored = λ s known e. of_same p s.fingerprint (OfSnapshot p s) (each_kept (λ s. Same p s.fingerprint (OfSnapshot p s)) before.snapshots stored s known) e;
  given = each plan.models given;
}
  where
    each : (all : List Planned) → Each (λ (q : Planned). Same p q.node.fingerprint (OfModel p q)) all → AllByRecursion (λ (q : Planned). q.node.fingerprint ≡ p.node.fingerprint → OfModel p q) all
    each [] h = tt
    each (q ∷ all) h = (of_same p q.node.fingerprint (OfModel p q) h.0, each all h.1)

-- so it is the project's plan, at any clock
pub it_is_planned : (clock : Clock) → IsPlan clock before nodes None plan
it_is_planned clock = record {
  models = refl;
  closed = refl;
  objects = (seed_object, (wide_object, (reader_object, tt)));
  clashes = (
    no_clash seed_model (tt, (tt, ((refl, refl), tt))) ((refl, refl), (tt, (tt, tt))),
    (
      no_clash wide_model (tt, (tt, (tt, tt))) (tt, ((refl, refl), (tt, tt))),
      (no_clash reader_model (tt, (tt, (tt, tt))) (tt, (tt, ((refl, refl), tt))), tt),
    ),
  );
  forgets = refl;
}

-- the book once the snapshots of the plan are put
abbrev pub after : Book
after = fold put_snapshot before (map (snapshot_of (pos 0) plan.models) plan.models)

-- it has five, of which the two of `g` share a table
pub their_tables : map (λ (s : Snapshot). s.object.model) after.snapshots ≡ codes "g3" ∷ codes "g3" ∷ codes "p2" ∷ codes "a__p__0400000000000000" ∷ codes "t1" ∷ []
their_tables = refl

-- it is well formed
pub after_is_well : is_well_formed_book after ≡ true
unfolding is_select_seen select_sees
after_is_well = simp (it_is_read, x_is_seen, y_is_seen) refl

-- it has the three of before, and beside them those of the plan's models, of which the seed's is put again
pub it_puts : HasPut (pos 0) plan.models before after
it_puts = record {
  kept = λ r p known. subst (λ r. IsAlike after.snapshots r p) (its_ref before.snapshots r p known)
      (each_kept (λ s. IsAlike after.snapshots (snapshot_ref s) s) before.snapshots (alike reader_snapshot refl, (alike narrow_snapshot refl, (again, tt))) p (is_its_own before.snapshots r p known));
  each = each_kept (λ s. IsSnapshot before.snapshots s ⊎ IsOfPlan (pos 0) plan.models s) after.snapshots
      (inl refl, (inr (reader_model, (2, omega arith, refl), refl), (inl refl, (inr (wide_model, (1, omega arith, refl), refl), (inr (seed_model, (0, omega arith, refl), refl), tt)))));
}
  where
    alike : (s : Snapshot) → IsSnapshot after.snapshots s → IsAlike after.snapshots (snapshot_ref s) s
    alike s known = record { snapshot = s; known = known; own = refl; parents = refl; rank = refl }

    again : IsAlike after.snapshots (snapshot_ref seed_snapshot) seed_snapshot
    again = record { snapshot = snapshot_of (pos 0) plan.models seed_model; known = refl; own = refl; parents = refl; rank = refl }

-- the models of the project are well formed with all that they stand on, by the law
pub the_project_is_well : All AreWell (closures nodes)
the_project_is_well = projects_well nodes it_is_proper

-- and so are the snapshots of the book after the plan
pub the_book_is_well : (s : Snapshot) → IsSnapshot after.snapshots s → AreWell (closing after.snapshots s)
the_book_is_well = snapshots_well after after_is_well

module _ (clock : Clock) where
  -- the table that `g` is given is that of a twin, by the law
  pub its_table_is_of_a_twin : IsTwin (over reader narrow) (over reader wide)
  its_table_is_of_a_twin = (given_twins clock before nodes None plan before_is_well it_is_proper (it_is_planned clock) before_shares_with_twins reader_model (2, omega arith, refl) reader_snapshot refl refl).1

  -- no two models are given one table, by the law
  pub each_has_its_table : (p q : Planned) → Contains plan.models p → Contains plan.models q → p.object ≡ q.object → p ≡ q
  each_has_its_table = single clock before nodes None plan before_is_well it_is_proper (it_is_planned clock) before_shares_with_twins

  -- putting the snapshot of the wider model alone puts those of the plan's models, by the law
  pub one_is_put : HasPut (pos 0) plan.models before (put_snapshot before (snapshot_of (pos 0) plan.models wide_model))
  one_is_put = are_put clock before nodes None plan (pos 0) before_is_well it_is_proper (it_is_planned clock) (wide_model ∷ []) (λ p h. subst (Contains plan.models) (its_one p (Has_from (wide_model ∷ []) p h)) (1, omega arith, refl))
    where
      its_one : (p : Planned) → Has p (wide_model ∷ []) → wide_model ≡ p
      its_one p (inl e) = e
      its_one p (inr h) = absurd h

  -- in the book after the plan tables are shared with twins again, by the law
  pub after_shares_with_twins : SharesWithTwins after
  after_shares_with_twins = shares_after clock before after nodes None plan (pos 0) before_is_well it_is_proper (it_is_planned clock) before_shares_with_twins after_is_well it_puts

-- the plan of a run of production: its three models as they are
abbrev kept : Closure → Snapshot → List ℕ → Planned
kept c s parents = record { node = record { own = s.own; parents = parents; rank = s.rank; fingerprint = s.fingerprint }; closure = c; object = s.object }

abbrev narrow_model : Planned
narrow_model = kept narrow narrow_snapshot (0 ∷ [])

abbrev pub run : Plan
run = record { env = prod; moment = pos 0; models = kept rows seed_snapshot [] ∷ narrow_model ∷ kept (over reader narrow) reader_snapshot (1 ∷ []) ∷ []; forgets = [] }

is_kept : (s : Snapshot) (p : Planned) → snapshot_at before.snapshots (node_ref p.node) ≡ Some s → s.own ≡ p.node.own → s.rank ≡ p.node.rank → s.object ≡ p.object → closing before.snapshots s ≡ p.closure → IsKept before p
is_kept s p known own rank object closure = record { snapshot = s; known = known; own = own; rank = rank; object = object; closure = closure }

-- it is the plan of that run, at any clock
pub it_is_run : (clock : Clock) → IsRunPlan clock before run
it_is_run clock = record {
  env = production;
  known = refl;
  nodes = refl;
  closed = refl;
  models = (is_kept seed_snapshot _ refl refl refl refl refl, (is_kept narrow_snapshot _ refl refl refl refl refl, (is_kept reader_snapshot _ refl refl refl refl refl, tt)));
  forgets = refl;
}

-- each snapshot that has the table of `p` in that run is of a twin of it, by the law
pub run_is_of_twins : (clock : Clock) (s : Snapshot) → IsSnapshot before.snapshots s → s.object ≡ narrow_snapshot.object → (s.name ≡ narrow_snapshot.name) × IsTwin (closing before.snapshots s) narrow
run_is_of_twins clock = run_twins clock before run (it_is_run clock) before_shares_with_twins narrow_model (1, omega arith, refl)
