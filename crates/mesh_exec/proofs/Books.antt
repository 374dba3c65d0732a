-- A plan whose dues and entries are those of a book makes the changes that the book's plan asks for.
use Rattle.std.proofs.Common.{◌≡◌, ⊎_elim, ◌≤◌, ◌<◌, ◌+◌, ◌+ℤ◌, pos, ℕ, zero, suc, ℤ, Bool, true, false, cond, nat_eq, List, [], ◌∷◌, ◌++◌, length, map, Some, None, refl, sym, ap, ◌∙◌, arith, add-one, length-append}
use Rattle.std.specs.Prelude.{◌&&◌, not}
use Rattle.std.specs.List.{AllByRecursion, flat_map, fold, slice_get}
use Rattle.std.specs.Option.{option_map, option_to_list}
use Rattle.std.specs.declared.option.Option.{Option}
use Rattle.std.proofs.lemmas.List.{map-append}
use Rattle.std.proofs.lemmas.Bool.{eq-eqb}
use Rattle.std.proofs.lemmas.Bool.Decides.{eqb_tells}
use Rattle.mesh_base_values.specs.declared.kinds.Kind.{Kind}
use Rattle.mesh_base_values.specs.declared.kinds.Kind.TheVariants.{Full, View, Seed, Incremental}
use Rattle.mesh_base_values.specs.declared.times.Bounds.{Bounds}
use Rattle.mesh_base.specs.Outputs.{columns_of}
use Rattle.mesh_base.specs.declared.forgets.Forget.{Forget}
use Rattle.mesh_base.specs.declared.forgets.Forget.TheVariants.{Range, Marks}
use Rattle.mesh_base.specs.declared.jobs.Input.{Input}
use Rattle.mesh_base.specs.declared.plans.Due.{Due}
use Rattle.mesh_base.specs.declared.plans.Entry.{Entry}
use Rattle.mesh_base.specs.declared.snapshots.Node.{Node}
use Rattle.mesh_base.specs.declared.rules.plans.Plan.{Plan}
use Rattle.mesh_house_book.specs.declared.book.Book.{Book}
use Rattle.mesh_spec_model.specs.Closures.{Closure, Model, Alone, closures, parents_at as closures_at, with_model}
use Rattle.mesh_spec_model.specs.Horizons.{Clock}
use Rattle.mesh_spec_model.specs.Scratch.{defn_rows, no_bounds, piece_over}
use Rattle.mesh_spec_model.specs.Sources.{inputs}
use Rattle.mesh_house.specs.declared.world.Change.{Change}
use Rattle.mesh_house.specs.declared.world.Change.TheVariants.{MakeView, PutSnapshot, ReplaceRows, WriteRange, RecordRange, RecordMarks, Moment}
use Rattle.mesh_house.specs.declared.world.World.{World}
use Rattle.mesh_house.specs.Step.{run}
use Rattle.mesh_house.specs.World.{version_of}
use Rattle.mesh_spec_changes.specs.shown.Shown.{each_there}
use Rattle.mesh_spec_changes.specs.due.Dues.{due, due_at, due_of, dues_from}
use Rattle.mesh_spec_changes.specs.due.Marks.{marks}
use Rattle.mesh_spec_changes.specs.due.Parts.{object_of, unit_of}
use Rattle.mesh_spec_changes.specs.due.Plans.{Planned, is_made, planned_by}
use Rattle.mesh_spec_changes.specs.Changes.{ascending, executes as book_executes, fill, fills as book_fills, followed, forgetting, is_any as is_any_part, makes, opens, parent_table, planned_ref, puts, run_opens, snapshot_of, tables_for, target_of}
use Rattle.mesh_spec_changes.specs.Environments.{lifetime}
use Rattle.mesh_exec_works.specs.Dues.{behind, is_any, leading}
use Rattle.mesh_exec_works.specs.Written.{written}
use Rattle.mesh_exec_works.specs.Plain.{making, model_of, models, opened, parents_at, plain_models, puts_of}
use Rattle.mesh_exec_works.specs.Works.{Part, parts, parts_from}
use Rattle.mesh_exec.specs.Executed.{executed, executes, filled, fills, part_fills, part_rows}
use Rattle.mesh_exec.specs.Planned.{IsOf, as_planned, opens_of, planned_models}

-- the objects of some models are made and filled, and then come some last changes; nothing more comes where an object
-- dangles
abbrev pub ends : List Planned → List Change → List Part → World → List Change
ends all last [] w = last
ends all last (p ∷ ps) w = making all p ++ followed (run w (making all p)) (part_fills (run w (making all p)) all p) (ends all last ps)

nothing_last : (all : List Planned) (ps : List Part) (w : World) → executes all ps w ≡ ends all [] ps w
nothing_last all [] w = refl
nothing_last all (p ∷ ps) w = λ i. making all p ++ followed (run w (making all p)) (part_fills (run w (making all p)) all p) (λ v. nothing_last all ps v i)

-- a model without what it stands on
abbrev pub strip : Planned → Planned
strip q = record { node = q.node; closure = Model q.node.own Alone; object = q.object }

stripped : (ns : List Node) (cs : List Closure) (es : List Entry) → length ns ≤ length cs → map strip (planned_by ns cs es) ≡ plain_models ns es
stripped [] cs es le = refl
stripped (n ∷ ns) [] es le = absurd (omega arith)
stripped (n ∷ ns) (c ∷ cs) [] le = refl
stripped (n ∷ ns) (c ∷ cs) (e ∷ es) le = ap (λ l. model_of n e ∷ l) (stripped ns cs es (omega arith))

closed_many : (done : List Closure) (ns : List Node) → length (fold with_model done ns) ≡ length done + length ns
closed_many done [] = omega arith
closed_many done (n ∷ ns) = omega (arith, closed_many (with_model done n) ns, length-append done (Model n.own (closures_at done n.parents) ∷ []))

as_many_closures : (ns : List Node) → length ns ≤ length (closures ns)
as_many_closures ns = omega (arith, closed_many [] ns)

pub models_same : (p : Plan) → map strip (planned_models p) ≡ models p
models_same p = stripped p.project.nodes (closures p.project.nodes) p.entries (as_many_closures p.project.nodes)

-- what is said of a model's parents without their closures
module _ {B : Type 0} (g : Planned → B) (same : (q : Planned) → g (strip q) ≡ g q) where
  one : (all : List Planned) (i : ℕ) → map g (option_to_list (slice_get (map strip all) i)) ≡ map g (option_to_list (slice_get all i))
  one [] zero = refl
  one [] (suc i) = refl
  one (q ∷ qs) zero = ap (λ x. x ∷ []) (same q)
  one (q ∷ qs) (suc i) = one qs i

  at_places : (all : List Planned) (places : List ℕ) → map g (parents_at (map strip all) places) ≡ map g (parents_at all places)
  at_places all [] = refl
  at_places all (i ∷ is) =
      map-append g (option_to_list (slice_get (map strip all) i)) (parents_at (map strip all) is)
      ∙ (λ k. one all i k ++ at_places all is k)
      ∙ sym (map-append g (option_to_list (slice_get all i)) (parents_at all is))

makes_same : (all : List Planned) (q : Planned) (k : Kind) (made is_due : Bool) → makes made (map strip all) (strip q) k is_due ≡ makes made all q k is_due
makes_same all q View made is_due = λ i. cond (made && not is_due) [] (MakeView q.object (columns_of q.node.own) q.node.own (at_places target_of (λ x. refl) all q.node.parents i) ∷ [])
makes_same all q Full made is_due = refl
makes_same all q Seed made is_due = refl
makes_same all q (Incremental time lookback) made is_due = refl

tables_same : (w : World) (all : List Planned) (q : Planned) (k : Kind) → tables_for w (map strip all) (strip q) k ≡ tables_for w all q k
tables_same w all q View = refl
tables_same w all q Seed = refl
tables_same w all q Full = λ i. option_map (inputs w.sources q.node.own) (each_there (at_places (parent_table w) (λ x. refl) all q.node.parents i))
tables_same w all q (Incremental time lookback) = λ i. option_map (inputs w.sources q.node.own) (each_there (at_places (parent_table w) (λ x. refl) all q.node.parents i))

puts_same : (t : ℤ) (all ps : List Planned) → puts_of t (map strip all) (map strip ps) ≡ map (λ p. PutSnapshot (snapshot_of t all p)) ps
puts_same t all [] = refl
puts_same t all (p ∷ ps) =
    let parents = at_places planned_ref (λ x. refl) all p.node.parents in
    λ i. PutSnapshot (record {
      name = p.node.own.name;
      fingerprint = p.node.fingerprint;
      own = p.node.own;
      parents = parents i;
      rank = p.node.rank;
      object = p.object;
      expires = t +ℤ pos lifetime;
    }) ∷ puts_same t all ps i

-- a due part is filled as the book's plan says it
module _ (clock : Clock) (q : Planned) (place : ℕ) where
  fill_one : (k : Kind) (ts : List Input) (x : Forget) → object_of x ≡ q.object → written (strip q) k (due_at clock place q x) (ascending (part_rows (strip q) ts (due_at clock place q x))) ≡ fill clock q k ts x
  fill_one (Incremental time lookback) ts (Range object start end) is =
      λ i. WriteRange (sym is i) time start end (ascending (piece_over q.node.own ts (record { start = start; end = end }))) ∷ RecordRange (sym is i) start end ∷ []
  fill_one Full ts (Range object start end) is = refl
  fill_one View ts (Range object start end) is = refl
  fill_one Seed ts (Range object start end) is = refl
  fill_one (Incremental time lookback) ts (Marks object) is = refl
  fill_one View ts (Marks object) is = λ i. RecordMarks (sym is i) (marks clock q.closure) ∷ []
  fill_one Full ts (Marks object) is = λ i. ReplaceRows (sym is i) (ascending (defn_rows q.node.own.defn ts no_bounds)) ∷ RecordMarks (sym is i) (marks clock q.closure) ∷ []
  fill_one Seed ts (Marks object) is = λ i. ReplaceRows (sym is i) (ascending (defn_rows q.node.own.defn ts no_bounds)) ∷ RecordMarks (sym is i) (marks clock q.closure) ∷ []

  abbrev AreIts : List Forget → Type 0
  AreIts xs = AllByRecursion (λ (x : Forget). object_of x ≡ q.object) xs

  units_are : (us : List Bounds) → AreIts (map (unit_of q.object) us)
  units_are [] = tt
  units_are (u ∷ us) = (refl, units_are us)

  either_are : (c : Bool) → AreIts (cond c [] (Marks q.object ∷ []))
  either_are true = tt
  either_are false = (refl, tt)

  kind_are : (b : Book) (forgets : List Forget) (k : Kind) → AreIts (due_of clock b forgets q k)
  kind_are b forgets (Incremental time lookback) = units_are _
  kind_are b forgets Full = either_are _
  kind_are b forgets View = either_are _
  kind_are b forgets Seed = either_are _

  flat_same : (ts : List Input) (xs : List Forget) → AreIts xs → flat_map (filled (strip q) ts) (map (due_at clock place q) xs) ≡ flat_map (fill clock q q.node.own.kind ts) xs
  flat_same ts [] are = refl
  flat_same ts (x ∷ xs) are = λ i. fill_one q.node.own.kind ts x are.0 i ++ flat_same ts xs are.1 i

  over_same : (o : Option (List Input)) (xs : List Forget) → AreIts xs → option_map (λ ts. flat_map (filled (strip q) ts) (map (due_at clock place q) xs)) o ≡ option_map (λ ts. flat_map (fill clock q q.node.own.kind ts) xs) o
  over_same None xs are = refl
  over_same (Some ts) xs are = ap Some (flat_same ts xs are)

  fills_same : (w : World) (all : List Planned) (xs : List Forget) → AreIts xs → fills w (map strip all) (strip q) (map (due_at clock place q) xs) ≡ book_fills clock w all q xs
  fills_same w all [] are = refl
  fills_same w all (x ∷ xs) are =
      ap (option_map (λ ts. flat_map (filled (strip q) ts) (map (due_at clock place q) (x ∷ xs)))) (tables_same w all q q.node.own.kind)
      ∙ over_same (tables_for w all q q.node.own.kind) (x ∷ xs) are

  any_same : (xs : List Forget) → is_any (map (due_at clock place q) xs) ≡ is_any_part xs
  any_same [] = refl
  any_same (x ∷ xs) = refl

  -- its due parts lead
  own_leads : (xs : List Forget) (rest : List Due) → leading place rest ≡ [] → leading place (map (due_at clock place q) xs ++ rest) ≡ map (due_at clock place q) xs
  own_leads [] rest h = h
  own_leads (Range object start end ∷ xs) rest h =
      ap (λ b. cond b (due_at clock place q (Range object start end) ∷ leading place (map (due_at clock place q) xs ++ rest)) []) (eq-eqb place place refl) ∙ ap (λ l. due_at clock place q (Range object start end) ∷ l) (own_leads xs rest h)
  own_leads (Marks object ∷ xs) rest h =
      ap (λ b. cond b (due_at clock place q (Marks object) ∷ leading place (map (due_at clock place q) xs ++ rest)) []) (eq-eqb place place refl) ∙ ap (λ l. due_at clock place q (Marks object) ∷ l) (own_leads xs rest h)

  own_gone : (xs : List Forget) (rest : List Due) → behind place rest ≡ rest → behind place (map (due_at clock place q) xs ++ rest) ≡ rest
  own_gone [] rest h = h
  own_gone (Range object start end ∷ xs) rest h =
      ap (λ b. cond b (behind place (map (due_at clock place q) xs ++ rest)) (due_at clock place q (Range object start end) ∷ (map (due_at clock place q) xs ++ rest))) (eq-eqb place place refl) ∙ own_gone xs rest h
  own_gone (Marks object ∷ xs) rest h =
      ap (λ b. cond b (behind place (map (due_at clock place q) xs ++ rest)) (due_at clock place q (Marks object) ∷ (map (due_at clock place q) xs ++ rest))) (eq-eqb place place refl) ∙ own_gone xs rest h

not_same : (a b : ℕ) → b < a → nat_eq a b ≡ false
not_same a b lt = ⊎_elim (λ t. absurd (omega (arith, t.1, lt))) (λ f. f.0) (eqb_tells a b)

module _ (clock : Clock) (b : Book) (forgets : List Forget) where
  -- later models' parts don't lead
  later_at : (place k : ℕ) (p : Planned) (xs : List Forget) (rest : List Due) → place < k → (leading place rest ≡ []) × (behind place rest ≡ rest)
      → (leading place (map (due_at clock k p) xs ++ rest) ≡ []) × (behind place (map (due_at clock k p) xs ++ rest) ≡ map (due_at clock k p) xs ++ rest)
  later_at place k p [] rest lt h = h
  later_at place k p (Range object start end ∷ xs) rest lt h = (
    ap (λ c. cond c (due_at clock k p (Range object start end) ∷ leading place (map (due_at clock k p) xs ++ rest)) []) (not_same k place lt),
    ap (λ c. cond c (behind place (map (due_at clock k p) xs ++ rest)) (due_at clock k p (Range object start end) ∷ (map (due_at clock k p) xs ++ rest))) (not_same k place lt),
  )
  later_at place k p (Marks object ∷ xs) rest lt h = (
    ap (λ c. cond c (due_at clock k p (Marks object) ∷ leading place (map (due_at clock k p) xs ++ rest)) []) (not_same k place lt),
    ap (λ c. cond c (behind place (map (due_at clock k p) xs ++ rest)) (due_at clock k p (Marks object) ∷ (map (due_at clock k p) xs ++ rest))) (not_same k place lt),
  )

  later_parts : (place k : ℕ) (ps : List Planned) → place < k → (leading place (dues_from k clock b forgets ps) ≡ []) × (behind place (dues_from k clock b forgets ps) ≡ dues_from k clock b forgets ps)
  later_parts place k [] lt = (refl, refl)
  later_parts place k (p ∷ ps) lt = later_at place k p (due clock b forgets p) (dues_from (k + 1) clock b forgets ps) lt (later_parts place (k + 1) ps (omega arith))

  -- model by model
  all_same : (all : List Planned) (last : List Change) (place : ℕ) (ns : List Node) (cs : List Closure) (es : List Entry) → length ns ≤ length cs → AllByRecursion (λ (e : Entry). e.made ≡ is_made (version_of b e.object)) es → (w : World)
      → ends (map strip all) last (parts_from place ns es (dues_from place clock b forgets (planned_by ns cs es))) w ≡ book_executes clock b forgets all last (planned_by ns cs es) w
  all_same all last place [] cs es le made w = refl
  all_same all last place (n ∷ ns) [] es le made w = absurd (omega arith)
  all_same all last place (n ∷ ns) (c ∷ cs) [] le made w = refl
  all_same all last place (n ∷ ns) (c ∷ cs) (e ∷ es) le made w =
      let q : Planned = record { node = n; closure = c; object = e.object } in
      let xs = due clock b forgets q in
      let rest = dues_from (place + 1) clock b forgets (planned_by ns cs es) in
      let later = later_parts place (place + 1) (planned_by ns cs es) (omega arith) in
      let lead = own_leads clock q place xs rest later.0 in
      let gone = own_gone clock q place xs rest later.1 in
      let next : behind place (map (due_at clock place q) xs ++ rest) ≡ dues_from (suc place) clock b forgets (planned_by ns cs es) = gone ∙ ap (λ k. dues_from k clock b forgets (planned_by ns cs es)) (add-one place) in
      let make : makes e.made (map strip all) (strip q) n.own.kind (is_any (map (due_at clock place q) xs)) ≡ makes (is_made (version_of b q.object)) all q n.own.kind (is_any_part xs) =
      (λ i. makes (made.0 i) (map strip all) (strip q) n.own.kind (any_same clock q place xs i)) ∙ makes_same all q n.own.kind (is_made (version_of b q.object)) (is_any_part xs) in
      (λ i. ends (map strip all) last (record { node = n; entry = e; dues = lead i } ∷ parts_from (suc place) ns es (next i)) w)
      ∙ (λ i. make i ++ followed (run w (make i)) (fills (run w (make i)) (map strip all) (strip q) (map (due_at clock place q) xs)) (ends (map strip all) last (parts_from (suc place) ns es (dues_from (suc place) clock b forgets (planned_by ns cs es)))))
      ∙ (let m = makes (is_made (version_of b q.object)) all q n.own.kind (is_any_part xs) in
      λ i. m ++ followed (run w m) (fills_same clock q place (run w m) all xs (kind_are clock q place b forgets n.own.kind) i) (λ v. all_same all last (suc place) ns cs es (omega arith) made.1 v i))

-- what comes first is what the book's plan has first
pub opens_same : (p : Plan) → opened p ≡ opens_of p
opens_same p =
    let all = planned_models p in
    let same = models_same p in
    (λ i. Moment p.moment ∷ (cond p.run [] (puts_of p.moment (sym same i) (sym same i)) ++ forgetting p.forgets))
    ∙ (λ i. Moment p.moment ∷ (cond p.run [] (puts_same p.moment all all i) ++ forgetting p.forgets))
    ∙ either p.run
  where
    either : (r : Bool) → Moment p.moment ∷ (cond r [] (puts p.moment (planned_models p)) ++ forgetting p.forgets) ≡ cond r (run_opens (as_planned p)) (opens (as_planned p))
    either true = refl
    either false = refl

-- with some last changes, which come where nothing dangles
pub ends_as_the_book : (clock : Clock) (b : Book) (p : Plan) → IsOf clock b p → (last : List Change) (w : World)
    → ends (models p) last (parts p) w ≡ book_executes clock b p.forgets (planned_models p) last (planned_models p) w
ends_as_the_book clock b p is last w =
    let ns = p.project.nodes in
    (λ i. ends (sym (models_same p) i) last (parts_from 0 ns p.entries (is.due i)) w)
    ∙ all_same clock b p.forgets (planned_models p) last 0 ns (closures ns) p.entries (as_many_closures ns) is.made w

pub as_the_book_asks : (clock : Clock) (b : Book) (p : Plan) → IsOf clock b p → (w : World) → executed p w ≡ opens_of p ++ book_executes clock b p.forgets (planned_models p) [] (planned_models p) (run w (opens_of p))
as_the_book_asks clock b p is w =
    (λ i. opens_same p i ++ nothing_last (models p) (parts p) (run w (opens_same p i)) i)
    ∙ ap (λ l. opens_of p ++ l) (ends_as_the_book clock b p is [] (run w (opens_of p)))
