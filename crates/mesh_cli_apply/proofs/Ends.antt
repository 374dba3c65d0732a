-- The changes of a plan's models with some last ones behind them, which come where nothing dangles.
use Rattle.std.proofs.Common.{◌≡◌, ◌≤◌, ℕ, ℤ, true, not, List, [], ◌∷◌, ◌++◌, length, Some, None, refl, sym, ap, ◌∙◌, arith, append_assoc, length-append}
use Rattle.std.specs.List.{flat_map, list_all}
use Rattle.std.specs.Option.{option_map}
use Rattle.std.specs.declared.option.Option.{Option}
use Rattle.mesh_base_values.specs.Kinds.{is_incremental}
use Rattle.mesh_base_values.specs.declared.kinds.Kind.{Kind}
use Rattle.mesh_base_values.specs.declared.kinds.Kind.TheVariants.{Full, View, Seed, Incremental}
use Rattle.mesh_base_values.proofs.Tests.{both_parts as is_both}
use Rattle.mesh_base.specs.rules.Proper.{is_body_of}
use Rattle.mesh_base.specs.declared.jobs.Input.{Input}
use Rattle.mesh_base.specs.declared.plans.Due.{Due}
use Rattle.mesh_base.specs.declared.plans.Due.TheVariants.{Whole, Unit as OfUnit}
use Rattle.mesh_house.specs.declared.world.Change.{Change}
use Rattle.mesh_house.specs.declared.world.World.{World}
use Rattle.mesh_house.specs.Step.{run}
use Rattle.mesh_spec_changes.specs.due.Plans.{Planned}
use Rattle.mesh_spec_changes.specs.Changes.{followed, tables_for}
use Rattle.mesh_exec_works.specs.Executable.{is_due_of}
use Rattle.mesh_exec_works.specs.Written.{written}
use Rattle.mesh_exec_works.specs.Plain.{making, model_of}
use Rattle.mesh_exec_works.specs.Works.{Part, are_fit, is_fit}
use Rattle.mesh_exec.specs.Executed.{executes, filled, fills, part_fills, part_filling, part_outline, parts_outline}
use Rattle.mesh_exec.proofs.Books.{ends}
use Rattle.mesh_exec.proofs.Stepping.{each_many, written_many}

-- what comes behind a list that is there, in the world that it leaves
abbrev pub after : World → Option (List Change) → (World → List Change) → List Change
after w None next = []
after w (Some list) next = next (run w list)

-- which of the last changes come behind those of some models: all, or none where an object dangles
abbrev pub tail : List Planned → List Change → List Part → World → List Change
tail all last [] w = last
tail all last (p ∷ ps) w = after (run w (making all p)) (part_fills (run w (making all p)) all p) (tail all last ps)

followed_by : (w : World) (o : Option (List Change)) (f g h : World → List Change) → ((v : World) → f v ≡ g v ++ h v) → followed w o f ≡ followed w o g ++ after w o h
followed_by w None f g h e = refl
followed_by w (Some list) f g h e = ap (λ (l : List Change). list ++ l) (e (run w list)) ∙ sym (append_assoc list (g (run w list)) (h (run w list)))

pub ends_are : (all : List Planned) (last : List Change) (ps : List Part) (w : World) → ends all last ps w ≡ executes all ps w ++ tail all last ps w
ends_are all last [] w = refl
ends_are all last (p ∷ ps) w =
    let v = run w (making all p) in
    let o = part_fills v all p in
    ap (λ (l : List Change). making all p ++ l) (followed_by v o (ends all last ps) (executes all ps) (tail all last ps) (ends_are all last ps))
    ∙ sym (append_assoc (making all p) (followed v o (executes all ps)) (after v o (tail all last ps)))

-- what fills some parts has as many changes as without rows
module _ (m : Planned) where
  abbrev bare : Due → List Change
  bare d = written m m.node.own.kind d []

  over_long : (o : Option (List Input)) (dues : List Due) (list : List Change) → option_map (λ tables. flat_map (filled m tables) dues) o ≡ Some list → length list ≡ length (flat_map bare dues)
  over_long None dues list h = absurd (cc)
  over_long (Some ts) dues list h =
      let e : flat_map (filled m ts) dues ≡ list = cc in
      ap length (sym e) ∙ each_many (filled m ts) bare (λ d. written_many m m.node.own.kind d _ []) dues

  fills_long : (w : World) (all : List Planned) (dues : List Due) (list : List Change) → fills w all m dues ≡ Some list → length list ≡ length (flat_map bare dues)
  fills_long w all [] list h = let e : [] ≡ list = cc in ap length (sym e)
  fills_long w all (d ∷ ds) list h = over_long (tables_for w all m m.node.own.kind) (d ∷ ds) list h

-- each due part that fits its model has a change
some_whole : (m : Planned) (k : Kind) (place : ℕ) (marks : List ℤ) → not (is_incremental k) ≡ true → 1 ≤ length (written m k (Whole place marks) [])
some_whole m (Incremental time lookback) place marks h = absurd (cc)
some_whole m View place marks h = omega arith
some_whole m Full place marks h = omega arith
some_whole m Seed place marks h = omega arith

some_unit : (m : Planned) (k : Kind) (place : ℕ) (start end : ℤ) → is_incremental k ≡ true → 1 ≤ length (written m k (OfUnit place start end) [])
some_unit m (Incremental time lookback) place start end h = omega arith
some_unit m View place start end h = absurd (cc)
some_unit m Full place start end h = absurd (cc)
some_unit m Seed place start end h = absurd (cc)

some_written : (m : Planned) (d : Due) → is_due_of (Some m.node) d ≡ true → 1 ≤ length (written m m.node.own.kind d [])
some_written m (Whole place marks) h = some_whole m m.node.own.kind place marks h
some_written m (OfUnit place start end) h = some_unit m m.node.own.kind place start end (is_both (is_incremental m.node.own.kind) _ h).0

-- where none of the tables is found, something is due
none_some : (w : World) (all : List Planned) (m : Planned) (dues : List Due) → fills w all m dues ≡ None → list_all (is_due_of (Some m.node)) dues ≡ true → 1 ≤ length (flat_map (bare m) dues)
none_some w all m [] h fit = absurd (cc)
none_some w all m (d ∷ ds) h fit =
    omega (arith, some_written m d (is_both (is_due_of (Some m.node) d) (list_all (is_due_of (Some m.node)) ds) fit).0, length-append (bare m d) (flat_map (bare m) ds))

-- where as many changes are made as there are without rows, nothing dangles, and the last ones come
pub all_come : (all : List Planned) (last : List Change) (ps : List Part) (w : World) → are_fit ps ≡ true → length (executes all ps w) ≡ length (parts_outline all ps) → tail all last ps w ≡ last
all_come all last [] w fit long = refl
all_come all last (p ∷ ps) w fit long = at (λ u many. all_come all last ps u both.1 many) (part_fills v all p) refl long
  where
    v : World
    v = run w (making all p)

    both : (is_fit p.node p.dues ≡ true) × (are_fit ps ≡ true)
    both = is_both (is_fit p.node p.dues) (are_fit ps) fit

    at : ((u : World) → length (executes all ps u) ≡ length (parts_outline all ps) → tail all last ps u ≡ last)
        → (o : Option (List Change)) → part_fills v all p ≡ o → length (making all p ++ followed v o (executes all ps)) ≡ length (part_outline all p ++ parts_outline all ps) → after v o (tail all last ps) ≡ last
    at next None is many =
        let some_ = none_some v all (model_of p.node p.entry) p.dues is (is_both (is_body_of p.node.own.kind p.node.own.defn) (list_all (is_due_of (Some p.node)) p.dues) both.0).1 in
        absurd (omega (arith, some_, many, length-append (making all p) [], length-append (part_outline all p) (parts_outline all ps), length-append (making all p) (part_filling p)))
    at next (Some list) is many =
        let same = fills_long (model_of p.node p.entry) v all p.dues list is in
        next (run v list)
        (omega (
          arith,
          same,
          many,
          length-append (making all p) (list ++ executes all ps (run v list)),
          length-append list (executes all ps (run v list)),
          length-append (part_outline all p) (parts_outline all ps),
          length-append (making all p) (part_filling p),
        ))
