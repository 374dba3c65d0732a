-- What comes of a command and of the next ones.
use Rattle.std.proofs.Common.{◌≡◌, ℕ, true, false, List, ◌++◌, Ok, Err, Some, None, Result, refl, sym, ap, subst}
use Rattle.std.specs.Prelude.{IfOk}
use Rattle.std.specs.Option.{unwrap_or}
use Rattle.std.specs.declared.option.Option.{Option}
use Rattle.mesh_base_values.specs.declared.values.Cell.{Cell}
use Rattle.mesh_base_values.specs.declared.values.Name.{Name}
use Rattle.mesh_io.specs.declared.files.File.{File}
use Rattle.mesh_house.specs.declared.memory.MemHouse.{MemHouse}
use Rattle.mesh_house.specs.declared.world.Change.{Change}
use Rattle.mesh_house.specs.declared.world.World.{World}
use Rattle.mesh_house.specs.Memory.{memory_told, memory_world}
use Rattle.mesh_house.specs.Sources.{are_plain}
use Rattle.mesh_house.specs.Step.{run}
use Rattle.mesh_layer.specs.Shows.{Tells}
use Rattle.mesh_layer.specs.Asked.{lost_view, shown_view}
use Rattle.mesh_cli_print.specs.declared.printed.refusals.Refusal.{Refusal}
use Rattle.mesh_cli_print.specs.declared.printed.refusals.Refusal.TheVariants.{ObjectMissing}
use Rattle.mesh_cli_print.specs.printed.Refusals.{refusal_line}
use Rattle.mesh_cli_answer.specs.Answers.{Answers, is_fault}
use Rattle.mesh_house.specs.House.{Told}
use Rattle.mesh_house.specs.World.{empty_world}
use Rattle.mesh_cli.specs.demo.Demos.{Counted, IsCounted, IsDemo, Loaded, Then, done, refused, shown_or, totals_view}
use Rattle.mesh_cli.specs.demo.Lines.{head_line}
use Rattle.mesh_cli.specs.demo.Shop.{shop}

-- a house in memory tells its world, whose sources have names that sources may have
pub tells : (h : MemHouse) → are_plain (memory_world h).sources ≡ true → Tells (memory_told h) (memory_world h)
tells h plain = record { world = refl; plain = plain }

module _ {outside : Type 0} (makes : World → List Change → Type 0) (gives : World → Result (List ℕ) Refusal → Type 0) (line : List ℕ → List ℕ) (rest : World → List ℕ → Type 0)
    (a b : MemHouse) (plain : are_plain (memory_world a).sources ≡ true) where
  -- the command was done, and the rest stands behind its line
  went : (answer more text : List ℕ) → Answers outside makes gives (memory_told a) (memory_told b) (Ok answer) → rest (memory_world b) more → text ≡ line answer ++ more → Then makes gives line rest (memory_world a) text
  went answer more text by so is =
      let made = by.made (memory_world a) (tells a plain) in
      let world : memory_world b ≡ run (memory_world a) made.0 = ap (λ (o : Option World). unwrap_or o (memory_world b)) (made.2).world in
      subst (Then makes gives line rest (memory_world a)) (sym is) (done answer made.0 more (by.given (memory_world a) (tells a plain)) made.1 (subst (λ (w : World). rest w more) world so))

  pub went_on : {E F : Type 0} (answer : List ℕ) (later : Result (List ℕ) E) (text : Result (List ℕ) F) → Answers outside makes gives (memory_told a) (memory_told b) (Ok answer) → IfOk later (rest (memory_world b))
      → IfOk text (λ t. (more : List ℕ) × (later ≡ Ok more) × (t ≡ line answer ++ more)) → IfOk text (Then makes gives line rest (memory_world a))
  went_on answer later (Ok text) by so is = went answer is.0 text by (subst (λ (l : Result (List ℕ) _). IfOk l (rest (memory_world b))) is.1 so) is.2
  went_on answer later (Err e) by so is = tt

  -- the command prints nothing, and the rest is all
  pub went_by : {E : Type 0} (answer : List ℕ) (text : Result (List ℕ) E) → ((t : List ℕ) → line answer ++ t ≡ t) → Answers outside makes gives (memory_told a) (memory_told b) (Ok answer)
      → IfOk text (rest (memory_world b)) → IfOk text (Then makes gives line rest (memory_world a))
  went_by answer (Ok text) none by so = went answer text text by so (sym (none text))
  went_by answer (Err e) none by so = tt

  -- the command was refused, and the text ends with that
  pub ended_by : {E : Type 0} (r : Refusal) (text : Result (List ℕ) E) → Answers outside makes gives (memory_told a) (memory_told b) (Err r)
      → IfOk text (λ t. (is_fault r ≡ false) × (t ≡ refusal_line r)) → IfOk text (Then makes gives line rest (memory_world a))
  ended_by r (Ok text) by is = subst (Then makes gives line rest (memory_world a)) (sym is.1) (refused r is.0 (by.given (memory_world a) (tells a plain) is.0))
  ended_by r (Err e) by is = tt

-- the totals can't be counted, since an object is missing: the text ends with that
pub not_counted : {E : Type 0} (w : World) (object v : Name) (text : Result (List ℕ) E) → v ≡ totals_view → (shown_view w v ≡ None) × (lost_view w v ≡ Some object)
    → IfOk text (λ t. (is_fault (ObjectMissing object) ≡ false) × (t ≡ refusal_line (ObjectMissing object))) → IfOk text (Counted w)
not_counted w object v (Ok text) is missing by =
    let none : shown_view w totals_view ≡ None = subst (λ (n : Name). shown_view w n ≡ None) is missing.0 in
    let lost : lost_view w totals_view ≡ Some object = subst (λ (n : Name). lost_view w n ≡ Some object) is missing.1 in
    subst (λ (o : Option (Option (List (List Cell)))). IsCounted (shown_or o (lost_view w totals_view)) text) (sym none) (subst (λ (o : Option Name). IsCounted (shown_or None o) text) (sym lost) by)
not_counted w object v (Err e) is missing by = tt

-- what comes of the same files
pub still : {E : Type 0} (P : Option (List File) → World → List ℕ → Type 0) (files now : Option (List File)) (w : World) (text : Result (List ℕ) E) → now ≡ files → IfOk text (P now w) → IfOk text (P files w)
still P files now w text is so = subst (λ (o : Option (List File)). IfOk text (P o w)) is so

-- what a command answers of a value that is this one
pub at_value : {X outside : Type 0} (makes : X → World → List Change → Type 0) (gives : X → World → Result (List ℕ) Refusal → Type 0) (a b : Told) (r : Result (List ℕ) Refusal) (x y : X) → x ≡ y
    → Answers outside (makes x) (gives x) a b r → Answers outside (makes y) (gives y) a b r
at_value {X = X} {outside = outside} makes gives a b r x y is by = subst (λ (z : X). Answers outside (makes z) (gives z) a b r) is by

-- what comes of the commands over the project's files, from the empty world, behind the first line
pub is_demo : {E : Type 0} (n : ℕ) (files : Option (List File)) (w : World) (rest : List ℕ) (text : Result (List ℕ) E) → files ≡ Some (shop n) → w ≡ empty_world → Loaded files w rest
    → IfOk text (λ t. t ≡ head_line n ++ rest) → IfOk text (IsDemo n)
is_demo n files w rest (Ok text) these none by is = (rest, subst (λ (v : World). Loaded (Some (shop n)) v rest) none (subst (λ (o : Option (List File)). Loaded o w rest) these by), is)
is_demo n files w rest (Err e) these none by is = tt
