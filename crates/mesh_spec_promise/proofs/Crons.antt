-- The crons among a snapshot's ancestors are the book's, and a moment decides the rows of a unit.
use Rattle.std.proofs.Common.{◌≡◌, ℕ, zero, suc, ℤ, List, [], ◌∷◌, Some, refl, IsTrue}
use Rattle.std.specs.List.{All}
use Rattle.std.specs.Option.{option_map}
use Rattle.std.specs.declared.option.Option.{Option}
use Rattle.std.specs.declared.option.Option.TheVariants.{None}
use Rattle.std.proofs.lemmas.List.Elements.{All-nil, All-cons}
use Rattle.mesh_base_values.specs.Crons.{is_cron}
use Rattle.mesh_base.specs.declared.jobs.Input.{Input}
use Rattle.mesh_base_values.specs.declared.times.Bounds.{Bounds}
use Rattle.mesh_base.specs.declared.snapshots.Ref.{Ref}
use Rattle.mesh_base.specs.declared.snapshots.Snapshot.{Snapshot}
use Rattle.mesh_house_book.specs.WellFormed.{snapshot_at}
use Rattle.mesh_spec_model.specs.Closures.{Closure, Closures, Model, Alone, With, own_of, standing, ancestors, with_parent}
use Rattle.mesh_spec_model.specs.Horizons.{Clock, Shows}
use Rattle.mesh_spec_model.specs.Sources.{inputs}
use Rattle.mesh_spec_model.specs.Scratch.{piece, piece_over, from_scratch, tables, table_of}
use Rattle.mesh_spec_model.proofs.Moments.{one_list_of_rows}
use Rattle.mesh_law_query.proofs.Lists.{Each, Each_left, Each_right}
use Rattle.mesh_spec_changes.specs.listed.Closing.{closed, parents_by, IsSnapshot}
use Rattle.mesh_spec_changes.proofs.listed.Books.{is_its_own}
use Rattle.mesh_spec_changes.proofs.due.Later.{Each_both}

abbrev pub HasCron : Closure → Type 0
HasCron c = IsTrue (is_cron (own_of c).cron)

parents_crons : (all : List Snapshot) (f : Snapshot → Closure) → ((s : Snapshot) → IsSnapshot all s → Each HasCron (standing (f s))) → (refs : List Ref) → Each HasCron (ancestors (parents_by f all refs))
parents_crons all f h [] = tt
parents_crons all f h (r ∷ rs) = go (snapshot_at all r) refl (parents_crons all f h rs)
  where
    go : (o : Option Snapshot) → snapshot_at all r ≡ o → Each HasCron (ancestors (parents_by f all rs)) → Each HasCron (ancestors (with_parent (option_map f o) (parents_by f all rs)))
    go None e more = more
    go (Some p) e more = Each_both HasCron (standing (f p)) (ancestors (parents_by f all rs)) (h p (is_its_own all r p e)) more

pub closed_crons : (all : List Snapshot) → ((s : Snapshot) → IsSnapshot all s → IsTrue (is_cron s.own.cron)) → (depth : ℕ) (s : Snapshot) → IsSnapshot all s → Each HasCron (standing (closed all depth s))
closed_crons all crons zero s known = (crons s known, tt)
closed_crons all crons (suc depth) s known = (crons s known, parents_crons all (closed all depth) (closed_crons all crons depth) s.parents)

all_of : {X : Type 0} (P : X → Type 0) (xs : List X) → Each P xs → All P xs
all_of P [] h = All-nil P
all_of P (x ∷ xs) h = All-cons P x xs h.0 (all_of P xs h.1)

module _ (t : ℤ) (clock other : Clock) (a : Shows clock t) (b : Shows other t) (sources : List Input) where
  tables_same : (cs : Closures) → Each HasCron (ancestors cs) → tables sources clock cs ≡ tables sources other cs
  tables_same Alone h = refl
  tables_same (With c cs) h =
      λ i. table_of (own_of c) (one_list_of_rows t clock other a b c (all_of HasCron (standing c) (Each_left HasCron (standing c) (ancestors cs) h)) sources i) ∷ tables_same cs (Each_right HasCron (standing c) (ancestors cs) h) i

  pub one_piece : (c : Closure) → Each HasCron (standing c) → (u : Bounds) → piece sources clock c u ≡ piece sources other c u
  one_piece (Model own parents) h u = λ i. piece_over own (inputs sources own (tables_same parents h.1 i)) u

  pub one_list : (c : Closure) → Each HasCron (standing c) → from_scratch sources clock c ≡ from_scratch sources other c
  one_list c h = one_list_of_rows t clock other a b c (all_of HasCron (standing c) h) sources
