-- A book is moved by its map.
use Rattle.std.proofs.Common.{◌≡◌, ◌⊎◌, inl, inr, ℕ, Bool, true, false, cond, not, List, [], ◌∷◌, length, map, None, Ok, Err, IfErr, IfOk, Result, refl, sym, ap, ◌∙◌, subst, ⊎_elim, arith}
use Rattle.std.specs.Prelude.{◌&&◌, nat_eq}
use Rattle.std.proofs.lemmas.Bool.Decides.{eqb_tells}
use Rattle.mesh_base.specs.declared.forgets.Rename.{Rename}
use Rattle.mesh_house_book.specs.declared.book.Book.{Book}
use Rattle.mesh_house_book.specs.WellFormed.{is_well_formed_book}
use Rattle.mesh_house_book.specs.moves.Renames.{has_twins, renamed_all}
use Rattle.mesh_spec_model.specs.Horizons.{Clock}
use Rattle.mesh_house.specs.declared.house.WhFail.{WhFail}
use Rattle.mesh_house.specs.declared.house.WhFail.TheVariants as fails
use Rattle.mesh_house.specs.declared.world.Change.TheVariants.{Migrate}
use Rattle.mesh_house.specs.declared.world.World.{World}
use Rattle.mesh_house.specs.House.{Told}
use Rattle.mesh_house.specs.Runs.{Makes}
use Rattle.mesh_layer.specs.Shows.{Tells}
use Rattle.mesh_spec_changes.specs.Commands.{MigrateAll, changes}
use Rattle.mesh_janitor.specs.migrate.Migration.{IsMap, IsRefused, first_twins}
use Rattle.mesh_janitor.specs.migrate.Walk.{layers, limit_from, rename_at}
use Rattle.mesh_janitor.specs.declared.migrate.fault.MigrationFault.{MigrationFault}
use Rattle.mesh_janitor.specs.declared.migrate.fault.MigrationFault.TheVariants.{Twins, Memory as NoRoom}
use Rattle.mesh_janitor.proofs.migrate.Maps.{moves_apart}
use Rattle.mesh_janitor.proofs.migrate.Put.{walk_makes_the_map}
use Rattle.mesh_cli_print.specs.printed.Reports.{migrated_line}
use Rattle.mesh_cli_print.specs.declared.printed.refusals.Refusal.{Refusal}
use Rattle.mesh_cli_print.specs.declared.printed.refusals.Refusal.TheVariants.{Memory}
use Rattle.mesh_cli_answer.specs.Answers.{Answers, as_refusal}
use Rattle.mesh_cli_answer.proofs.Answering.{alone_itself, refused_first, told_alone, wanting_first}
use Rattle.mesh_cli_apply.specs.Made.{HasBook}
use Rattle.mesh_cli_apply.specs.Migrating.{IsMoved, MigrateGives, MigrateMakes, Moves, moved_number, of_migration}

-- a well-formed book has a map
has_map : (b : Book) → is_well_formed_book b ≡ true → (renames : List Rename) × IsMap b renames
has_map b well = (map (rename_at (layers (limit_from 0 b.snapshots) b.snapshots [])) b.snapshots, walk_makes_the_map b well [])

-- whether a book is moved
abbrev moves : Book → List Rename → Bool
moves b renames = is_well_formed_book b && (nat_eq b.version 1 && not (has_twins (renamed_all renames b.snapshots)))

abbrev Done : Told → Told → Result (List ℕ) Refusal → Type 0
Done a c r = Answers ⊥ MigrateMakes MigrateGives a c r

module _ (b : Book) (well : is_well_formed_book b ≡ true) (a : Told) (has : HasBook b a) where
  well_of : (w : World) → Tells a w → is_well_formed_book w.book ≡ true
  well_of w t = ap is_well_formed_book (has w t.world) ∙ well

  map_of : (renames : List Rename) → IsMap b renames → (w : World) → Tells a w → IsMoved w.book renames
  map_of renames is w t = record { well_formed = well_of w t; map = subst (λ (k : Book). IsMap k renames) (sym (has w t.world)) is }

  number_of : (w : World) → Tells a w → moved_number w.book ≡ moved_number b
  number_of w t = ap moved_number (has w t.world)

  -- a book of another version stays
  pub stays : (line : List ℕ) → nat_eq b.version 1 ≡ false → line ≡ migrated_line 0 → Done a a (Ok line)
  stays line other is =
      let (renames, is_map) = has_map b well in
      told_alone MigrateMakes MigrateGives a a line (alone_itself a) (omega arith)
      (λ w t. (renames, map_of renames is_map w t, λ clock. sym ((λ i. cond (moves (has w t.world i) renames) (Migrate renames ∷ []) []) ∙ still renames)))
      (λ w t. (well_of w t, inl (ap (λ (k : Book). nat_eq k.version 1) (has w t.world) ∙ other), is ∙ sym (ap migrated_line (number_of w t ∙ (λ i. cond (other i) (length b.snapshots) 0)))))
    where
      still : (renames : List Rename) → cond (moves b renames) (Migrate renames ∷ []) [] ≡ []
      still renames = (λ i. cond (well i && (other i && not (has_twins (renamed_all renames b.snapshots)))) (Migrate renames ∷ []) [])

  -- one of the former version is moved
  module _ (former : nat_eq b.version 1 ≡ true) where
    module _ (renames : List Rename) (is : IsMap b renames) (apart : first_twins renames ≡ None) where
      asks : (w : World) → Tells a w → (clock : Clock) → Migrate renames ∷ [] ≡ changes clock (MigrateAll renames) w
      asks w t clock = sym (
          (λ i. cond (moves (has w t.world i) renames) (Migrate renames ∷ []) [])
          ∙ (λ i. cond (well i && (former i && not (moves_apart b renames well is apart i))) (Migrate renames ∷ []) [])
          )

      makes : (w : World) → Tells a w → MigrateMakes w (Migrate renames ∷ [])
      makes w t = (renames, map_of renames is w t, asks w t)

      halted : (c : Told) (e : WhFail) → Makes {T = Unit {0}} (λ w. Migrate renames ∷ []) a c (Err e) → Done a c (Err (as_refusal e))
      halted c fails.Failed q = record {
        faults = q.err.faults;
        failed = λ k. q.failed refl;
        beyond = λ k. absurd (cc);
        early = λ k. absurd (cc);
        made = λ w t. inr (Migrate renames ∷ [], makes w t, q.err.told w t.world);
        given = λ w t k. absurd (cc);
      }
      halted c fails.Memory q = record {
        faults = q.err.faults;
        failed = λ k. absurd (cc);
        beyond = λ k. absurd (cc);
        early = λ k. absurd (cc);
        made = λ w t. inr (Migrate renames ∷ [], makes w t, q.err.told w t.world);
        given = λ w t k. absurd (cc);
      }

      pub moved_on : (c : Told) (line : List ℕ) (r : Result (List ℕ) Refusal) → line ≡ migrated_line (length b.snapshots) → Moves renames line a c r → Done a c r
      moved_on c line (Ok text) as_ (q, same) = record {
        faults = q.faults;
        failed = λ k. absurd (cc);
        beyond = λ k. absurd (cc);
        early = tt;
        made = λ w t. (Migrate renames ∷ [], makes w t, q.told w t.world);
        given = λ w t. (well_of w t, inr (renames, subst (λ (k : Book). IsMap k renames) (sym (has w t.world)) is, apart), same ∙ as_ ∙ sym (ap migrated_line (number_of w t ∙ (λ i. cond (former i) (length b.snapshots) 0))));
      }
      moved_on c line (Err r) as_ (e, same, q) = subst (λ (x : Refusal). Done a c (Err x)) (sym same) (halted c e q)

    clashes : (fault : MigrationFault) → IsRefused b fault → Done a a (Err (of_migration fault))
    clashes (Twins name stored given) refused =
        refused_first MigrateMakes MigrateGives a (of_migration (Twins name stored given)) refl
        (λ w t no. inr (record {
          well_formed = well_of w t;
          former = ap (λ (k : Book). nat_eq k.version 1) (has w t.world) ∙ former;
          name = name;
          stored = stored;
          given = given;
          first = subst (λ (k : Book). IsRefused k (Twins name stored given)) (sym (has w t.world)) refused;
          told = refl;
        }))
    clashes NoRoom refused = wanting_first MigrateMakes MigrateGives a

    -- two of its snapshots would become one
    pub clashing : (fault : MigrationFault) (r : Refusal) → IsRefused b fault → (r ≡ Memory) ⊎ (r ≡ of_migration fault) → Done a a (Err r)
    clashing fault r refused (inl memory) = subst (λ (x : Refusal). Done a a (Err x)) (sym memory) (wanting_first MigrateMakes MigrateGives a)
    clashing fault r refused (inr is) = subst (λ (x : Refusal). Done a a (Err x)) (sym is) (clashes fault refused)

-- memory was wanting for the line
pub unlined : (a : Told) (r : Refusal) → r ≡ Memory → Done a a (Err r)
unlined a r is = subst (λ (x : Refusal). Done a a (Err x)) (sym is) (wanting_first MigrateMakes MigrateGives a)

not_one : (n : ℕ) → (n ≡ 1 → ⊥) → nat_eq n 1 ≡ false
not_one n other = ⊎_elim (λ t. absurd (other t.1)) (λ f. f.0) (eqb_tells n 1)

-- what is answered of a book that stays, whether there was memory for the line or not
pub left_alone : (b : Book) → is_well_formed_book b ≡ true → (a : Told) → HasBook b a → (b.version ≡ 1 → ⊥) → (r : Result (List ℕ) Refusal) → IfOk r (λ line. line ≡ migrated_line 0) → IfErr r (λ e. e ≡ Memory) → Done a a r
left_alone b well a has other (Ok line) is none = stays b well a has line (not_one b.version other) is
left_alone b well a has other (Err r) is none = unlined a r none
