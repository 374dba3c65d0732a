-- In a steady project every command settles, where sources change in later rows alone.
use Rattle.std.proofs.Common.{◌≡◌, ℤ, ◌≤ℤ◌, Bool, true, false, cond, not, refl, arith}
use Rattle.std.proofs.lemmas.Int.{ints}
use Rattle.std.specs.Int.Signed.{lt_z}
use Rattle.mesh_list.proofs.Ascends.{and_left, and_right}
use Rattle.mesh_time.proofs.Apart.{lt_not}
use Rattle.mesh_spec_model.specs.Horizons.{Clock, Shows}
use Rattle.mesh_house.specs.declared.world.World.{World}
use Rattle.mesh_house_book.specs.declared.book.Book.{Book}
use Rattle.mesh_spec_changes.specs.Commands as promise
use Rattle.mesh_spec_changes.specs.Commands.{allows, is_not_behind, is_present}
use Rattle.mesh_spec_changes.specs.due.Parts.{Parts}
use Rattle.mesh_spec_changes.specs.steady.Arrives.{Arrives}
use Rattle.mesh_spec_promise.specs.Histories.{judged_at, raised_to, sources_after}
use Rattle.mesh_spec_promise.specs.Sound.{Sound}
use Rattle.mesh_law_steady.specs.Projects.{IsSteadyBook}
use Rattle.mesh_law_steady.proofs.Worlds.{nothing_moves}
use Rattle.mesh_cli.specs.promise.Kept.{IsStill}

not_later : (t : ℤ) (b : Book) → is_not_behind t b ≡ true → b.moment ≤ℤ t
not_later t b h = lt_not t b.moment (go (lt_z t b.moment) h)
  where
    go : (c : Bool) → not c ≡ true → c ≡ false
    go true h = absurd (let clash : false ≡ true = h in cc)
    go false h = refl

itself : (t : ℤ) → t ≤ℤ t
itself t = omega (arith, ints)

-- a command raises no moment below the book's
raised_later : (w : World) (k : promise.Command) → allows w k ≡ true → w.book.moment ≤ℤ raised_to w k
raised_later w (promise.Apply plan) may = not_later plan.moment w.book (and_right (is_present w.book) _ may)
raised_later w (promise.RunAll plan) may = not_later plan.moment w.book (and_left (is_not_behind plan.moment w.book) _ (and_right (is_present w.book) _ may))
raised_later w (promise.Janitor t) may = not_later t w.book (and_right (is_present w.book) _ may)
raised_later w (promise.Ingest name columns rows keep) may = itself w.book.moment
raised_later w (promise.Invalidate env) may = itself w.book.moment
raised_later w (promise.MigrateAll renames) may = itself w.book.moment
raised_later w promise.Nothing may = itself w.book.moment

judged_later : (w : World) (k : promise.Command) → w.book.moment ≤ℤ judged_at w k
judged_later w k = go (allows w k) refl
  where
    go : (c : Bool) → allows w k ≡ c → w.book.moment ≤ℤ cond c (raised_to w k) w.book.moment
    go true e = raised_later w k e
    go false e = itself w.book.moment

pub steady_still : (x : Parts) (w : World) → Sound x w → IsSteadyBook w.book → (k : promise.Command) → Arrives w (sources_after w k) → (before after : Clock) → Shows before w.book.moment → Shows after (judged_at w k) → IsStill w k
steady_still x w sound steady k arrives before after was is = record {
  before = before;
  after = after;
  was = was;
  is = is;
  still = λ q. nothing_moves x w sound steady (judged_at w k) (judged_later w k) before after was is (sources_after w k) arrives q;
}
