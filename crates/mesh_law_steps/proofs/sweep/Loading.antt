-- A world stays well kept along the one change of a load.
use Rattle.std.proofs.Common.{◌≡◌, Bool, true, false, cond, not, ◌&&◌, ◌||◌, List, [], ◌∷◌, ◌++◌, refl, sym, ap, subst, arith}
use Rattle.std.proofs.lemmas.Int.{ints}
use Rattle.mesh_list.specs.Keyed.{placed}
use Rattle.mesh_list.proofs.Ascends.{and_left, ascends-placed}
use Rattle.mesh_base_values.specs.Names.{name_cmp}
use Rattle.mesh_base_values.specs.NameOrder.{names_total}
use Rattle.mesh_base_values.specs.declared.values.Cell.{Cell}
use Rattle.mesh_base_values.specs.declared.values.Column.{Column}
use Rattle.mesh_base_values.specs.declared.values.Name.{Name}
use Rattle.mesh_base.specs.Keys.{input_name}
use Rattle.mesh_base.specs.declared.jobs.Input.{Input}
use Rattle.mesh_house_book.specs.WellFormed.{is_moment, is_version}
use Rattle.mesh_spec_model.specs.Horizons.{Clock, Shows}
use Rattle.mesh_house.specs.Objects.{is_physical}
use Rattle.mesh_house.specs.Step.{kept_rows, load}
use Rattle.mesh_house.specs.World.{source_at}
use Rattle.mesh_house.specs.declared.world.Change.TheVariants.{Load}
use Rattle.mesh_house.specs.declared.world.World.{World}
use Rattle.mesh_house.proofs.Tested.{all-placed}
use Rattle.mesh_spec_changes.specs.due.Parts.{Parts, either}
use Rattle.mesh_spec_promise.specs.Moved.{moved}
use Rattle.mesh_spec_promise.specs.Sound.{Sound}
use Rattle.mesh_spec_promise.proofs.Doubts.{doubted}
use Rattle.mesh_spec_promise.proofs.Moments.{sound_after}
use Rattle.mesh_law_changes.specs.along.Along.{StaysAlong}
use Rattle.mesh_law_changes.proofs.along.Along.{along_kept}

-- what isn't among the parts of either isn't among the first
pub either_first : (x y : Parts) (w : World) → Sound x w → Sound (either x y) w
either_first x y w sound = doubted x (either x y) w (λ q e. first (x q) (y q) e) sound
  where
    first : (a b : Bool) → (a || b) ≡ false → a ≡ false
    first true b h = h
    first false b h = refl

module _ (x : Parts) (w : World) (before after : Clock) (sound : Sound x w) (was : Shows before w.book.moment) (is : Shows after w.book.moment) (name : Name) (columns : List Column) (rows : List (List Cell)) (keep : Bool) where
  abbrev new : Input
  new = record { name = name; columns = columns; rows = kept_rows keep (source_at w name) ++ rows }

  abbrev sources : List Input
  sources = placed name_cmp input_name new w.sources

  real : is_moment w.book.moment ≡ true
  real = and_left (is_moment w.book.moment) (is_version w.book.version) (and_left (is_moment w.book.moment && is_version w.book.version) _ sound.book.well_formed)

  -- a name that an object may have loads nothing
  loaded : (b : Bool) → is_physical name ≡ b → Sound (either x (moved w before after (load w name columns rows keep).sources)) (load w name columns rows keep)
  loaded true e =
      subst (λ (z : World). Sound (either x (moved w before after z.sources)) z) (sym (ap (λ (b : Bool). cond b w (record w { sources = sources })) e))
      (either_first x (moved w before after w.sources) w sound)
  loaded false e =
      subst (λ (z : World). Sound (either x (moved w before after z.sources)) z) (sym (ap (λ (b : Bool). cond b w (record w { sources = sources })) e))
      (sound_after x w sound w.book.moment (omega (arith, ints)) real before after was is sources
      (ascends-placed name_cmp names_total input_name new w.sources sound.typed.sources)
      (all-placed name_cmp input_name (λ (q : Input). not (is_physical q.name)) new (ap not e) w.sources sound.typed.plain))

  pub load_along : StaysAlong (either x (moved w before after (load w name columns rows keep).sources)) w (Load name columns rows keep ∷ [])
  load_along =
      along_kept (either x (moved w before after (load w name columns rows keep).sources)) w (Load name columns rows keep)
      (either_first x (moved w before after (load w name columns rows keep).sources) w sound) (loaded (is_physical name) refl) (λ q. refl)
