-- What a move to other fingerprints leaves of views.
use Rattle.std.proofs.Common.{◌≡◌, Bool, true, false, cond, List, [], ◌∷◌, ◌++◌, refl, subst}
use Rattle.std.specs.Option.{option_and_then}
use Rattle.mesh_base_values.specs.declared.values.Name.{Name}
use Rattle.mesh_base.specs.declared.forgets.Rename.{Rename}
use Rattle.mesh_spec_model.specs.Horizons.{Clock}
use Rattle.mesh_house_book.specs.moves.Renames.{migrate}
use Rattle.mesh_house.specs.Step.{run}
use Rattle.mesh_house.specs.World.{view}
use Rattle.mesh_house.specs.declared.world.Change.{Change}
use Rattle.mesh_house.specs.declared.world.Change.TheVariants.{Migrate}
use Rattle.mesh_house.specs.declared.world.World.{World}
use Rattle.mesh_spec_changes.specs.shown.Shown.{view_rows}
use Rattle.mesh_spec_changes.specs.Commands.{MigrateAll, allows, changes}
use Rattle.mesh_law_steps.proofs.again.Promoting.{behind}

-- a front of one item is none of it or all of it
pub front : {A : Type 0} (P : List A → Type 0) (x : A) (b : Bool) (made rest : List A) → cond b (x ∷ []) [] ≡ made ++ rest → P [] → (b ≡ true → P (x ∷ [])) → P made
front P x b [] rest is none one = none
front P x true (y ∷ []) rest is none one = let same : x ≡ y = cc in subst (λ z. P (z ∷ [])) same (one refl)
front P x true (y ∷ z ∷ more) rest is none one = absurd (let clash : [] ≡ z ∷ (more ++ rest) = cc in let no : false ≡ true = cc in cc)
front P x false (y ∷ more) rest is none one = absurd (cc)

module _ (w : World) (renames : List Rename) where
  moved_shows : (name : Name) → view_rows (run w (Migrate renames ∷ [])) name ≡ view_rows w name
  moved_shows name = λ i. option_and_then (λ n. behind w.sources w.objects w.views w.views (migrate w.book renames) w.book 4096 n i) (view w name)

  pub shows_still : (clock : Clock) (made rest : List Change) → changes clock (MigrateAll renames) w ≡ made ++ rest → (name : Name) → view_rows (run w made) name ≡ view_rows w name
  shows_still clock made rest is name = front (λ (l : List Change). view_rows (run w l) name ≡ view_rows w name) (Migrate renames) (allows w (MigrateAll renames)) made rest is refl (λ e. moved_shows name)
