-- A table stays with twins.
use Rattle.std.proofs.Common.{◌≡◌, true, refl, subst}
use Rattle.std.specs.declared.option.Option.TheVariants.{Some}
use Rattle.mesh_base_values.specs.declared.kinds.Kind.{Kind}
use Rattle.mesh_base.specs.declared.plans.Category.{Category}
use Rattle.mesh_base.specs.declared.plans.Category.TheVariants.{Unchanged, Added, Breaking, NonBreaking, IndirectBreaking, IndirectNonBreaking}
use Rattle.mesh_spec_changes.specs.reuse.Categories.{AddsOnly, HasCategory, IsOwnSame, Stated}
use Rattle.mesh_spec_changes.specs.reuse.Cores.{IsTwin}
use Rattle.mesh_spec_changes.specs.due.Versions.{stays}
use Rattle.mesh_law_reuse.specs.Well.{AreWell}
use Rattle.mesh_law_reuse.proofs.Fit.{well_twins}

only_indirect : (category : Category) (kind : Kind) → stays category kind ≡ true → category ≡ IndirectNonBreaking
only_indirect Unchanged kind h = absurd (cc)
only_indirect Added kind h = absurd (cc)
only_indirect Breaking kind h = absurd (cc)
only_indirect NonBreaking kind h = absurd (cc)
only_indirect IndirectBreaking kind h = absurd (cc)
only_indirect IndirectNonBreaking kind h = refl

indirect : (old new : Stated) → HasCategory (Some old) new IndirectNonBreaking → IsOwnSame old new × AddsOnly old new
indirect old new h = h.1 (λ e. h.0 e)

pub staying_twins : (old new : Stated) (category : Category) (kind : Kind) → HasCategory (Some old) new category → stays category kind ≡ true → AreWell old.closure → AreWell new.closure → IsTwin old.closure new.closure
staying_twins old new category kind h k p q =
    let both = indirect old new (subst (HasCategory (Some old) new) (only_indirect category kind k) h) in
    well_twins old.closure new.closure both.1 both.0 p q
