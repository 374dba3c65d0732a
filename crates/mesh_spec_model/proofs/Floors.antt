-- A tick is floored to the start of its unit.
use Rattle.std.proofs.Common.{◌≡◌, ℤ, pos, ◌+ℤ◌, ◌*ℤ◌, refl, arith}
use Rattle.std.specs.Int.{int_div_euclid}
use Rattle.jiff_core.proofs.SignedLemmas.{signed_arith, int_div_euclid-parts}
use Rattle.mesh_base_values.specs.declared.times.Unit.{Unit as TimeUnit}
use Rattle.mesh_base_values.specs.declared.times.Unit.TheVariants.{Hour, Day}
use Rattle.mesh_time.specs.Ranges.{IsWithin, unit_size}
use Rattle.mesh_spec_model.specs.Horizons.{floored}

pub in_its_unit : (unit : TimeUnit) (t : ℤ) → IsWithin (floored unit t) (floored unit t +ℤ pos (unit_size unit)) t
in_its_unit Hour t = (omega (arith, signed_arith, int_div_euclid-parts), omega (arith, signed_arith))
in_its_unit Day t = (omega (arith, signed_arith), omega (arith, signed_arith))

pub a_multiple : (unit : TimeUnit) (t : ℤ) → (k : ℤ) × (floored unit t ≡ k *ℤ pos (unit_size unit))
a_multiple unit t = (int_div_euclid t (pos (unit_size unit)), refl)

pub no_other : (unit : TimeUnit) (t k : ℤ) → IsWithin (k *ℤ pos (unit_size unit)) (k *ℤ pos (unit_size unit) +ℤ pos (unit_size unit)) t → floored unit t ≡ k *ℤ pos (unit_size unit)
no_other Hour t k h = omega (arith, signed_arith)
no_other Day t k h = omega (arith, signed_arith)
