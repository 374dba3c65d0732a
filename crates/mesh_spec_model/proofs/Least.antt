-- The horizon of an incremental model is the earliest of these: its own last tick, and its incremental ancestors'
-- horizons.
use Rattle.std.proofs.Common.{◌≡◌, ℤ, pos, ◌*ℤ◌, Bool, true, false, cond, List, [], ◌∷◌, ◌++◌, map, refl, ap, sym, ◌∙◌}
use Rattle.std.specs.List.{filter}
use Rattle.std.proofs.lemmas.List.{map-append}
use Rattle.std.proofs.lemmas.List.Elements.{filter-append}
use Rattle.std.specs.declared.option.Option.TheVariants.{None, Some}
use Rattle.mesh_base.specs.declared.definitions.Own.{Own}
use Rattle.mesh_base_values.specs.Kinds.{is_incremental}
use Rattle.mesh_time.specs.Ranges.{units}
use Rattle.mesh_spec_model.specs.Closures.{Closure, Closures, Model, Alone, With, standing, ancestors}
use Rattle.mesh_spec_model.specs.Horizons.{Clock, last_tick, is_timed, least_of, horizons_from, horizons_of, horizon, schedule, units_from}

module _ (clock : Clock) where
  one_more : (b : Bool) (c : Closure) (hs : List ℤ) (cs : List Closure) → hs ≡ map (horizon clock) cs → cond b (horizon clock c ∷ hs) hs ≡ map (horizon clock) (cond b (c ∷ cs) cs)
  one_more true c hs cs e = ap (λ l. horizon clock c ∷ l) e
  one_more false c hs cs e = e

  mutual
    from_is : (c : Closure) → horizons_from clock c ≡ map (horizon clock) (filter is_timed (standing c))
    from_is (Model own parents) = one_more (is_incremental own.kind) (Model own parents) (horizons_of clock parents) (filter is_timed (ancestors parents)) (of_is parents)

    of_is : (cs : Closures) → horizons_of clock cs ≡ map (horizon clock) (filter is_timed (ancestors cs))
    of_is Alone = refl
    of_is (With c cs) =
        (λ i. from_is c i ++ of_is cs i)
        ∙ sym (map-append (horizon clock) (filter is_timed (standing c)) (filter is_timed (ancestors cs)))
        ∙ ap (map (horizon clock)) (sym (filter-append is_timed (standing c) (ancestors cs)))

pub least : (clock : Clock) (own : Own) (parents : Closures) → is_incremental own.kind ≡ true
    → horizon clock (Model own parents) ≡ least_of (last_tick clock own) (map (horizon clock) (filter is_timed (ancestors parents)))
least clock own parents e = ap (λ b. cond b (least_of (last_tick clock own) (horizons_of clock parents)) (last_tick clock own)) e ∙ ap (least_of (last_tick clock own)) (of_is clock parents)

pub its_own : (clock : Clock) (own : Own) (parents : Closures) → is_incremental own.kind ≡ false → horizon clock (Model own parents) ≡ last_tick clock own
its_own clock own parents e = ap (λ b. cond b (least_of (last_tick clock own) (horizons_of clock parents)) (last_tick clock own)) e

pub from_its_start : (clock : Clock) (own : Own) (parents : Closures) (day : ℤ) → own.start ≡ Some day
    → schedule clock (Model own parents) ≡ units (record { start = day *ℤ pos 86_400; end = horizon clock (Model own parents); unit = own.unit })
from_its_start clock own parents day e = ap (λ s. units_from s own.unit (horizon clock (Model own parents))) e

pub without_a_start : (clock : Clock) (own : Own) (parents : Closures) → own.start ≡ None → schedule clock (Model own parents) ≡ []
without_a_start clock own parents e = ap (λ s. units_from s own.unit (horizon clock (Model own parents))) e
