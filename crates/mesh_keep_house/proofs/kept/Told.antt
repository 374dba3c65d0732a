-- The world that records are told to hold, and the one that is held.
use Rattle.std.proofs.Common.{◌≡◌, Bool, true, false, List, Some, None, sym, subst}
use Rattle.std.specs.Prelude.{IfSome, IsSome, Ok, if◌then◌else◌}
use Rattle.std.specs.declared.option.Option.{Option}
use Rattle.mesh_house.specs.declared.world.World.{World}
use Rattle.mesh_house.specs.House.{Reads, Told}
use Rattle.mesh_keep.specs.declared.kept.Kept.{Kept}
use Rattle.mesh_keep.specs.Holds.{all_known}
use Rattle.mesh_keep.specs.Said.{known_world, world_of}
use Rattle.mesh_keep_house.specs.kept.Held.{IsHeld}
use Rattle.mesh_keep_house.specs.kept.Kept.{told_world}
use Rattle.mesh_keep_house.specs.stored.Loads.{AreSaid}

module _ {T : Type 0} (x : T) (answer : World → T) (v : World) (is : x ≡ answer v) where
  of_said : (b : Bool) (k : Option World) → k ≡ Some v → IfSome (if b then k else None) (λ w. x ≡ answer w)
  of_said false k e = tt
  of_said true k e = subst (λ o. IfSome o (λ w. x ≡ answer w)) (sym e) is

  -- what is answered by the world that is held is answered by the one that is told
  pub answers : (records : Option (List Kept)) → AreSaid records v → IfSome (told_world records) (λ w. x ≡ answer w)
  unfolding world_of
  answers None said = tt
  answers (Some kept) said = of_said (all_known kept) (known_world kept) said.1

-- what is read of the world that is held is read of the one that is told
pub reads_held : {T U : Type 0} (any : World → U) (answer : World → T) (x : T) (u : U) (old new : Told) (before after : Option (List Kept)) (held : Option World) (v : World) → Reads any old new (Ok u) → old.world ≡ told_world before → after ≡ before → IsHeld held after → held ≡ Some v → x ≡ answer v → Reads answer old new (Ok x)
reads_held any answer x u old new before after held v read tells stays known is eq =
    let said : AreSaid after v = subst (λ (h : Option World). IsHeld h after) is known in
    let here : IfSome (told_world before) (λ w. x ≡ answer w) = answers x answer v eq before (subst (λ (r : Option (List Kept)). AreSaid r v) stays said) in
    record {
      world = read.world;
      calls = read.calls;
      faults = read.faults;
      failed = λ e. absurd (cc);
      ok = subst (λ (o : Option World). IfSome o (λ w. x ≡ answer w)) (sym tells) here;
    }

of_none : (b : Bool) (k : Option World) → k ≡ None → IsSome (if b then k else None) → ⊥
of_none false k e h = absurd (cc)
of_none true None e h = absurd (cc)
of_none true (Some w) e h = absurd (cc)

-- records that aren't read are told to hold no world
pub none_told : (records : Option (List Kept)) → IfSome records (λ kept. known_world kept ≡ None) → IsSome (told_world records) → ⊥
unfolding world_of
none_told None said h = absurd (cc)
none_told (Some kept) said h = of_none (all_known kept) (known_world kept) said h
