-- Records that follow a change of the world that they say.
use Rattle.std.proofs.Common.{◌≡◌, Bool, true, false, List, Some, None, refl, sym, ap, subst, ◌∙◌, inl, inr}
use Rattle.std.specs.Prelude.{◌⊎◌, IfSome, Ok, Err, if◌then◌else◌}
use Rattle.std.specs.Option.{option_map}
use Rattle.std.specs.declared.option.Option.{Option}
use Rattle.mesh_list.specs.Keyed.{ascends}
use Rattle.mesh_house.specs.declared.world.Change.{Change}
use Rattle.mesh_house.specs.declared.world.World.{World}
use Rattle.mesh_house.specs.declared.house.WhFail.TheVariants as house
use Rattle.mesh_house.specs.Step.{step}
use Rattle.mesh_keep.specs.declared.keeper.KeepFail.TheVariants as keep
use Rattle.mesh_keep.specs.declared.kept.Kept.{Kept}
use Rattle.mesh_keep.specs.declared.kept.Write.{Write}
use Rattle.mesh_keep.specs.Holds.{Knows, all_known}
use Rattle.mesh_keep.specs.Keeping.{KeeperTold, Writing}
use Rattle.mesh_keep.specs.Places.{kept_place, place_cmp, written}
use Rattle.mesh_keep.specs.Said.{known_world, world_of}
use Rattle.mesh_keep.proofs.Said.{known_is}
use Rattle.mesh_keep_house.specs.touched.Touched.{Follows}
use Rattle.mesh_keep_house.proofs.touched.Follow.{others_stay, records_follow}
use Rattle.mesh_keep_house.specs.kept.Kept.{Steps, told_world}
use Rattle.mesh_keep_house.specs.stored.Loads.{AreSaid}

module _ (w v : World) (c : Change) (ws : List Write) (follows : Follows w c v ws) where
  -- the records say the new world, where they are in order
  says_new : (kept : List Kept) → ascends place_cmp kept_place kept ≡ true → known_world kept ≡ Some w → ascends place_cmp kept_place (written kept ws) ≡ true → known_world (written kept ws) ≡ Some v
  says_new kept asc said later =
      let knows : Knows kept w = (known_is kept w asc).0 said in
      (known_is (written kept ws) v later).1 (records_follow kept w c v ws asc knows follows)

  -- so do records that are told, and were told to be made of those
  pub said_after : (records after : Option (List Kept)) → AreSaid records w → after ≡ option_map (λ kept. written kept ws) records → IfSome after (λ kept. ascends place_cmp kept_place kept ≡ true) → AreSaid after v
  said_after records None said e later = tt
  said_after None (Some made) said e later = absurd (cc)
  said_after (Some kept) (Some made) said e later =
      let is : made ≡ written kept ws = cc in
      let asc : ascends place_cmp kept_place (written kept ws) ≡ true = subst (λ k. ascends place_cmp kept_place k ≡ true) is later in
      (later, subst (λ k. known_world k ≡ Some v) (sym is) (says_new kept said.0 said.1 asc))

  -- where other records stand among them no world is told, before and after
  by_others : (b d : Bool) (k l : Option World) → d ≡ b → k ≡ Some w → l ≡ Some v → (if d then l else None) ≡ option_map (λ u. step u c) (if b then k else None)
  by_others false false k l e was is = refl
  by_others true false k l e was is = absurd (cc)
  by_others false true k l e was is = absurd (cc)
  by_others true true k l e was is = is ∙ (ap Some follows.stepped ∙ sym (ap (option_map (λ u. step u c)) was))

  -- the world that is told makes the step
  pub told_after : (records after : Option (List Kept)) → AreSaid records w → after ≡ option_map (λ kept. written kept ws) records → IfSome after (λ kept. ascends place_cmp kept_place kept ≡ true) → told_world after ≡ option_map (λ u. step u c) (told_world records)
  unfolding world_of
  told_after None None said e later = refl
  told_after (Some kept) None said e later = absurd (cc)
  told_after None (Some made) said e later = absurd (cc)
  told_after (Some kept) (Some made) said e later =
      let is : made ≡ written kept ws = cc in
      let asc : ascends place_cmp kept_place (written kept ws) ≡ true = subst (λ k. ascends place_cmp kept_place k ≡ true) is later in
      let others : all_known made ≡ all_known kept = ap all_known is ∙ others_stay kept w c v ws said.0 follows in
      let now : known_world made ≡ Some v = ap known_world is ∙ says_new kept said.0 said.1 asc in
      by_others (all_known kept) (all_known made) (known_world kept) (known_world made) others said.1 now

  -- the writes were made
  pub made_said : {T : Type 0} (u : T) (old new : KeeperTold) → AreSaid old.records w → Writing ws old new (Ok u) → AreSaid new.records v
  made_said u old new said made = said_after old.records new.records said made.ok made.ordered

  pub made_steps : {T : Type 0} (u : T) (old new : KeeperTold) → AreSaid old.records w → Writing ws old new (Ok u) → Steps c old new (Ok u)
  made_steps u old new said made = record {
    faults = made.faults;
    ok = told_after old.records new.records said made.ok made.ordered;
    failed = λ e. absurd (cc);
    memory = λ e. absurd (cc);
  }

  told_either : (old new : KeeperTold) → AreSaid old.records w → IfSome new.records (λ kept. ascends place_cmp kept_place kept ≡ true) → (new.records ≡ old.records) ⊎ (new.records ≡ option_map (λ kept. written kept ws) old.records) → (told_world new.records ≡ told_world old.records) ⊎ (told_world new.records ≡ option_map (λ u. step u c) (told_world old.records))
  told_either old new said later (inl e) = inl (ap told_world e)
  told_either old new said later (inr e) = inr (told_after old.records new.records said e later)

  -- the keeper failed, and they were made or not
  pub failed_steps : {T : Type 0} (old new : KeeperTold) → AreSaid old.records w → Writing {T = T} ws old new (Err keep.Failed) → Steps {T = T} c old new (Err house.Failed)
  failed_steps old new said made =
      let or = made.failed refl in
      record {
        faults = made.faults;
        ok = tt;
        failed = λ e. (or.0, told_either old new said made.ordered or.1);
        memory = λ e. absurd (cc);
      }
