-- A world stays well kept where the snapshots that go are deleted, those first that stand on others.
use Rattle.std.proofs.Common.{◌≡◌, ℤ, ◌≤◌, Bool, true, false, not, ◌⊎◌, inl, inr, List, [], ◌∷◌, map, Some, None, refl, sym, ap, ◌∙◌, arith}
use Rattle.std.specs.List.{Contains, filter}
use Rattle.std.specs.Ordering.{nat_cmp, ordering_then}
use Rattle.std.specs.declared.cmp.Ordering.{Ordering}
use Rattle.std.specs.declared.cmp.Ordering.TheVariants.{Less, Equal, Greater}
use Rattle.std.proofs.lemmas.Cmp.{ranked}
use Rattle.mesh_list.specs.Keyed.{ascends, placed, put_by}
use Rattle.mesh_base_values.specs.declared.values.Name.{Name}
use Rattle.mesh_base.specs.Keys.{ref_cmp, refs_exact, refs_total, snapshot_ref}
use Rattle.mesh_base.specs.declared.snapshots.Env.{Env}
use Rattle.mesh_base.specs.declared.snapshots.Ref.{Ref}
use Rattle.mesh_base.specs.declared.snapshots.Snapshot.{Snapshot}
use Rattle.mesh_house_book.specs.WellFormed.{is_well_formed_book, snapshot_at}
use Rattle.mesh_house_book.specs.declared.book.Book.{Book}
use Rattle.mesh_law_query.proofs.Has.{Has, Has_from}
use Rattle.mesh_spec_changes.specs.listed.Closing.{IsSnapshot}
use Rattle.mesh_spec_changes.specs.listed.Listed.{snapshot_itself}
use Rattle.mesh_spec_changes.proofs.listed.Books.{fits, is_its_own}
use Rattle.mesh_spec_changes.proofs.listed.Lists.{placed_from}
use Rattle.mesh_house.specs.Step.{step}
use Rattle.mesh_house.specs.World.{object_at, version_of}
use Rattle.mesh_house.specs.declared.world.Change.TheVariants.{DeleteSnapshot}
use Rattle.mesh_house.specs.declared.world.World.{World}
use Rattle.mesh_spec_changes.specs.due.Parts.{Parts}
use Rattle.mesh_spec_changes.specs.Environments.{IsEnv}
use Rattle.mesh_spec_changes.specs.Kept.{down_cmp, downwards, gone_snapshots, gone_tables, is_kept, is_table_kept}
use Rattle.mesh_janitor.proofs.janitor.Books.{snapshots_ascend}
use Rattle.mesh_janitor.proofs.janitor.Reached.{kept_parent}
use Rattle.mesh_spec_promise.specs.Histories.{left}
use Rattle.mesh_spec_promise.specs.Sound.{IsEntry, Sound}
use Rattle.mesh_law_changes.proofs.SnapshotGone.{snapshot_deleted}
use Rattle.mesh_law_changes.specs.along.Along.{StaysAlong}
use Rattle.mesh_law_changes.proofs.along.Along.{along_kept}
use Rattle.mesh_law_steps.proofs.sweep.Kept.{IsStaying, entry_kept, object_goes, one_snapshot, table_user, there}
use Rattle.mesh_law_steps.proofs.sweep.Lists.{found_left, found_still}

-- none of some snapshots has a higher rank than one before it
abbrev pub IsDown : List Snapshot → Type 0
IsDown [] = Unit {0}
IsDown (s ∷ ss) = ((x : Snapshot) → Has x ss → x.rank ≤ s.rank) × IsDown ss

down_placed : (s : Snapshot) (ss : List Snapshot) → IsDown ss → IsDown (placed down_cmp snapshot_itself s ss)
down_placed s [] down = ((λ x h. absurd h), tt)
down_placed s (y ∷ ys) down = by_rank (nat_cmp s.rank y.rank) refl (down_placed s ys down.1)
  where
    Rest : Type 0
    Rest = IsDown (placed down_cmp snapshot_itself s ys)

    Goal : Ordering → Type 0
    Goal o = IsDown (put_by o y s ys (placed down_cmp snapshot_itself s ys))

    later : s.rank ≤ y.rank → (x : Snapshot) → (s ≡ x) ⊎ Has x ys → x.rank ≤ y.rank
    later l x (inl e) = omega (arith, l, ap (λ (u : Snapshot). u.rank) e)
    later l x (inr h) = down.0 x h

    below : Rest → s.rank ≤ y.rank → Goal Less
    below rest l = ((λ x h. later l x (placed_from down_cmp snapshot_itself s ys x h)), rest)

    instead : s.rank ≡ y.rank → Goal Equal
    instead e = ((λ x h. omega (arith, e, down.0 x h)), down.1)

    front : y.rank ≤ s.rank → (x : Snapshot) → Has x (y ∷ ys) → x.rank ≤ s.rank
    front l x (inl e) = omega (arith, l, ap (λ (u : Snapshot). u.rank) e)
    front l x (inr h) = omega (arith, l, down.0 x h)

    above : y.rank ≤ s.rank → Goal Greater
    above l = (front l, down)

    tied : Rest → s.rank ≡ y.rank → (o : Ordering) → Goal o
    tied rest e Less = below rest (omega (arith, e))
    tied rest e Equal = instead e
    tied rest e Greater = above (omega (arith, e))

    by_rank : (o : Ordering) → nat_cmp s.rank y.rank ≡ o → Rest → Goal (ordering_then o (ref_cmp (snapshot_ref y) (snapshot_ref s)))
    by_rank Less is rest = below rest (let l = ranked s.rank y.rank Less (sym is) in omega (arith, l))
    by_rank Equal is rest = tied rest (ranked s.rank y.rank Equal (sym is)) (ref_cmp (snapshot_ref y) (snapshot_ref s))
    by_rank Greater is rest = above (let l = ranked s.rank y.rank Greater (sym is) in omega (arith, l))

down_ordered : (ss : List Snapshot) → IsDown (downwards ss)
down_ordered [] = tt
down_ordered (s ∷ ss) = down_placed s (downwards ss) (down_ordered ss)

-- the janitor deletes in such an order
pub gone_down : (b : Book) (t : ℤ) → IsDown (gone_snapshots b t)
gone_down b t = down_ordered (filter (λ s. not (is_kept b t s)) b.snapshots)

module _ (b : Book) (well : is_well_formed_book b ≡ true) (t : ℤ) where
  abbrev all : List Snapshot
  all = b.snapshots

  -- What is left while these snapshots are still to go: they and those that stay, the environments that stay, and
  -- nothing of a table that goes.
  pub record IsLeft (ss : List Snapshot) (w : World) : Type 0 where
    pub known : (s : Snapshot) → IsSnapshot w.book.snapshots s → IsSnapshot all s × ((is_kept b t s ≡ true) ⊎ Has s ss)
    pub kept : (s : Snapshot) → IsSnapshot all s → is_kept b t s ≡ true → IsSnapshot w.book.snapshots s
    pub envs : (e : Env) → IsEnv w.book e → IsStaying b well t e
    pub versions : (n : Name) → Has n (gone_tables b t) → version_of w.book n ≡ None
    pub objects : (n : Name) → Has n (gone_tables b t) → object_at w n ≡ None

  module _ (w : World) (s : Snapshot) (ss : List Snapshot) (rest : IsLeft (s ∷ ss) w) (own : IsSnapshot all s) (goes : is_kept b t s ≡ false) (low : (x : Snapshot) → Has x ss → x.rank ≤ s.rank) where
    abbrev r : Ref
    r = snapshot_ref s

    named : (q : Ref) → q ≡ r → snapshot_at all q ≡ Some s
    named q same = ap (snapshot_at all) same ∙ own

    stays_not : is_kept b t s ≡ true → ⊥
    stays_not stays = let clash : true ≡ false = sym stays ∙ goes in absurd cc

    unlisted : (e : Env) → IsEnv w.book e → (q : Ref) → IsEntry e q → q ≡ r → ⊥
    unlisted e known q entry same = stays_not (entry_kept b well t e (rest.envs e known) q entry s (named q same))

    lower : (p : Snapshot) → Has p (s ∷ ss) → p.rank ≤ s.rank
    lower p (inl e) = omega (arith, ap (λ (u : Snapshot). u.rank) e)
    lower p (inr h) = low p h

    childless : (p : Snapshot) → IsSnapshot w.book.snapshots p → (q : Ref) → Contains p.parents q → q ≡ r → ⊥
    childless p known q parent same = go (rest.known p known).1
      where
        its : IsSnapshot all p
        its = (rest.known p known).0

        h : Has q p.parents
        h = Has_from p.parents q parent

        go : (is_kept b t p ≡ true) ⊎ Has p (s ∷ ss) → ⊥
        go (inl stays) = stays_not (kept_parent b well t p s q (there b well t p its) stays h (named q same))
        go (inr k) =
            let a = (fits b p well its).parents q h in
            let one : a.snapshot ≡ s = (let both : Some a.snapshot ≡ Some s = sym a.known ∙ named q same in cc) in
            absurd (omega (arith, a.lower, lower p k, ap (λ (u : Snapshot). u.rank) one))

    left_over : (p : Snapshot) → snapshot_at w.book.snapshots r ≡ Some p
        → ((version_of w.book p.object ≡ None) × (object_at w p.object ≡ None)) ⊎ ((other : Snapshot) × IsSnapshot w.book.snapshots other × (other.object ≡ p.object) × (snapshot_ref other ≡ r → ⊥))
    left_over p at = go (is_table_kept b t p.object) refl
      where
        its : IsSnapshot all p
        its = (rest.known p (is_its_own w.book.snapshots r p at)).0

        go : (c : Bool) → is_table_kept b t p.object ≡ c
            → ((version_of w.book p.object ≡ None) × (object_at w p.object ≡ None)) ⊎ ((other : Snapshot) × IsSnapshot w.book.snapshots other × (other.object ≡ p.object) × (snapshot_ref other ≡ r → ⊥))
        go true is =
            let (other, known, stays, same) = table_user b well t p.object is in
            inr (other, rest.kept other known stays, same, λ e. stays_not (ap (is_kept b t) (sym (one_snapshot b well t other s known own e)) ∙ stays))
        go false is = let h = object_goes b well t p its is in inl (rest.versions p.object h, rest.objects p.object h)

    module _ (x : Parts) (sound : Sound x w) where
      abbrev gone : World
      gone = step w (DeleteSnapshot s.name s.fingerprint)

      next_along : StaysAlong x w (DeleteSnapshot s.name s.fingerprint ∷ [])
      next_along = along_kept x w (DeleteSnapshot s.name s.fingerprint) sound (snapshot_deleted x w sound s.name s.fingerprint unlisted childless left_over) (λ q. refl)

      next_left : IsLeft ss gone
      next_left = record {
        known = λ p k.
            let a = found_left ref_cmp refs_total refs_exact snapshot_ref (r ∷ []) w.book.snapshots (snapshot_ref p) p up k in
            let before = rest.known p a.0 in
            (before.0, fewer p (λ e. a.1 (inl e)) before.1);
        kept = λ p known stays.
            found_still ref_cmp refs_total refs_exact snapshot_ref (r ∷ []) w.book.snapshots (snapshot_ref p) up (other p known stays)
            ∙ rest.kept p known stays;
        envs = rest.envs;
        versions = rest.versions;
        objects = rest.objects;
      }
        where
          up : ascends ref_cmp snapshot_ref w.book.snapshots ≡ true
          up = snapshots_ascend w.book sound.book.well_formed

          fewer : (p : Snapshot) → (r ≡ snapshot_ref p → ⊥) → (is_kept b t p ≡ true) ⊎ Has p (s ∷ ss) → (is_kept b t p ≡ true) ⊎ Has p ss
          fewer p differs (inl stays) = inl stays
          fewer p differs (inr (inl e)) = absurd (differs (ap snapshot_ref e))
          fewer p differs (inr (inr h)) = inr h

          other : (p : Snapshot) → IsSnapshot all p → is_kept b t p ≡ true → Has (snapshot_ref p) (r ∷ []) → ⊥
          other p known stays (inl e) = stays_not (ap (is_kept b t) (one_snapshot b well t s p own known e) ∙ stays)
          other p known stays (inr none) = none

  pub snapshots_along : (x : Parts) (w : World) → Sound x w → (ss : List Snapshot) → IsLeft ss w → IsDown ss → ((s : Snapshot) → Has s ss → IsSnapshot all s × (is_kept b t s ≡ false))
      → StaysAlong x w (map (λ (s : Snapshot). DeleteSnapshot s.name s.fingerprint) ss)
  snapshots_along x w sound [] rest down go = sound
  snapshots_along x w sound (s ∷ ss) rest down go =
      let (own, goes) = go s (inl refl) in
      let next = next_along w s ss rest own goes down.0 x sound in
      (sound, snapshots_along (left (DeleteSnapshot s.name s.fingerprint ∷ []) x) (step w (DeleteSnapshot s.name s.fingerprint)) next.1 ss (next_left w s ss rest own goes down.0 x sound) down.1 (λ u h. go u (inr h)))
