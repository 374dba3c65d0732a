-- The snapshots of a well-formed book ascend, and each is found by its reference.
use Rattle.std.proofs.Common.{◌≡◌, ℕ, ◌≤◌, ◌<◌, suc, Bool, true, false, cond, ◌&&◌, ◌⊎◌, nat_le, inl, inr, List, [], ◌∷◌, Some, None, refl, ap, ◌∙◌, subst, arith}
use Rattle.std.specs.Ordering.{is_eq}
use Rattle.std.specs.declared.cmp.Ordering.{Ordering}
use Rattle.std.specs.declared.option.Option.{Option}
use Rattle.std.proofs.lemmas.Bool.Decides.{leb_tells}
use Rattle.std.proofs.lemmas.Cmp.{tied_itself}
use Rattle.std.proofs.lemmas.Bool.{and_from as and_both}
use Rattle.mesh_list.specs.Keyed.{ascends, below_first, found}
use Rattle.mesh_list.proofs.Ascends.{and_left, and_right}
use Rattle.mesh_base.specs.Keys.{ref_cmp, refs_total, snapshot_ref}
use Rattle.mesh_base.specs.declared.snapshots.Ref.{Ref}
use Rattle.mesh_base.specs.declared.snapshots.Snapshot.{Snapshot}
use Rattle.mesh_house_book.specs.declared.book.Book.{Book}
use Rattle.mesh_house_book.specs.WellFormed.{all_fit, is_above, is_moment, is_snapshot_fit, is_version, is_well_formed_book, snapshot_at}
use Rattle.mesh_law_query.proofs.Has.{Has}
use Rattle.mesh_spec_changes.specs.listed.Closing.{IsSnapshot}
use Rattle.mesh_spec_changes.proofs.listed.Lists.{below_each}
use Rattle.mesh_janitor.specs.migrate.Walk.{limit_above, limit_from}

rising : (version : ℕ) (all : List Snapshot) (before : Option Snapshot) (ss : List Snapshot) → all_fit (is_snapshot_fit version all) before ss ≡ true → ascends ref_cmp snapshot_ref ss ≡ true
rising version all before [] ok = refl
rising version all before (s ∷ []) ok = refl
rising version all before (s ∷ t ∷ ts) ok =
    let rest = and_right (is_snapshot_fit version all before s) (all_fit (is_snapshot_fit version all) (Some s) (t ∷ ts)) ok in
    let fit = and_left (is_snapshot_fit version all (Some s) t) (all_fit (is_snapshot_fit version all) (Some t) ts) rest in
    and_both (below_first ref_cmp snapshot_ref (snapshot_ref s) (t ∷ ts)) (ascends ref_cmp snapshot_ref (t ∷ ts)) (and_left (is_above ref_cmp snapshot_ref (Some s) t) _ fit) (rising version all (Some s) (t ∷ ts) rest)

pub snapshots_ascend : (b : Book) → is_well_formed_book b ≡ true → ascends ref_cmp snapshot_ref b.snapshots ≡ true
snapshots_ascend b well =
    rising b.version b.snapshots None b.snapshots (and_left (all_fit (is_snapshot_fit b.version b.snapshots) None b.snapshots) _ (and_right (is_moment b.moment && is_version b.version) _ well))

pub its_own : (ss : List Snapshot) → ascends ref_cmp snapshot_ref ss ≡ true → (s : Snapshot) → Has s ss → IsSnapshot ss s
its_own [] up s h = absurd h
its_own (t ∷ ts) up s (inl e) =
    subst (λ (u : Snapshot). IsSnapshot (t ∷ ts) u) e (ap (λ (o : Ordering). cond (is_eq o) (Some t) (found ref_cmp snapshot_ref (snapshot_ref t) ts)) (tied_itself refs_total (snapshot_ref t)))
its_own (t ∷ ts) up s (inr h) =
    let first = and_left (below_first ref_cmp snapshot_ref (snapshot_ref t) ts) (ascends ref_cmp snapshot_ref ts) up in
    let later = and_right (below_first ref_cmp snapshot_ref (snapshot_ref t) ts) (ascends ref_cmp snapshot_ref ts) up in
    ap (λ (o : Ordering). cond (is_eq o) (Some t) (found ref_cmp snapshot_ref (snapshot_ref s) ts)) (below_each ref_cmp refs_total snapshot_ref (snapshot_ref t) ts first later s h)
    ∙ its_own ts later s h

pub is_there : (ss : List Snapshot) (r : Ref) (s : Snapshot) → snapshot_at ss r ≡ Some s → Has s ss
is_there [] r s e = absurd (let clash : None ≡ Some s = e in cc)
is_there (t ∷ ts) r s e = go (is_eq (ref_cmp (snapshot_ref t) r)) e (is_there ts r s)
  where
    go : (b : Bool) → cond b (Some t) (found ref_cmp snapshot_ref r ts) ≡ Some s → (snapshot_at ts r ≡ Some s → Has s ts) → Has s (t ∷ ts)
    go true f more = inl (let same : t ≡ s = cc in same)
    go false f more = inr (more f)

-- a limit above all ranks
above_both : (limit rank : ℕ) → (limit ≤ limit_above limit rank) × (rank < limit_above limit rank)
above_both limit rank = go (nat_le limit rank) (leb_tells limit rank)
  where
    go : (b : Bool) → ((b ≡ true) × (limit ≤ rank)) ⊎ ((b ≡ false) × (rank < limit)) → (limit ≤ cond b (suc rank) limit) × (rank < cond b (suc rank) limit)
    go true (inl (e, l)) = (omega (arith, l), omega arith)
    go true (inr (e, l)) = absurd (cc)
    go false (inl (e, l)) = absurd (cc)
    go false (inr (e, l)) = (omega arith, l)

limit_grows : (ss : List Snapshot) (limit : ℕ) → limit ≤ limit_from limit ss
limit_grows [] limit = omega arith
limit_grows (s ∷ ss) limit = omega (arith, limit_grows ss (limit_above limit s.rank), (above_both limit s.rank).0)

pub below_limit : (ss : List Snapshot) (limit : ℕ) (s : Snapshot) → Has s ss → s.rank < limit_from limit ss
below_limit [] limit s h = absurd h
below_limit (t ∷ ts) limit s (inl e) = omega (arith, limit_grows ts (limit_above limit t.rank), (above_both limit t.rank).1, ap (λ (u : Snapshot). u.rank) e)
below_limit (t ∷ ts) limit s (inr h) = below_limit ts (limit_above limit t.rank) s h
