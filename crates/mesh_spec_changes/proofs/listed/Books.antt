-- What a well-formed book tells of one of its snapshots.
use Rattle.std.proofs.Common.{◌≡◌, ℕ, ◌<◌, Bool, true, false, cond, ◌&&◌, nat_eq, nat_le, List, [], ◌∷◌, Some, None, refl, sym, ap, subst, arith, eqb-true}
use Rattle.std.specs.declared.option.Option.{Option}
use Rattle.std.specs.Cmp.{Equal-is}
use Rattle.std.specs.Option.{is_some}
use Rattle.std.specs.Ordering.{is_eq}
use Rattle.mesh_list.specs.Keyed.{found}
use Rattle.mesh_list.proofs.Ascends.{and_left, and_right}
use Rattle.mesh_base_values.specs.Names.{name_cmp, has_two_underscores}
use Rattle.mesh_base_values.specs.NameOrder.{names_exact}
use Rattle.mesh_base.specs.Keys.{ref_cmp, refs_exact, snapshot_ref}
use Rattle.mesh_base.specs.declared.snapshots.Ref.{Ref}
use Rattle.mesh_base.specs.declared.snapshots.Snapshot.{Snapshot}
use Rattle.mesh_base.specs.rules.Proper.{is_well_formed, stands_on}
use Rattle.mesh_base.specs.rules.Relations.{rank_over}
use Rattle.mesh_house_book.specs.declared.book.Book.{Book}
use Rattle.mesh_house_book.specs.WellFormed.{all_fit, are_kept, is_above, is_kept, is_moment, is_snapshot_fit, is_version, is_well_formed_book, parent, parents_of, rank_at, snapshot_at, suits}
use Rattle.mesh_house_book.proofs.Exchanged.{found_key}
use Rattle.mesh_law_query.proofs.Finding.{one_passes}
use Rattle.mesh_law_query.proofs.Has.{Has, Has_map}
use Rattle.mesh_law_query.proofs.Projects.{above_each}
use Rattle.mesh_spec_changes.specs.listed.Closing.{IsSnapshot}

-- a parent is there, and has a lower rank
pub record IsParent (all : List Snapshot) (rank : ℕ) (r : Ref) : Type 0 where
  pub snapshot : Snapshot
  pub known : snapshot_at all r ≡ Some snapshot
  pub lower : snapshot.rank < rank

pub record Fit (all : List Snapshot) (s : Snapshot) : Type 0 where
  pub name : s.own.name ≡ s.name
  pub parents : (r : Ref) → Has r s.parents → IsParent all s.rank r
  pub stands : stands_on (parents_of all s.parents) s.rank s.own ≡ true

-- what is found by a reference has it
pub its_ref : (all : List Snapshot) (r : Ref) (s : Snapshot) → snapshot_at all r ≡ Some s → snapshot_ref s ≡ r
its_ref all r s e = found_key ref_cmp snapshot_ref refs_exact r s all e

pub is_its_own : (all : List Snapshot) (r : Ref) (s : Snapshot) → snapshot_at all r ≡ Some s → IsSnapshot all s
is_its_own all r s e = subst (λ (k : Ref). snapshot_at all k ≡ Some s) (sym (its_ref all r s e)) e

pub kept_at : (all : List Snapshot) (r : Ref) → is_kept all r ≡ true → (s : Snapshot) × (snapshot_at all r ≡ Some s)
kept_at all r k = go (snapshot_at all r) refl k
  where
    go : (o : Option Snapshot) → snapshot_at all r ≡ o → is_some o ≡ true → (s : Snapshot) × (snapshot_at all r ≡ Some s)
    go None e h = absurd (cc)
    go (Some s) e h = (s, e)

fit_among : (version : ℕ) (all rest : List Snapshot) (before : Option Snapshot) (r : Ref) (s : Snapshot) → all_fit (is_snapshot_fit version all) before rest ≡ true → found ref_cmp snapshot_ref r rest ≡ Some s
    → (b : Option Snapshot) × (is_snapshot_fit version all b s ≡ true)
fit_among version all [] before r s ok e = absurd (let f : None ≡ Some s = e in cc)
fit_among version all (t ∷ ts) before r s ok e =
    go (is_eq (ref_cmp (snapshot_ref t) r)) (fit_among version all ts (Some t) r s (and_right (is_snapshot_fit version all before t) (all_fit (is_snapshot_fit version all) (Some t) ts) ok)) e
  where
    go : (b : Bool) → (found ref_cmp snapshot_ref r ts ≡ Some s → (b : Option Snapshot) × (is_snapshot_fit version all b s ≡ true))
        → cond b (Some t) (found ref_cmp snapshot_ref r ts) ≡ Some s → (b : Option Snapshot) × (is_snapshot_fit version all b s ≡ true)
    go true more f =
        let same : t ≡ s = cc in
        (before, subst (λ (u : Snapshot). is_snapshot_fit version all before u ≡ true) same (and_left (is_snapshot_fit version all before t) (all_fit (is_snapshot_fit version all) (Some t) ts) ok))
    go false more f = more f

parents_lower : (all : List Snapshot) (rank : ℕ) (refs : List Ref) → are_kept all refs ≡ true → rank ≡ rank_over 0 (parents_of all refs) → (r : Ref) → Has r refs → IsParent all rank r
parents_lower all rank refs kept is r h =
    let (p, e) = kept_at all r (one_passes (is_kept all) refs r kept h) in
    record {
      snapshot = p;
      known = e;
      lower =
          let above : rank_at (snapshot_at all r) < rank_over 0 (parents_of all refs) = above_each 0 (parents_of all refs) (parent all r) (Has_map (parent all) refs r (parent all r) h refl) in
          let its : rank_at (snapshot_at all r) ≡ p.rank = ap rank_at e in
          omega (arith, above, its, is);
    }

pub fits : (b : Book) (s : Snapshot) → is_well_formed_book b ≡ true → IsSnapshot b.snapshots s → Fit b.snapshots s
fits b s well known =
    let all = b.snapshots in
    let snapshots = and_left (all_fit (is_snapshot_fit b.version all) None all) _ (and_right (is_moment b.moment && is_version b.version) _ well) in
    let (before, rule) = fit_among b.version all all None (snapshot_ref s) s snapshots known in
    let object = and_right (is_above ref_cmp snapshot_ref before s) _ rule in
    let named = and_right (has_two_underscores s.object.schema) _ object in
    let suited = and_right (is_eq (name_cmp s.own.name s.name)) _ named in
    let kept = and_right (suits b.version s.own.kind) _ suited in
    let ranked = and_right (are_kept all s.parents) _ kept in
    let stands : stands_on (parents_of all s.parents) s.rank s.own ≡ true = and_right (nat_le s.rank 4095) _ ranked in
    let rank : s.rank ≡ rank_over 0 (parents_of all s.parents) =
    eqb-true s.rank (rank_over 0 (parents_of all s.parents)) (and_left (nat_eq s.rank (rank_over 0 (parents_of all s.parents))) (is_well_formed (parents_of all s.parents) s.own) stands) in
    record {
      name = names_exact s.own.name s.name ((Equal-is (name_cmp s.own.name s.name)).0 (and_left (is_eq (name_cmp s.own.name s.name)) _ named));
      parents = parents_lower all s.rank s.parents (and_left (are_kept all s.parents) _ kept) rank;
      stands = stands;
    }
