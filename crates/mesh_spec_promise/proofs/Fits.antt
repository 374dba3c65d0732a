-- What a well-formed book tells of the definition of one of its snapshots.
use Rattle.std.proofs.Common.{◌≡◌, ◌≤◌, Bool, true, false, cond, ◌&&◌, nat_eq, nat_le, List, [], ◌∷◌, Some, None, sym, ◌∙◌, ap, subst, leb-true}
use Rattle.std.specs.Ordering.{is_eq}
use Rattle.std.specs.declared.option.Option.{Option}
use Rattle.std.specs.declared.cmp.Ordering.{Ordering}
use Rattle.mesh_list.specs.Keyed.{found}
use Rattle.mesh_list.proofs.Ascends.{and_left, and_right}
use Rattle.mesh_base_values.specs.Names.{name_cmp, has_two_underscores}
use Rattle.mesh_base.specs.Keys.{ref_cmp, snapshot_ref}
use Rattle.mesh_base.specs.Outputs.{columns_of}
use Rattle.mesh_base.specs.declared.snapshots.Ref.{Ref}
use Rattle.mesh_base.specs.declared.snapshots.Snapshot.{Snapshot}
use Rattle.mesh_base_values.specs.declared.values.Name.{Name}
use Rattle.mesh_base.specs.rules.Proper.{has_its_time, is_body_of, is_body_seen, is_plain_schema, is_well_formed}
use Rattle.mesh_base.specs.rules.Relations.{rank_over, read_relations}
use Rattle.mesh_base.specs.rules.Seen.{are_distinct}
use Rattle.mesh_base_values.specs.Crons.{is_cron}
use Rattle.mesh_house_book.specs.declared.book.Book.{Book}
use Rattle.mesh_house_book.specs.WellFormed.{all_fit, are_kept, is_above, is_moment, is_snapshot_fit, is_version, is_well_formed_book, parents_of, snapshot_at, suits}
use Rattle.mesh_spec_changes.specs.listed.Closing.{IsSnapshot}
use Rattle.mesh_spec_changes.proofs.listed.Books.{fits, is_its_own, its_ref}

-- what is found keeps the rule of its list
pub fit_found : {A K : Type 0} (R : K → K → Ordering) (key : A → K) (rule : Option A → A → Bool) (xs : List A) (before : Option A) (k : K) (x : A) → all_fit rule before xs ≡ true → found R key k xs ≡ Some x
    → (b : Option A) × (rule b x ≡ true)
fit_found R key rule [] before k x ok e = absurd (let f : None ≡ Some x = e in cc)
fit_found {A} R key rule (y ∷ ys) before k x ok e = go (is_eq (R (key y) k)) (fit_found R key rule ys (Some y) k x (and_right (rule before y) (all_fit rule (Some y) ys) ok)) e
  where
    go : (b : Bool) → (found R key k ys ≡ Some x → (b : Option A) × (rule b x ≡ true)) → cond b (Some y) (found R key k ys) ≡ Some x → (b : Option A) × (rule b x ≡ true)
    go true more f = let same : y ≡ x = cc in (before, subst (λ (z : A). rule before z ≡ true) same (and_left (rule before y) (all_fit rule (Some y) ys) ok))
    go false more f = more f

module _ (b : Book) (s : Snapshot) (well : is_well_formed_book b ≡ true) (known : IsSnapshot b.snapshots s) where
  formed : is_well_formed (parents_of b.snapshots s.parents) s.own ≡ true
  formed = and_right (nat_eq s.rank (rank_over 0 (parents_of b.snapshots s.parents))) _ (fits b s well known).stands

  its_schema : is_plain_schema s.own.name.schema ≡ true
  its_schema = and_left (is_plain_schema s.own.name.schema) _ formed

  pub its_body : is_body_of s.own.kind s.own.defn ≡ true
  its_body = and_left (is_body_of s.own.kind s.own.defn) _ (and_right (is_plain_schema s.own.name.schema) _ formed)

  pub its_names : is_body_seen (read_relations s.own.sources (parents_of b.snapshots s.parents)) s.own.defn ≡ true
  its_names =
      let bodied = and_right (is_plain_schema s.own.name.schema) _ formed in
      let timed = and_right (is_body_of s.own.kind s.own.defn) _ bodied in
      let ticking = and_right (is_cron s.own.cron) _ timed in
      let distinct = and_right (has_its_time s.own.kind s.own.start (columns_of s.own)) _ ticking in
      let seen = and_right (are_distinct (columns_of s.own)) _ distinct in
      and_left (is_body_seen (read_relations s.own.sources (parents_of b.snapshots s.parents)) s.own.defn) _ seen

  pub its_rank : s.rank ≤ 4095
  its_rank =
      let all = b.snapshots in
      let snapshots = and_left (all_fit (is_snapshot_fit b.version all) None all) _ (and_right (is_moment b.moment && is_version b.version) _ well) in
      let rule = fit_found ref_cmp snapshot_ref (is_snapshot_fit b.version all) all None (snapshot_ref s) s snapshots known in
      let object = and_right (is_above ref_cmp snapshot_ref rule.0 s) _ rule.1 in
      let named = and_right (has_two_underscores s.object.schema) _ object in
      let suited = and_right (is_eq (name_cmp s.own.name s.name)) _ named in
      let kept = and_right (suits b.version s.own.kind) _ suited in
      let ranked = and_right (are_kept all s.parents) _ kept in
      leb-true s.rank 4095 (and_left (nat_le s.rank 4095) _ ranked)

-- the schema of a snapshot's name
pub plain_ref : (b : Book) (r : Ref) (s : Snapshot) → is_well_formed_book b ≡ true → snapshot_at b.snapshots r ≡ Some s → is_plain_schema r.name.schema ≡ true
plain_ref b r s well at =
    let own = is_its_own b.snapshots r s at in
    let its_name : s.own.name ≡ r.name = (fits b s well own).name ∙ ap (λ (k : Ref). k.name) (its_ref b.snapshots r s at) in
    ap (λ (n : Name). is_plain_schema n.schema) (sym its_name) ∙ its_schema b s well own
