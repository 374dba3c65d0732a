-- What stays in a sweep: entries of environments that stay, and all that stands under what stays.
use Rattle.std.proofs.Common.{◌≡◌, ℕ, ℤ, zero, suc, Bool, true, false, not, inl, inr, List, [], ◌∷◌, ◌++◌, map, Some, refl, sym, ap, ◌∙◌}
use Rattle.std.specs.Prelude.{◌||◌}
use Rattle.std.specs.Cmp.{Equal-is}
use Rattle.std.specs.Int.Signed.{le_z}
use Rattle.std.specs.List.{filter, flat_map, list_any}
use Rattle.std.specs.Option.{option_to_list}
use Rattle.std.specs.Ordering.{is_eq}
use Rattle.std.proofs.lemmas.Cmp.{tied_itself}
use Rattle.mesh_base_values.specs.Names.{name_cmp, text_cmp}
use Rattle.mesh_base_values.specs.NameOrder.{names_exact}
use Rattle.mesh_base_values.specs.declared.values.Name.{Name}
use Rattle.mesh_base.specs.Keys.{env_name, ref_cmp, refs_total, snapshot_ref}
use Rattle.mesh_base.specs.declared.snapshots.Env.{Env}
use Rattle.mesh_base.specs.declared.snapshots.Ref.{Ref}
use Rattle.mesh_base.specs.declared.snapshots.Snapshot.{Snapshot}
use Rattle.mesh_house_book.specs.WellFormed.{is_well_formed_book, snapshot_at}
use Rattle.mesh_house_book.specs.declared.book.Book.{Book}
use Rattle.mesh_house_book.specs.declared.versions.Version.{Version}
use Rattle.mesh_law_query.proofs.Has.{Has, Has_filter, Has_filter_from, Has_flat, Has_from, Has_left, Has_map, Has_right, Has_some, Has_to}
use Rattle.mesh_spec_changes.specs.listed.Closing.{IsSnapshot}
use Rattle.mesh_spec_changes.specs.listed.Listed.{named}
use Rattle.mesh_spec_changes.specs.due.Parts.{same_name}
use Rattle.mesh_spec_changes.specs.Environments.{IsEnv, is_over}
use Rattle.mesh_spec_changes.specs.Kept.{both_lists, gone_tables, is_kept, is_table_kept, kept, leaving, line, roots, staying, tables}
use Rattle.mesh_janitor.proofs.janitor.Books.{is_there, its_own, snapshots_ascend}
use Rattle.mesh_janitor.proofs.janitor.Goes.{used_stays}
use Rattle.mesh_spec_promise.specs.Sound.{IsEntry}
use Rattle.mesh_spec_promise.proofs.Ends.{found_contained}
use Rattle.mesh_law_steps.proofs.again.Names.{in_order}

any_has : (rs : List Ref) (k : Ref) → Has k rs → list_any (λ r. is_eq (ref_cmp r k)) rs ≡ true
any_has [] k h = absurd h
any_has (r ∷ rs) k (inl e) = ap (λ (b : Bool). b || list_any (λ x. is_eq (ref_cmp x k)) rs) (ap (λ (x : Ref). is_eq (ref_cmp x k)) e ∙ (Equal-is (ref_cmp k k)).1 (tied_itself refs_total k))
any_has (r ∷ rs) k (inr h) = go (is_eq (ref_cmp r k)) (any_has rs k h)
  where
    go : (b : Bool) → list_any (λ x. is_eq (ref_cmp x k)) rs ≡ true → (b || list_any (λ x. is_eq (ref_cmp x k)) rs) ≡ true
    go true more = refl
    go false more = more

-- one of some items passes a test
one_of : {A : Type 0} (p : A → Bool) (xs : List A) → list_any p xs ≡ true → (x : A) × Has x xs × (p x ≡ true)
one_of p [] h = absurd (let clash : false ≡ true = h in cc)
one_of {A} p (x ∷ xs) h = go (p x) refl (one_of p xs) h
  where
    go : (b : Bool) → p x ≡ b → (list_any p xs ≡ true → (y : A) × Has y xs × (p y ≡ true)) → (b || list_any p xs) ≡ true → (y : A) × Has y (x ∷ xs) × (p y ≡ true)
    go true e more i = (x, inl refl, e)
    go false e more i = let (y, j, passes) = more i in (y, inr j, passes)

line_first : (all : List Snapshot) (d : ℕ) (s : Snapshot) → Has (snapshot_ref s) (line all d s)
line_first all zero s = inl refl
line_first all (suc d) s = inl refl

-- an environment stands among those of its book
pub env_there : (b : Book) (e : Env) → IsEnv b e → Has e b.environments
env_there b e known = Has_from b.environments e (found_contained text_cmp env_name e.name e b.environments known)

module _ (b : Book) (well : is_well_formed_book b ≡ true) (t : ℤ) where
  abbrev all : List Snapshot
  all = b.snapshots

  -- a reference names one snapshot of the book
  pub one_snapshot : (s p : Snapshot) → IsSnapshot all s → IsSnapshot all p → snapshot_ref s ≡ snapshot_ref p → s ≡ p
  one_snapshot s p i j e = let both : Some s ≡ Some p = sym i ∙ ap (snapshot_at all) e ∙ j in cc

  pub there : (s : Snapshot) → IsSnapshot all s → Has s all
  there s known = is_there all (snapshot_ref s) s known

  pub its : (s : Snapshot) → Has s all → IsSnapshot all s
  its s h = its_own all (snapshots_ascend b well) s h

  -- the environments that stay are in the book, and their time isn't over
  abbrev pub IsStaying : Env → Type 0
  IsStaying e = IsEnv b e × (is_over t e.expires ≡ false)

  -- an entry of an environment that stays
  pub entry_kept : (e : Env) → IsStaying e → (r : Ref) → IsEntry e r → (s : Snapshot) → snapshot_at all r ≡ Some s → is_kept b t s ≡ true
  entry_kept e stays r entry s at =
      let env : Has e (staying t b.environments) = Has_filter (λ (f : Env). not (is_over t f.expires)) b.environments e (env_there b e stays.0) (ap not stays.1) in
      let listed : Has r (flat_map both_lists (staying t b.environments)) = Has_flat both_lists (staying t b.environments) e r env (among entry) in
      let own : Has s (named all (flat_map both_lists (staying t b.environments))) =
      Has_flat (λ (j : Ref). option_to_list (snapshot_at all j)) (flat_map both_lists (staying t b.environments)) r s listed (Has_some (snapshot_at all r) s at) in
      let root : Has s (roots b t) = Has_left s (named all (flat_map both_lists (staying t b.environments))) (filter (λ (u : Snapshot). not (le_z u.expires t)) all) own in
      any_has (kept b t) (snapshot_ref s) (Has_flat (λ (u : Snapshot). line all u.rank u) (roots b t) s (snapshot_ref s) root (line_first all s.rank s))
    where
      among : IsEntry e r → Has r (both_lists e)
      among (inl k) = Has_left r e.list e.previous (Has_from e.list r k)
      among (inr k) = Has_right r e.list e.previous (Has_from e.previous r k)

  -- a table that stays has a snapshot that does
  pub table_user : (name : Name) → is_table_kept b t name ≡ true → (s : Snapshot) × IsSnapshot all s × (is_kept b t s ≡ true) × (s.object ≡ name)
  table_user name stays =
      let (s, i, same) = one_of (λ (u : Snapshot). same_name u.object name) (filter (is_kept b t) all) stays in
      let a = Has_filter_from (is_kept b t) all s i in
      (s, its s a.0, a.1, names_exact s.object name ((Equal-is (name_cmp s.object name)).0 same))

  gone_is : (name : Name) → Has name (tables b) → is_table_kept b t name ≡ false → Has name (gone_tables b t)
  gone_is name h goes = Has_filter (λ n. not (is_table_kept b t n)) (tables b) name h (ap not goes)

  -- a table that goes is none that stays
  pub gone_not : (name : Name) → Has name (gone_tables b t) → is_table_kept b t name ≡ true → ⊥
  gone_not name h stays =
      let a = Has_filter_from (λ n. not (is_table_kept b t n)) (tables b) name h in
      let clash : false ≡ true = ap not (sym stays) ∙ a.1 in absurd cc

  abbrev objects : List Name
  objects = map (λ (s : Snapshot). s.object) all

  abbrev recorded : List Name
  recorded = map (λ (v : Version). v.object) b.versions

  -- the table of a snapshot, or of a version, stays or goes
  pub object_goes : (s : Snapshot) → IsSnapshot all s → is_table_kept b t s.object ≡ false → Has s.object (gone_tables b t)
  object_goes s known goes = gone_is s.object (in_order (objects ++ recorded) s.object (Has_left s.object objects recorded (Has_map (λ (u : Snapshot). u.object) all s s.object (there s known) refl))) goes

  pub version_goes : (v : Version) → Has v b.versions → is_table_kept b t v.object ≡ false → Has v.object (gone_tables b t)
  version_goes v h goes = gone_is v.object (in_order (objects ++ recorded) v.object (Has_right v.object objects recorded (Has_map (λ (u : Version). u.object) b.versions v v.object h refl))) goes

  -- the table of a snapshot that stays doesn't go
  pub kept_object : (s : Snapshot) → IsSnapshot all s → is_kept b t s ≡ true → Has s.object (gone_tables b t) → ⊥
  kept_object s known stays h = used_stays b t s (Has_to all s (there s known)) stays (Has_to (gone_tables b t) s.object h)

  -- an environment that doesn't leave stays
  pub not_leaving : (e : Env) → IsEnv b e → (Has e.name (map env_name (leaving t b.environments)) → ⊥) → IsStaying e
  not_leaving e known other = (known, go (is_over t e.expires) refl)
    where
      go : (c : Bool) → is_over t e.expires ≡ c → c ≡ false
      go true over = absurd (other (Has_map env_name (leaving t b.environments) e e.name (Has_filter (λ (f : Env). is_over t f.expires) b.environments e (env_there b e known) over) refl))
      go false over = refl
