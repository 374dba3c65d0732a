-- What stays in a book that was swept: all of it.
use Rattle.std.proofs.Common.{◌≡◌, ℕ, ℤ, zero, suc, Bool, true, false, cond, not, ◌⊎◌, inl, inr, List, [], ◌∷◌, ◌++◌, map, Some, refl, sym, ap, ◌∙◌, subst}
use Rattle.std.specs.Prelude.{int_lt, ◌||◌}
use Rattle.std.specs.Int.{int_max}
use Rattle.std.specs.Int.Signed.{le_z}
use Rattle.std.specs.Cmp.{Equal-is}
use Rattle.std.specs.List.{filter, flat_map, list_any}
use Rattle.std.specs.Option.{option_to_list}
use Rattle.std.specs.Ordering.{is_eq}
use Rattle.std.specs.declared.cmp.Ordering.{Ordering}
use Rattle.std.specs.declared.option.Option.{Option}
use Rattle.std.proofs.lemmas.Cmp.{tied_itself}
use Rattle.mesh_base_values.specs.NameOrder.{names_total}
use Rattle.mesh_base_values.specs.declared.values.Name.{Name}
use Rattle.mesh_base.specs.Keys.{ref_cmp, refs_exact, refs_total, snapshot_ref}
use Rattle.mesh_base.specs.declared.snapshots.Env.{Env}
use Rattle.mesh_base.specs.declared.snapshots.Ref.{Ref}
use Rattle.mesh_base.specs.declared.snapshots.Snapshot.{Snapshot}
use Rattle.mesh_house_book.specs.WellFormed.{is_well_formed_book, snapshot_at}
use Rattle.mesh_house_book.specs.declared.book.Book.{Book}
use Rattle.mesh_house_book.specs.declared.versions.Version.{Version}
use Rattle.mesh_law_query.proofs.Has.{Has, Has_cases, Has_filter, Has_filter_from, Has_flat, Has_flat_from, Has_left, Has_map_from, Has_right, Has_some, Has_some_from}
use Rattle.mesh_spec_changes.specs.listed.Listed.{named}
use Rattle.mesh_spec_changes.specs.due.Parts.{same_name}
use Rattle.mesh_house.specs.Step.{run}
use Rattle.mesh_house.specs.declared.world.Change.TheVariants.{DeleteSnapshot, DropObject, ForgetVersion, Moment}
use Rattle.mesh_house.specs.declared.world.World.{World}
use Rattle.mesh_spec_changes.specs.Environments.{is_over}
use Rattle.mesh_spec_changes.specs.Kept.{both_lists, downwards, gone_snapshots, gone_tables, is_kept, is_table_kept, kept, leaving, line, removes, roots, staying, sweeps, tables}
use Rattle.mesh_janitor.proofs.janitor.Books.{is_there}
use Rattle.mesh_janitor.proofs.janitor.Reached.{kept_parent}
use Rattle.mesh_law_steps.specs.again.Swept.{swept, swept_book}
use Rattle.mesh_law_steps.proofs.again.Lists.{filter_all, filter_none}
use Rattle.mesh_law_steps.proofs.again.Names.{from_order}

any_has : (rs : List Ref) (k : Ref) → Has k rs → list_any (λ r. is_eq (ref_cmp r k)) rs ≡ true
any_has [] k h = absurd h
any_has (r ∷ rs) k (inl e) = ap (λ (o : Ordering). is_eq o || list_any (λ x. is_eq (ref_cmp x k)) rs) (ap (λ (x : Ref). ref_cmp x k) e ∙ tied_itself refs_total k)
any_has (r ∷ rs) k (inr h) = go (is_eq (ref_cmp r k)) (any_has rs k h)
  where
    go : (b : Bool) → list_any (λ x. is_eq (ref_cmp x k)) rs ≡ true → (b || list_any (λ x. is_eq (ref_cmp x k)) rs) ≡ true
    go true more = refl
    go false more = more

has_any : (rs : List Ref) (k : Ref) → list_any (λ r. is_eq (ref_cmp r k)) rs ≡ true → Has k rs
has_any [] k h = absurd (let clash : false ≡ true = h in cc)
has_any (r ∷ rs) k h = go (is_eq (ref_cmp r k)) refl (has_any rs k) h
  where
    go : (b : Bool) → is_eq (ref_cmp r k) ≡ b → (list_any (λ x. is_eq (ref_cmp x k)) rs ≡ true → Has k rs) → (b || list_any (λ x. is_eq (ref_cmp x k)) rs) ≡ true → Has k (r ∷ rs)
    go true e more i = inl (refs_exact r k ((Equal-is (ref_cmp r k)).0 e))
    go false e more i = inr (more i)

any_of : {A : Type 0} (p : A → Bool) (xs : List A) (x : A) → Has x xs → p x ≡ true → list_any p xs ≡ true
any_of p [] x h passes = absurd h
any_of {A} p (y ∷ ys) x (inl e) passes = ap (λ (b : Bool). b || list_any p ys) (ap p e ∙ passes)
any_of p (y ∷ ys) x (inr h) passes = go (p y) (any_of p ys x h passes)
  where
    go : (b : Bool) → list_any p ys ≡ true → (b || list_any p ys) ≡ true
    go true more = refl
    go false more = more

flat_as : {A B : Type 0} (f g : A → List B) (xs : List A) → ((x : A) → Has x xs → f x ≡ g x) → flat_map f xs ≡ flat_map g xs
flat_as f g [] h = refl
flat_as f g (x ∷ xs) h =
    let first = h x (inl refl) in
    let rest = flat_as f g xs (λ y k. h y (inr k)) in
    λ i. first i ++ rest i

-- an item that passes the test is found among those that pass
found_passing : (p : Snapshot → Bool) (k : Ref) (o : Option Snapshot) (xs : List Snapshot) → snapshot_at xs k ≡ o → ((x : Snapshot) → o ≡ Some x → p x ≡ true) → snapshot_at (filter p xs) k ≡ o
found_passing p k o [] h passes = h
found_passing p k o (x ∷ xs) h passes = go (is_eq (ref_cmp (snapshot_ref x) k)) refl h (λ i. found_passing p k o xs i passes)
  where
    go : (b : Bool) → is_eq (ref_cmp (snapshot_ref x) k) ≡ b → cond b (Some x) (snapshot_at xs k) ≡ o → (snapshot_at xs k ≡ o → snapshot_at (filter p xs) k ≡ o) → snapshot_at (cond (p x) (x ∷ filter p xs) (filter p xs)) k ≡ o
    go true e i more =
        ap (λ (b : Bool). snapshot_at (cond b (x ∷ filter p xs) (filter p xs)) k) (passes x (sym i))
        ∙ ap (λ (b : Bool). cond b (Some x) (snapshot_at (filter p xs) k)) e ∙ i
    go false e i more = by_test (p x)
      where
        by_test : (c : Bool) → snapshot_at (cond c (x ∷ filter p xs) (filter p xs)) k ≡ o
        by_test true = ap (λ (b : Bool). cond b (Some x) (snapshot_at (filter p xs) k)) e ∙ more i
        by_test false = more i

named_from : (all : List Snapshot) (rs : List Ref) (x : Snapshot) → Has x (named all rs) → (r : Ref) × Has r rs × (snapshot_at all r ≡ Some x)
named_from all rs x h =
    let (r, i, k) = Has_flat_from (λ (j : Ref). option_to_list (snapshot_at all j)) rs x h in
    (r, i, Has_some_from (snapshot_at all r) x k)

max_again : (x y : ℤ) → int_max (int_max x y) y ≡ int_max x y
max_again x y = go (int_lt y x) refl
  where
    same : (c : Bool) → cond c y y ≡ y
    same true = refl
    same false = refl

    go : (c : Bool) → int_lt y x ≡ c → int_max (cond c x y) y ≡ cond c x y
    go true e = ap (λ (c : Bool). cond c x y) e
    go false e = same (int_lt y y)

module _ (b : Book) (well : is_well_formed_book b ≡ true) (t : ℤ) where
  abbrev all : List Snapshot
  all = b.snapshots

  abbrev rest : List Snapshot
  rest = filter (is_kept b t) all

  abbrev after : Book
  after = swept_book b t

  abbrev listed : List Ref
  listed = flat_map both_lists (staying t b.environments)

  abbrev young : Snapshot → Bool
  young s = not (le_z s.expires t)

  line_first : (d : ℕ) (s : Snapshot) → Has (snapshot_ref s) (line all d s)
  line_first zero s = inl refl
  line_first (suc d) s = inl refl

  -- what stays for its own sake stays
  root_kept : (x : Snapshot) → Has x (roots b t) → Has x all × (is_kept b t x ≡ true)
  root_kept x h = (go (Has_cases x (named all listed) (filter young all) h), any_has (kept b t) (snapshot_ref x) (Has_flat (λ (s : Snapshot). line all s.rank s) (roots b t) x (snapshot_ref x) h (line_first x.rank x)))
    where
      go : Has x (named all listed) ⊎ Has x (filter young all) → Has x all
      go (inl i) = let (r, c, e) = named_from all listed x i in is_there all r x e
      go (inr i) = (Has_filter_from young all x i).0

  -- references that name what stays name it as before
  named_same : (rs : List Ref) → ((r : Ref) → Has r rs → (s : Snapshot) → snapshot_at all r ≡ Some s → is_kept b t s ≡ true) → named rest rs ≡ named all rs
  named_same rs stays = flat_as (λ r. option_to_list (snapshot_at rest r)) (λ r. option_to_list (snapshot_at all r)) rs (λ r h. ap option_to_list (found_passing (is_kept b t) r (snapshot_at all r) all refl (stays r h)))

  line_same : (d : ℕ) (s : Snapshot) → Has s all → is_kept b t s ≡ true → line rest d s ≡ line all d s
  line_same zero s h stays = refl
  line_same (suc d) s h stays =
      let parents = named_same s.parents (λ r i p e. kept_parent b well t s p r h stays i e) in
      let lines = flat_as (line rest d) (line all d) (named all s.parents)
      (λ p i. let (r, j, e) = named_from all s.parents p i in line_same d p (is_there all r p e) (kept_parent b well t s p r h stays j e)) in
      λ i. snapshot_ref s ∷ (ap (flat_map (line rest d)) parents ∙ lines) i

  staying_twice : staying t (staying t b.environments) ≡ staying t b.environments
  staying_twice = filter_all (λ (e : Env). not (is_over t e.expires)) (staying t b.environments) (λ e h. (Has_filter_from (λ (f : Env). not (is_over t f.expires)) b.environments e h).1)

  listed_same : named rest (flat_map both_lists (staying t (staying t b.environments))) ≡ named all listed
  listed_same =
      ap (λ (es : List Env). named rest (flat_map both_lists es)) staying_twice
      ∙ named_same listed (λ r h s e. (root_kept s (Has_left s (named all listed) (filter young all) (Has_flat (λ (j : Ref). option_to_list (snapshot_at all j)) listed r s h (Has_some (snapshot_at all r) s e)))).1)

  root_again : (x : Snapshot) → Has x (roots b t) → Has x (roots after t)
  root_again x h = go (Has_cases x (named all listed) (filter young all) h)
    where
      go : Has x (named all listed) ⊎ Has x (filter young all) → Has x (roots after t)
      go (inl i) = Has_left x (named rest (flat_map both_lists (staying t (staying t b.environments)))) (filter young rest) (subst (λ (l : List Snapshot). Has x l) (sym listed_same) i)
      go (inr i) =
          let there = Has_filter (is_kept b t) all x (root_kept x h).0 (root_kept x h).1 in
          Has_right x (named rest (flat_map both_lists (staying t (staying t b.environments)))) (filter young rest) (Has_filter young rest x there (Has_filter_from young all x i).1)

  -- what has stayed stays again
  kept_again : (s : Snapshot) → Has s rest → is_kept after t s ≡ true
  kept_again s h =
      let (there, stays) = Has_filter_from (is_kept b t) all s h in
      let (x, root, i) = Has_flat_from (λ (u : Snapshot). line all u.rank u) (roots b t) (snapshot_ref s) (has_any (kept b t) (snapshot_ref s) stays) in
      let (own, its) = root_kept x root in
      any_has (kept after t) (snapshot_ref s)
      (Has_flat (λ (u : Snapshot). line rest u.rank u) (roots after t) x (snapshot_ref s) (root_again x root) (subst (λ (l : List Ref). Has (snapshot_ref s) l) (sym (line_same x.rank x own its)) i))

  all_kept : filter (is_kept after t) rest ≡ rest
  all_kept = filter_all (is_kept after t) rest kept_again

  none_gone : gone_snapshots after t ≡ []
  none_gone = ap downwards (filter_none (λ s. not (is_kept after t s)) rest (λ s h. ap not (kept_again s h)))

  table_again : (n : Name) → is_table_kept after t n ≡ is_table_kept b t n
  table_again n = ap (λ (l : List Snapshot). list_any (λ (s : Snapshot). same_name s.object n) l) all_kept

  tables_stay : gone_tables after t ≡ []
  tables_stay = filter_none (λ n. not (is_table_kept after t n)) (tables after) (λ n h. ap not (table_again n ∙ used n (Has_cases n (map (λ (s : Snapshot). s.object) rest) (map (λ (v : Version). v.object) after.versions) (from_order _ n h))))
    where
      used : (n : Name) → Has n (map (λ (s : Snapshot). s.object) rest) ⊎ Has n (map (λ (v : Version). v.object) after.versions) → is_table_kept b t n ≡ true
      used n (inl i) =
          let (s, c, e) = Has_map_from (λ (u : Snapshot). u.object) rest n i in
          any_of (λ (u : Snapshot). same_name u.object n) rest s c (ap (λ (m : Name). same_name m n) e ∙ ap is_eq (tied_itself names_total n))
      used n (inr i) =
          let (v, c, e) = Has_map_from (λ (u : Version). u.object) after.versions n i in
          ap (is_table_kept b t) (sym e) ∙ (Has_filter_from (λ (u : Version). is_table_kept b t u.object) b.versions v c).1

  none_leaves : leaving t (staying t b.environments) ≡ []
  none_leaves = filter_none (λ (e : Env). is_over t e.expires) (staying t b.environments) (λ e h. not_over (is_over t e.expires) (Has_filter_from (λ (f : Env). not (is_over t f.expires)) b.environments e h).1)
    where
      not_over : (c : Bool) → not c ≡ true → c ≡ false
      not_over true h = absurd (let clash : false ≡ true = h in cc)
      not_over false h = refl

  pub only_the_moment : sweeps (swept_book b t) t ≡ Moment t ∷ []
  only_the_moment = λ i. Moment t ∷ (flat_map removes (none_leaves i)
      ++ (map (λ n. ForgetVersion n) (tables_stay i)
      ++ (map (λ n. DropObject n) (tables_stay i)
      ++ map (λ (s : Snapshot). DeleteSnapshot s.name s.fingerprint) (none_gone i))))

pub world_stays : (w : World) (t : ℤ) → is_well_formed_book w.book ≡ true → run (swept w t) (sweeps (swept_book w.book t) t) ≡ swept w t
world_stays w t well =
    ap (run (swept w t)) (only_the_moment w.book well t)
    ∙ (λ i. record (swept w t) { book = record (swept_book w.book t) { moment = max_again w.book.moment t i } })
