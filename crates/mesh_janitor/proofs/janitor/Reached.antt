-- A snapshot is young or wanted in the end just where it stays.
use Rattle.std.proofs.Common.{◌≡◌, ℕ, ℤ, zero, suc, ◌≤◌, ◌<◌, Bool, true, false, cond, not, nat_eq, ◌⊎◌, inl, inr, List, [], ◌∷◌, ◌++◌, Some, None, refl, sym, ap, ◌∙◌, subst, arith, eqb-true}
use Rattle.std.specs.Prelude.{◌||◌}
use Rattle.std.specs.Cmp.{Equal-is}
use Rattle.std.specs.Int.Signed.{le_z}
use Rattle.std.specs.List.{All, filter, flat_map, list_any}
use Rattle.std.specs.Option.{is_some, option_to_list}
use Rattle.std.specs.Ordering.{is_eq}
use Rattle.std.specs.declared.option.Option.{Option}
use Rattle.std.proofs.lemmas.Bool.{eq-eqb, or_right, or_left}
use Rattle.std.proofs.lemmas.Cmp.{tied_itself}
use Rattle.mesh_list.specs.Keyed.{ascends, found, placed}
use Rattle.mesh_list.proofs.Found.{found-placed}
use Rattle.mesh_base_values.proofs.Tests.{or_cases, same_truth}
use Rattle.mesh_base.specs.Keys.{ref_cmp, ref_itself, refs_exact, refs_total, snapshot_ref}
use Rattle.mesh_base.specs.declared.snapshots.Env.{Env}
use Rattle.mesh_base.specs.declared.snapshots.Ref.{Ref}
use Rattle.mesh_base.specs.declared.snapshots.Snapshot.{Snapshot}
use Rattle.mesh_house_book.specs.Changes.{with_refs}
use Rattle.mesh_house_book.specs.declared.book.Book.{Book}
use Rattle.mesh_house_book.specs.WellFormed.{is_listed, is_well_formed_book, snapshot_at}
use Rattle.mesh_law_query.proofs.Has.{Has, Has_cases, Has_filter, Has_filter_from, Has_flat, Has_flat_from, Has_left, Has_right, Has_some, Has_some_from}
use Rattle.mesh_spec_changes.specs.listed.Closing.{IsSnapshot}
use Rattle.mesh_spec_changes.specs.listed.Listed.{named}
use Rattle.mesh_spec_changes.proofs.listed.Books.{fits, is_its_own, its_ref}
use Rattle.mesh_spec_changes.specs.Environments.{is_over}
use Rattle.mesh_spec_changes.specs.Kept.{both_lists, is_kept, kept, line, roots, staying}
use Rattle.mesh_janitor.specs.janitor.Walk.{after, env_after, envs_after, layer, layers, stays}
use Rattle.mesh_janitor.specs.migrate.Walk.{limit_from}
use Rattle.mesh_janitor.proofs.janitor.Books.{all_from, below_limit, is_there, its_own, snapshots_ascend}
use Rattle.mesh_janitor.proofs.janitor.Down.{below_or}

-- both or neither

-- a reference is wanted where it is put, or was wanted before
some_or : (b : Bool) (r : Ref) (o : Option Ref) → is_some (cond b (Some r) o) ≡ (b || is_some o)
some_or true r o = refl
some_or false r o = refl

in_placed : (wanted : List Ref) (r k : Ref) → is_listed (placed ref_cmp ref_itself r wanted) k ≡ (is_eq (ref_cmp r k) || is_listed wanted k)
in_placed wanted r k = ap is_some (found-placed ref_cmp refs_exact ref_itself r k wanted) ∙ some_or (is_eq (ref_cmp r k)) r (found ref_cmp ref_itself k wanted)

eq_self : (r k : Ref) → r ≡ k → is_eq (ref_cmp r k) ≡ true
eq_self r k e = ap (λ (x : Ref). is_eq (ref_cmp r x)) (sym e) ∙ ap is_eq (tied_itself refs_total r)

eq_same : (r k : Ref) → is_eq (ref_cmp r k) ≡ true → r ≡ k
eq_same r k h = refs_exact r k ((Equal-is (ref_cmp r k)).0 h)

with_keeps : (rs wanted : List Ref) (k : Ref) → is_listed wanted k ≡ true → is_listed (with_refs wanted rs) k ≡ true
with_keeps [] wanted k h = h
with_keeps (r ∷ rs) wanted k h = with_keeps rs (placed ref_cmp ref_itself r wanted) k (in_placed wanted r k ∙ or_right (is_eq (ref_cmp r k)) (is_listed wanted k) h)

with_adds : (rs wanted : List Ref) (k : Ref) → Has k rs → is_listed (with_refs wanted rs) k ≡ true
with_adds [] wanted k h = absurd h
with_adds (r ∷ rs) wanted k (inl e) = with_keeps rs (placed ref_cmp ref_itself r wanted) k (in_placed wanted r k ∙ or_left (is_eq (ref_cmp r k)) (is_listed wanted k) (eq_self r k e))
with_adds (r ∷ rs) wanted k (inr h) = with_adds rs (placed ref_cmp ref_itself r wanted) k h

with_only : (P : Ref → Type 0) (rs wanted : List Ref) → ((k : Ref) → is_listed wanted k ≡ true → P k) → ((k : Ref) → Has k rs → P k) → (k : Ref) → is_listed (with_refs wanted rs) k ≡ true → P k
with_only P [] wanted f g k h = f k h
with_only P (r ∷ rs) wanted f g k h = with_only P rs (placed ref_cmp ref_itself r wanted) before (λ j i. g j (inr i)) k h
  where
    before : (j : Ref) → is_listed (placed ref_cmp ref_itself r wanted) j ≡ true → P j
    before j i = or_cases (is_eq (ref_cmp r j)) (is_listed wanted j) (sym (in_placed wanted r j) ∙ i) (λ e. g j (inl (eq_same r j e))) (f j)

with_both : (xs ys wanted : List Ref) → with_refs (with_refs wanted xs) ys ≡ with_refs wanted (xs ++ ys)
with_both [] ys wanted = refl
with_both (x ∷ xs) ys wanted = with_both xs ys (placed ref_cmp ref_itself x wanted)

-- environments that stay, one after another
envs_listed : (t : ℤ) (es : List Env) (wanted : List Ref) → envs_after t es wanted ≡ with_refs wanted (flat_map both_lists (staying t es))
envs_listed t [] wanted = refl
envs_listed t (e ∷ es) wanted = envs_listed t es (env_after t e wanted) ∙ go (is_over t e.expires)
  where
    go : (b : Bool) → with_refs (cond b wanted (with_refs (with_refs wanted e.list) e.previous)) (flat_map both_lists (staying t es)) ≡ with_refs wanted (flat_map both_lists (cond (not b) (e ∷ staying t es) (staying t es)))
    go true = refl
    go false =
        ap (λ (w : List Ref). with_refs w (flat_map both_lists (staying t es))) (with_both e.list e.previous wanted)
        ∙ with_both (both_lists e) (flat_map both_lists (staying t es)) wanted

any_has : (rs : List Ref) (k : Ref) → Has k rs → list_any (λ r. is_eq (ref_cmp r k)) rs ≡ true
any_has [] k h = absurd h
any_has (r ∷ rs) k (inl e) = or_left (is_eq (ref_cmp r k)) _ (eq_self r k e)
any_has (r ∷ rs) k (inr h) = or_right (is_eq (ref_cmp r k)) _ (any_has rs k h)

has_any : (rs : List Ref) (k : Ref) → list_any (λ r. is_eq (ref_cmp r k)) rs ≡ true → Has k rs
has_any [] k h = absurd (let clash : false ≡ true = h in cc)
has_any (r ∷ rs) k h = or_cases (is_eq (ref_cmp r k)) (list_any (λ x. is_eq (ref_cmp x k)) rs) h (λ e. inl (eq_same r k e)) (λ i. inr (has_any rs k i))

module _ (t : ℤ) where
  abbrev young : Snapshot → Bool
  young s = not (le_z s.expires t)

  -- more is wanted, and so more stays
  stays_more : (wanted more : List Ref) (s : Snapshot) → (is_listed wanted (snapshot_ref s) ≡ true → is_listed more (snapshot_ref s) ≡ true) → stays t wanted s ≡ true → stays t more s ≡ true
  stays_more wanted more s f h = or_cases (young s) (is_listed wanted (snapshot_ref s)) h (or_left (young s) (is_listed more (snapshot_ref s))) (λ i. or_right (young s) (is_listed more (snapshot_ref s)) (f i))

  after_keeps : (s : Snapshot) (wanted : List Ref) (k : Ref) → is_listed wanted k ≡ true → is_listed (after t s wanted) k ≡ true
  after_keeps s wanted k h = go (stays t wanted s)
    where
      go : (b : Bool) → is_listed (cond b (with_refs wanted s.parents) wanted) k ≡ true
      go true = with_keeps s.parents wanted k h
      go false = h

  after_adds : (s : Snapshot) (wanted : List Ref) (k : Ref) → stays t wanted s ≡ true → Has k s.parents → is_listed (after t s wanted) k ≡ true
  after_adds s wanted k sure h = ap (λ (b : Bool). is_listed (cond b (with_refs wanted s.parents) wanted) k) sure ∙ with_adds s.parents wanted k h

  after_only : (P : Ref → Type 0) (s : Snapshot) (wanted : List Ref) → ((k : Ref) → is_listed wanted k ≡ true → P k) → (stays t wanted s ≡ true → (k : Ref) → Has k s.parents → P k) → (k : Ref) → is_listed (after t s wanted) k ≡ true → P k
  after_only P s wanted f g k h = go (stays t wanted s) refl h
    where
      go : (b : Bool) → stays t wanted s ≡ b → is_listed (cond b (with_refs wanted s.parents) wanted) k ≡ true → P k
      go true e i = with_only P s.parents wanted f (g e) k i
      go false e i = f k i

  abbrev next : ℕ → Snapshot → List Ref → List Ref
  next rank s wanted = cond (nat_eq s.rank rank) (after t s wanted) wanted

  next_keeps : (rank : ℕ) (s : Snapshot) (wanted : List Ref) (k : Ref) → is_listed wanted k ≡ true → is_listed (next rank s wanted) k ≡ true
  next_keeps rank s wanted k h = go (nat_eq s.rank rank)
    where
      go : (b : Bool) → is_listed (cond b (after t s wanted) wanted) k ≡ true
      go true = after_keeps s wanted k h
      go false = h

  layer_keeps : (rank : ℕ) (ss : List Snapshot) (wanted : List Ref) (k : Ref) → is_listed wanted k ≡ true → is_listed (layer t rank ss wanted) k ≡ true
  layer_keeps rank [] wanted k h = h
  layer_keeps rank (s ∷ ss) wanted k h = layer_keeps rank ss (next rank s wanted) k (next_keeps rank s wanted k h)

  layer_adds : (rank : ℕ) (ss : List Snapshot) (wanted : List Ref) (x : Snapshot) → Has x ss → x.rank ≡ rank → stays t wanted x ≡ true → (k : Ref) → Has k x.parents → is_listed (layer t rank ss wanted) k ≡ true
  layer_adds rank [] wanted x h is sure k p = absurd h
  layer_adds rank (s ∷ ss) wanted x (inl e) is sure k p =
      let here : nat_eq s.rank rank ≡ true = ap (λ (u : Snapshot). nat_eq u.rank rank) e ∙ ap (λ (n : ℕ). nat_eq n rank) is ∙ eq-eqb rank rank refl in
      let its : is_listed (after t s wanted) k ≡ true = after_adds s wanted k (ap (stays t wanted) e ∙ sure) (subst (λ (u : Snapshot). Has k u.parents) (sym e) p) in
      layer_keeps rank ss (next rank s wanted) k (ap (λ (b : Bool). is_listed (cond b (after t s wanted) wanted) k) here ∙ its)
  layer_adds rank (s ∷ ss) wanted x (inr h) is sure k p =
      layer_adds rank ss (next rank s wanted) x h is (stays_more wanted (next rank s wanted) x (next_keeps rank s wanted (snapshot_ref x)) sure) k p

  -- what is wanted after a layer: what was, and parents of what stays
  layer_only : (P : Ref → Type 0) (rank : ℕ) (ss : List Snapshot) (wanted : List Ref) → ((k : Ref) → is_listed wanted k ≡ true → P k)
      → ((s : Snapshot) → Has s ss → s.rank ≡ rank → (young s ≡ true) ⊎ P (snapshot_ref s) → (k : Ref) → Has k s.parents → P k) → (k : Ref) → is_listed (layer t rank ss wanted) k ≡ true → P k
  layer_only P rank [] wanted f step k h = f k h
  layer_only P rank (s ∷ ss) wanted f step k h = layer_only P rank ss (next rank s wanted) (more (nat_eq s.rank rank) refl) (λ u i. step u (inr i)) k h
    where
      more : (b : Bool) → nat_eq s.rank rank ≡ b → (j : Ref) → is_listed (cond b (after t s wanted) wanted) j ≡ true → P j
      more true e j i =
          after_only P s wanted f (λ sure. step s (inl refl) (eqb-true s.rank rank e) (or_cases (young s) (is_listed wanted (snapshot_ref s)) sure inl (λ l. inr (f (snapshot_ref s) l)))) j i
      more false e j i = f j i

  layers_keep : (n : ℕ) (all : List Snapshot) (wanted : List Ref) (k : Ref) → is_listed wanted k ≡ true → is_listed (layers t n all wanted) k ≡ true
  layers_keep zero all wanted k h = h
  layers_keep (suc n) all wanted k h = layers_keep n all (layer t n all wanted) k (layer_keeps n all wanted k h)

  layers_only : (P : Ref → Type 0) (n : ℕ) (all : List Snapshot) (wanted : List Ref) → ((k : Ref) → is_listed wanted k ≡ true → P k)
      → ((s : Snapshot) → Has s all → s.rank < n → (young s ≡ true) ⊎ P (snapshot_ref s) → (k : Ref) → Has k s.parents → P k) → (k : Ref) → is_listed (layers t n all wanted) k ≡ true → P k
  layers_only P zero all wanted f step k h = f k h
  layers_only P (suc n) all wanted f step k h =
      layers_only P n all (layer t n all wanted) (layer_only P n all wanted f (λ s i e. step s i (omega (arith, e)))) (λ s i l. step s i (omega (arith, l))) k h

module _ (b : Book) (well : is_well_formed_book b ≡ true) (t : ℤ) where
  abbrev all : List Snapshot
  all = b.snapshots

  up : ascends ref_cmp snapshot_ref all ≡ true
  up = snapshots_ascend b well

  -- references name one snapshot
  one : (x y : Snapshot) → IsSnapshot all x → IsSnapshot all y → snapshot_ref x ≡ snapshot_ref y → x ≡ y
  one x y i j e = let both : Some x ≡ Some y = sym i ∙ ap (snapshot_at all) e ∙ j in cc

  -- a wanted reference was wanted before, or names a snapshot below the rank
  abbrev Lower : List Ref → ℕ → Ref → Type 0
  Lower wanted n k = (is_listed wanted k ≡ true) ⊎ ((q : Snapshot) × (snapshot_at all k ≡ Some q) × (q.rank < n))

  parents_lower : (wanted : List Ref) (n : ℕ) (s : Snapshot) → Has s all → s.rank ≤ n → (k : Ref) → Has k s.parents → Lower wanted n k
  parents_lower wanted n s h l k p =
      let q = (fits b s well (its_own all up s h)).parents k p in
      inr (q.snapshot, q.known, omega (arith, q.lower, l))

  -- what a snapshot of this rank was wanted by
  wanted_before : (wanted : List Ref) (n : ℕ) (x : Snapshot) → Has x all → n ≤ x.rank → Lower wanted n (snapshot_ref x) → is_listed wanted (snapshot_ref x) ≡ true
  wanted_before wanted n x h l (inl e) = e
  wanted_before wanted n x h l (inr (q, e, m)) =
      let same : Some q ≡ Some x = sym e ∙ its_own all up x h in
      let q_is : q ≡ x = cc in
      absurd (omega (arith, l, m, ap (λ (u : Snapshot). u.rank) q_is))

  layers_close : (n : ℕ) (wanted : List Ref) (x : Snapshot) → Has x all → x.rank < n → stays t (layers t n all wanted) x ≡ true → (k : Ref) → Has k x.parents → is_listed (layers t n all wanted) k ≡ true
  layers_close zero wanted x h l sure k p = absurd (omega (arith, l))
  layers_close (suc n) wanted x h l sure k p = go (below_or x.rank n l) (layers_close n (layer t n all wanted) x h)
    where
      go : (x.rank < n) ⊎ (x.rank ≡ n) → (x.rank < n → stays t (layers t n all (layer t n all wanted)) x ≡ true → (j : Ref) → Has j x.parents → is_listed (layers t n all (layer t n all wanted)) j ≡ true)
          → is_listed (layers t n all (layer t n all wanted)) k ≡ true
      go (inl m) more = more m sure k p
      go (inr e) more =
          let later : is_listed (layers t n all (layer t n all wanted)) (snapshot_ref x) ≡ true → is_listed (layer t n all wanted) (snapshot_ref x) ≡ true =
          λ i. wanted_before (layer t n all wanted) n x h (omega (arith, e))
          (layers_only t (Lower (layer t n all wanted) n) n all (layer t n all wanted) (λ j w. inl w) (λ s c m y. parents_lower (layer t n all wanted) n s c (omega (arith, m))) (snapshot_ref x) i) in
          let now : is_listed (layer t n all wanted) (snapshot_ref x) ≡ true → is_listed wanted (snapshot_ref x) ≡ true =
          λ i. wanted_before wanted n x h (omega (arith, e))
          (layer_only t (Lower wanted n) n all wanted (λ j w. inl w) (λ s c m y. parents_lower wanted n s c (omega (arith, m))) (snapshot_ref x) i) in
          let first = stays_more t (layers t n all (layer t n all wanted)) wanted x (λ i. now (later i)) sure in
          layers_keep t n all (layer t n all wanted) k (layer_adds t n all wanted x h e first k p)

  abbrev listed_refs : List Ref
  listed_refs = flat_map both_lists (staying t b.environments)

  abbrev start : List Ref
  start = with_refs [] listed_refs

  abbrev limit : ℕ
  limit = limit_from 0 all

  abbrev final : List Ref
  final = layers t limit all start

  -- a snapshot's line has it first, and the parents of what it has
  line_first : (d : ℕ) (s : Snapshot) → Has (snapshot_ref s) (line all d s)
  line_first zero s = inl refl
  line_first (suc d) s = inl refl

  line_parent : (d : ℕ) (s : Snapshot) (r : Ref) (q : Snapshot) → Has r s.parents → snapshot_at all r ≡ Some q → (k : Ref) → Has k (line all d q) → Has k (line all (suc d) s)
  line_parent d s r q h e k i =
      inr (Has_flat (line all d) (named all s.parents) q k (Has_flat (λ (j : Ref). option_to_list (snapshot_at all j)) s.parents r q h (Has_some (snapshot_at all r) q e)) i)

  named_from : (refs : List Ref) (q : Snapshot) → Has q (named all refs) → (r : Ref) × Has r refs × (snapshot_at all r ≡ Some q)
  named_from refs q h = let (r, i, o) = Has_flat_from (λ (j : Ref). option_to_list (snapshot_at all j)) refs q h in (r, i, Has_some_from (snapshot_at all r) q o)

  line_closed : (d : ℕ) (x : Snapshot) → IsSnapshot all x → x.rank ≤ d → (s : Snapshot) → IsSnapshot all s → Has (snapshot_ref s) (line all d x) → (k : Ref) → Has k s.parents → Has k (line all d x)
  line_closed zero x its l s own (inr h) k p = absurd h
  line_closed zero x its l s own (inl e) k p =
      let same = one x s its own e in
      let q = (fits b x well its).parents k (subst (λ (u : Snapshot). Has k u.parents) (sym same) p) in
      absurd (omega (arith, q.lower, l))
  line_closed (suc d) x its l s own (inl e) k p =
      let same = one x s its own e in
      let its_parent = subst (λ (u : Snapshot). Has k u.parents) (sym same) p in
      let q = (fits b x well its).parents k its_parent in
      line_parent d x k q.snapshot its_parent q.known k (subst (λ (r : Ref). Has r (line all d q.snapshot)) (its_ref all k q.snapshot q.known) (line_first d q.snapshot))
  line_closed (suc d) x its l s own (inr h) k p =
      let (q, i, j) = Has_flat_from (line all d) (named all x.parents) (snapshot_ref s) h in
      let (r, c, e) = named_from x.parents q i in
      let low = (fits b x well its).parents r c in
      let same : Some low.snapshot ≡ Some q = sym low.known ∙ e in
      let rank_is : low.snapshot.rank ≡ q.rank = ap (λ (o : Option Snapshot). rank_of o) same in
      line_parent d x r q c e k (line_closed d q (is_its_own all r q e) (omega (arith, low.lower, rank_is, l)) s own j k p)
    where
      rank_of : Option Snapshot → ℕ
      rank_of None = 0
      rank_of (Some u) = u.rank

  -- what the line of something that stays has is wanted
  reached : (d : ℕ) (x : Snapshot) → Has x all → stays t final x ≡ true → (s : Snapshot) → IsSnapshot all s → Has (snapshot_ref s) (line all d x) → stays t final s ≡ true
  reached zero x has sure s own (inr h) = absurd h
  reached zero x has sure s own (inl e) = subst (λ (u : Snapshot). stays t final u ≡ true) (one x s (its_own all up x has) own e) sure
  reached (suc d) x has sure s own (inl e) = subst (λ (u : Snapshot). stays t final u ≡ true) (one x s (its_own all up x has) own e) sure
  reached (suc d) x has sure s own (inr h) =
      let (q, i, j) = Has_flat_from (line all d) (named all x.parents) (snapshot_ref s) h in
      let (r, c, e) = named_from x.parents q i in
      let listed : is_listed final r ≡ true = layers_close limit start x has (below_limit all 0 x has) sure r c in
      let its : is_listed final (snapshot_ref q) ≡ true = ap (is_listed final) (its_ref all r q e) ∙ listed in
      reached d q (is_there all r q e) (or_right (young t q) (is_listed final (snapshot_ref q)) its) s own j

  -- what stays for its own sake
  is_root : (x : Snapshot) → Has x (roots b t) → Has x all × (stays t final x ≡ true)
  is_root x h = go (Has_cases x (named all listed_refs) (filter (young t) all) h)
    where
      go : Has x (named all listed_refs) ⊎ Has x (filter (young t) all) → Has x all × (stays t final x ≡ true)
      go (inl i) =
          let (r, c, e) = named_from listed_refs x i in
          let listed : is_listed final r ≡ true = layers_keep t limit all start r (with_adds listed_refs [] r c) in
          (is_there all r x e, or_right (young t x) (is_listed final (snapshot_ref x)) (ap (is_listed final) (its_ref all r x e) ∙ listed))
      go (inr i) = let a = Has_filter_from (young t) all x i in (a.0, or_left (young t x) (is_listed final (snapshot_ref x)) a.1)

  kept_by : (x : Snapshot) → Has x (roots b t) → (k : Ref) → Has k (line all x.rank x) → Has k (kept b t)
  kept_by x h k i = Has_flat (λ (s : Snapshot). line all s.rank s) (roots b t) x k h i

  kept_from : (k : Ref) → Has k (kept b t) → (x : Snapshot) × Has x (roots b t) × Has k (line all x.rank x)
  kept_from k h = Has_flat_from (λ (s : Snapshot). line all s.rank s) (roots b t) k h

  young_kept : (s : Snapshot) → Has s all → young t s ≡ true → Has (snapshot_ref s) (kept b t)
  young_kept s h y = kept_by s (Has_right s (named all listed_refs) (filter (young t) all) (Has_filter (young t) all s h y)) (snapshot_ref s) (line_first s.rank s)

  -- a wanted snapshot is one that is kept
  abbrev Sound : Ref → Type 0
  Sound k = (s : Snapshot) → snapshot_at all k ≡ Some s → Has k (kept b t)

  start_sound : (k : Ref) → is_listed start k ≡ true → Sound k
  start_sound = with_only Sound listed_refs [] (λ k h. absurd (let clash : false ≡ true = h in cc)) each
    where
      each : (k : Ref) → Has k listed_refs → Sound k
      each k h s e =
          let root = Has_left s (named all listed_refs) (filter (young t) all) (Has_flat (λ (j : Ref). option_to_list (snapshot_at all j)) listed_refs k s h (Has_some (snapshot_at all k) s e)) in
          kept_by s root k (subst (λ (r : Ref). Has r (line all s.rank s)) (its_ref all k s e) (line_first s.rank s))

  its_kept : (s : Snapshot) → Has s all → (young t s ≡ true) ⊎ Sound (snapshot_ref s) → Has (snapshot_ref s) (kept b t)
  its_kept s h (inl y) = young_kept s h y
  its_kept s h (inr f) = f s (its_own all up s h)

  final_sound : (k : Ref) → is_listed final k ≡ true → Sound k
  final_sound = layers_only t Sound limit all start start_sound step
    where
      step : (s : Snapshot) → Has s all → s.rank < limit → (young t s ≡ true) ⊎ Sound (snapshot_ref s) → (k : Ref) → Has k s.parents → Sound k
      step s h l why k p q e =
          let (x, root, i) = kept_from (snapshot_ref s) (its_kept s h why) in
          kept_by x root k (line_closed x.rank x (its_own all up x (is_root x root).0) (omega arith) s (its_own all up s h) i k p)

  stays_exactly : (s : Snapshot) → Has s all → stays t final s ≡ is_kept b t s
  stays_exactly s h = same_truth (stays t final s) (is_kept b t s) there back
    where
      there : stays t final s ≡ true → is_kept b t s ≡ true
      there sure = any_has (kept b t) (snapshot_ref s) (its_kept s h (or_cases (young t s) (is_listed final (snapshot_ref s)) sure inl (λ l. inr (final_sound (snapshot_ref s) l))))

      back : is_kept b t s ≡ true → stays t final s ≡ true
      back sure =
          let (x, root, i) = kept_from (snapshot_ref s) (has_any (kept b t) (snapshot_ref s) sure) in
          let a = is_root x root in
          reached x.rank x a.0 a.1 s (its_own all up s h) i

  -- what a snapshot that is kept stands on is kept
  pub kept_parent : (s p : Snapshot) (r : Ref) → Has s all → is_kept b t s ≡ true → Has r s.parents → snapshot_at all r ≡ Some p → is_kept b t p ≡ true
  kept_parent s p r h is i e =
      let (x, root, j) = kept_from (snapshot_ref s) (has_any (kept b t) (snapshot_ref s) is) in
      let there : Has r (kept b t) = kept_by x root r (line_closed x.rank x (its_own all up x (is_root x root).0) (omega arith) s (its_own all up s h) j r i) in
      any_has (kept b t) (snapshot_ref p) (subst (λ (q : Ref). Has q (kept b t)) (sym (its_ref all r p e)) there)

  pub all_exact : All (λ (s : Snapshot). stays t (layers t limit all (envs_after t b.environments [])) s ≡ is_kept b t s) all
  all_exact =
      subst (λ (w : List Ref). All (λ (s : Snapshot). stays t (layers t limit all w) s ≡ is_kept b t s) all) (sym (envs_listed t b.environments []))
      (all_from (λ (s : Snapshot). stays t final s ≡ is_kept b t s) all stays_exactly)
