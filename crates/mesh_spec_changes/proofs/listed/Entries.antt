-- The entries of a list: the snapshots that it names, by rank and name.
use Rattle.std.proofs.Common.{◌≡◌, suc, ◌&&◌, nat_le, true, ◌⊎◌, inl, inr, List, [], ◌∷◌, ◌++◌, map, length, Some, None, refl, sym, ◌∙◌, ap, subst}
use Rattle.std.specs.Prelude.{◌↔◌}
use Rattle.std.specs.Cmp.{IsTotalOrder}
use Rattle.std.specs.List.{All, Contains}
use Rattle.std.specs.Option.{option_to_list}
use Rattle.std.specs.Ordering.{nat_cmp}
use Rattle.std.specs.declared.cmp.Ordering.TheVariants.{Less, Equal}
use Rattle.std.specs.declared.option.Option.{Option}
use Rattle.std.proofs.lemmas.Cmp.{tied_itself, nat_cmp_total, on_total, then_total}
use Rattle.std.proofs.lemmas.List.{length-map}
use Rattle.std.proofs.lemmas.List.Elements.{All-nil, All-cons}
use Rattle.std.proofs.lemmas.Bool.{and_from as and_both}
use Rattle.mesh_list.specs.Keyed.{ascends, below_first, placed}
use Rattle.mesh_list.proofs.Ascends.{and_left, and_right, ascends-placed}
use Rattle.mesh_base_values.specs.Names.{name_cmp, text_cmp}
use Rattle.mesh_base_values.specs.NameOrder.{names_exact, names_total, then_equal}
use Rattle.mesh_base_values.specs.declared.values.Name.{Name}
use Rattle.mesh_base.specs.Keys.{env_name, ref_name, snapshot_ref}
use Rattle.mesh_base.specs.declared.snapshots.Env.{Env}
use Rattle.mesh_base.specs.declared.snapshots.Ref.{Ref}
use Rattle.mesh_base.specs.declared.snapshots.Snapshot.{Snapshot}
use Rattle.mesh_house_book.specs.declared.book.Book.{Book}
use Rattle.mesh_house_book.specs.Changes.{version_object}
use Rattle.mesh_house_book.specs.WellFormed.{all_fit, are_kept, have_parents, is_above, is_env_fit, is_kept, is_moment, is_snapshot_fit, is_version, is_well_formed_book, snapshot_at}
use Rattle.mesh_law_query.proofs.Has.{Has, Has_flat, Has_flat_from, Has_from, Has_map, Has_some, Has_some_from, Has_to}
use Rattle.mesh_spec_changes.specs.listed.Closing.{IsSnapshot}
use Rattle.mesh_spec_changes.specs.listed.Listed.{by_rank, entries, is_list_fit, named, rank_cmp, snapshot_itself}
use Rattle.mesh_spec_changes.proofs.listed.Books.{is_its_own, its_ref, kept_at}
use Rattle.mesh_spec_changes.proofs.listed.Lists.{ascends_map, below_each, one_of_key, placed_from, placed_itself, placed_keeps, placed_longer}

pub ranks_total : IsTotalOrder rank_cmp
ranks_total = then_total (on_total (λ (s : Snapshot). s.rank) nat_cmp_total) (on_total (λ (s : Snapshot). s.name) names_total)

abbrev snapshot_name : Snapshot → Name
snapshot_name s = s.name

-- snapshots by rank and name
pub in_order : (ss : List Snapshot) → ascends rank_cmp snapshot_itself (by_rank ss) ≡ true
in_order [] = refl
in_order (s ∷ ss) = ascends-placed rank_cmp ranks_total snapshot_itself s (by_rank ss) (in_order ss)

among : (ss : List Snapshot) (x : Snapshot) → Has x (by_rank ss) → Has x ss
among [] x h = h
among (s ∷ ss) x h = go (placed_from rank_cmp snapshot_itself s (by_rank ss) x h) (among ss x)
  where
    go : (s ≡ x) ⊎ Has x (by_rank ss) → (Has x (by_rank ss) → Has x ss) → Has x (s ∷ ss)
    go (inl e) more = inl e
    go (inr k) more = inr (more k)

-- where their names ascend, no two stand at one place
apart : (s : Snapshot) (ss : List Snapshot) → ascends name_cmp snapshot_name (s ∷ ss) ≡ true → (x : Snapshot) → Has x (by_rank ss) → rank_cmp x s ≡ Equal → ⊥
apart s ss up x h e =
    let less : name_cmp s.name x.name ≡ Less =
    below_each name_cmp names_total snapshot_name s.name ss (and_left _ _ up) (and_right (below_first name_cmp snapshot_name s.name ss) (ascends name_cmp snapshot_name ss) up) x (among ss x h) in
    let same : x.name ≡ s.name = names_exact x.name s.name (then_equal (nat_cmp x.rank s.rank) (name_cmp x.name s.name) e).1 in
    let clash : Less ≡ Equal = sym less ∙ ap (name_cmp s.name) same ∙ tied_itself names_total s.name in
    absurd (cc)

all_among : (ss : List Snapshot) → ascends name_cmp snapshot_name ss ≡ true → (x : Snapshot) → Has x ss → Has x (by_rank ss)
all_among [] up x h = h
all_among (s ∷ ss) up x (inl e) = subst (λ (t : Snapshot). Has t (placed rank_cmp snapshot_itself s (by_rank ss))) e (placed_itself rank_cmp snapshot_itself s (by_rank ss))
all_among (s ∷ ss) up x (inr h) =
    let there : Has x (by_rank ss) = all_among ss (and_right (below_first name_cmp snapshot_name s.name ss) (ascends name_cmp snapshot_name ss) up) x h in
    placed_keeps rank_cmp snapshot_itself s (by_rank ss) x there (apart s ss up x there)

as_many : (ss : List Snapshot) → ascends name_cmp snapshot_name ss ≡ true → length (by_rank ss) ≡ length ss
as_many [] up = refl
as_many (s ∷ ss) up =
    placed_longer rank_cmp snapshot_itself s (by_rank ss) (apart s ss up)
    ∙ ap suc (as_many ss (and_right (below_first name_cmp snapshot_name s.name ss) (ascends name_cmp snapshot_name ss) up))

-- the snapshots that a list names
refs_of : (all : List Snapshot) (list : List Ref) → are_kept all list ≡ true → map snapshot_ref (named all list) ≡ list
refs_of all [] kept = refl
refs_of all (r ∷ rs) kept =
    let (s, e) = kept_at all r (and_left (is_kept all r) (are_kept all rs) kept) in
    ap (λ (o : Option Snapshot). map snapshot_ref (option_to_list o ++ named all rs)) e
    ∙ (λ i. its_ref all r s e i ∷ refs_of all rs (and_right (is_kept all r) (are_kept all rs) kept) i)

each_own : (all : List Snapshot) (list : List Ref) (s : Snapshot) → Has s (named all list) → IsSnapshot all s
each_own all list s h = let (r, k, e) = Has_flat_from (λ r. option_to_list (snapshot_at all r)) list s h in is_its_own all r s (Has_some_from (snapshot_at all r) s e)

module _ (all : List Snapshot) (list : List Ref) (fit : is_list_fit all list ≡ true) where
  kept : are_kept all list ≡ true
  kept = and_left (are_kept all list) _ fit

  few : nat_le (length list) 4096 ≡ true
  few = and_left (nat_le (length list) 4096) _ (and_right (are_kept all list) _ fit)

  rest : (ascends name_cmp ref_name list && have_parents all list list) ≡ true
  rest = and_right (nat_le (length list) 4096) _ (and_right (are_kept all list) _ fit)

  up : ascends name_cmp ref_name list ≡ true
  up = and_left (ascends name_cmp ref_name list) _ rest

  pub with_parents : have_parents all list list ≡ true
  with_parents = and_right (ascends name_cmp ref_name list) (have_parents all list list) rest

  names_up : ascends name_cmp snapshot_name (named all list) ≡ true
  names_up =
      sym (ascends_map name_cmp ref_name name_cmp snapshot_name snapshot_ref (named all list) (λ x y h k. refl))
      ∙ ap (ascends name_cmp ref_name) (refs_of all list kept)
      ∙ up

  pub is_entry : (s : Snapshot) → Has s (entries all list) → Has (snapshot_ref s) list × IsSnapshot all s
  is_entry s h =
      let there = among (named all list) s h in
      (subst (Has (snapshot_ref s)) (refs_of all list kept) (Has_map snapshot_ref (named all list) s (snapshot_ref s) there refl), each_own all list s there)

  pub entry_of : (r : Ref) (s : Snapshot) → Has r list → snapshot_at all r ≡ Some s → Has s (entries all list)
  entry_of r s h e = all_among (named all list) names_up s (Has_flat (λ r. option_to_list (snapshot_at all r)) list r s h (Has_some (snapshot_at all r) s e))

  pub one_for_each : length (entries all list) ≡ length list
  one_for_each = as_many (named all list) names_up ∙ sym (length-map (named all list) snapshot_ref) ∙ ap length (refs_of all list kept)

  pub not_many : nat_le (length (entries all list)) 4096 ≡ true
  not_many = ap (λ n. nat_le n 4096) one_for_each ∙ few

  -- two entries of one name are one
  pub one_of_name : (a b : Snapshot) → Has a (entries all list) → Has b (entries all list) → a.name ≡ b.name → a ≡ b
  one_of_name a b h k same =
      let (i, x) = is_entry a h in
      let (j, y) = is_entry b k in
      let refs : snapshot_ref a ≡ snapshot_ref b = one_of_key name_cmp names_total ref_name list up (snapshot_ref a) (snapshot_ref b) i j same in
      let both : Some a ≡ Some b = sym x ∙ ap (snapshot_at all) refs ∙ y in cc

pub just_the_named : (b : Book) (list : List Ref) → is_well_formed_book b ≡ true → is_list_fit b.snapshots list ≡ true → (s : Snapshot) → Contains (entries b.snapshots list) s ↔ (Contains list (snapshot_ref s) × IsSnapshot b.snapshots s)
just_the_named b list well fit s = (
  λ h. let (i, own) = is_entry b.snapshots list fit s (Has_from (entries b.snapshots list) s h) in (Has_to list (snapshot_ref s) i, own),
  λ h. Has_to (entries b.snapshots list) s (entry_of b.snapshots list fit (snapshot_ref s) s (Has_from list (snapshot_ref s) h.0) h.1),
)

-- lists of environments
env_list_fits : (all : List Snapshot) (before : Option Env) (e : Env) → is_env_fit all before e ≡ true → is_list_fit all e.list ≡ true
env_list_fits all before e h =
    let a = and_right (is_above text_cmp env_name before e) _ h in
    let b = and_right (are_kept all e.list) _ a in
    and_both (are_kept all e.list) _ (and_left (are_kept all e.list) _ a) (and_right (are_kept all e.previous) _ b)

lists_fit : (all : List Snapshot) (before : Option Env) (es : List Env) → all_fit (is_env_fit all) before es ≡ true → All (λ (e : Env). is_list_fit all e.list ≡ true) es
lists_fit all before [] h = All-nil (λ (e : Env). is_list_fit all e.list ≡ true)
lists_fit all before (e ∷ es) h =
    All-cons (λ (e : Env). is_list_fit all e.list ≡ true) e es
    (env_list_fits all before e (and_left (is_env_fit all before e) (all_fit (is_env_fit all) (Some e) es) h))
    (lists_fit all (Some e) es (and_right (is_env_fit all before e) (all_fit (is_env_fit all) (Some e) es) h))

pub env_lists_fit : (b : Book) → is_well_formed_book b ≡ true → All (λ (e : Env). is_list_fit b.snapshots e.list ≡ true) b.environments
env_lists_fit b well =
    let a = and_right (is_moment b.moment && is_version b.version) _ well in
    let c = and_right (all_fit (is_snapshot_fit b.version b.snapshots) None b.snapshots) _ a in
    lists_fit b.snapshots None b.environments (and_right (all_fit (is_above name_cmp version_object) None b.versions) _ c)
