-- The plans of a run before a move to other fingerprints, and after it.
use Rattle.std.proofs.Common.{◌≡◌, ℕ, Bool, true, false, cond, List, [], ◌∷◌, ◌++◌, map, Option, Some, refl, sym, ◌∙◌, ap, subst, inl, inr}
use Rattle.std.specs.List.{AllByRecursion}
use Rattle.std.specs.Option.{option_map, option_to_list}
use Rattle.std.specs.declared.cmp.Ordering.{Ordering}
use Rattle.std.specs.declared.cmp.Ordering.TheVariants.{Less, Equal, Greater}
use Rattle.std.proofs.lemmas.List.Elements.{All-contains}
use Rattle.mesh_list.specs.Keyed.{placed, put_by}
use Rattle.mesh_list.proofs.Ascends.{and_left, and_right}
use Rattle.mesh_base_values.specs.Names.{text_cmp}
use Rattle.mesh_base.specs.Keys.{env_name, snapshot_ref}
use Rattle.mesh_base.specs.declared.definitions.Own.{Own}
use Rattle.mesh_base.specs.declared.forgets.Rename.{Rename}
use Rattle.mesh_base.specs.declared.snapshots.Env.{Env}
use Rattle.mesh_base.specs.declared.snapshots.Node.{Node}
use Rattle.mesh_base.specs.declared.snapshots.Ref.{Ref}
use Rattle.mesh_base.specs.declared.snapshots.Snapshot.{Snapshot}
use Rattle.mesh_house_book.specs.declared.book.Book.{Book}
use Rattle.mesh_house_book.specs.WellFormed.{are_kept, is_kept, is_well_formed_book, snapshot_at}
use Rattle.mesh_house_book.specs.moves.Renames.{has_twins, in_order, renamed, renamed_all, renamed_env, renamed_snapshot}
use Rattle.mesh_spec_model.specs.Closures.{closures}
use Rattle.mesh_spec_model.specs.Horizons.{Clock}
use Rattle.mesh_law_query.proofs.Has.{Has}
use Rattle.mesh_house.specs.Step.{run}
use Rattle.mesh_house.specs.declared.world.Change.{Change}
use Rattle.mesh_house.specs.declared.world.Change.TheVariants.{Migrate}
use Rattle.mesh_house.specs.declared.world.World.{World}
use Rattle.mesh_spec_changes.specs.listed.Closing.{IsSnapshot, closing}
use Rattle.mesh_spec_changes.specs.listed.Listed.{as_node, by_rank, entries, is_list_fit, listed, named, rank_cmp, snapshot_itself}
use Rattle.mesh_spec_changes.proofs.listed.Books.{fits, kept_at}
use Rattle.mesh_spec_changes.proofs.listed.Entries.{env_lists_fit, is_entry}
use Rattle.mesh_spec_changes.proofs.listed.Projects.{closures_are}
use Rattle.mesh_spec_changes.specs.due.Dues.{dues}
use Rattle.mesh_spec_changes.specs.due.Parts.{Parts}
use Rattle.mesh_spec_changes.specs.due.Plans.{Planned}
use Rattle.mesh_spec_changes.specs.due.Versions.{node_ref}
use Rattle.mesh_spec_changes.specs.Changes.{Plan}
use Rattle.mesh_spec_changes.specs.Commands.{MigrateAll, allows, changes}
use Rattle.mesh_spec_changes.specs.Environments.{env_at}
use Rattle.mesh_spec_changes.specs.Planning.{IsKept, IsRunPlan}
use Rattle.mesh_spec_promise.specs.Sound.{Sound}
use Rattle.mesh_spec_promise.proofs.Ends.{found_contained}
use Rattle.mesh_law_changes.proofs.Migrating.{closing_same, env_found, there, well}
use Rattle.mesh_law_steps.proofs.migrate.Alike.{AreAlike, same_dues}
use Rattle.mesh_law_steps.proofs.migrate.Views.{front}

-- models that stand for snapshots, one by one
abbrev Mirrors : List Snapshot → List Planned → List Snapshot → Type 0
Mirrors all [] [] = Unit {0}
Mirrors all [] (s ∷ ss) = ⊥
Mirrors all (p ∷ ps) [] = ⊥
Mirrors all (p ∷ ps) (s ∷ ss) = ((p.node.own ≡ s.own) × (p.closure ≡ closing all s) × (p.object ≡ s.object)) × Mirrors all ps ss

module _ (b : Book) (whole : is_well_formed_book b ≡ true) where
  mirrors : (among : List Snapshot) (ps : List Planned) (ss : List Snapshot) → map (λ (p : Planned). p.node) ps ≡ map (as_node among) ss → map (λ (p : Planned). p.closure) ps ≡ map (closing b.snapshots) ss
      → AllByRecursion (IsKept b) ps → ((s : Snapshot) → Has s ss → IsSnapshot b.snapshots s) → Mirrors b.snapshots ps ss
  mirrors among [] [] nodes closed kept own = tt
  mirrors among [] (s ∷ ss) nodes closed kept own = absurd (cc)
  mirrors among (p ∷ ps) [] nodes closed kept own = absurd (cc)
  mirrors among (p ∷ ps) (s ∷ ss) nodes closed kept own =
      let node : p.node ≡ as_node among s = cc in
      let closure : p.closure ≡ closing b.snapshots s = cc in
      let more : map (λ (p : Planned). p.node) ps ≡ map (as_node among) ss = cc in
      let rest : map (λ (p : Planned). p.closure) ps ≡ map (closing b.snapshots) ss = cc in
      let k = kept.0 in
      let name : s.own.name ≡ s.name = (fits b s whole (own s (inl refl))).name in
      let ref_is : node_ref p.node ≡ snapshot_ref s = ap node_ref node ∙ (λ i. record { name = name i; fingerprint = s.fingerprint }) in
      let both : Some k.snapshot ≡ Some s = sym k.known ∙ ap (snapshot_at b.snapshots) ref_is ∙ own s (inl refl) in
      let same : k.snapshot ≡ s = cc in
      ((ap (λ (n : Node). n.own) node, closure, sym k.object ∙ ap (λ (t : Snapshot). t.object) same), mirrors among ps ss more rest kept.1 (λ t h. own t (inr h)))

  fit_at : (env : List ℕ) (e : Env) → env_at b env ≡ Some e → is_list_fit b.snapshots e.list ≡ true
  fit_at env e known = All-contains (λ (f : Env). is_list_fit b.snapshots f.list ≡ true) b.environments e (env_lists_fit b whole) (found_contained text_cmp env_name env e b.environments known)

  -- the plan of a run stands for the entries of a list
  plan_mirrors : (clock : Clock) (plan : Plan) (is : IsRunPlan clock b plan) (list : List Ref) → is.env.list ≡ list → Mirrors b.snapshots plan.models (entries b.snapshots list)
  plan_mirrors clock plan is list same =
      let fit : is_list_fit b.snapshots list ≡ true = ap (is_list_fit b.snapshots) (sym same) ∙ fit_at plan.env is.env is.known in
      mirrors (entries b.snapshots list) plan.models (entries b.snapshots list) (is.nodes ∙ ap (listed b.snapshots) same)
      (is.closed ∙ ap (λ (l : List Ref). closures (listed b.snapshots l)) same ∙ closures_are b list whole fit) is.models (λ s h. (is_entry b.snapshots list fit s h).1)

map_itself : (ss : List Snapshot) → map (λ (s : Snapshot). s) ss ≡ ss
map_itself [] = refl
map_itself (s ∷ ss) = ap (s ∷◌) (map_itself ss)

-- models that stand for snapshots are alike where the snapshots are
alike : (b : Book) (version : ℕ) (snapshots : List Snapshot) (environments : List Env) (f : Snapshot → Snapshot) (ps qs : List Planned) (ss : List Snapshot)
    → ((s : Snapshot) → Has s ss → ((f s).own ≡ s.own) × (closing snapshots (f s) ≡ closing b.snapshots s) × ((f s).object ≡ s.object)) → Mirrors b.snapshots ps ss → Mirrors snapshots qs (map f ss) → AreAlike b version snapshots environments ps qs
alike b version snapshots environments f [] [] [] same these those = tt
alike b version snapshots environments f [] (q ∷ qs) [] same these those = absurd those
alike b version snapshots environments f (p ∷ ps) qs [] same these those = absurd these
alike b version snapshots environments f [] qs (s ∷ ss) same these those = absurd these
alike b version snapshots environments f (p ∷ ps) [] (s ∷ ss) same these those = absurd those
alike b version snapshots environments f (p ∷ ps) (q ∷ qs) (s ∷ ss) same these those =
    let h = same s (inl refl) in
    let (own, closure, object) = these.0 in
    let (own', closure', object') = those.0 in (
      (ap (λ (o : Own). o.kind) (own ∙ sym h.0 ∙ sym own'), closure ∙ sym h.1 ∙ sym closure', object ∙ sym h.2 ∙ sym object'),
      alike b version snapshots environments f ps qs ss (λ t k. same t (inr k)) these.1 those.1,
    )

-- two plans of a run by one book have the same dues
stays_so : (clock : Clock) (b : Book) → is_well_formed_book b ≡ true → (plan later : Plan) → IsRunPlan clock b plan → IsRunPlan clock b later → later.env ≡ plan.env → dues clock b later.forgets later.models ≡ dues clock b plan.forgets plan.models
stays_so clock b whole plan later is then_is named =
    let both : Some then_is.env ≡ Some is.env = sym then_is.known ∙ ap (env_at b) named ∙ is.known in
    let same : then_is.env ≡ is.env = cc in
    let list : then_is.env.list ≡ is.env.list = ap (λ (e : Env). e.list) same in
    let those = plan_mirrors b whole clock later then_is is.env.list list in
    same_dues b b.version b.snapshots b.environments clock plan.models later.models plan.forgets later.forgets is.forgets then_is.forgets
    (alike b b.version b.snapshots b.environments (λ s. s) plan.models later.models (entries b.snapshots is.env.list) (λ s h. (refl, refl, refl)) (plan_mirrors b whole clock plan is is.env.list refl)
    (subst (Mirrors b.snapshots later.models) (sym (map_itself (entries b.snapshots is.env.list))) those))

module _ (x : Parts) (w : World) (sound : Sound x w) (renames : List Rename) (fine : has_twins (renamed_all renames w.book.snapshots) ≡ false) where
  abbrev all : List Snapshot
  all = w.book.snapshots

  abbrev fs : Snapshot → Snapshot
  fs s = renamed_snapshot renames s

  abbrev new : List Snapshot
  new = in_order (renamed_all renames all)

  abbrev after : Book
  after = record w.book { version = 2; snapshots = new; environments = map (renamed_env renames) w.book.environments }

  named_moves : (list : List Ref) → are_kept all list ≡ true → named new (map (renamed renames) list) ≡ map fs (named all list)
  named_moves [] h = refl
  named_moves (r ∷ rs) h =
      let (s, known) = kept_at all r (and_left (is_kept all r) (are_kept all rs) h) in
      ap (λ (o : Option Snapshot). option_to_list o ++ named new (map (renamed renames) rs)) (there x w sound renames fine r s known)
      ∙ ap (fs s ∷◌) (named_moves rs (and_right (is_kept all r) (are_kept all rs) h))
      ∙ sym (ap (λ (o : Option Snapshot). map fs (option_to_list o ++ named all rs)) known)

  placed_moves : (s : Snapshot) (xs : List Snapshot) → placed rank_cmp snapshot_itself (fs s) (map fs xs) ≡ map fs (placed rank_cmp snapshot_itself s xs)
  placed_moves s [] = refl
  placed_moves s (t ∷ ts) = go (rank_cmp t s) (placed_moves s ts)
    where
      go : (o : Ordering) → placed rank_cmp snapshot_itself (fs s) (map fs ts) ≡ map fs (placed rank_cmp snapshot_itself s ts)
          → put_by o (fs t) (fs s) (map fs ts) (placed rank_cmp snapshot_itself (fs s) (map fs ts)) ≡ map fs (put_by o t s ts (placed rank_cmp snapshot_itself s ts))
      go Less more = ap (fs t ∷◌) more
      go Equal more = refl
      go Greater more = refl

  ranks_move : (ss : List Snapshot) → by_rank (map fs ss) ≡ map fs (by_rank ss)
  ranks_move [] = refl
  ranks_move (s ∷ ss) = ap (placed rank_cmp snapshot_itself (fs s)) (ranks_move ss) ∙ placed_moves s (by_rank ss)

  entries_move : (list : List Ref) → are_kept all list ≡ true → entries new (map (renamed renames) list) ≡ map fs (entries all list)
  entries_move list h = ap by_rank (named_moves list h) ∙ ranks_move (named all list)

  moved_dues : (clock : Clock) (plan later : Plan) → IsRunPlan clock w.book plan → IsRunPlan clock after later → later.env ≡ plan.env → dues clock after later.forgets later.models ≡ dues clock w.book plan.forgets plan.models
  moved_dues clock plan later is then_is named_so =
      let list = is.env.list in
      let whole = sound.book.well_formed in
      let fit = fit_at w.book whole plan.env is.env is.known in
      let both : Some then_is.env ≡ Some (renamed_env renames is.env) =
      sym then_is.known ∙ ap (env_at after) named_so ∙ env_found x w sound renames fine plan.env w.book.environments ∙ ap (option_map (renamed_env renames)) is.known in
      let same : then_is.env ≡ renamed_env renames is.env = cc in
      let those = plan_mirrors after (well x w sound renames fine) clock later then_is (map (renamed renames) list) (ap (λ (e : Env). e.list) same) in
      same_dues w.book 2 new (map (renamed_env renames) w.book.environments) clock plan.models later.models plan.forgets later.forgets is.forgets then_is.forgets
      (alike w.book 2 new (map (renamed_env renames) w.book.environments) fs plan.models later.models (entries all list)
      (λ s h. (refl, closing_same x w sound renames fine s (is_entry all list fit s h).1, refl)) (plan_mirrors w.book whole clock plan is list refl)
      (subst (Mirrors new later.models) (entries_move list (and_left (are_kept all list) _ fit)) those))

-- before a move and at every exit of it
pub dues_stay : (x : Parts) (w : World) → Sound x w → (clock : Clock) (renames : List Rename) (made rest : List Change) → changes clock (MigrateAll renames) w ≡ made ++ rest → (plan later : Plan) → IsRunPlan clock w.book plan → IsRunPlan clock (run w made).book later → later.env ≡ plan.env
    → dues clock (run w made).book later.forgets later.models ≡ dues clock w.book plan.forgets plan.models
dues_stay x w sound clock renames made rest is plan later =
    front (λ (l : List Change). IsRunPlan clock w.book plan → IsRunPlan clock (run w l).book later → later.env ≡ plan.env → dues clock (run w l).book later.forgets later.models ≡ dues clock w.book plan.forgets plan.models)
    (Migrate renames) (allows w (MigrateAll renames)) made rest is (stays_so clock w.book sound.book.well_formed plan later)
    (λ allowed. go (has_twins (renamed_all renames w.book.snapshots)) refl)
  where
    go : (t : Bool) → has_twins (renamed_all renames w.book.snapshots) ≡ t
        → (let b = cond t w.book (record w.book { version = 2; snapshots = in_order (renamed_all renames w.book.snapshots); environments = map (renamed_env renames) w.book.environments }) in
        IsRunPlan clock w.book plan → IsRunPlan clock b later → later.env ≡ plan.env → dues clock b later.forgets later.models ≡ dues clock w.book plan.forgets plan.models)
    go true e = stays_so clock w.book sound.book.well_formed plan later
    go false e = moved_dues x w sound renames e clock plan later
