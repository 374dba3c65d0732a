-- What a finalized environment shows, where all its models are up to date.
use Rattle.std.proofs.Common.{◌≡◌, ℕ, zero, suc, ◌<◌, Bool, true, false, cond, ◌&&◌, nat_le, length, List, [], ◌∷◌, Some, None, refl, sym, ◌∙◌, ap, subst, arith}
use Rattle.std.specs.declared.option.Option.{Option}
use Rattle.std.specs.declared.cmp.Ordering.{Ordering}
use Rattle.std.specs.declared.cmp.Ordering.TheVariants.{Less, Equal, Greater}
use Rattle.std.specs.List.{AllByRecursion, Contains, list_all}
use Rattle.std.specs.Option.{is_some, option_and_then}
use Rattle.std.specs.Ordering.{is_eq}
use Rattle.mesh_list.specs.Keyed.{found, put_by, placed, ascends}
use Rattle.mesh_list.proofs.Ascends.{and_left, and_right}
use Rattle.mesh_base_values.specs.Bag.{IsSameBag}
use Rattle.mesh_base.specs.Keys.{ref_cmp, refs_exact, ref_itself, ref_name, env_name}
use Rattle.mesh_base_values.specs.Names.{name_cmp, text_cmp}
use Rattle.mesh_base.specs.declared.snapshots.Env.{Env}
use Rattle.mesh_base.specs.declared.snapshots.Ref.{Ref}
use Rattle.mesh_base.specs.declared.snapshots.Snapshot.{Snapshot}
use Rattle.mesh_house_book.specs.declared.book.Book.{Book}
use Rattle.mesh_house_book.specs.Changes.{version_object}
use Rattle.mesh_house_book.specs.WellFormed.{is_above, snapshot_at, are_kept, is_listed, parents_at, has_parents, have_parents, is_snapshot_fit, is_env_fit, all_fit, is_moment, is_version}
use Rattle.mesh_house_book.proofs.Exchanged.{found_key}
use Rattle.mesh_spec_model.specs.Closures.{Closure}
use Rattle.mesh_spec_model.specs.Horizons.{Clock, Shows as ShowsMoment}
use Rattle.mesh_spec_model.specs.Scratch.{from_scratch}
use Rattle.mesh_law_query.proofs.Lists.{Each}
use Rattle.mesh_house.specs.declared.world.World.{World}
use Rattle.mesh_spec_changes.specs.Changes.{planned_ref, refs_by_name}
use Rattle.mesh_spec_promise.specs.Current.{IsCurrent, AllCurrent, current, IsDone, AreDone}
use Rattle.mesh_spec_changes.specs.Environments.{IsEnv}
use Rattle.mesh_spec_promise.specs.Final.{ShowsModel}
use Rattle.mesh_spec_changes.specs.due.Parts.{Parts}
use Rattle.mesh_spec_changes.specs.due.Plans.{Planned}
use Rattle.mesh_spec_changes.specs.shown.Shown.{object_rows}
use Rattle.mesh_spec_promise.specs.Sound.{Sound}
use Rattle.mesh_law_query.proofs.Has.{Has_from}
use Rattle.mesh_spec_changes.proofs.listed.Books.{fits, is_its_own}
use Rattle.mesh_spec_promise.proofs.Fits.{fit_found}
use Rattle.mesh_spec_promise.proofs.Views.{each_holds, object_shown}

pub each_passes : {X : Type 0} (p : X → Bool) (xs : List X) → list_all p xs ≡ true → Each (λ x. p x ≡ true) xs
each_passes p [] h = tt
each_passes p (x ∷ xs) h = (and_left (p x) (list_all p xs) h, each_passes p xs (and_right (p x) (list_all p xs) h))

pub found_contained : {A K : Type 0} (R : K → K → Ordering) (key : A → K) (k : K) (x : A) (xs : List A) → found R key k xs ≡ Some x → Contains xs x
found_contained R key k x [] e = absurd (let f : None ≡ Some x = e in cc)
found_contained R key k x (y ∷ ys) e = go (is_eq (R (key y) k)) (found_contained R key k x ys) e
  where
    go : (b : Bool) → (found R key k ys ≡ Some x → Contains ys x) → cond b (Some y) (found R key k ys) ≡ Some x → Contains (y ∷ ys) x
    go true more f = (0, omega arith, let same : y ≡ x = cc in same)
    go false more f = let (i, l, is) = more f in (suc i, omega (arith, l), is)

pub placed_each : {A K : Type 0} (R : K → K → Ordering) (key : A → K) (P : A → Type 0) (y : A) (xs : List A) → P y → Each P xs → Each P (placed R key y xs)
placed_each R key P y [] h more = (h, tt)
placed_each R key P y (x ∷ xs) h more = go (R (key x) (key y)) (placed_each R key P y xs h more.1)
  where
    go : (o : Ordering) → Each P (placed R key y xs) → Each P (put_by o x y xs (placed R key y xs))
    go Less ih = (more.0, ih)
    go Equal ih = (h, more.1)
    go Greater ih = (h, more)

-- a listed reference is that of a snapshot that is up to date
abbrev pub Ready : Clock → Parts → Book → Ref → Type 0
Ready clock x b r = (s : Snapshot) → snapshot_at b.snapshots r ≡ Some s → IsCurrent clock x b s

ready_model : (clock : Clock) (x : Parts) (b : Book) (p : Planned) → IsDone clock x b p → Ready clock x b (planned_ref p)
ready_model clock x b p done s e =
    let same : done.snapshot ≡ s = let both : Some done.snapshot ≡ Some s = sym done.known ∙ e in cc in
    subst (IsCurrent clock x b) same done.current

ready_list : (clock : Clock) (x : Parts) (b : Book) (models : List Planned) → AreDone clock x b models → Each (Ready clock x b) (refs_by_name models)
ready_list clock x b [] h = tt
ready_list clock x b (p ∷ ps) h = placed_each name_cmp ref_name (Ready clock x b) (planned_ref p) (refs_by_name ps) (ready_model clock x b p h.0) (ready_list clock x b ps h.1)

module _ (x : Parts) (w : World) (clock : Clock) (sound : Sound x w) (now : ShowsMoment clock w.book.moment) (e : Env) (known : IsEnv w.book e) (final : e.pending ≡ false) (ready : Each (Ready clock x w.book) e.list) where
  -- the list has the parents of its entries
  parents_listed : (r : Ref) (s : Snapshot) → Contains e.list r → snapshot_at w.book.snapshots r ≡ Some s → (q : Ref) → Contains s.parents q → Contains e.list q
  parents_listed r s k at q kq =
      let all = w.book.snapshots in
      let envs = and_right (all_fit (is_above name_cmp version_object) None w.book.versions) _ (and_right (all_fit (is_snapshot_fit w.book.version all) None all) _ (and_right (is_moment w.book.moment && is_version w.book.version) _ sound.book.well_formed)) in
      let rule = fit_found text_cmp env_name (is_env_fit all) w.book.environments None e.name e envs known in
      let lists = and_right (is_above text_cmp env_name rule.0 e) _ rule.1 in
      let previous = and_right (are_kept all e.list) _ lists in
      let short = and_right (are_kept all e.previous) _ previous in
      let ascending = and_right (nat_le (length e.list) 4096) _ short in
      let parents : have_parents all e.list e.list ≡ true = and_right (ascends name_cmp ref_name e.list) _ ascending in
      let here : has_parents all e.list r ≡ true = each_holds (λ t. has_parents all e.list t ≡ true) e.list (each_passes (has_parents all e.list) e.list parents) r k in
      let its : list_all (is_listed e.list) s.parents ≡ true = subst (λ (o : Option Snapshot). list_all (is_listed e.list) (parents_at o) ≡ true) at here in
      let listed : is_listed e.list q ≡ true = each_holds (λ t. is_listed e.list t ≡ true) s.parents (each_passes (is_listed e.list) s.parents its) q kq in
      go (found ref_cmp ref_itself q e.list) refl listed
    where
      go : (o : Option Ref) → found ref_cmp ref_itself q e.list ≡ o → is_some o ≡ true → Contains e.list q
      go None f h = absurd (let g : false ≡ true = h in cc)
      go (Some t) f h = subst (Contains e.list) (found_key ref_cmp ref_itself refs_exact q t e.list f) (found_contained ref_cmp ref_itself q t e.list f)

  entry_current : (n : ℕ) (r : Ref) (s : Snapshot) → Contains e.list r → snapshot_at w.book.snapshots r ≡ Some s → s.rank < n → AllCurrent clock x w.book s
  entry_current zero r s k at l = absurd (omega (arith, l))
  entry_current (suc n) r s k at l =
      let own = is_its_own w.book.snapshots r s at in
      let fit = fits w.book s sound.book.well_formed own in
      current s own (each_holds (Ready clock x w.book) e.list ready r k s at)
      (λ q kq p atp. let parent = fit.parents q (Has_from s.parents q kq) in
      let same : parent.snapshot ≡ p = let both : Some parent.snapshot ≡ Some p = sym parent.known ∙ atp in cc in
      let rank : parent.snapshot.rank ≡ p.rank = ap (λ (u : Snapshot). u.rank) same in
      entry_current n q p (parents_listed r s k at q kq) atp (omega (arith, parent.lower, rank, l)))

  pub model_shown : (p : Planned) → IsDone clock x w.book p → Contains e.list (planned_ref p) → ShowsModel w clock e.name p
  model_shown p done k =
      let s = done.snapshot in
      let shown = object_shown x w clock sound now s (entry_current (suc s.rank) (planned_ref p) s k done.known (omega arith)) in
      record {
        rows = shown.0;
        shown = ap (option_and_then (object_rows w)) (sound.views.final e known final (planned_ref p) k s done.known) ∙ shown.1;
        scratch = subst (λ (c : Closure). IsSameBag shown.0 (from_scratch w.sources clock c)) done.closure shown.2;
      }

pub models_shown : (x : Parts) (w : World) (clock : Clock) → Sound x w → ShowsMoment clock w.book.moment → (e : Env) → IsEnv w.book e → e.pending ≡ false → (models : List Planned) → e.list ≡ refs_by_name models → AreDone clock x w.book models
    → AllByRecursion (λ p. Contains e.list (planned_ref p)) models → AllByRecursion (ShowsModel w clock e.name) models
models_shown x w clock sound now e known final models list done listed =
    go models done listed
  where
    ready : Each (Ready clock x w.book) e.list
    ready = subst (Each (Ready clock x w.book)) (sym list) (ready_list clock x w.book models done)

    go : (ps : List Planned) → AreDone clock x w.book ps → AllByRecursion (λ p. Contains e.list (planned_ref p)) ps → AllByRecursion (ShowsModel w clock e.name) ps
    go [] d l = tt
    go (p ∷ ps) d l = (model_shown x w clock sound now e known final ready p d.0 l.0, go ps d.1 l.1)
