-- What a change of one list of a world leaves of all other things.
use Rattle.std.proofs.Common.{◌≡◌, ℕ, ℤ, Bool, true, false, cond, List, [], ◌∷◌, ◌++◌, ◌||◌, Some, None, refl, sym, ap, ◌∙◌, map}
use Rattle.std.specs.declared.cmp.Ordering.{Ordering}
use Rattle.std.specs.Ordering.{is_eq}
use Rattle.std.specs.Cmp.{Equal-is}
use Rattle.std.specs.List.{list_any}
use Rattle.std.proofs.lemmas.Bool.{or_parts}
use Rattle.std.proofs.lemmas.Cmp.{tied_itself}
use Rattle.std.proofs.lemmas.Map.Lookups.{CmpEqualImpliesEq, exact_bytes}
use Rattle.mesh_list.specs.Keyed.{found}
use Rattle.mesh_base_values.specs.declared.values.Name.{Name}
use Rattle.mesh_base_values.specs.Names.{name_cmp, text_cmp}
use Rattle.mesh_base_values.specs.NameOrder.{names_exact}
use Rattle.mesh_base.specs.declared.jobs.Input.{Input}
use Rattle.mesh_base.specs.declared.snapshots.Env.{Env}
use Rattle.mesh_base.specs.declared.snapshots.Ref.{Ref}
use Rattle.mesh_base.specs.declared.snapshots.Snapshot.{Snapshot}
use Rattle.mesh_base.specs.Keys.{env_name, input_name, ref_cmp, refs_exact, snapshot_ref}
use Rattle.mesh_house_book.specs.declared.versions.Version.{Version}
use Rattle.mesh_house_book.specs.Changes.{version_object}
use Rattle.mesh_house.specs.declared.objects.Object.{Object}
use Rattle.mesh_house.specs.declared.world.ViewOf.{ViewOf}
use Rattle.mesh_house.specs.declared.world.World.{World}
use Rattle.mesh_house.specs.Objects.{object_name}
use Rattle.mesh_house.specs.Step.{with_book}
use Rattle.mesh_house.specs.World.{view_name}
use Rattle.mesh_keep.specs.Places.{places_total}
use Rattle.mesh_keep_house.specs.declared.touched.things.Thing.{Thing}
use Rattle.mesh_keep_house.specs.declared.touched.things.Thing.TheVariants as things
use Rattle.mesh_keep_house.specs.touched.Touched.{place_of}
use Rattle.mesh_keep_house.proofs.touched.Places.{same_place}
use Rattle.mesh_keep_house.proofs.touched.Right.{Alike}

-- some of the things has the place of this one
abbrev pub touches : List Thing → Thing → Bool
touches ts u = list_any (λ t. same_place (place_of t) (place_of u)) ts

-- each thing whose place is that of none of these is as before
abbrev pub Spares : List Thing → World → World → Type 0
Spares ts w v = (u : Thing) → touches ts u ≡ false → Alike w v u

alike_both : (w v x : World) (u : Thing) → Alike w v u → Alike v x u → Alike w x u
alike_both w v x things.Head p q = q ∙ p
alike_both w v x (things.Snapshot k) p q = q ∙ p
alike_both w v x (things.Version k) p q = q ∙ p
alike_both w v x (things.Env k) p q = q ∙ p
alike_both w v x (things.View k) p q = q ∙ p
alike_both w v x (things.Object k) p q = q ∙ p
alike_both w v x (things.Source k) p q = q ∙ p

pub spares_same : (ts : List Thing) (w : World) → Spares ts w w
spares_same ts w things.Head h = refl
spares_same ts w (things.Snapshot k) h = refl
spares_same ts w (things.Version k) h = refl
spares_same ts w (things.Env k) h = refl
spares_same ts w (things.View k) h = refl
spares_same ts w (things.Object k) h = refl
spares_same ts w (things.Source k) h = refl

pub spares_both : (t : Thing) (ts : List Thing) (w v x : World) → Spares (t ∷ []) w v → Spares ts v x → Spares (t ∷ ts) w x
spares_both t ts w v x f g u h =
    let p = or_parts (same_place (place_of t) (place_of u)) (touches ts u) h in
    alike_both w v x u (f u (ap (λ b. b || false) p.0)) (g u p.1)

-- things of other places have other keys
module _ {K : Type 0} (R : K → K → Ordering) (exact : CmpEqualImpliesEq R) (C : K → Thing) where
  pub apart : (j k : K) → same_place (place_of (C j)) (place_of (C k)) ≡ false → is_eq (R j k) ≡ false
  apart j k h = at (is_eq (R j k)) refl
    where
      at : (b : Bool) → is_eq (R j k) ≡ b → b ≡ false
      at false e = refl
      at true e =
          let same : j ≡ k = exact j k ((Equal-is (R j k)).0 e) in
          let tied : same_place (place_of (C k)) (place_of (C k)) ≡ true = ap is_eq (tied_itself places_total (place_of (C k))) in
          absurd (let clash : true ≡ false = sym tied ∙ ap (λ n. same_place (place_of (C n)) (place_of (C k))) (sym same) ∙ h in cc)

  pub apart_one : (j k : K) → touches (C j ∷ []) (C k) ≡ false → is_eq (R j k) ≡ false
  apart_one j k h = apart j k (or_parts (same_place (place_of (C j)) (place_of (C k))) false h).0

  -- a key that no item has
  pub none_touched : {A : Type 0} (key : A → K) (k : K) (xs : List A) → touches (map (λ x. C (key x)) xs) (C k) ≡ false → found R key k xs ≡ None
  none_touched key k [] h = refl
  none_touched key k (x ∷ xs) h =
      let p = or_parts (same_place (place_of (C (key x))) (place_of (C k))) (touches (map (λ y. C (key y)) xs) (C k)) h in
      ap (λ b. cond b (Some x) (found R key k xs)) (apart (key x) k p.0) ∙ none_touched key k xs p.1

pub touches_parts : (ts us : List Thing) (u : Thing) → touches (ts ++ us) u ≡ false → (touches ts u ≡ false) × (touches us u ≡ false)
touches_parts [] us u h = (refl, h)
touches_parts (t ∷ ts) us u h =
    let p = or_parts (same_place (place_of t) (place_of u)) (touches (ts ++ us) u) h in
    let q = touches_parts ts us u p.1 in
    (ap (λ b. b || touches ts u) p.0 ∙ q.0, q.1)

pub head_untouched : (ts : List Thing) → touches (things.Head ∷ ts) things.Head ≡ false → ⊥
head_untouched ts h =
    let p = or_parts (same_place (place_of things.Head) (place_of things.Head)) (touches ts things.Head) h in
    let clash : true ≡ false = sym (ap is_eq (tied_itself places_total (place_of things.Head))) ∙ p.0 in
    absurd cc

pub only_head : (w : World) (version : ℕ) (moment : ℤ) → Spares (things.Head ∷ []) w (with_book w (record w.book { version = version; moment = moment }))
only_head w version moment things.Head h = absurd (head_untouched [] h)
only_head w version moment (things.Snapshot k) h = refl
only_head w version moment (things.Version k) h = refl
only_head w version moment (things.Env k) h = refl
only_head w version moment (things.View k) h = refl
only_head w version moment (things.Object k) h = refl
only_head w version moment (things.Source k) h = refl

pub only_snapshots : (w : World) (j : Ref) (xs : List Snapshot)
    → ((k : Ref) → is_eq (ref_cmp j k) ≡ false → found ref_cmp snapshot_ref k xs ≡ found ref_cmp snapshot_ref k w.book.snapshots)
    → Spares (things.Snapshot j ∷ []) w (with_book w (record w.book { snapshots = xs }))
only_snapshots w j xs others things.Head h = refl
only_snapshots w j xs others (things.Snapshot k) h = others k (apart_one ref_cmp refs_exact things.Snapshot j k h)
only_snapshots w j xs others (things.Version k) h = refl
only_snapshots w j xs others (things.Env k) h = refl
only_snapshots w j xs others (things.View k) h = refl
only_snapshots w j xs others (things.Object k) h = refl
only_snapshots w j xs others (things.Source k) h = refl

pub only_versions : (w : World) (j : Name) (xs : List Version)
    → ((k : Name) → is_eq (name_cmp j k) ≡ false → found name_cmp version_object k xs ≡ found name_cmp version_object k w.book.versions)
    → Spares (things.Version j ∷ []) w (with_book w (record w.book { versions = xs }))
only_versions w j xs others things.Head h = refl
only_versions w j xs others (things.Snapshot k) h = refl
only_versions w j xs others (things.Version k) h = others k (apart_one name_cmp names_exact things.Version j k h)
only_versions w j xs others (things.Env k) h = refl
only_versions w j xs others (things.View k) h = refl
only_versions w j xs others (things.Object k) h = refl
only_versions w j xs others (things.Source k) h = refl

pub only_envs : (w : World) (j : List ℕ) (xs : List Env)
    → ((k : List ℕ) → is_eq (text_cmp j k) ≡ false → found text_cmp env_name k xs ≡ found text_cmp env_name k w.book.environments)
    → Spares (things.Env j ∷ []) w (with_book w (record w.book { environments = xs }))
only_envs w j xs others things.Head h = refl
only_envs w j xs others (things.Snapshot k) h = refl
only_envs w j xs others (things.Version k) h = refl
only_envs w j xs others (things.Env k) h = others k (apart_one text_cmp exact_bytes things.Env j k h)
only_envs w j xs others (things.View k) h = refl
only_envs w j xs others (things.Object k) h = refl
only_envs w j xs others (things.Source k) h = refl

pub only_views : (w : World) (j : Name) (xs : List ViewOf)
    → ((k : Name) → is_eq (name_cmp j k) ≡ false → found name_cmp view_name k xs ≡ found name_cmp view_name k w.views)
    → Spares (things.View j ∷ []) w (record w { views = xs })
only_views w j xs others things.Head h = refl
only_views w j xs others (things.Snapshot k) h = refl
only_views w j xs others (things.Version k) h = refl
only_views w j xs others (things.Env k) h = refl
only_views w j xs others (things.View k) h = others k (apart_one name_cmp names_exact things.View j k h)
only_views w j xs others (things.Object k) h = refl
only_views w j xs others (things.Source k) h = refl

pub only_objects : (w : World) (j : Name) (xs : List Object)
    → ((k : Name) → is_eq (name_cmp j k) ≡ false → found name_cmp object_name k xs ≡ found name_cmp object_name k w.objects)
    → Spares (things.Object j ∷ []) w (record w { objects = xs })
only_objects w j xs others things.Head h = refl
only_objects w j xs others (things.Snapshot k) h = refl
only_objects w j xs others (things.Version k) h = refl
only_objects w j xs others (things.Env k) h = refl
only_objects w j xs others (things.View k) h = refl
only_objects w j xs others (things.Object k) h = others k (apart_one name_cmp names_exact things.Object j k h)
only_objects w j xs others (things.Source k) h = refl

pub only_sources : (w : World) (j : Name) (xs : List Input)
    → ((k : Name) → is_eq (name_cmp j k) ≡ false → found name_cmp input_name k xs ≡ found name_cmp input_name k w.sources)
    → Spares (things.Source j ∷ []) w (record w { sources = xs })
only_sources w j xs others things.Head h = refl
only_sources w j xs others (things.Snapshot k) h = refl
only_sources w j xs others (things.Version k) h = refl
only_sources w j xs others (things.Env k) h = refl
only_sources w j xs others (things.View k) h = refl
only_sources w j xs others (things.Object k) h = refl
only_sources w j xs others (things.Source k) h = others k (apart_one name_cmp names_exact things.Source j k h)
