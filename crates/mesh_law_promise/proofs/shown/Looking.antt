-- What is looked at for the rows of a planned model, beside its own object, are the objects of models of smaller rank.
use Rattle.std.proofs.Common.{◌≡◌, ℕ, zero, suc, ◌<◌, ◌⊎◌, inl, inr, true, List, [], ◌∷◌, map, Some, None, sym, ◌∙◌, ap, subst, arith}
use Rattle.std.specs.List.{AllPairs}
use Rattle.std.proofs.lemmas.List.Elements.{All-from_recursion}
use Rattle.std.proofs.lemmas.List.Kept.{AllPairs-cons}
use Rattle.mesh_base_values.specs.declared.values.Name.{Name}
use Rattle.mesh_base_values.specs.declared.values.Pair.{Pair}
use Rattle.mesh_base.specs.declared.snapshots.Node.{Node}
use Rattle.mesh_base.specs.declared.snapshots.Snapshot.{Snapshot}
use Rattle.mesh_base.specs.rules.Proper.{is_proper}
use Rattle.mesh_house_book.specs.WellFormed.{snapshot_at}
use Rattle.mesh_spec_model.specs.Closures.{closures}
use Rattle.mesh_law_query.proofs.Has.{Has, Has_flat_from, Has_from, Has_map_from, Has_to}
use Rattle.mesh_spec_changes.proofs.listed.Books.{is_its_own}
use Rattle.mesh_house.specs.declared.world.World.{World}
use Rattle.mesh_house.specs.World.{body_of, object_at}
use Rattle.mesh_spec_changes.specs.due.Parts.{Parts}
use Rattle.mesh_spec_changes.specs.due.Plans.{Planned}
use Rattle.mesh_spec_changes.specs.Apart.{IsApart, IsBelow, LooksDown, looks, targets_behind}
use Rattle.mesh_spec_changes.specs.Changes.{parents_in, planned_ref}
use Rattle.mesh_law_reuse.proofs.Known.{place_there}
use Rattle.mesh_spec_promise.specs.Sound.{Sound}
use Rattle.mesh_law_changes.specs.along.Ready.{AreApart}
use Rattle.mesh_law_steps.proofs.puts.Models.{its_parents}
use Rattle.mesh_law_steps.proofs.opens.Lists.{all_of, placed_in}
use Rattle.mesh_law_promise.proofs.shown.Targets.{object_reads}

-- no two of some models have one object
pub apart_pairs : (ps : List Planned) → AreApart ps → AllPairs (λ (p q : Planned). p.object ≡ q.object → ⊥) ps
apart_pairs [] h = λ i j d l k. absurd (omega (arith, k))
apart_pairs (p ∷ ps) h =
    AllPairs-cons (λ (p q : Planned). p.object ≡ q.object → ⊥) p ps (All-from_recursion (λ (q : Planned). p.object ≡ q.object → ⊥) ps h.0) (apart_pairs ps h.1)

-- a planned model is a snapshot of the book, with its parents and its object
pub record IsKnown (w : World) (models : List Planned) (p : Planned) : Type 0 where
  pub snapshot : Snapshot
  pub known : snapshot_at w.book.snapshots (planned_ref p) ≡ Some snapshot
  pub parents : snapshot.parents ≡ map planned_ref (parents_in models p)
  pub object : snapshot.object ≡ p.object

-- or the book has none of its reference, and its object reads nothing
pub record IsNew (w : World) (p : Planned) : Type 0 where
  pub none : snapshot_at w.book.snapshots (planned_ref p) ≡ None
  pub alone : targets_behind (body_of (object_at w p.object)) ≡ []

module _ (x : Parts) (w : World) (sound : Sound x w) (nodes : List Node) (proper : is_proper nodes ≡ true) (models : List Planned)
    (are : map (λ (p : Planned). p.node) models ≡ nodes) (closed : map (λ (p : Planned). p.closure) models ≡ closures nodes)
    (seated : (p : Planned) → Has p models → IsKnown w models p ⊎ IsNew w p) where
  abbrev all : List Snapshot
  all = w.book.snapshots

  -- a target of a model's object is the object of one of its parents
  record IsParent (p : Planned) (t : Pair) : Type 0 where
    model : Planned
    there : Has model models
    lower : model.node.rank < p.node.rank
    object : model.object ≡ t.second

  target_parent : (p : Planned) → Has p models → (t : Pair) → Has t (targets_behind (body_of (object_at w p.object))) → IsParent p t
  target_parent p h t k = of_seat (seated p h)
    where
      of_seat : IsKnown w models p ⊎ IsNew w p → IsParent p t
      of_seat (inr new) = absurd (subst (Has t) new.alone k)
      of_seat (inl its) =
          let s : Snapshot = its.snapshot in
          let read = object_reads x w sound s (is_its_own all (planned_ref p) s its.known) t (subst (λ (n : Name). Has t (targets_behind (body_of (object_at w n)))) (sym its.object) k) in
          let (q, j, named) = Has_map_from planned_ref (parents_in models p) read.ref (subst (Has read.ref) its.parents read.parent) in
          let (i, e) = place_there models p h in
          let front = its_parents nodes proper models are closed i p e q j in
          let there : Has q models = Has_from models q (placed_in models front.place q front.there) in
          let at : snapshot_at all (planned_ref q) ≡ Some read.snapshot = ap (snapshot_at all) named ∙ read.known in
          record { model = q; there = there; lower = front.lower; object = of_parent q read.snapshot at (seated q there) ∙ read.object }
        where
          of_parent : (q : Planned) (u : Snapshot) → snapshot_at all (planned_ref q) ≡ Some u → IsKnown w models q ⊎ IsNew w q → q.object ≡ u.object
          of_parent q u at (inl known) =
              let both : Some known.snapshot ≡ Some u = sym known.known ∙ at in
              let same : known.snapshot ≡ u = cc in
              sym known.object ∙ ap (λ (v : Snapshot). v.object) same
          of_parent q u at (inr new) = absurd (let clash : None ≡ Some u = sym new.none ∙ at in cc)

  looks_down : (depth : ℕ) (p : Planned) → Has p models → (name : Name) → Has name (looks depth w p.object) → (p.object ≡ name) ⊎ IsBelow models p.node.rank name
  looks_down zero p h name (inl e) = inl e
  looks_down zero p h name (inr k) = absurd k
  looks_down (suc depth) p h name (inl e) = inl e
  looks_down (suc depth) p h name (inr k) =
      let (t, i, j) = Has_flat_from (λ (t : Pair). looks depth w t.second) (targets_behind (body_of (object_at w p.object))) name k in
      let q = target_parent p h t i in
      go q (looks_down depth q.model q.there name (subst (λ (n : Name). Has name (looks depth w n)) (sym q.object) j))
    where
      go : {t : Pair} (q : IsParent p t) → (q.model.object ≡ name) ⊎ IsBelow models q.model.node.rank name → (p.object ≡ name) ⊎ IsBelow models p.node.rank name
      go q (inl e) = inr (record { model = q.model; listed = Has_to models q.model q.there; lower = q.lower; is = e })
      go q (inr b) = inr (record { model = b.model; listed = b.listed; lower = let low = b.lower in let more = q.lower in omega (arith, low, more); is = b.is })

  pub look_apart : AreApart models → IsApart w models
  look_apart apart = record { distinct = apart_pairs models apart; down = all_of (LooksDown w models) models each }
    where
      each : (p : Planned) → Has p models → LooksDown w models p
      each p h made name k other = go (looks_down 4096 p h name (Has_from (looks 4096 w p.object) name k))
        where
          go : (p.object ≡ name) ⊎ IsBelow models p.node.rank name → IsBelow models p.node.rank name
          go (inl e) = absurd (other (sym e))
          go (inr b) = b
