-- Models that are up to date with all that they stand on stay so where the version of a model that stands on them
-- changes.
use Rattle.std.proofs.Common.{◌≡◌, ℕ, zero, suc, ◌+◌, ◌<◌, ◌≤◌, false, inl, inr, List, [], ◌∷◌, Some, refl, sym, ◌∙◌, ap, subst, arith}
use Rattle.std.specs.List.{AllByRecursion, Contains}
use Rattle.std.specs.Option.{option_map}
use Rattle.std.specs.declared.option.Option.{Option}
use Rattle.std.specs.declared.option.Option.TheVariants.{None}
use Rattle.mesh_base_values.specs.declared.kinds.Kind.{Kind}
use Rattle.mesh_base_values.specs.declared.kinds.Kind.TheVariants.{Full, View, Seed, Incremental}
use Rattle.mesh_base_values.specs.declared.values.Name.{Name}
use Rattle.mesh_base.specs.declared.definitions.Own.{Own}
use Rattle.mesh_base.specs.declared.forgets.Forget.{Forget}
use Rattle.mesh_base.specs.declared.forgets.Forget.TheVariants.{Marks}
use Rattle.mesh_base.specs.declared.snapshots.Ref.{Ref}
use Rattle.mesh_base.specs.declared.snapshots.Snapshot.{Snapshot}
use Rattle.mesh_house_book.specs.declared.book.Book.{Book}
use Rattle.mesh_house_book.specs.declared.versions.Version.{Version}
use Rattle.mesh_house_book.specs.WellFormed.{snapshot_at}
use Rattle.mesh_spec_model.specs.Closures.{Closure, Closures, Model, Alone, With, own_of, with_parent}
use Rattle.mesh_spec_model.specs.Horizons.{Clock}
use Rattle.mesh_law_query.specs.Reads.{reads}
use Rattle.mesh_law_query.proofs.Has.{Has, Has_from}
use Rattle.mesh_house.specs.World.{version_of}
use Rattle.mesh_spec_changes.specs.listed.Closing.{closing, IsSnapshot, parents_by}
use Rattle.mesh_spec_changes.proofs.listed.Books.{is_its_own}
use Rattle.mesh_spec_changes.proofs.listed.Depths.{closing_is}
use Rattle.mesh_spec_changes.specs.reuse.Cores.{core, IsTwin, pruned, pruned_for, pruned_own}
use Rattle.mesh_spec_changes.specs.due.Parts.{Parts, unit_of}
use Rattle.mesh_spec_changes.specs.due.Plans.{Planned}
use Rattle.mesh_spec_changes.specs.Changes.{planned_ref}
use Rattle.mesh_spec_promise.specs.Current.{AllCurrent, current, IsCurrent, IsReadable, IsRecorded}
use Rattle.mesh_spec_promise.specs.Sound.{IsBookSound}

-- how many models a closure has, as often as each is reached
abbrev mutual
  size : Closure → ℕ
  size (Model own parents) = suc (sizes parents)

  sizes : Closures → ℕ
  sizes Alone = 0
  sizes (With c cs) = size c + sizes cs

mutual
  size_pruned : (wanted : List (List ℕ)) (c : Closure) → size (pruned wanted c) ≡ size c
  size_pruned wanted (Model own parents) = ap suc (sizes_for (pruned_own wanted own) parents)

  sizes_for : (own : Own) (cs : Closures) → sizes (pruned_for own cs) ≡ sizes cs
  sizes_for own Alone = refl
  sizes_for own (With c cs) = λ i. size_pruned (reads own (own_of c).name) c i + sizes_for own cs i

size_core : (c : Closure) → size (core c) ≡ size c
size_core (Model own parents) = ap suc (sizes_for own parents)

size_twins : (a c : Closure) → IsTwin a c → size a ≡ size c
size_twins a c e = sym (size_core a) ∙ ap size e ∙ size_core c

-- each of some parents is among their closures
among_parents : (all : List Snapshot) (f : Snapshot → Closure) (refs : List Ref) (r : Ref) (q : Snapshot) → Has r refs → snapshot_at all r ≡ Some q → size (f q) ≤ sizes (parents_by f all refs)
among_parents all f [] r q h at = absurd h
among_parents all f (t ∷ ts) r q (inl e) at = go (snapshot_at all t) (ap (snapshot_at all) e ∙ at)
  where
    go : (o : Option Snapshot) → o ≡ Some q → size (f q) ≤ sizes (with_parent (option_map f o) (parents_by f all ts))
    go None is = absurd (let clash : None ≡ Some q = is in cc)
    go (Some p) is = let same : size (f p) ≡ size (f q) = ap (λ (s : Snapshot). size (f s)) (let one : p ≡ q = cc in one) in omega (arith, same)
among_parents all f (t ∷ ts) r q (inr h) at = go (snapshot_at all t) (among_parents all f ts r q h at)
  where
    go : (o : Option Snapshot) → size (f q) ≤ sizes (parents_by f all ts) → size (f q) ≤ sizes (with_parent (option_map f o) (parents_by f all ts))
    go None more = more
    go (Some p) more = omega (arith, more)

parent_smaller : (b : Book) → IsBookSound b → (s : Snapshot) → IsSnapshot b.snapshots s → (r : Ref) (q : Snapshot) → Has r s.parents → snapshot_at b.snapshots r ≡ Some q → size (closing b.snapshots q) < size (closing b.snapshots s)
parent_smaller b sound s known r q h at =
    let whole : size (closing b.snapshots s) ≡ suc (sizes (parents_by (closing b.snapshots) b.snapshots s.parents)) = ap size (closing_is b sound.well_formed s known) in
    let part : size (closing b.snapshots q) ≤ sizes (parents_by (closing b.snapshots) b.snapshots s.parents) = among_parents b.snapshots (closing b.snapshots) s.parents r q h at in
    omega (arith, whole, part)

-- what is known of a snapshot that is up to date
known_of : (clock : Clock) (x : Parts) (b : Book) (s : Snapshot) → AllCurrent clock x b s → IsSnapshot b.snapshots s
known_of clock x b s (current t known now above) = known

current_of : (clock : Clock) (x : Parts) (b : Book) (s : Snapshot) → AllCurrent clock x b s → IsCurrent clock x b s
current_of clock x b s (current t known now above) = now

above_of : (clock : Clock) (x : Parts) (b : Book) (s : Snapshot) → AllCurrent clock x b s → (r : Ref) → Contains s.parents r → (p : Snapshot) → snapshot_at b.snapshots r ≡ Some p → AllCurrent clock x b p
above_of clock x b s (current t known now above) = above

module _ (clock : Clock) (x y : Parts) (b after : Book) (sound : IsBookSound b) (object : Name) (snapshots : after.snapshots ≡ b.snapshots)
    (versions : (name : Name) → (name ≡ object → ⊥) → version_of after name ≡ version_of b name) (fewer : (q : Forget) → x q ≡ false → y q ≡ false) where
  recorded_kept : (s : Snapshot) (c : Closure) (v : Version) (kind : Kind) → IsRecorded clock x s c v kind → IsRecorded clock y s c v kind
  recorded_kept s c v (Incremental time lookback) h = λ u k. ((h u k).0, fewer (unit_of s.object u) (h u k).1)
  recorded_kept s c v Full h = (h.0, fewer (Marks s.object) h.1)
  recorded_kept s c v View h = tt
  recorded_kept s c v Seed h = h

  current_kept : (s : Snapshot) → (s.object ≡ object → ⊥) → IsCurrent clock x b s → IsCurrent clock y after s
  current_kept s other h = record {
    version = h.version;
    known = versions s.object other ∙ h.known;
    made = h.made;
    recorded = subst (λ (ss : List Snapshot). IsRecorded clock y s (closing ss s) h.version s.own.kind) (sym snapshots) (recorded_kept s (closing b.snapshots s) h.version s.own.kind h.recorded);
  }

  module _ (s : Snapshot) (known : IsSnapshot b.snapshots s) (its : s.object ≡ object) where
    -- what is smaller than a snapshot doesn't have its object
    other_object : (t : Snapshot) → IsSnapshot b.snapshots t → size (closing b.snapshots t) < size (closing b.snapshots s) → t.object ≡ object → ⊥
    other_object t there less same =
        let equal : size (closing b.snapshots t) ≡ size (closing b.snapshots s) = size_twins (closing b.snapshots t) (closing b.snapshots s) (sound.shared t s there known (same ∙ sym its)).1 in
        omega (arith, equal, less)

    all_kept : (n : ℕ) (t : Snapshot) → size (closing b.snapshots t) < n → n ≤ size (closing b.snapshots s) → AllCurrent clock x b t → AllCurrent clock y after t
    all_kept zero t l m h = absurd (omega (arith, l))
    all_kept (suc n) t l m h =
        let there : IsSnapshot b.snapshots t = known_of clock x b t h in
        current t (subst (λ (ss : List Snapshot). IsSnapshot ss t) (sym snapshots) there)
        (current_kept t (other_object t there (omega (arith, l, m))) (current_of clock x b t h))
        (λ r k q at.
        let at_b : snapshot_at b.snapshots r ≡ Some q = ap (λ (ss : List Snapshot). snapshot_at ss r) (sym snapshots) ∙ at in
        let less : size (closing b.snapshots q) < size (closing b.snapshots t) = parent_smaller b sound t there r q (Has_from t.parents r k) at_b in
        all_kept n q (omega (arith, l, less)) (omega (arith, m)) (above_of clock x b t h r k q at_b))

    one_kept : (q : Planned) → Has (planned_ref q) s.parents → IsReadable clock x b q → IsReadable clock y after q
    one_kept q h readable =
        let t = readable.done.snapshot in
        let less : size (closing b.snapshots t) < size (closing b.snapshots s) = parent_smaller b sound s known (planned_ref q) t h readable.done.known in
        record {
          done = record {
            snapshot = t;
            known = ap (λ (ss : List Snapshot). snapshot_at ss (planned_ref q)) snapshots ∙ readable.done.known;
            own = readable.done.own;
            object = readable.done.object;
            closure = ap (λ (ss : List Snapshot). closing ss t) snapshots ∙ readable.done.closure;
            current = current_kept t (other_object t (is_its_own b.snapshots (planned_ref q) t readable.done.known) less) readable.done.current;
          };
          all = all_kept (size (closing b.snapshots s)) t less (omega arith) readable.all;
        }

    -- parents stay readable
    pub parents_kept : (qs : List Planned) → ((q : Planned) → Has q qs → Has (planned_ref q) s.parents) → AllByRecursion (IsReadable clock x b) qs → AllByRecursion (IsReadable clock y after) qs
    parents_kept [] h readable = tt
    parents_kept (q ∷ qs) h readable = (one_kept q (h q (inl refl)) readable.0, parents_kept qs (λ r k. h r (inr k)) readable.1)
