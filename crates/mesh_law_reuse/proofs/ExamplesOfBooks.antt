-- A book, worked out by hand, in which a model has gained a column, and what reads another column of it has kept its
-- table.
use Rattle.std.proofs.Common.{◌≡◌, ℕ, pos, Bool, true, false, cond, inl, inr, List, [], ◌∷◌, refl, ap, sym, ◌∙◌, subst, arith}
use Rattle.std.specs.Prelude.{codes}
use Rattle.std.specs.Ordering.{is_eq}
use Rattle.std.specs.declared.option.Option.TheVariants.{None, Some}
use Rattle.std.proofs.lemmas.Cmp.{tied_itself}
use Rattle.mesh_base_values.specs.NameOrder.{names_total}
use Rattle.mesh_base_values.specs.declared.values.Name.{Name}
use Rattle.mesh_base.specs.Keys.{ref_cmp, snapshot_ref}
use Rattle.mesh_base.specs.declared.snapshots.Env.{Env}
use Rattle.mesh_base.specs.declared.snapshots.Ref.{Ref}
use Rattle.mesh_base.specs.declared.snapshots.Snapshot.{Snapshot}
use Rattle.mesh_base.specs.rules.Seen.{is_select_seen, select_sees}
use Rattle.mesh_house_book.specs.WellFormed.{is_well_formed_book, snapshot_at}
use Rattle.mesh_house_book.specs.declared.book.Book.{Book}
use Rattle.mesh_spec_model.specs.Closures.{Closure, own_of}
use Rattle.mesh_law_query.proofs.Has.{Has}
use Rattle.mesh_law_query.proofs.Lists.{Each}
use Rattle.mesh_spec_changes.specs.listed.Closing.{IsSnapshot, closing}
use Rattle.mesh_spec_changes.specs.reuse.Cores.{IsTwin}
use Rattle.mesh_spec_changes.specs.due.Parts.{same_name}
use Rattle.mesh_spec_changes.specs.Environments.{prod}
use Rattle.mesh_law_reuse.specs.Shared.{SharesWithTwins}
use Rattle.mesh_law_reuse.proofs.Examples.{defn_items, it_is_read, named, narrow, over, reader, readers_of_x_are_twins, rows, wide, x_is_seen, y_is_seen}

-- what holds of each snapshot in a list holds of each that the book of the list has
there : (all : List Snapshot) (r : Ref) (s : Snapshot) → snapshot_at all r ≡ Some s → Has s all
there [] r s e = absurd (cc)
there (x ∷ xs) r s e = go (is_eq (ref_cmp (snapshot_ref x) r)) (there xs r s) e
  where
    go : (b : Bool) → (snapshot_at xs r ≡ Some s → Has s xs) → cond b (Some x) (snapshot_at xs r) ≡ Some s → Has s (x ∷ xs)
    go true rest e = inl (let same : x ≡ s = cc in same)
    go false rest e = inr (rest e)

one_of : (P : Snapshot → Type 0) (all : List Snapshot) → Each P all → (s : Snapshot) → Has s all → P s
one_of P [] h s k = absurd k
one_of P (x ∷ xs) h s (inl e) = subst P e h.0
one_of P (x ∷ xs) h s (inr k) = one_of P xs h.1 s k

pub each_kept : (P : Snapshot → Type 0) (all : List Snapshot) → Each P all → (s : Snapshot) → IsSnapshot all s → P s
each_kept P all h s known = one_of P all h s (there all (snapshot_ref s) s known)

-- something, where a test is true
abbrev pub Where : Bool → Type 0 → Type 0
Where true P = P
Where false P = Unit {0}

pub where_it_is : (b : Bool) (P : Type 0) → b ≡ true → Where b P → P
where_it_is true P e h = h
where_it_is false P e h = absurd (cc)

-- two snapshots, where their tables have one name
abbrev pub Shares : List Snapshot → Snapshot → Snapshot → Type 0
Shares all s s' = Where (same_name s.object s'.object) ((s.name ≡ s'.name) × IsTwin (closing all s) (closing all s'))

-- tables are shared with twins, where each two snapshots are looked at
pub shares : (b : Book) → Each (λ s. Each (Shares b.snapshots s) b.snapshots) b.snapshots → SharesWithTwins b
shares b h s s' known known' e =
    let each : Each (Shares b.snapshots s) b.snapshots = each_kept (λ s. Each (Shares b.snapshots s) b.snapshots) b.snapshots h s known in
    where_it_is (same_name s.object s'.object) ((s.name ≡ s'.name) × IsTwin (closing b.snapshots s) (closing b.snapshots s'))
    (ap (λ n. same_name n s'.object) e ∙ ap is_eq (tied_itself names_total s'.object))
    (each_kept (Shares b.snapshots s) b.snapshots each s' known')

-- a fingerprint of 32 bytes
abbrev pub print : ℕ → List ℕ
print n = n ∷ 0 ∷ 0 ∷ 0 ∷ 0 ∷ 0 ∷ 0 ∷ 0 ∷ 0 ∷ 0 ∷ 0 ∷ 0 ∷ 0 ∷ 0 ∷ 0 ∷ 0 ∷ 0 ∷ 0 ∷ 0 ∷ 0 ∷ 0 ∷ 0 ∷ 0 ∷ 0 ∷ 0 ∷ 0 ∷ 0 ∷ 0 ∷ 0 ∷ 0 ∷ 0 ∷ 0 ∷ []

abbrev pub ref : List ℕ → ℕ → Ref
ref model n = record { name = named model; fingerprint = print n }

abbrev pub table : List ℕ → Name
table model = record { schema = codes "sqlmesh__a"; model = model }

abbrev pub snapshot : Closure → ℕ → List Ref → ℕ → List ℕ → Snapshot
snapshot c n parents rank object = record { name = (own_of c).name; fingerprint = print n; own = own_of c; parents = parents; rank = rank; object = table object; expires = pos 0 }

abbrev pub seed_snapshot : Snapshot
seed_snapshot = snapshot rows 1 [] 0 (codes "t1")

abbrev pub narrow_snapshot : Snapshot
narrow_snapshot = snapshot narrow 2 (ref (codes "t") 1 ∷ []) 1 (codes "p2")

abbrev pub reader_snapshot : Snapshot
reader_snapshot = snapshot (over reader narrow) 3 (ref (codes "p") 2 ∷ []) 2 (codes "g3")

-- `p` has gained y, and `g`, which reads x alone, has its table from before
abbrev wide_snapshot : Snapshot
wide_snapshot = snapshot wide 4 (ref (codes "t") 1 ∷ []) 1 (codes "p4")

abbrev new_reader_snapshot : Snapshot
new_reader_snapshot = snapshot (over reader wide) 5 (ref (codes "p") 4 ∷ []) 2 (codes "g3")

abbrev pub production : Env
production = record { name = prod; pending = false; list = ref (codes "g") 3 ∷ ref (codes "p") 2 ∷ ref (codes "t") 1 ∷ []; previous = []; expires = None }

abbrev pub with_snapshots : List Snapshot → Book
with_snapshots all = record { version = 2; moment = pos 0; snapshots = all; versions = []; environments = production ∷ [] }

-- a book of both, in which the two of `g` share a table
abbrev pub shared : Book
shared = with_snapshots (reader_snapshot ∷ new_reader_snapshot ∷ narrow_snapshot ∷ wide_snapshot ∷ seed_snapshot ∷ [])

-- that book is well formed
pub shared_is_well : is_well_formed_book shared ≡ true
unfolding is_select_seen select_sees
shared_is_well = simp (it_is_read, x_is_seen, y_is_seen) refl

-- in it the two that share a table are twins, though no one closure
pub it_shares_with_twins : SharesWithTwins shared
it_shares_with_twins = shares shared (
  ((refl, refl), ((refl, readers_of_x_are_twins), (tt, (tt, (tt, tt))))),
  (
    ((refl, sym readers_of_x_are_twins), ((refl, refl), (tt, (tt, (tt, tt))))),
    (
      (tt, (tt, ((refl, refl), (tt, (tt, tt))))),
      (
        (tt, (tt, (tt, ((refl, refl), (tt, tt))))),
        ((tt, (tt, (tt, (tt, ((refl, refl), tt))))), tt),
      ),
    ),
  ),
)

-- a book in which the two of `p` share a table
abbrev pub careless : Book
careless = with_snapshots (reader_snapshot ∷ narrow_snapshot ∷ record wide_snapshot { object = narrow_snapshot.object } ∷ seed_snapshot ∷ [])

-- that book is well formed too
pub careless_is_well : is_well_formed_book careless ≡ true
unfolding is_select_seen select_sees
careless_is_well = simp (it_is_read, x_is_seen, y_is_seen) refl

-- the two of `p` are no twins: not each well-formed book shares its tables with twins alone
pub it_shares_with_others : ¬ SharesWithTwins careless
it_shares_with_others h =
    let twins : IsTwin narrow wide = (h narrow_snapshot (record wide_snapshot { object = narrow_snapshot.object }) refl refl refl).1 in
    let n : 1 ≡ 2 = ap (λ c. defn_items (own_of c).defn) twins in
    absurd (omega (arith, n))
