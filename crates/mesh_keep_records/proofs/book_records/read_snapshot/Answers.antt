use Rattle.std.proofs.Common.{◌≡◌, ℕ, List, Some, sym, ap, subst, ◌∙◌, arith, to_z, of_z, w64}
use Rattle.std.specs.Prelude.{ℤ}
use Rattle.std.proofs.lemmas.Result.{err_from_is_err_and}
use Rattle.std.proofs.lemmas.Bool.{and_parts}
use Rattle.std.proofs.lemmas.Int.{to_z-of_z}
use Rattle.mesh_base_values.specs.declared.values.Name.{Name}
use Rattle.mesh_base.specs.declared.definitions.Own.{Own}
use Rattle.mesh_base.specs.declared.snapshots.Ref.{Ref}
use Rattle.mesh_base.specs.declared.snapshots.Snapshot.{Snapshot}
use Rattle.mesh_canon_reading.proofs.Exact.{some_is}
use Rattle.mesh_canon.specs.canon.Forms.{IsOwnText}
use Rattle.mesh_keep_records.specs.Records.{snapshot_text}
use Rattle.mesh_keep_records.proofs.Refused.{still_refused}
use Rattle.mesh_keep_records.proofs.book_records.read_snapshot.Goals as goal

abbrev Fields : Type 0
Fields = Name × (List ℕ × (List ℕ × (List Ref × (ℕ × (Name × (ℤ × Unit {0}))))))

abbrev built : Fields → Own → Snapshot
built f m = record { name = f.0; fingerprint = f.1.0; own = m; parents = f.1.1.1.0; rank = f.1.1.1.1.0; object = f.1.1.1.1.1.0; expires = f.1.1.1.1.1.1.0 }

pub returns-in_err-name-clause-only : goal.returns-in_err-name-clause-only
returns-in_err-name-clause-only c = λ s fit is.
    let p = err_from_is_err_and c.from_residual.result c.from_residual.ensures.1 in
    let f : Fields = (s.name, (s.fingerprint, (is.0, (s.parents, (s.rank, (s.object, (s.expires, tt))))))) in
    rw (p.1, p.2) (still_refused c.in_err-name.field-0.0 f s (c.in_err-name.ensures.only f (and_parts _ _ fit).1 is.2))

pub returns-in_err-own-clause-only : goal.returns-in_err-own-clause-only
returns-in_err-own-clause-only c = λ s fit is.
    let p = err_from_is_err_and c.from_residual-in_err-own.result c.from_residual-in_err-own.ensures.1 in
    let f : Fields = (s.name, (s.fingerprint, (is.0, (s.parents, (s.rank, (s.object, (s.expires, tt))))))) in
    let e = some_is f _ (c.in_ok-name.ensures.only f (and_parts _ _ fit).1 is.2) in
    rw (p.1, p.2) (still_refused c.in_err-own.field-0.0 s.own s (c.in_err-own.ensures.only s.own (and_parts _ _ fit).0 (subst (λ t. IsOwnText t s.own) (ap (λ (g : Fields). g.1.1.0) e ∙ sym c.as_slice.ensures) is.1)))

pub returns-clause-found : goal.returns-clause-found
returns-clause-found c =
    let n = c.in_ok-name in
    let g : Fields = (n.name, (n.fingerprint, (n.definition, (n.parents, (n.rank, (n.object, (n.expires, tt))))))) in
    let same : to_z w64 (of_z w64 n.expires) ≡ n.expires = grind (arith, to_z-of_z) in (
      n.definition,
      subst (λ t. IsOwnText t c.in_ok-own.own) c.as_slice.ensures c.in_ok-own.ensures.found,
      c.in_ok-name.ensures.found ∙ ap (λ (z : ℤ). snapshot_text n.definition (record (built g c.in_ok-own.own) { expires = z })) (sym same),
    )

pub returns-clause-only : goal.returns-clause-only
returns-clause-only c = λ s fit is.
    let f : Fields = (s.name, (s.fingerprint, (is.0, (s.parents, (s.rank, (s.object, (s.expires, tt))))))) in
    let e = some_is f _ (c.in_ok-name.ensures.only f (and_parts _ _ fit).1 is.2) in
    let o = some_is s.own c.in_ok-own.own (c.in_ok-own.ensures.only s.own (and_parts _ _ fit).0 (subst (λ t. IsOwnText t s.own) (ap (λ (g : Fields). g.1.1.0) e ∙ sym c.as_slice.ensures) is.1)) in
    let n = c.in_ok-name in
    let g : Fields = (n.name, (n.fingerprint, (n.definition, (n.parents, (n.rank, (n.object, (n.expires, tt))))))) in
    let h = ap (λ (k : Fields). Some (built k s.own)) e ∙ ap (λ m. Some (built g m)) o in
    grind (arith, to_z-of_z)
