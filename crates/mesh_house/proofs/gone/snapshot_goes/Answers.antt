use Rattle.std.proofs.Common.{◌≡◌, true, [], ℕ, List, sym, ◌∙◌, ap}
use Rattle.std.proofs.lemmas.Result.{on_ok_weaker}
use Rattle.mesh_list.specs.Keyed.{placed, ascends}
use Rattle.mesh_base_values.specs.declared.values.Name.{Name}
use Rattle.mesh_base.specs.declared.snapshots.Ref.{Ref}
use Rattle.mesh_base.specs.Keys.{ref_cmp, snapshot_ref}
use Rattle.mesh_house_book.specs.declared.book.Book.{Book}
use Rattle.mesh_house_book.specs.Changes.{delete_snapshot}
use Rattle.mesh_house.specs.Outside.{itself}
use Rattle.mesh_house.specs.Gone.{thinned}
use Rattle.mesh_house.proofs.Settled.{snapshot_waits, snapshot_goes}
use Rattle.mesh_house.proofs.gone.snapshot_goes.Goals as goal

abbrev ref_of : Name → List ℕ → Ref
ref_of name fingerprint = record { name = name; fingerprint = fingerprint }

pub returns-then-may_wait-clause-ok : goal.returns-then-may_wait-clause-ok
returns-then-may_wait-clause-ok c =
    let b = c.args.book.now in
    let g = c.args.gone.now in
    let k = ref_of c.args.name.now c.args.fingerprint.now in
    let up : ascends ref_cmp snapshot_ref b.snapshots ≡ true = ap (ascends ref_cmp snapshot_ref) (sym c.as_slice-snapshots.ensures) ∙ c.may_wait.ensures.yes c.if-may_wait.true in
    on_ok_weaker c.place.result
    (λ d. snapshot_waits b g k c.place.new.self (d ∙ ap (λ (n : Name). placed ref_cmp itself (ref_of n c.args.fingerprint.now) g.snapshots) c.in_ok-copy.ensures) up)
    c.place.ensures.ok

pub returns-clause-ok : goal.returns-clause-ok
returns-clause-ok c =
    let b = c.args.book.now in
    let g = c.args.gone.now in
    let k = ref_of c.args.name.now c.args.fingerprint.now in
    let none : g.snapshots ≡ [] = sym c.as_slice.ensures.items ∙ c.may_wait.ensures.no c.if-may_wait.false in
    ap (λ (made : Book). thinned made g) (c.delete_snapshot.ensures ∙ ap (λ (n : Name). delete_snapshot b (ref_of n c.args.fingerprint.now)) c.in_ok-copy.ensures)
    ∙ snapshot_goes b g k none
