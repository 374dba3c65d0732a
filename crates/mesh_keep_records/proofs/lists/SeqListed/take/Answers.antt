use Rattle.std.proofs.Common.{◌≡◌, ◌<◌, length, get_or, Some, sym, ap, subst, ◌∙◌, arith}
use Rattle.std.proofs.lemmas.Result.{err_from_is_err_and}
use Rattle.std.proofs.lemmas.List.{length-map, take_all}
use Rattle.mesh_canon_reading.proofs.Exact.{some_is}
use Rattle.mesh_keep_records.proofs.Each.{each_at, only_more, read_more}
use Rattle.mesh_keep_records.proofs.Refused.{still_refused}
use Rattle.mesh_keep_records.proofs.lists.SeqListed.take.Goals as goal

pub returns-in_err-value-clause-only : goal.returns-in_err-value-clause-only
returns-in_err-value-clause-only g c = λ xs fit is.
    let p = err_from_is_err_and c.from_residual.result c.from_residual.ensures.1 in
    let i = c.loop-text.text-index in
    let t = c.text-item.result in
    let r = each_at g.T.Part.text g.T.Part.fits xs i t fit (subst (λ ts. i < length ts) is (omega arith)) (subst (λ ts. t ≡ get_or ts i t) is c.text-item.is) in
    rw (p.1, p.2) (still_refused c.in_err-value.field-0.0 r.0 xs (c.in_err-value.ensures.only r.0 r.1 (c.as_slice.ensures ∙ r.2)))

pub loop-text-preserved : goal.loop-text-preserved
loop-text-preserved g c =
    let i = c.loop-text.text-index in
    let t = c.text-item.result in
    let value = c.in_ok-value.value in
    let before = c.loop-text.invariant in
    rw c.in_ok-push.ensures.ok (record {
      read = read_more g.T.Part.text c.loop-text.made value c.args.texts.now i t (omega arith) c.text-item.is before.read (sym c.as_slice.ensures ∙ c.in_ok-value.ensures.found);
      only = λ xs fit is.
          let r = each_at g.T.Part.text g.T.Part.fits xs i t fit (subst (λ ts. i < length ts) is (omega arith)) (subst (λ ts. t ≡ get_or ts i t) is c.text-item.is) in
          only_more c.loop-text.made value r.0 xs i (before.only xs fit is) (some_is r.0 value (c.in_ok-value.ensures.only r.0 r.1 (c.as_slice.ensures ∙ r.2))) r.3;
    })

pub returns-clause-found : goal.returns-clause-found
returns-clause-found g c = sym (take_all c.loop-text.text-index c.args.texts.now (omega arith)) ∙ c.loop-text.invariant.read

pub returns-clause-only : goal.returns-clause-only
returns-clause-only g c = λ xs fit is.
    let n = ap length is in
    let m = length-map xs g.T.Part.text in
    ap Some (sym (c.loop-text.invariant.only xs fit is ∙ take_all c.loop-text.text-index xs (omega (arith, n, m))))
