use Rattle.std.proofs.Common.{◌≡◌, ℕ, ◌+◌, ◌<◌, Bool, true, false, cond, List, [], ◌∷◌, ◌++◌, length, take, get_or, not, sym, ap, ◌∙◌}
use Rattle.std.specs.Prelude.{filter}
use Rattle.std.proofs.lemmas.List.{append-nil}
use Rattle.std.proofs.lemmas.List.Elements.{filter_more}
use Rattle.mesh_project.specs.order.Peeled.{is_ready}
use Rattle.mesh_project.proofs.order.peel.sorted_out.Goals.{then-is_ready+in_ok-push, else-is_ready+in_ok-push-2}
use Rattle.mesh_project.proofs.order.peel.sorted_out.Goals as goal

module _ (p : ℕ → Bool) (made more ns : List ℕ) (i : ℕ) (lt : i < length ns) (so_far : made ≡ filter p (take i ns)) where
  one_kept : p (get_or ns i 0) ≡ true → more ≡ made ++ get_or ns i 0 ∷ [] → more ≡ filter p (take (i + 1) ns)
  one_kept so grown =
      grown ∙ ap (λ (l : List ℕ). l ++ get_or ns i 0 ∷ []) so_far ∙ ap (λ (b : Bool). filter p (take i ns) ++ cond b (get_or ns i 0 ∷ []) []) (sym so) ∙ sym (filter_more p ns i 0 lt)

  one_left : p (get_or ns i 0) ≡ false → more ≡ made → more ≡ filter p (take (i + 1) ns)
  one_left e same =
      same ∙ so_far ∙ sym (append-nil (filter p (take i ns))) ∙ ap (λ (b : Bool). filter p (take i ns) ++ cond b (get_or ns i 0 ∷ []) []) (sym e) ∙ sym (filter_more p ns i 0 lt)

pub loop-at-preserved : goal.loop-at-preserved
loop-at-preserved c =
    let rest = c.args.rest.now in
    let i = c.loop-at.at-index in
    let lt = c.loop-at-test.true in
    let goes : ℕ → Bool = is_ready c.args.links.now c.args.ranks.now c.args.rank in
    let stays : ℕ → Bool = λ at. not (goes at) in
    elim c.if-is_ready.branch [
      | then-is_ready+in_ok-push w ↦ (let so = sym c.is_ready.ensures ∙ w.if-is_ready.true in record {
        ready = one_kept goes c.loop-at.ready c.if-is_ready.ready rest i lt c.loop-at.invariant.ready so (w.ready-is ∙ w.in_ok-push.ensures.ok);
        later = one_left stays c.loop-at.later c.if-is_ready.later rest i lt c.loop-at.invariant.later (ap not so) w.later-is;
      })
      | else-is_ready+in_ok-push-2 w ↦ (let e = sym c.is_ready.ensures ∙ w.if-is_ready.false in record {
        ready = one_left goes c.loop-at.ready c.if-is_ready.ready rest i lt c.loop-at.invariant.ready e w.ready-is;
        later = one_kept stays c.loop-at.later c.if-is_ready.later rest i lt c.loop-at.invariant.later (ap not e) (w.later-is ∙ w.in_ok-push-2.ensures.ok);
      })
    ]
