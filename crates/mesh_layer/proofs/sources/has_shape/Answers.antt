use Rattle.std.proofs.Common.{◌≡◌, ℕ, ◌+◌, ◌<◌, Bool, true, List, length, take, get_or, sym, ◌∙◌, ap}
use Rattle.std.specs.Prelude.{◌&&◌}
use Rattle.std.specs.List.{find, list_all}
use Rattle.std.proofs.lemmas.List.Folds.{list_all_kept, list_all_more}
use Rattle.mesh_base_values.specs.Picked.{same_text}
use Rattle.mesh_base_values.specs.declared.values.Column.{Column}
use Rattle.mesh_spec_model.specs.Sources.{is_of_type}
use Rattle.mesh_layer.proofs.sources.has_shape.Goals.{then-each, else-each}
use Rattle.mesh_layer.proofs.sources.has_shape.Goals as goal

one_more : (p : Column → Bool) (xs : List Column) (i : ℕ) (x : Column) (a : Bool) → i < length xs → x ≡ get_or xs i x → list_all p (take i xs) ≡ true → a ≡ p x → a ≡ list_all p (take (i + 1) xs)
one_more p xs i x a lt here all is = is ∙ ap p here ∙ sym (list_all_more p xs i x lt ∙ ap (λ b. b && p (get_or xs i x)) all)

pub loop-column-preserved : goal.loop-column-preserved
loop-column-preserved c =
    let test : Column → Bool = λ d. is_of_type d.kind (find (λ (x : Column). same_text x.name d.name) c.args.columns.now) in
    elim c.if-each.branch [
      | then-each w ↦
          w.each-is ∙ one_more test c.args.declared.now c.loop-column.column-index c.column-item.result w.is_of_type-each.result c.loop-column-test.true c.column-item.is (sym c.loop-column.invariant ∙ w.if-each.true) w.is_of_type-each.ensures
      | else-each w ↦ w.each-is ∙ w.if-each.false ∙ sym (list_all_kept test c.args.declared.now c.loop-column.column-index (sym c.loop-column.invariant ∙ w.if-each.false))
    ]
