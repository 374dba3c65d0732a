use Rattle.std.proofs.Common.{map, ap, sym, ◌∙◌}
use Rattle.mesh_resolve_scope.specs.Lone.{only, alone, untested, unqualified, lone_name, and_name, not_name, sum_name}
use Rattle.mesh_resolve_scope.proofs.NameLayers.{or_part, and_part, not_is_none, plain_part, pred_part, cat_part, sum_part, product_part, minus_is_none, unsigned_part, post_part, column_part, group_part, only_one, not_one, alone_empty, alone_more, no_name}
use Rattle.mesh_resolve_scope.proofs.lone.+lone.Goals as goal

pub or_name-returns-then-parts-eq1 : goal.or_name-returns-then-parts-eq1
or_name-returns-then-parts-eq1 t c =
    c.and_name.ensures ∙ sym (or_part c.args.e.now ∙ ap (λ l. only (map and_name l)) (sym c.as_slice-parts.ensures)
    ∙ only_one and_name c.as_slice-parts.result.now c.index-parts-0.result c.if-parts-eq1.true c.index-parts-0.is)

pub or_name-returns-else-parts-eq1 : goal.or_name-returns-else-parts-eq1
or_name-returns-else-parts-eq1 t c =
    sym (or_part c.args.e.now ∙ ap (λ l. only (map and_name l)) (sym c.as_slice-parts.ensures) ∙ not_one and_name c.as_slice-parts.result.now c.if-parts-eq1.false)

pub and_name-returns-then-parts-eq1 : goal.and_name-returns-then-parts-eq1
and_name-returns-then-parts-eq1 t c =
    c.not_name.ensures ∙ sym (and_part c.args.e.now ∙ ap (λ l. only (map not_name l)) (sym c.as_slice-parts.ensures)
    ∙ only_one not_name c.as_slice-parts.result.now c.index-parts-0.result c.if-parts-eq1.true c.index-parts-0.is)

pub and_name-returns-else-parts-eq1 : goal.and_name-returns-else-parts-eq1
and_name-returns-else-parts-eq1 t c =
    sym (and_part c.args.e.now ∙ ap (λ l. only (map not_name l)) (sym c.as_slice-parts.ensures) ∙ not_one not_name c.as_slice-parts.result.now c.if-parts-eq1.false)

pub cat_name-returns-then-parts-eq1 : goal.cat_name-returns-then-parts-eq1
cat_name-returns-then-parts-eq1 t c =
    c.sum_name.ensures ∙ sym (cat_part c.args.e.now ∙ ap (λ l. only (map sum_name l)) (sym c.as_slice-parts.ensures)
    ∙ only_one sum_name c.as_slice-parts.result.now c.index-parts-0.result c.if-parts-eq1.true c.index-parts-0.is)

pub cat_name-returns-else-parts-eq1 : goal.cat_name-returns-else-parts-eq1
cat_name-returns-else-parts-eq1 t c =
    sym (cat_part c.args.e.now ∙ ap (λ l. only (map sum_name l)) (sym c.as_slice-parts.ensures) ∙ not_one sum_name c.as_slice-parts.result.now c.if-parts-eq1.false)

pub value_name-returns-in_default : goal.value_name-returns-in_default
value_name-returns-in_default t c = sym (no_name c.args.value.now c.in_default.not-Column c.in_default.not-Group)

pub sum_name-returns-in-empty : goal.sum_name-returns-in-empty
sum_name-returns-in-empty t c =
    c.product_name.ensures ∙ sym (sum_part c.args.e.now ∙ ap (alone _) (sym c.as_slice.ensures) ∙ alone_empty _ c.as_slice.result.now c.in-empty.len_below)

pub sum_name-returns-in_default : goal.sum_name-returns-in_default
sum_name-returns-in_default t c =
    sym (sum_part c.args.e.now ∙ ap (alone _) (sym c.as_slice.ensures) ∙ alone_more _ c.as_slice.result.now c.in_default.len_at_least)

pub product_name-returns-in-empty : goal.product_name-returns-in-empty
product_name-returns-in-empty t c =
    c.unary_name.ensures ∙ sym (product_part c.args.e.now ∙ ap (alone _) (sym c.as_slice.ensures) ∙ alone_empty _ c.as_slice.result.now c.in-empty.len_below)

pub product_name-returns-in_default : goal.product_name-returns-in_default
product_name-returns-in_default t c =
    sym (product_part c.args.e.now ∙ ap (alone _) (sym c.as_slice.ensures) ∙ alone_more _ c.as_slice.result.now c.in_default.len_at_least)

pub not_name-returns-in-Not : goal.not_name-returns-in-Not
not_name-returns-in-Not t c = rw c.in-Not.is (sym (not_is_none c.in-Not.at c.in-Not.inner))

pub not_name-returns-then-is_untested : goal.not_name-returns-then-is_untested
not_name-returns-then-is_untested t c =
    rw c.in-Plain.is (c.cat_name.ensures ∙ sym (plain_part c.in-Plain.at c.in-Plain.pred ∙ pred_part c.in-Plain.pred
    ∙ ap (untested _) (sym c.is_untested.ensures ∙ c.if-is_untested.true)))

pub not_name-returns-else-is_untested : goal.not_name-returns-else-is_untested
not_name-returns-else-is_untested t c =
    rw c.in-Plain.is (sym (plain_part c.in-Plain.at c.in-Plain.pred ∙ pred_part c.in-Plain.pred
    ∙ ap (untested _) (sym c.is_untested.ensures ∙ c.if-is_untested.false)))

pub unary_name-returns-in-Minus : goal.unary_name-returns-in-Minus
unary_name-returns-in-Minus t c = rw c.in-Minus.is (sym (minus_is_none c.in-Minus.at c.in-Minus.inner))

pub unary_name-returns-in-empty : goal.unary_name-returns-in-empty
unary_name-returns-in-empty t c =
    rw c.in-Plain.is (c.value_name.ensures ∙ sym (unsigned_part c.in-Plain.at c.in-Plain.post ∙ post_part c.in-Plain.post
    ∙ ap (alone _) (sym c.as_slice.ensures) ∙ alone_empty _ c.as_slice.result.now c.in-empty.len_below))

pub unary_name-returns-in_default : goal.unary_name-returns-in_default
unary_name-returns-in_default t c =
    rw c.in-Plain.is (sym (unsigned_part c.in-Plain.at c.in-Plain.post ∙ post_part c.in-Plain.post
    ∙ ap (alone _) (sym c.as_slice.ensures) ∙ alone_more _ c.as_slice.result.now c.in_default.len_at_least))

pub value_name-returns-in-None : goal.value_name-returns-in-None
value_name-returns-in-None t c =
    rw c.in-Column.is (sym (column_part c.in-Column.at c.in-Column.item c.in-Column.name ∙ ap (λ of. unqualified of c.in-Column.name) c.in-None.is))

pub value_name-returns-in-Some : goal.value_name-returns-in-Some
value_name-returns-in-Some t c =
    rw c.in-Column.is (sym (column_part c.in-Column.at c.in-Column.item c.in-Column.name ∙ ap (λ of. unqualified of c.in-Column.name) c.in-Some.is))

pub value_name-returns-in-Group : goal.value_name-returns-in-Group
value_name-returns-in-Group t c =
    rw c.in-Group.is (c.or_name.ensures ∙ ap lone_name c.get.ensures ∙ sym (group_part c.in-Group.at c.in-Group.inner))
