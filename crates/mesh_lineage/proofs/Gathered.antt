-- The columns of a SELECT, part by part.
use Rattle.std.proofs.Common.{◌≡◌, List, ◌++◌, map, append_assoc, sym, ap, ◌∙◌}
use Rattle.std.specs.List.{flat_map}
use Rattle.std.specs.Option.{option_to_list}
use Rattle.std.proofs.lemmas.Grind.{flat_map-append}
use Rattle.std.proofs.lemmas.List.Folds.{flat_map-map}
use Rattle.mesh_base.specs.declared.expressions.Expr.{Expr}
use Rattle.mesh_base.specs.declared.queries.FromItem.{FromItem}
use Rattle.mesh_base.specs.declared.queries.Item.{Item}
use Rattle.mesh_base.specs.declared.queries.Select.{Select}
use Rattle.mesh_spec_query.specs.Named.{Place, columns}
use Rattle.mesh_law_query.specs.Reads.{expressions, on_of}

abbrev of : List Expr → List Place
of es = flat_map columns es

abbrev exprs : List Item → List Expr
exprs items = map (λ (i : Item). i.expr) items

five : (old : List Place) (a b c d e : List Expr) → ((((old ++ of a) ++ of b) ++ of c) ++ of d) ++ of e ≡ old ++ of (a ++ (b ++ (c ++ (d ++ e))))
five old a b c d e =
    append_assoc (((old ++ of a) ++ of b) ++ of c) (of d) (of e)
    ∙ append_assoc ((old ++ of a) ++ of b) (of c) (of d ++ of e)
    ∙ append_assoc (old ++ of a) (of b) (of c ++ (of d ++ of e))
    ∙ append_assoc old (of a) (of b ++ (of c ++ (of d ++ of e)))
    ∙ ap (λ l. old ++ (of a ++ (of b ++ (of c ++ l)))) (sym (flat_map-append columns d e))
    ∙ ap (λ l. old ++ (of a ++ (of b ++ l))) (sym (flat_map-append columns c (d ++ e)))
    ∙ ap (λ l. old ++ (of a ++ l)) (sym (flat_map-append columns b (c ++ (d ++ e))))
    ∙ ap (λ l. old ++ l) (sym (flat_map-append columns a (b ++ (c ++ (d ++ e)))))

pub gathered : (s : Select) (items : List Item) (from : List FromItem) (keys : List Expr) (old p1 p2 p3 p4 p5 : List Place)
    → items ≡ s.items → from ≡ s.from → keys ≡ s.keys
    → p1 ≡ old ++ of (exprs items) → p2 ≡ p1 ++ of (on_of from) → p3 ≡ p2 ++ of (option_to_list s.filter)
    → p4 ≡ p3 ++ flat_map (λ x. x) (map columns keys) → p5 ≡ p4 ++ of (option_to_list s.having) → p5 ≡ old ++ of (expressions s)
gathered s items from keys old p1 p2 p3 p4 p5 is_items is_from is_keys e1 e2 e3 e4 e5 =
    e5
    ∙ ap (λ l. l ++ of (option_to_list s.having)) (e4
    ∙ ap (λ l. l ++ flat_map (λ x. x) (map columns keys)) (e3
    ∙ ap (λ l. l ++ of (option_to_list s.filter)) (e2
    ∙ ap (λ l. l ++ of (on_of from)) e1))
    ∙ ap (λ l. (((old ++ of (exprs items)) ++ of (on_of from)) ++ of (option_to_list s.filter)) ++ l) (flat_map-map (λ x. x) columns keys))
    ∙ five old (exprs items) (on_of from) (option_to_list s.filter) keys (option_to_list s.having)
    ∙ (λ i. old ++ of (exprs (is_items i) ++ (on_of (is_from i) ++ (option_to_list s.filter ++ (is_keys i ++ option_to_list s.having)))))
