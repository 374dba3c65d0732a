-- Queries that were written are read again.
use Rattle.std.proofs.Common.{◌≡◌, ℕ, ◌-◌, ◌^◌, Bool, true, false, List, [], ◌∷◌, ◌++◌, Some, refl, append_assoc, arith}
use Rattle.std.specs.List.{list_all}
use Rattle.std.specs.Fmt.{decimal}
use Rattle.std.proofs.lemmas.Bool.{and_parts, ltb-true}
use Rattle.mesh_base.specs.declared.queries.Item.{Item}
use Rattle.mesh_base.specs.declared.queries.Rel.{Rel}
use Rattle.mesh_base.specs.declared.queries.Rel.TheVariants as rels
use Rattle.mesh_base.specs.declared.queries.Join.{Join}
use Rattle.mesh_base.specs.declared.queries.Join.TheVariants as joins
use Rattle.mesh_base.specs.declared.queries.FromItem.{FromItem}
use Rattle.mesh_base.specs.declared.queries.Select.{Select}
use Rattle.mesh_base.specs.declared.queries.Query.{Query}
use Rattle.mesh_canon_text.specs.Text.{cte_text, distinct_word, expr_text, from_text, grouped_word, item_text, join_word, list_of, option_text, rel_text, select_text, text_of, type_word}
use Rattle.mesh_canon_reading.specs.Fits.{cte_fits, expr_fits, from_fits, item_fits, option_fits, query_fits, rel_fits, select_fits, text_fits}
use Rattle.mesh_canon_words.specs.Words.{after, distinct_at, grouped_at, join_at, then_at}
use Rattle.mesh_canon_reading.specs.Reading.{any_expr_at, cte_at, filters_at, from_at, item_at, modes_at, named_at, place_at, query_at, rel_at, select_at, tables_at}
use Rattle.mesh_canon_reading.proofs.Numbers.{number_again, text_again}
use Rattle.mesh_canon_reading.proofs.Lists.{Member, each_of, list_again}
use Rattle.mesh_canon_reading.proofs.Values.{name_again, type_again}
use Rattle.mesh_canon_reading.proofs.Exprs.{expr_member, option_again}

item_again : (i : Item) (rest : List ℕ) → item_fits i ≡ true → item_at (item_text i ++ rest) ≡ Some (i, rest)
unfolding item_at item_text then_at after
item_again i rest fits =
    let p = and_parts (text_fits i.name) (expr_fits i.expr) fits in
    let e : (text_of i.name ++ (32 ∷ (type_word i.kind ++ (32 ∷ (expr_text i.expr ++ (41 ∷ [])))))) ++ rest ≡ text_of i.name ++ (32 ∷ (type_word i.kind ++ (32 ∷ (expr_text i.expr ++ (41 ∷ rest))))) = simp append_assoc in
    rw (e, text_again i.name (32 ∷ (type_word i.kind ++ (32 ∷ (expr_text i.expr ++ (41 ∷ rest))))) p.0, type_again i.kind (32 ∷ (expr_text i.expr ++ (41 ∷ rest))), (expr_member i.expr p.1).again (41 ∷ rest)) refl

item_member : (i : Item) → item_fits i ≡ true → Member item_at item_text i
unfolding item_text after
item_member i fits = record { opens = λ rest. refl; again = λ rest. item_again i rest fits }

rel_again : (r : Rel) (rest : List ℕ) → rel_fits r ≡ true → rel_at (rel_text r ++ rest) ≡ Some (r, rest)
unfolding rel_at rel_text named_at place_at after
rel_again (rels.Named name) rest fits =
    let e : (text_of name.schema ++ (32 ∷ (text_of name.model ++ (41 ∷ [])))) ++ rest ≡ text_of name.schema ++ (32 ∷ (text_of name.model ++ (41 ∷ rest))) = simp append_assoc in
    rw (e, name_again name (41 ∷ rest) fits) refl
rel_again (rels.Cte at) rest fits =
    rw (append_assoc (decimal at) (41 ∷ []) rest, number_again (2 ^ 32 - 1) at (41 ∷ rest) (omega (arith, ltb-true at (2 ^ 32) fits)) (omega (arith, ltb-true at (2 ^ 32) fits)) refl) refl

join_again : (join : Join) (rest : List ℕ) → join_at (join_word join ++ (32 ∷ rest)) ≡ Some (join, rest)
unfolding join_at after
join_again joins.First rest = refl
join_again joins.Inner rest = refl
join_again joins.Left rest = refl
join_again joins.Cross rest = refl

from_again : (f : FromItem) (rest : List ℕ) → from_fits f ≡ true → from_at (from_text f ++ rest) ≡ Some (f, rest)
unfolding from_at from_text then_at after
from_again f rest fits =
    let p = and_parts (rel_fits f.rel) (option_fits f.on) fits in
    let e : (join_word f.join ++ (32 ∷ (rel_text f.rel ++ (32 ∷ (option_text f.on ++ (41 ∷ [])))))) ++ rest ≡ join_word f.join ++ (32 ∷ (rel_text f.rel ++ (32 ∷ (option_text f.on ++ (41 ∷ rest))))) = simp append_assoc in
    rw (e, join_again f.join (rel_text f.rel ++ (32 ∷ (option_text f.on ++ (41 ∷ rest)))), rel_again f.rel (32 ∷ (option_text f.on ++ (41 ∷ rest))) p.0, option_again f.on (41 ∷ rest) p.1) refl

from_member : (f : FromItem) → from_fits f ≡ true → Member from_at from_text f
unfolding from_text after
from_member f fits = record { opens = λ rest. refl; again = λ rest. from_again f rest fits }

distinct_again : (b : Bool) (rest : List ℕ) → distinct_at (distinct_word b ++ (32 ∷ rest)) ≡ Some (b, rest)
unfolding distinct_at after
distinct_again true rest = refl
distinct_again false rest = refl

grouped_again : (b : Bool) (rest : List ℕ) → grouped_at (grouped_word b ++ (32 ∷ rest)) ≡ Some (b, rest)
unfolding grouped_at after
grouped_again true rest = refl
grouped_again false rest = refl

-- what a SELECT keeps, part by part
record SelectFits (s : Select) : Type 0 where
  items : list_all item_fits s.items ≡ true
  from : list_all from_fits s.from ≡ true
  filter : option_fits s.filter ≡ true
  keys : list_all expr_fits s.keys ≡ true
  having : option_fits s.having ≡ true

select_parts : (s : Select) → select_fits s ≡ true → SelectFits s
unfolding select_fits
select_parts s fits =
    let a = and_parts (list_all item_fits s.items) _ fits in
    let b = and_parts (list_all from_fits s.from) _ a.1 in
    let c = and_parts (option_fits s.filter) _ b.1 in
    let d = and_parts (list_all expr_fits s.keys) (option_fits s.having) c.1 in
    record { items = a.0; from = b.0; filter = c.0; keys = d.0; having = d.1 }

select_regrouped : (a b c d x y z rest : List ℕ) → (a ++ (32 ∷ (b ++ (32 ∷ (c ++ (32 ∷ (d ++ (32 ∷ (x ++ (32 ∷ (y ++ (32 ∷ (z ++ (41 ∷ [])))))))))))))) ++ rest ≡ a ++ (32 ∷ (b ++ (32 ∷ (c ++ (32 ∷ (d ++ (32 ∷ (x ++ (32 ∷ (y ++ (32 ∷ (z ++ (41 ∷ rest)))))))))))))
select_regrouped a b c d x y z rest = simp append_assoc

select_again : (s : Select) (rest : List ℕ) → select_fits s ≡ true → select_at (select_text s ++ rest) ≡ Some (s, rest)
unfolding select_at modes_at tables_at filters_at then_at select_text after
select_again s rest fits =
    let p = select_parts s fits in
    let z : List ℕ = option_text s.having ++ (41 ∷ rest) in
    let y : List ℕ = list_of expr_text s.keys ++ (32 ∷ z) in
    let x : List ℕ = option_text s.filter ++ (32 ∷ y) in
    let d : List ℕ = list_of from_text s.from ++ (32 ∷ x) in
    let c : List ℕ = list_of item_text s.items ++ (32 ∷ d) in
    let b : List ℕ = grouped_word s.grouped ++ (32 ∷ c) in
    rw (
      select_regrouped (distinct_word s.distinct) (grouped_word s.grouped) (list_of item_text s.items) (list_of from_text s.from) (option_text s.filter) (list_of expr_text s.keys) (option_text s.having) rest,
      distinct_again s.distinct b,
      grouped_again s.grouped c,
      list_again item_at item_text s.items (each_of item_at item_text item_fits item_member s.items p.items) (32 ∷ d),
      list_again from_at from_text s.from (each_of from_at from_text from_fits from_member s.from p.from) (32 ∷ x),
      option_again s.filter (32 ∷ y) p.filter,
      list_again any_expr_at expr_text s.keys (each_of any_expr_at expr_text expr_fits expr_member s.keys p.keys) (32 ∷ z),
      option_again s.having (41 ∷ rest) p.having,
    ) refl

select_member : (s : Select) → select_fits s ≡ true → Member select_at select_text s
unfolding select_text after
select_member s fits = record { opens = λ rest. refl; again = λ rest. select_again s rest fits }

cte_again : (c : List Select) (rest : List ℕ) → cte_fits c ≡ true → cte_at (cte_text c ++ rest) ≡ Some (c, rest)
unfolding cte_at cte_text after
cte_again c rest fits =
    rw (append_assoc (list_of select_text c) (41 ∷ []) rest, list_again select_at select_text c (each_of select_at select_text select_fits select_member c fits) (41 ∷ rest)) refl

cte_member : (c : List Select) → cte_fits c ≡ true → Member cte_at cte_text c
unfolding cte_text after
cte_member c fits = record { opens = λ rest. refl; again = λ rest. cte_again c rest fits }

pub query_again : (q : Query) (rest : List ℕ) → query_fits q ≡ true → query_at (list_of cte_text q.ctes ++ (32 ∷ (list_of select_text q.selects ++ (41 ∷ rest)))) ≡ Some (q, rest)
unfolding query_at then_at after
query_again q rest fits =
    let p = and_parts (list_all cte_fits q.ctes) (list_all select_fits q.selects) fits in
    rw (
      list_again cte_at cte_text q.ctes (each_of cte_at cte_text cte_fits cte_member q.ctes p.0) (32 ∷ (list_of select_text q.selects ++ (41 ∷ rest))),
      list_again select_at select_text q.selects (each_of select_at select_text select_fits select_member q.selects p.1) (41 ∷ rest),
    ) refl
