-- The rows of a resolved query fit its columns.
use Rattle.std.proofs.Common.{◌≡◌, true, ◌&&◌, not, Ok, List, [], ◌∷◌, ◌++◌, map, refl, ap, sym, subst, ◌∙◌}
use Rattle.std.specs.List.{All, AllByRecursion as Each, AllZip, fold, list_all, list_any}
use Rattle.std.proofs.lemmas.Bool.{and_parts, and_from}
use Rattle.std.proofs.lemmas.List.{map-append}
use Rattle.std.proofs.lemmas.List.Elements.{All-from_recursion, recursion_from_All}
use Rattle.std.proofs.lemmas.List.Folds.{list_all-append}
use Rattle.std.proofs.lemmas.List.Sums.{fold-append}
use Rattle.mesh_base_values.specs.declared.times.Bounds.{Bounds}
use Rattle.mesh_base_values.specs.declared.values.Cell.{Cell}
use Rattle.mesh_base_values.specs.declared.values.Column.{Column}
use Rattle.mesh_base_values.specs.Types.{have_same_types, same_type}
use Rattle.mesh_base.specs.declared.jobs.Input.{Input}
use Rattle.mesh_base.specs.declared.queries.Query.{Query}
use Rattle.mesh_base.specs.declared.queries.Select.{Select}
use Rattle.mesh_base.specs.Outputs.{item_columns, select_columns}
use Rattle.mesh_query_grammar.specs.declared.surface.queries.Surface.{Surface}
use Rattle.mesh_query_grammar.specs.declared.surface.queries.SurfaceCte.{SurfaceCte}
use Rattle.mesh_query_grammar.specs.declared.surface.queries.SurfaceSelect.{SurfaceSelect}
use Rattle.mesh_query_grammar.specs.declared.surface.queries.SurfaceUnion.{SurfaceUnion}
use Rattle.mesh_query_tokens.specs.Gives.{◌>>=◌}
use Rattle.mesh_query_tokens.specs.Walk.{along, provided}
use Rattle.mesh_model_csv.specs.seeds.Fits.{fits, is_of}
use Rattle.mesh_spec_query.specs.Sel.{Sel, cte_input, cte_inputs, select_rows, union_rows}
use Rattle.mesh_resolve_types.specs.Faults.{duplicate, mismatch}
use Rattle.mesh_resolve.specs.declared.known.Known.{Known}
use Rattle.mesh_resolve_selects.specs.declared.outputs.commons.Common.{Common}
use Rattle.mesh_resolve_selects.specs.outputs.Commons.{is_cte, selects_of}
use Rattle.mesh_resolve_selects.specs.outputs.Sides.{are_sides_alike, has_kinds_of, with_sides_alike}
use Rattle.mesh_resolve.specs.Queries.{cte, one_select, resolved, selects}
use Rattle.mesh_resolve.specs.Selects.{select}
use Rattle.mesh_law_reading.specs.Typed.{Suits}
use Rattle.mesh_law_reading.specs.Evaluated.{ctes_fit, query_operands_fit, select_operands_fit}
use Rattle.mesh_law_reading.proofs.Good.{Good, along_good}
use Rattle.mesh_law_reading.proofs.TypingCells.{same_kind}
use Rattle.mesh_law_reading.proofs.TypingForms.{held, passed, same_ok}
use Rattle.mesh_law_reading.proofs.TypingLists.{all_true, each_append, each_weaker, zip_push}
use Rattle.mesh_law_reading.proofs.TypingFrom.{CteFits, SuitsOne}
use Rattle.mesh_law_reading.proofs.TypingSelects.{resolved_select_fits}

-- rows that fit columns fit others of the same types
alike_fit : (xs ys : List Column) → have_same_types xs ys ≡ true → (row : List Cell) → fits ys row ≡ true → fits xs row ≡ true
alike_fit [] [] h row f = f
alike_fit [] (y ∷ ys) h row f = absurd (cc)
alike_fit (x ∷ xs) [] h row f = absurd (cc)
alike_fit (x ∷ xs) (y ∷ ys) h [] f = absurd (cc)
alike_fit (x ∷ xs) (y ∷ ys) h (c ∷ cs) f =
    let one = and_parts (same_type x.kind y.kind) (have_same_types xs ys) h in
    let two = and_parts (is_of y.kind c) (fits ys cs) f in
    and_from (is_of x.kind c) (fits xs cs) (ap (λ k. is_of k c) (same_kind x.kind y.kind one.0) ∙ two.0) (alike_fit xs ys one.1 cs two.1)

module _ (inputs : List Input) (known : Known) (u : Bounds)
    (named : Each (SuitsOne known) inputs) where
  module _ (ctes : List Input) (done : List Common) (before : AllZip CteFits done ctes) where
    abbrev OneFits : Select → Type 0
    OneFits q = Each (λ row. fits (item_columns q.items) row ≡ true) (select_rows inputs u ctes q) × (select_operands_fit inputs u ctes q ≡ true)

    one_more_fits : (so_far : List Select) (s : SurfaceSelect) → Each OneFits so_far → Unit {0} → Good (Each OneFits) (one_select known done so_far s)
    one_more_fits so_far s h _ next e =
        let (r, is, made) = passed (select known done s) (λ r. Ok (so_far ++ r ∷ [])) next e in
        subst (Each OneFits) (same_ok (so_far ++ r ∷ []) next made) (each_append OneFits so_far (r ∷ []) h (resolved_select_fits inputs ctes known done u named before s r is, tt))

    all_selects : (ss : List SurfaceSelect) → Each (λ (s : SurfaceSelect). Unit {0}) ss
    all_selects [] = tt
    all_selects (s ∷ ss) = (tt, all_selects ss)

    selects_fit : (b : SurfaceUnion) → Good (Each OneFits) (selects known done b)
    unfolding selects
    selects_fit b = along_good (Each OneFits) (λ (s : SurfaceSelect). Unit {0}) (one_select known done) one_more_fits [] tt b.selects (all_selects b.selects)

    sides_fit : (columns : List Column) (all : List Select) → list_all (has_kinds_of columns) all ≡ true → Each OneFits all
        → Each (λ row. fits columns row ≡ true) (union_rows inputs u ctes all)
    sides_fit columns [] a h = tt
    sides_fit columns (q ∷ qs) a h =
        let b = and_parts (has_kinds_of columns q) (list_all (has_kinds_of columns) qs) a in
        each_append (λ row. fits columns row ≡ true) (select_rows inputs u ctes q) (union_rows inputs u ctes qs)
        (each_weaker (λ row. fits (item_columns q.items) row ≡ true) (λ row. fits columns row ≡ true) (alike_fit columns (item_columns q.items) b.0)
        (select_rows inputs u ctes q) h.0.0)
        (sides_fit columns qs b.1 h.1)

    union_fits : (all : List Select) → are_sides_alike all ≡ true → Each OneFits all → Each (λ row. fits (select_columns all) row ≡ true) (union_rows inputs u ctes all)
    union_fits all a h = sides_fit (select_columns all) all a h

    operands_meet : (all : List Select) → Each OneFits all → list_all (select_operands_fit inputs u ctes) all ≡ true
    operands_meet all h = all_true OneFits (select_operands_fit inputs u ctes) (λ q p. p.1) all h

  abbrev next_input : List Input → List Select → List Input
  next_input so_far all = so_far ++ cte_input inputs u so_far all ∷ []

  -- one more CTE over those before it
  one_more_cte : (so_far : List Input) (ctes : List (List Select)) (body : List Select) → ctes_fit inputs u so_far ctes ≡ true
      → list_all (select_operands_fit inputs u (fold next_input so_far ctes)) body ≡ true
      → ctes_fit inputs u so_far (ctes ++ body ∷ []) ≡ true
  one_more_cte so_far [] body h b = and_from (list_all (select_operands_fit inputs u so_far) body) true b refl
  one_more_cte so_far (c ∷ cs) body h b =
      let p = and_parts (list_all (select_operands_fit inputs u so_far) c) (ctes_fit inputs u (next_input so_far c) cs) h in
      and_from (list_all (select_operands_fit inputs u so_far) c) (ctes_fit inputs u (next_input so_far c) (cs ++ body ∷ [])) p.0 (one_more_cte (next_input so_far c) cs body p.1 b)

  -- the CTEs so far, beside what is read of them
  abbrev CtesFit : List Common → Type 0
  CtesFit done =
      list_all are_sides_alike (map selects_of done) ≡ true → AllZip CteFits done (cte_inputs inputs u (map selects_of done)) × (ctes_fit inputs u [] (map selects_of done) ≡ true)

  one_cte_fits : (done : List Common) (c : SurfaceCte) → CtesFit done → Unit {0} → Good CtesFit (cte known done c)
  one_cte_fits done c h _ next e =
      let (body, is, rest) = passed (selects known done c.body)
      (λ body. provided (not (list_any (is_cte c.name) done)) (done ++ (record { name = c.name; selects = body }) ∷ []) (duplicate c.at c.name)) next e in
      let made = held (not (list_any (is_cte c.name) done)) (done ++ (record { name = c.name; selects = body }) ∷ []) next (duplicate c.at c.name) rest in
      subst CtesFit made.1 (go body is)
    where
      go : (body : List Select) → selects known done c.body ≡ Ok body → CtesFit (done ++ (record { name = c.name; selects = body }) ∷ [])
      go body is a =
          let new : Common = record { name = c.name; selects = body } in
          let split = and_parts (list_all are_sides_alike (map selects_of done)) (list_all are_sides_alike (body ∷ []))
          (sym (list_all-append are_sides_alike (map selects_of done) (body ∷ [])) ∙ ap (list_all are_sides_alike) (sym (map-append selects_of done (new ∷ []))) ∙ a) in
          let before = h split.0 in
          let so_far : List Input = cte_inputs inputs u (map selects_of done) in
          let made = selects_fit so_far done before.0 c.body body is in (
            subst (λ l. AllZip CteFits (done ++ new ∷ []) l)
                (sym (fold-append next_input [] (map selects_of done) (body ∷ [])) ∙ ap (fold next_input []) (sym (map-append selects_of done (new ∷ []))))
                (zip_push CteFits done so_far new (cte_input inputs u so_far body) before.0
                (refl, union_fits so_far done before.0 body (and_parts (are_sides_alike body) true split.1).0 made)),
            ap (ctes_fit inputs u []) (map-append selects_of done (new ∷ []))
                ∙ one_more_cte [] (map selects_of done) body before.1 (operands_meet so_far done before.0 body made),
          )

  all_ctes : (cs : List SurfaceCte) → Each (λ (c : SurfaceCte). Unit {0}) cs
  all_ctes [] = tt
  all_ctes (c ∷ cs) = (tt, all_ctes cs)

  ctes_fits : (cs : List SurfaceCte) → Good CtesFit (along (cte known) [] cs)
  ctes_fits cs = along_good CtesFit (λ (c : SurfaceCte). Unit {0}) (cte known) one_cte_fits [] (λ a. (tt, refl)) cs (all_ctes cs)

  abbrev QueryFits : Query → Type 0
  QueryFits query = Each (λ row. fits (select_columns query.selects) row ≡ true) (Sel query inputs u) × (query_operands_fit query inputs u ≡ true)

  query_fits : (q : Surface) (query : Query) → resolved known q ≡ Ok query → QueryFits query
  unfolding resolved
  query_fits q query e =
      let (ctes, first, rest) = passed (along (cte known) [] q.ctes) (λ ctes. selects known ctes q.body >>= λ body. with_sides_alike (map selects_of ctes) body) query e in
      let (body, second, last) = passed (selects known ctes q.body) (λ body. with_sides_alike (map selects_of ctes) body) query rest in
      let made = held (list_all are_sides_alike (map selects_of ctes) && are_sides_alike body) (record { ctes = map selects_of ctes; selects = body }) query (mismatch 0) last in
      subst QueryFits made.1 (whole ctes body (ctes_fits q.ctes ctes first) second (and_parts (list_all are_sides_alike (map selects_of ctes)) (are_sides_alike body) made.0))
    where
      whole : (ctes : List Common) (body : List Select) → CtesFit ctes → selects known ctes q.body ≡ Ok body
          → (list_all are_sides_alike (map selects_of ctes) ≡ true) × (are_sides_alike body ≡ true)
          → QueryFits (record { ctes = map selects_of ctes; selects = body })
      whole ctes body fit is alike =
          let before = fit alike.0 in
          let read : List Input = cte_inputs inputs u (map selects_of ctes) in
          let all = selects_fit read ctes before.0 q.body body is in (
            union_fits read ctes before.0 body alike.1 all,
            and_from (ctes_fit inputs u [] (map selects_of ctes)) (list_all (select_operands_fit inputs u read) body) before.1 (operands_meet read ctes before.0 body all),
          )

-- the rows of a resolved query fit its columns
pub rows_fit : (known : Known) (q : Surface) (query : Query) (inputs : List Input) (u : Bounds) → resolved known q ≡ Ok query → Suits known inputs
    → All (λ row. fits (select_columns query.selects) row ≡ true) (Sel query inputs u)
rows_fit known q query inputs u e h =
    All-from_recursion (λ row. fits (select_columns query.selects) row ≡ true) (Sel query inputs u)
    (query_fits inputs known u (recursion_from_All (SuitsOne known) inputs h) q query e).0

-- and its expressions have operands of the types that they take
pub operands_are_met : (known : Known) (q : Surface) (query : Query) (inputs : List Input) (u : Bounds) → resolved known q ≡ Ok query → Suits known inputs
    → query_operands_fit query inputs u ≡ true
operands_are_met known q query inputs u e h = (query_fits inputs known u (recursion_from_All (SuitsOne known) inputs h) q query e).1
