-- The rows of a resolved SELECT fit the columns of its items.
use Rattle.std.proofs.Common.{◌≡◌, ℕ, Bool, true, Option, None, Result, Ok, List, [], ◌∷◌, map, slice_index_or, refl, ap, sym, subst, ◌∙◌}
use Rattle.std.specs.Option.{ForSome}
use Rattle.std.specs.List.{AllByRecursion as Each, AllZip}
use Rattle.mesh_base_values.specs.declared.times.Bounds.{Bounds}
use Rattle.mesh_base_values.specs.declared.values.Column.{Column}
use Rattle.mesh_base.specs.declared.expressions.Expr.{Expr}
use Rattle.mesh_base.specs.declared.jobs.Input.{Input}
use Rattle.mesh_base.specs.declared.queries.FromItem.{FromItem}
use Rattle.mesh_base.specs.declared.queries.Select.{Select}
use Rattle.mesh_base.specs.Outputs.{item_columns}
use Rattle.mesh_query_grammar.specs.declared.surface.queries.SurfaceSelect.{SurfaceSelect}
use Rattle.mesh_query_tokens.specs.Gives.{◌>>=◌}
use Rattle.mesh_query_tokens.specs.Walk.{along}
use Rattle.mesh_query_tokens.specs.declared.faults.ReadFault.{ReadFault}
use Rattle.mesh_model_csv.specs.seeds.Fits.{fits}
use Rattle.mesh_spec_query.specs.Sel.{select_rows}
use Rattle.mesh_resolve_types.specs.declared.typed.Typed.{Typed}
use Rattle.mesh_resolve_types.specs.Forms.{expr_of}
use Rattle.mesh_resolve_selects.specs.declared.selects.parts.Drawn.{Drawn}
use Rattle.mesh_resolve.specs.declared.drawn.Drawing.{Drawing}
use Rattle.mesh_resolve_selects.specs.declared.outputs.keys.Key.{Key}
use Rattle.mesh_resolve.specs.declared.known.Known.{Known}
use Rattle.mesh_resolve_selects.specs.declared.outputs.commons.Common.{Common}
use Rattle.mesh_resolve_selects.specs.declared.outputs.outputs.Output.{Output}
use Rattle.mesh_resolve_selects.specs.declared.selects.parts.Walked.{Walked}
use Rattle.mesh_resolve_selects.specs.selects.Apart.{Taken, items_apart, new_output, no_names, outputs_apart}
use Rattle.mesh_resolve_selects.specs.outputs.Keys.{key_exprs, keys}
use Rattle.mesh_resolve_selects.specs.outputs.Outputs.{items}
use Rattle.mesh_resolve.specs.Relations.{drawn_from}
use Rattle.mesh_resolve_selects.specs.selects.Standing.{is_grouped, keeps_groups, stands}
use Rattle.mesh_resolve.specs.Selects.{from_item, resolved_as, right_keys, select, some_condition, walked}
use Rattle.mesh_law_reading.specs.Evaluated.{select_operands_fit}
use Rattle.mesh_law_reading.proofs.Good.{Good}
use Rattle.mesh_law_reading.proofs.TypingForms.{passed, same_ok}
use Rattle.mesh_law_reading.proofs.TypingRows.{TableFits, select_fits, select_meets, table_of}
use Rattle.mesh_law_reading.proofs.TypingFrom.{CteFits, DrawingFits, Stands, SuitsOne, columns_seen, drawn_fits, sight_fits, table_drawn}
use Rattle.mesh_law_reading.proofs.TypingItems.{OnceFit, items_fit, resolved_items_fit, resolved_items_meet}
use Rattle.mesh_law_reading.proofs.TypingKeys.{for_changed, keys_meet, some_condition_meets}
use Rattle.mesh_law_reading.proofs.TypingLists.{each_map}
use Rattle.mesh_law_reading.proofs.TypingMeets.{Meets}

-- the steps of a SELECT behind its items
abbrev whole : Drawing → Option Typed → List Output → List Key → Option Typed → Result Walked ReadFault
whole f filter outputs keys having = Ok (record { from = f.drawn; filter = filter; outputs = outputs; keys = keys; having = having })

abbrev behind_keys : SurfaceSelect → Drawing → Option Typed → List Output → List Key → Result Walked ReadFault
behind_keys s f filter outputs keys = some_condition f.sight s.having >>= whole f filter outputs keys

abbrev behind_items : SurfaceSelect → Drawing → Option Typed → List Output → Result Walked ReadFault
behind_items s f filter outputs = keys f.sight outputs s.keys >>= behind_keys s f filter outputs

abbrev behind_filter : SurfaceSelect → Drawing → Option Typed → Result Walked ReadFault
behind_filter s f filter = items f.sight s.items >>= behind_items s f filter

abbrev behind_from : SurfaceSelect → Drawing → Result Walked ReadFault
behind_from s f = some_condition f.sight s.filter >>= behind_filter s f

same_tables : (inputs ctes : List Input) (drawn : List Drawn) → map (table_of inputs ctes) (map from_item drawn) ≡ map (table_drawn inputs ctes) drawn
same_tables inputs ctes [] = refl
same_tables inputs ctes (d ∷ ds) = ap (λ l. table_drawn inputs ctes d ∷ l) (same_tables inputs ctes ds)

-- outputs that stand apart
apart_before : (grouped : Bool) (keys : List Expr) (w : Walked) → stands grouped keys w ≡ Ok tt → (after : Taken) × (along new_output no_names w.outputs ≡ Ok after)
apart_before grouped keys w e =
    let (a, _, rest) = passed (keeps_groups grouped keys w) (λ rightly. outputs_apart w.outputs >>= λ outputs. items_apart w.from) tt e in
    let (b, is, _) = passed (outputs_apart w.outputs) (λ outputs. items_apart w.from) tt rest in
    let (after, found, _) = passed (along new_output no_names w.outputs) (λ taken. Ok tt) b is in
    (after, found)

module _ (inputs ctes : List Input) (known : Known) (done : List Common) (u : Bounds)
    (named : Each (SuitsOne known) inputs)
    (before : AllZip CteFits done ctes) where
  -- the rows of a SELECT fit its own columns, and its expressions have operands of the types that they take
  abbrev pub SelectFits : Select → Type 0
  SelectFits q = Each (λ row. fits (item_columns q.items) row ≡ true) (select_rows inputs u ctes q) × (select_operands_fit inputs u ctes q ≡ true)

  abbrev WalkedFits : Walked → Type 0
  WalkedFits w = (distinct grouped : Bool) → ((after : Taken) × (along new_output no_names w.outputs ≡ Ok after)) → SelectFits (resolved_as distinct grouped (key_exprs w.keys) w)

  drawing_fits : (s : SurfaceSelect) (f : Drawing) → DrawingFits inputs ctes known done named before f → (outputs : List Output) → OnceFit (map columns_seen f.sight.from) outputs
      → (filter : Option Typed) → some_condition f.sight s.filter ≡ Ok filter → (written : List Key) → keys f.sight outputs s.keys ≡ Ok written → (having : Option Typed)
      → some_condition f.sight s.having ≡ Ok having
      → WalkedFits (record { from = f.drawn; filter = filter; outputs = outputs; keys = written; having = having })
  drawing_fits s f h outputs once filter filtered written keyed having had distinct grouped (after, e) =
      let w : Walked = record { from = f.drawn; filter = filter; outputs = outputs; keys = written; having = having } in
      let seen : List (List Column) = map columns_seen f.sight.from in
      let sees = sight_fits inputs ctes known done named before f h in
      let all = once no_names after e in
      let tables = λ (i : ℕ). subst (λ tables. TableFits (slice_index_or seen i []) (slice_index_or tables i None)) (sym (same_tables inputs ctes f.drawn)) (h.drawn i) in (
        select_fits u inputs ctes (resolved_as distinct grouped (key_exprs written) w) seen (resolved_items_fit seen outputs all) tables,
        select_meets u inputs ctes (resolved_as distinct grouped (key_exprs written) w) seen (resolved_items_meet seen outputs all)
            (keys_meet seen f.sight sees outputs all s.keys written keyed)
            (for_changed (λ (t : Typed). Meets seen t.expr) (Meets seen) expr_of (λ t m. m) filter (some_condition_meets seen f.sight sees s.filter filter filtered))
            (for_changed (λ (t : Typed). Meets seen t.expr) (Meets seen) expr_of (λ t m. m) having (some_condition_meets seen f.sight sees s.having having had))
            (each_map (λ (d : Drawn). ForSome d.on (Stands f.sight)) (λ (item : FromItem). ForSome item.on (Meets seen)) from_item
            (λ d o. for_changed (Stands f.sight) (Meets seen) expr_of (λ t m. m seen sees) d.on o) f.drawn h.ons) tables,
      )

  whole_fits : (s : SurfaceSelect) (f : Drawing) → DrawingFits inputs ctes known done named before f → (outputs : List Output) → OnceFit (map columns_seen f.sight.from) outputs
      → (filter : Option Typed) → some_condition f.sight s.filter ≡ Ok filter → (written : List Key) → keys f.sight outputs s.keys ≡ Ok written → (having : Option Typed)
      → some_condition f.sight s.having ≡ Ok having
      → (w : Walked) → whole f filter outputs written having ≡ Ok w → WalkedFits w
  whole_fits s f h outputs once filter filtered written keyed having had w e =
      subst WalkedFits (same_ok (record { from = f.drawn; filter = filter; outputs = outputs; keys = written; having = having }) w e)
      (drawing_fits s f h outputs once filter filtered written keyed having had)

  walked_fits : (s : SurfaceSelect) (w : Walked) → walked known done s ≡ Ok w → WalkedFits w
  unfolding walked
  walked_fits s w e =
      let (f, drew, e1) = passed (drawn_from known done s.from) (behind_from s) w e in
      let (filter, filtered, e2) = passed (some_condition f.sight s.filter) (behind_filter s f) w e1 in
      let (outputs, listed, e3) = passed (items f.sight s.items) (behind_items s f filter) w e2 in
      let (written, keyed, e4) = passed (keys f.sight outputs s.keys) (behind_keys s f filter outputs) w e3 in
      let (having, had, e5) = passed (some_condition f.sight s.having) (whole f filter outputs written) w e4 in
      let h = drawn_fits inputs ctes known done named before s.from f drew in
      whole_fits s f h outputs (items_fit (map columns_seen f.sight.from) f.sight
      (sight_fits inputs ctes known done named before f h) s.items outputs listed) filter filtered written keyed having had w e5

  pub resolved_select_fits : (s : SurfaceSelect) → Good SelectFits (select known done s)
  unfolding select
  resolved_select_fits s q e =
      let (w, is, e1) = passed (walked known done s) (λ w. right_keys w >>= λ keys. Ok (resolved_as s.distinct (is_grouped w) keys w)) q e in
      let (ks, right, e2) = passed (right_keys w) (λ keys. Ok (resolved_as s.distinct (is_grouped w) keys w)) q e1 in
      let (unit, stood, made) = passed (stands (is_grouped w) (key_exprs w.keys) w) (λ right. Ok (key_exprs w.keys)) ks right in
      subst SelectFits (ap (λ ks. resolved_as s.distinct (is_grouped w) ks w) (same_ok (key_exprs w.keys) ks made) ∙ same_ok (resolved_as s.distinct (is_grouped w) ks w) q e2)
      (walked_fits s w is s.distinct (is_grouped w) (apart_before (is_grouped w) (key_exprs w.keys) w stood))
