-- What FROM lets an expression see has the columns of the tables that it draws.
use Rattle.std.proofs.Common.{◌≡◌, ℕ, zero, suc, ◌+◌, ◌<◌, Bool, true, false, cond, Option, Some, None, Ok, List, [], ◌∷◌, ◌++◌, map, length, slice_index_or, refl, ap, sym, subst, ◌∙◌, arith}
use Rattle.std.specs.List.{AllByRecursion as Each, AllZip, find, slice_get}
use Rattle.std.specs.Option.{option_map}
use Rattle.std.specs.Ordering.{is_eq}
use Rattle.std.specs.Cmp.{Equal-is}
use Rattle.std.proofs.lemmas.List.{length_push}
use Rattle.std.proofs.lemmas.List.Elements.{All-from_recursion, recursion_from_All}
use Rattle.mesh_base_values.specs.declared.values.Column.{Column}
use Rattle.mesh_base_values.specs.declared.values.Name.{Name}
use Rattle.mesh_base_values.specs.Names.{name_cmp}
use Rattle.mesh_base_values.specs.NameOrder.{names_exact}
use Rattle.mesh_base_values.specs.Picked.{same_text}
use Rattle.mesh_base.specs.declared.jobs.Input.{Input}
use Rattle.mesh_base.specs.declared.queries.Join.{Join}
use Rattle.mesh_base.specs.declared.queries.Join.TheVariants as join
use Rattle.mesh_base.specs.declared.queries.Rel.TheVariants.{Named, Cte}
use Rattle.mesh_base.specs.Outputs.{select_columns}
use Rattle.mesh_query_grammar.specs.declared.surface.expressions.OrExpr.{OrExpr}
use Rattle.mesh_query_grammar.specs.declared.surface.queries.SurfaceFrom.{SurfaceFrom}
use Rattle.mesh_query_grammar.specs.declared.surface.queries.SurfaceJoin.{SurfaceJoin}
use Rattle.mesh_query_grammar.specs.declared.surface.queries.SurfaceJoin.TheVariants as written
use Rattle.mesh_query_grammar.specs.declared.surface.queries.SurfaceRel.{SurfaceRel}
use Rattle.mesh_query_tokens.specs.Gives.{◌>>=◌}
use Rattle.mesh_query_tokens.specs.Walk.{along, provided}
use Rattle.mesh_model_csv.specs.seeds.Fits.{fits}
use Rattle.mesh_spec_query.specs.Tables as tables
use Rattle.std.specs.Option.{ForSome}
use Rattle.mesh_base_values.specs.declared.values.ColType.TheVariants as type
use Rattle.mesh_resolve_types.specs.Faults.{mismatch}
use Rattle.mesh_resolve_types.specs.rules.Kinds.{may_be}
use Rattle.mesh_resolve_scope.specs.Expressions.{typed}
use Rattle.mesh_resolve_types.specs.declared.typed.Typed.{Typed}
use Rattle.mesh_resolve_scope.specs.declared.sight.sight.Seen.{Seen}
use Rattle.mesh_resolve_scope.specs.declared.sight.sight.Sight.{Sight}
use Rattle.mesh_resolve_selects.specs.declared.selects.parts.Drawn.{Drawn}
use Rattle.mesh_resolve.specs.declared.drawn.Drawing.{Drawing}
use Rattle.mesh_resolve.specs.declared.known.Known.{Known}
use Rattle.mesh_resolve_selects.specs.declared.outputs.commons.Common.{Common}
use Rattle.mesh_resolve_selects.specs.outputs.Commons.{Found, cte_named}
use Rattle.mesh_resolve.specs.Relations.{columns_named, condition, conditional, dotted, drawing, drawn_from, found_relation, item_drawn, joined, name_in_from, nothing_drawn, or_unknown, relation, relation_by, seeing_relation, unconditional}
use Rattle.mesh_law_reading.specs.Typed.{HasColumns, Fills}
use Rattle.mesh_law_reading.proofs.Good.{Good, along_good}
use Rattle.mesh_law_reading.proofs.TypingRows.{TableFits}
use Rattle.mesh_law_reading.proofs.TypingForms.{held, passed, same_ok}
use Rattle.mesh_law_reading.proofs.TypingMeets.{Meets, typed_holds}
use Rattle.mesh_law_reading.proofs.TypingLists.{each_weaker, each_append, each_before}

-- what holds of the members of two lists at each place, with one more of each
pair_push : {A B X Y : Type 0} (R : X → Y → Type 0) (f : A → X) (g : B → Y) (x0 : X) (y0 : Y) → R x0 y0 → (xs : List A) (ys : List B) → length xs ≡ length ys
    → ((i : ℕ) → R (slice_index_or (map f xs) i x0) (slice_index_or (map g ys) i y0)) → (x : A) (y : B) → R (f x) (g y)
    → (i : ℕ) → R (slice_index_or (map f (xs ++ x ∷ [])) i x0) (slice_index_or (map g (ys ++ y ∷ [])) i y0)
pair_push R f g x0 y0 none [] [] same h x y r zero = r
pair_push R f g x0 y0 none [] [] same h x y r (suc i) = none
pair_push R f g x0 y0 none [] (b ∷ ys) same h x y r i = absurd (omega arith)
pair_push R f g x0 y0 none (a ∷ xs) [] same h x y r i = absurd (omega arith)
pair_push R f g x0 y0 none (a ∷ xs) (b ∷ ys) same h x y r zero = h zero
pair_push R f g x0 y0 none (a ∷ xs) (b ∷ ys) same h x y r (suc i) = pair_push R f g x0 y0 none xs ys (omega arith) (λ i. h (suc i)) x y r i

stays : {A X : Type 0} (f : A → X) (xs : List A) (x : A) (i : ℕ) (none : X) → i < length xs → slice_index_or (map f (xs ++ x ∷ [])) i none ≡ slice_index_or (map f xs) i none
stays f [] x i none l = absurd (omega arith)
stays f (y ∷ xs) x zero none l = refl
stays f (y ∷ xs) x (suc i) none l = stays f xs x i none (omega arith)

last_is : {A X : Type 0} (f : A → X) (xs : List A) (x : A) (none : X) → slice_index_or (map f (xs ++ x ∷ [])) (length xs) none ≡ f x
last_is f [] x none = refl
last_is f (y ∷ xs) x none = last_is f xs x none

-- what is known of a table's columns is so
abbrev pub SuitsOne : Known → Input → Type 0
SuitsOne known input = (columns : List Column) → columns_named known input.name ≡ Some columns → Fills columns input

-- a table of that name has the columns that were found for it
named_fits : (inputs : List Input) (known : Known) (name : Name) (columns : List Column) → columns_named known name ≡ Some columns
    → Each (SuitsOne known) inputs → TableFits columns (find (λ (input : Input). is_eq (name_cmp input.name name)) inputs)
named_fits [] known name columns is h = tt
named_fits (x ∷ xs) known name columns is h = go (is_eq (name_cmp x.name name)) refl (named_fits xs known name columns is h.1)
  where
    go : (b : Bool) → is_eq (name_cmp x.name name) ≡ b → TableFits columns (find (λ (input : Input). is_eq (name_cmp input.name name)) xs)
        → TableFits columns (cond b (Some x) (find (λ (input : Input). is_eq (name_cmp input.name name)) xs))
    go false e more = more
    go true e more =
        let one : x.name ≡ name = names_exact x.name name ((Equal-is (name_cmp x.name name)).0 e) in
        let fills = h.0 columns (ap (columns_named known) one ∙ is) in
        (fills.0, recursion_from_All (λ row. fits columns row ≡ true) x.rows fills.1)

-- a CTE's rows fit the columns of its query
abbrev pub CteFits : Common → Input → Type 0
CteFits c input = TableFits (select_columns c.selects) (Some input)

cte_fits : (place : ℕ) (cs : List Common) (xs : List Input) (name : List ℕ) (found : Found) → cte_named place cs name ≡ Some found → AllZip CteFits cs xs
    → (k : ℕ) × (found.0 ≡ Cte (place + k)) × TableFits found.1 (slice_get xs k)
cte_fits place [] xs name found e all = absurd (cc)
cte_fits place (c ∷ cs) [] name found e all = absurd all
cte_fits place (c ∷ cs) (x ∷ xs) name found e all = go (same_text c.name name) e (λ e. cte_fits (suc place) cs xs name found e all.1)
  where
    go : (b : Bool) → cond b (Some (Cte place, select_columns c.selects)) (cte_named (suc place) cs name) ≡ Some found
        → (cte_named (suc place) cs name ≡ Some found → (k : ℕ) × (found.0 ≡ Cte (suc place + k)) × TableFits found.1 (slice_get xs k))
        → (k : ℕ) × (found.0 ≡ Cte (place + k)) × TableFits found.1 (slice_get (x ∷ xs) k)
    go true e more =
        let is : ◌≡◌ {A = Found} (Cte place, select_columns c.selects) found = cc in
        let at : place ≡ place + 0 = omega arith in
        (0, ap (λ (f : Found). f.0) (sym is) ∙ ap Cte at, subst (λ (f : Found). TableFits f.1 (Some x)) is all.0)
    go false e more = let (k, is, h) = more e in (suc k, is ∙ ap Cte (omega arith), h)

-- the operands of a condition fit where what is in sight has its columns
abbrev pub Stands : Sight → Typed → Type 0
Stands sight t = (columns : List (List Column)) → HasColumns columns sight → Meets columns t.expr

-- a condition is an expression
pub condition_typed : (sight : Sight) (e : OrExpr) (t : Typed) → condition sight e ≡ Ok t → typed sight e ≡ Ok t
unfolding condition
condition_typed sight e t is =
    let (x, found, rest) = passed (typed sight e) (λ t. provided (may_be type.Bool t.kind) t (mismatch t.at)) t is in
    found ∙ ap Ok (held (may_be type.Bool x.kind) x t (mismatch x.at) rest).1

abbrev pub table_drawn : List Input → List Input → Drawn → Option Input
table_drawn inputs ctes d = tables.relation inputs ctes d.rel

abbrev pub columns_seen : Seen → List Column
columns_seen d = d.columns

module _ (inputs ctes : List Input) (known : Known) (done : List Common)
    (named : Each (SuitsOne known) inputs)
    (before : AllZip CteFits done ctes) where
  abbrev FoundFits : Found → Type 0
  FoundFits found = TableFits found.1 (tables.relation inputs ctes found.0)

  by_name_fits : (at : ℕ) (name : List ℕ) (o : Option Found) → ((found : Found) → o ≡ Some found → FoundFits found) → (found : Found) → or_unknown at name o ≡ Ok found
      → FoundFits found
  by_name_fits at name None h found e = absurd (cc)
  by_name_fits at name (Some f) h found e = h found (ap Some (same_ok f found e))

  two_part_fits : (full : Name) (o : Option (List Column)) → columns_named known full ≡ o → (found : Found) → option_map (found_relation full) o ≡ Some found → FoundFits found
  two_part_fits full None is found e = absurd (cc)
  two_part_fits full (Some columns) is found e =
      let same : ◌≡◌ {A = Found} (Named full, columns) found = cc in
      subst FoundFits same (named_fits inputs known full columns is named)

  relation_fits : (r : SurfaceRel) (found : Found) → relation known done r ≡ Ok found → FoundFits found
  unfolding relation
  relation_fits r found e = go r.schema e
    where
      go : (schema : Option (List ℕ)) → relation_by known done r.at schema r.name ≡ Ok found → FoundFits found
      go None e =
          by_name_fits r.at r.name (cte_named 0 done r.name)
          (λ found is. let (k, at, h) = cte_fits 0 done ctes r.name found is before in
          let same : 0 + k ≡ k = omega arith in
          subst (λ rel. TableFits found.1 (tables.relation inputs ctes rel)) (sym (at ∙ ap Cte same)) h) found e
      go (Some schema) e =
          by_name_fits r.at (dotted schema r.name) (option_map (found_relation (record { schema = schema; model = r.name }))
          (columns_named known (record { schema = schema; model = r.name })))
          (two_part_fits (record { schema = schema; model = r.name }) (columns_named known (record { schema = schema; model = r.name })) refl) found e

  -- what is in sight, beside what was drawn
  pub record DrawingFits (f : Drawing) : Type 0 where
    pub counted : length f.sight.from ≡ length f.drawn
    pub placed : Each (λ (d : Seen). (d.place < length f.sight.from) × (slice_index_or (map columns_seen f.sight.from) d.place [] ≡ d.columns)) f.sight.from
    pub drawn : (i : ℕ) → TableFits (slice_index_or (map columns_seen f.sight.from) i []) (slice_index_or (map (table_drawn inputs ctes) f.drawn) i None)
    pub ons : Each (λ (d : Drawn). ForSome d.on (Stands f.sight)) f.drawn

  first_drawing : DrawingFits (nothing_drawn known)
  first_drawing = record { counted = refl; placed = tt; drawn = λ i. tt; ons = tt }

  abbrev PlacedIn : List Seen → Seen → Type 0
  PlacedIn from d = (d.place < length from) × (slice_index_or (map columns_seen from) d.place [] ≡ d.columns)

  placed_still : (from : List Seen) (new d : Seen) → PlacedIn from d → PlacedIn (from ++ new ∷ []) d
  placed_still from new d h =
      let l : d.place < length from = h.0 in
      let longer = length_push from new in
      (omega arith, stays columns_seen from new d.place [] l ∙ h.1)

  placed_last : (from : List Seen) (new : Seen) → new.place ≡ length from → PlacedIn (from ++ new ∷ []) new
  placed_last from new is =
      let longer = length_push from new in
      (omega arith, ap (λ i. slice_index_or (map columns_seen (from ++ new ∷ [])) i []) is ∙ last_is columns_seen from new [])

  seen_before : (sight : Sight) (r : SurfaceRel) (found : Found) (columns : List (List Column)) → HasColumns columns (seeing_relation sight r found) → HasColumns columns sight
  seen_before sight r found columns h =
      let new : Seen = record { place = length sight.from; name = name_in_from r.alias r.name; columns = found.1 } in
      All-from_recursion (λ (d : Seen). slice_index_or columns d.place [] ≡ d.columns) sight.from
      (each_before (λ (d : Seen). slice_index_or columns d.place [] ≡ d.columns) sight.from (new ∷ [])
      (recursion_from_All (λ (d : Seen). slice_index_or columns d.place [] ≡ d.columns) (sight.from ++ new ∷ []) h))

  next_drawing : (f : Drawing) (join : Join) (r : SurfaceRel) (found : Found) (on : Option Typed) → DrawingFits f → FoundFits found
      → ForSome on (Stands (seeing_relation f.sight r found))
      → DrawingFits (drawing f join r found on)
  next_drawing f join r found on h fit stands =
      let new : Seen = record { place = length f.sight.from; name = name_in_from r.alias r.name; columns = found.1 } in
      let item : Drawn = item_drawn join r found.0 on in
      record {
        counted = length_push f.sight.from new ∙ ap (λ n. n + 1) h.counted ∙ sym (length_push f.drawn item);
        placed = each_append (PlacedIn (f.sight.from ++ new ∷ [])) f.sight.from (new ∷ [])
            (each_weaker (PlacedIn f.sight.from) (PlacedIn (f.sight.from ++ new ∷ [])) (placed_still f.sight.from new) f.sight.from h.placed)
            (placed_last f.sight.from new refl, tt);
        drawn = pair_push TableFits columns_seen (table_drawn inputs ctes) [] None tt f.sight.from f.drawn h.counted h.drawn new item fit;
        ons = each_append (λ (d : Drawn). ForSome d.on (Stands (seeing_relation f.sight r found))) f.drawn (item ∷ [])
            (each_weaker (λ (d : Drawn). ForSome d.on (Stands f.sight)) (λ (d : Drawn). ForSome d.on (Stands (seeing_relation f.sight r found)))
            (λ d o t is columns seen. o t is columns (seen_before f.sight r found columns seen)) f.drawn h.ons)
            (stands, tt);
      }

  condition_meets : (sight : Sight) (e : OrExpr) (t : Typed) → condition sight e ≡ Ok t → Stands sight t
  condition_meets sight e t is columns seen = (typed_holds columns sight seen e t (condition_typed sight e t is)).1

  unconditional_fits : (f : Drawing) (join : Join) (r : SurfaceRel) → DrawingFits f → Good DrawingFits (unconditional known done f join r)
  unconditional_fits f join r h next e =
      let (found, is, made) = passed (relation known done r) (λ found. Ok (drawing f join r found None)) next e in
      subst DrawingFits (same_ok (drawing f join r found None) next made) (next_drawing f join r found None h (relation_fits r found is) (λ t e. absurd (cc)))

  conditional_fits : (f : Drawing) (join : Join) (r : SurfaceRel) (on : OrExpr) → DrawingFits f → Good DrawingFits (conditional known done f join r on)
  conditional_fits f join r on h next e =
      let (found, is, rest) = passed (relation known done r) (λ found. condition (seeing_relation f.sight r found) on >>= λ t. Ok (drawing f join r found (Some t))) next e in
      let (t, tested, made) = passed (condition (seeing_relation f.sight r found) on) (λ t. Ok (drawing f join r found (Some t))) next rest in
      subst DrawingFits (same_ok (drawing f join r found (Some t)) next made)
      (next_drawing f join r found (Some t) h (relation_fits r found is)
      (λ x same columns seen. subst (Meets columns) (cc) (condition_meets (seeing_relation f.sight r found) on t tested columns seen)))

  joined_fits : (f : Drawing) (j : SurfaceJoin) → DrawingFits f → Unit {0} → Good DrawingFits (joined known done f j)
  joined_fits f (written.Comma at r) h _ = unconditional_fits f _ r h
  joined_fits f (written.Cross at r) h _ = unconditional_fits f _ r h
  joined_fits f (written.Inner at r on) h _ = conditional_fits f _ r on h
  joined_fits f (written.Left at r on) h _ = conditional_fits f _ r on h

  all_joins : (js : List SurfaceJoin) → Each (λ (j : SurfaceJoin). Unit {0}) js
  all_joins [] = tt
  all_joins (j ∷ js) = (tt, all_joins js)

  pub drawn_fits : (from : Option SurfaceFrom) → Good DrawingFits (drawn_from known done from)
  unfolding drawn_from
  drawn_fits None f e = subst DrawingFits (same_ok (nothing_drawn known) f e) first_drawing
  drawn_fits (Some from) f e =
      let (first, is, rest) = passed (unconditional known done (nothing_drawn known) join.First from.first) (λ first. along (joined known done) first from.joins) f e in
      along_good DrawingFits (λ (j : SurfaceJoin). Unit {0}) (joined known done) joined_fits first
      (unconditional_fits (nothing_drawn known) join.First from.first first_drawing first is) from.joins (all_joins from.joins) f rest

  -- what is in sight has the columns that were found
  pub sight_fits : (f : Drawing) → DrawingFits f → HasColumns (map columns_seen f.sight.from) f.sight
  sight_fits f h =
      All-from_recursion (λ (d : Seen). slice_index_or (map columns_seen f.sight.from) d.place [] ≡ d.columns) f.sight.from
      (each_weaker (PlacedIn f.sight.from) (λ (d : Seen). slice_index_or (map columns_seen f.sight.from) d.place [] ≡ d.columns) (λ d p. p.1) f.sight.from h.placed)
