-- A resolved query names the relations of two parts that its text names.
use Rattle.std.proofs.Common.{◌≡◌, ℕ, suc, Bool, true, false, not, ◌&&◌, cond, List, [], ◌∷◌, ◌++◌, map, Option, None, Some, Result, Ok, refl, sym, ap, ◌∙◌, append_assoc}
use Rattle.std.proofs.lemmas.List.{append-nil, map-append}
use Rattle.std.specs.List.{flat_map, list_all, list_any}
use Rattle.std.specs.Option.{option_map}
use Rattle.std.proofs.lemmas.Grind.{flat_map-append as flat_more}
use Rattle.mesh_base_values.specs.Picked.{same_text}
use Rattle.mesh_base_values.specs.declared.values.Column.{Column}
use Rattle.mesh_base_values.specs.declared.values.Name.{Name}
use Rattle.mesh_base.specs.Outputs.{select_columns}
use Rattle.mesh_base.specs.declared.definitions.Defn.TheVariants as body
use Rattle.mesh_base.specs.declared.queries.Join.{Join}
use Rattle.mesh_base.specs.declared.queries.Join.TheVariants as join
use Rattle.mesh_base.specs.declared.queries.Query.{Query}
use Rattle.mesh_base.specs.declared.queries.Rel.TheVariants.{Cte}
use Rattle.mesh_base.specs.declared.queries.Select.{Select}
use Rattle.mesh_base.specs.rules.Proper.{defn_names, names_of_all, rel_names, select_names, selects_names}
use Rattle.mesh_query_grammar.specs.declared.surface.expressions.OrExpr.{OrExpr}
use Rattle.mesh_query_grammar.specs.declared.surface.queries.Surface.{Surface}
use Rattle.mesh_query_grammar.specs.declared.surface.queries.SurfaceCte.{SurfaceCte}
use Rattle.mesh_query_grammar.specs.declared.surface.queries.SurfaceFrom.{SurfaceFrom}
use Rattle.mesh_query_grammar.specs.declared.surface.queries.SurfaceJoin.{SurfaceJoin}
use Rattle.mesh_query_grammar.specs.declared.surface.queries.SurfaceJoin.TheVariants as written
use Rattle.mesh_query_grammar.specs.declared.surface.queries.SurfaceRel.{SurfaceRel}
use Rattle.mesh_query_grammar.specs.declared.surface.queries.SurfaceSelect.{SurfaceSelect}
use Rattle.mesh_query_grammar.specs.declared.surface.queries.SurfaceUnion.{SurfaceUnion}
use Rattle.mesh_query_tokens.specs.Gives.{◌>>=◌}
use Rattle.mesh_query_tokens.specs.Walk.{along, provided}
use Rattle.mesh_query_tokens.specs.declared.faults.ReadFault.{ReadFault}
use Rattle.mesh_resolve_types.specs.Faults.{duplicate, mismatch, unknown_relation}
use Rattle.mesh_resolve_types.specs.declared.typed.Typed.{Typed}
use Rattle.mesh_resolve.specs.declared.drawn.Drawing.{Drawing}
use Rattle.mesh_resolve_selects.specs.declared.selects.parts.Drawn.{Drawn}
use Rattle.mesh_resolve_selects.specs.declared.outputs.commons.Common.{Common}
use Rattle.mesh_resolve.specs.declared.known.Known.{Known}
use Rattle.mesh_resolve_selects.specs.declared.selects.parts.Walked.{Walked}
use Rattle.mesh_resolve_selects.specs.outputs.Keys.{keys}
use Rattle.mesh_resolve_selects.specs.outputs.Outputs.{items}
use Rattle.mesh_resolve_selects.specs.outputs.Commons.{Found, cte_named, is_cte, selects_of}
use Rattle.mesh_resolve_selects.specs.outputs.Sides.{are_sides_alike, with_sides_alike}
use Rattle.mesh_resolve.specs.Queries.{cte, one_select, resolved, selects}
use Rattle.mesh_resolve.specs.Relations.{columns_named, condition, conditional, dotted, drawing, drawn_from, found_relation, item_drawn, joined, nothing_drawn, or_unknown, relation, relation_by, seeing_relation, unconditional}
use Rattle.mesh_resolve_selects.specs.selects.Standing.{is_grouped}
use Rattle.mesh_resolve.specs.Selects.{from_item, resolved_as, right_keys, select, some_condition, walked}
use Rattle.mesh_law_reading.proofs.Good.{Good, given, provided_good, refused, then_good}
use Rattle.mesh_project.specs.nodes.Reads.{cte_reads, from_reads, join_reads, of_two_parts, query_reads, rel_reads, select_reads, union_reads}

flat_push : {X Y : Type 0} (f : X → List Y) (xs : List X) (x : X) → flat_map f (xs ++ x ∷ []) ≡ flat_map f xs ++ f x
flat_push f xs x = flat_more f xs (x ∷ []) ∙ ap (λ l. flat_map f xs ++ l) (append-nil (f x))

flat_mapped : {X Y Z : Type 0} (f : Y → List Z) (g : X → Y) (xs : List X) → flat_map f (map g xs) ≡ flat_map (λ x. f (g x)) xs
flat_mapped f g [] = refl
flat_mapped f g (x ∷ xs) = ap (λ l. f (g x) ++ l) (flat_mapped f g xs)

-- a walk whose steps each add the names of what they are taken for
module _ {S A : Type 0} (step : S → A → Result S ReadFault) (names : S → List Name) (adds : A → List Name) (grows : (s : S) (x : A) → Good (λ n. names n ≡ names s ++ adds x) (step s x)) where
  along_names : (xs : List A) (s : S) → Good (λ end. names end ≡ names s ++ flat_map adds xs) (along step s xs)
  unfolding along
  along_names [] s = given (λ end. names end ≡ names s ++ []) s (sym (append-nil (names s)))
  along_names (x ∷ xs) s =
      then_good (λ n. names n ≡ names s ++ adds x) (λ end. names end ≡ names s ++ (adds x ++ flat_map adds xs)) (step s x) (λ n. along step n xs) (grows s x)
      (λ n e end f. along_names xs n end f ∙ ap (λ l. l ++ flat_map adds xs) e ∙ append_assoc (names s) (adds x) (flat_map adds xs))

module _ (known : Known) where
  module _ (ctes : List Common) where
    -- a relation
    cte_nameless : (place : ℕ) (cs : List Common) (name : List ℕ) (f : Found) → cte_named place cs name ≡ Some f → rel_names f.0 ≡ []
    cte_nameless place [] name f e = absurd (cc)
    cte_nameless place (c ∷ cs) name f e = by_first (same_text c.name name) e (λ h. cte_nameless (suc place) cs name f h)
      where
        by_first : (b : Bool) → cond b (Some (Cte place, select_columns c.selects)) (cte_named (suc place) cs name) ≡ Some f → (cte_named (suc place) cs name ≡ Some f → rel_names f.0 ≡ []) → rel_names f.0 ≡ []
        by_first true h more = let same : (Cte place, select_columns c.selects) ≡ f = cc in ap (λ (g : Found). rel_names g.0) (sym same)
        by_first false h more = more h

    unless_unknown : (P : Found → Type 0) (at : ℕ) (text : List ℕ) (o : Option Found) → ((f : Found) → o ≡ Some f → P f) → Good P (or_unknown at text o)
    unless_unknown P at text None h = refused P (unknown_relation at text)
    unless_unknown P at text (Some f) h = given P f (h f refl)

    named_so : (full : Name) (o : Option (List Column)) (f : Found) → option_map (found_relation full) o ≡ Some f → rel_names f.0 ≡ full ∷ []
    named_so full None f e = absurd (cc)
    named_so full (Some columns) f e = let same : found_relation full columns ≡ f = cc in ap (λ (g : Found). rel_names g.0) (sym same)

    by_parts : (at : ℕ) (schema : Option (List ℕ)) (name : List ℕ) → Good (λ (f : Found). rel_names f.0 ≡ of_two_parts schema name) (relation_by known ctes at schema name)
    by_parts at None name = unless_unknown (λ (f : Found). rel_names f.0 ≡ []) at name (cte_named 0 ctes name) (cte_nameless 0 ctes name)
    by_parts at (Some schema) name =
        let full : Name = record { schema = schema; model = name } in
        unless_unknown (λ (f : Found). rel_names f.0 ≡ full ∷ []) at (dotted schema name) (option_map (found_relation full) (columns_named known full)) (named_so full (columns_named known full))

    of_relation : (r : SurfaceRel) → Good (λ (f : Found). rel_names f.0 ≡ rel_reads r) (relation known ctes r)
    unfolding relation
    of_relation r = by_parts r.at r.schema r.name

    -- FROM
    abbrev drawn_names : List Drawn → List Name
    drawn_names drawn = flat_map (λ (d : Drawn). rel_names d.rel) drawn

    abbrev of_drawing : Drawing → List Name
    of_drawing f = drawn_names f.drawn

    one_drawn : (f : Drawing) (j : Join) (r : SurfaceRel) (found : Found) (on : Option Typed) → rel_names found.0 ≡ rel_reads r → of_drawing (drawing f j r found on) ≡ of_drawing f ++ rel_reads r
    one_drawn f j r found on e = flat_push (λ (d : Drawn). rel_names d.rel) f.drawn (item_drawn j r found.0 on) ∙ ap (λ l. of_drawing f ++ l) e

    without_condition : (f : Drawing) (j : Join) (r : SurfaceRel) → Good (λ g. of_drawing g ≡ of_drawing f ++ rel_reads r) (unconditional known ctes f j r)
    without_condition f j r =
        then_good (λ (found : Found). rel_names found.0 ≡ rel_reads r) (λ g. of_drawing g ≡ of_drawing f ++ rel_reads r) (relation known ctes r) (λ found. Ok (drawing f j r found None)) (of_relation r)
        (λ found e. given (λ g. of_drawing g ≡ of_drawing f ++ rel_reads r) (drawing f j r found None) (one_drawn f j r found None e))

    with_condition : (f : Drawing) (j : Join) (r : SurfaceRel) (on : OrExpr) → Good (λ g. of_drawing g ≡ of_drawing f ++ rel_reads r) (conditional known ctes f j r on)
    with_condition f j r on =
        then_good (λ (found : Found). rel_names found.0 ≡ rel_reads r) (λ g. of_drawing g ≡ of_drawing f ++ rel_reads r) (relation known ctes r)
        (λ found. condition (seeing_relation f.sight r found) on >>= λ t. Ok (drawing f j r found (Some t))) (of_relation r)
        (λ found e. then_good (λ t. Unit {0}) (λ g. of_drawing g ≡ of_drawing f ++ rel_reads r) (condition (seeing_relation f.sight r found) on) (λ t. Ok (drawing f j r found (Some t))) (λ t h. tt)
        (λ t u. given (λ g. of_drawing g ≡ of_drawing f ++ rel_reads r) (drawing f j r found (Some t)) (one_drawn f j r found (Some t) e)))

    of_join : (f : Drawing) (j : SurfaceJoin) → Good (λ g. of_drawing g ≡ of_drawing f ++ join_reads j) (joined known ctes f j)
    of_join f (written.Comma at r) = without_condition f join.Cross r
    of_join f (written.Cross at r) = without_condition f join.Cross r
    of_join f (written.Inner at r on) = with_condition f join.Inner r on
    of_join f (written.Left at r on) = with_condition f join.Left r on

    of_from : (from : Option SurfaceFrom) → Good (λ g. of_drawing g ≡ from_reads from) (drawn_from known ctes from)
    unfolding drawn_from
    of_from None = given (λ g. of_drawing g ≡ []) (nothing_drawn known) refl
    of_from (Some from) =
        then_good (λ g. of_drawing g ≡ rel_reads from.first) (λ g. of_drawing g ≡ rel_reads from.first ++ flat_map join_reads from.joins) (unconditional known ctes (nothing_drawn known) join.First from.first)
        (λ first. along (joined known ctes) first from.joins) (without_condition (nothing_drawn known) join.First from.first)
        (λ first e end f. along_names (joined known ctes) of_drawing join_reads of_join from.joins first end f ∙ ap (λ l. l ++ flat_map join_reads from.joins) e)

    -- a SELECT
    of_walk : (s : SurfaceSelect) → Good (λ (w : Walked). drawn_names w.from ≡ select_reads s) (walked known ctes s)
    unfolding walked
    of_walk s =
        then_good (λ g. of_drawing g ≡ select_reads s) (λ (w : Walked). drawn_names w.from ≡ select_reads s) (drawn_from known ctes s.from) _ (of_from s.from)
        (λ from e. then_good (λ x. Unit {0}) (λ (w : Walked). drawn_names w.from ≡ select_reads s) (some_condition from.sight s.filter) _ (λ x h. tt)
        (λ filter u. then_good (λ x. Unit {0}) (λ (w : Walked). drawn_names w.from ≡ select_reads s) (items from.sight s.items) _ (λ x h. tt)
        (λ outputs v. then_good (λ x. Unit {0}) (λ (w : Walked). drawn_names w.from ≡ select_reads s) (keys from.sight outputs s.keys) _ (λ x h. tt)
        (λ keys k. then_good (λ x. Unit {0}) (λ (w : Walked). drawn_names w.from ≡ select_reads s) (some_condition from.sight s.having) _ (λ x h. tt)
        (λ having z. given (λ (w : Walked). drawn_names w.from ≡ select_reads s) (record { from = from.drawn; filter = filter; outputs = outputs; keys = keys; having = having }) e)))))

    of_select : (s : SurfaceSelect) → Good (λ r. select_names r ≡ select_reads s) (select known ctes s)
    unfolding select
    of_select s =
        then_good (λ (w : Walked). drawn_names w.from ≡ select_reads s) (λ r. select_names r ≡ select_reads s) (walked known ctes s)
        (λ w. right_keys w >>= λ keys. Ok (resolved_as s.distinct (is_grouped w) keys w)) (of_walk s)
        (λ w e. then_good (λ keys. Unit {0}) (λ r. select_names r ≡ select_reads s) (right_keys w) (λ keys. Ok (resolved_as s.distinct (is_grouped w) keys w)) (λ keys h. tt)
        (λ keys u. given (λ r. select_names r ≡ select_reads s) (resolved_as s.distinct (is_grouped w) keys w) (flat_mapped _ from_item w.from ∙ e)))

    one_more_select : (done : List Select) (s : SurfaceSelect) → Good (λ n. selects_names n ≡ selects_names done ++ select_reads s) (one_select known ctes done s)
    one_more_select done s =
        then_good (λ r. select_names r ≡ select_reads s) (λ n. selects_names n ≡ selects_names done ++ select_reads s) (select known ctes s) (λ r. Ok (done ++ r ∷ [])) (of_select s)
        (λ r e. given (λ n. selects_names n ≡ selects_names done ++ select_reads s) (done ++ r ∷ []) (flat_push select_names done r ∙ ap (λ l. selects_names done ++ l) e))

    of_union : (u : SurfaceUnion) → Good (λ all. selects_names all ≡ union_reads u) (selects known ctes u)
    unfolding selects
    of_union u = along_names (one_select known ctes) selects_names select_reads one_more_select u.selects []

  -- the CTEs so far
  abbrev of_commons : List Common → List Name
  of_commons done = names_of_all (map selects_of done)

  one_more_cte : (done : List Common) (c : SurfaceCte) → Good (λ n. of_commons n ≡ of_commons done ++ cte_reads c) (cte known done c)
  one_more_cte done c =
      then_good (λ all. selects_names all ≡ union_reads c.body) (λ n. of_commons n ≡ of_commons done ++ cte_reads c) (selects known done c.body)
      (λ body. provided (not (list_any (is_cte c.name) done)) (done ++ (record { name = c.name; selects = body }) ∷ []) (duplicate c.at c.name)) (of_union done c.body)
      (λ body e. let one : Common = record { name = c.name; selects = body } in
      provided_good (λ n. of_commons n ≡ of_commons done ++ cte_reads c) (not (list_any (is_cte c.name) done)) (done ++ one ∷ []) (duplicate c.at c.name)
      (λ is_new. ap names_of_all (map-append selects_of done (one ∷ [])) ∙ flat_push selects_names (map selects_of done) body ∙ ap (λ l. of_commons done ++ l) e))

  of_query : (q : Surface) → Good (λ query. defn_names (body.Sql query) ≡ query_reads q) (resolved known q)
  unfolding resolved
  of_query q =
      then_good (λ ctes. of_commons ctes ≡ flat_map cte_reads q.ctes) (λ query. defn_names (body.Sql query) ≡ query_reads q) (along (cte known) [] q.ctes)
      (λ ctes. selects known ctes q.body >>= λ body. with_sides_alike (map selects_of ctes) body) (along_names (cte known) of_commons cte_reads one_more_cte q.ctes [])
      (λ ctes e. then_good (λ all. selects_names all ≡ union_reads q.body) (λ query. defn_names (body.Sql query) ≡ query_reads q) (selects known ctes q.body) (λ body. with_sides_alike (map selects_of ctes) body) (of_union ctes q.body)
      (λ all f. provided_good (λ query. defn_names (body.Sql query) ≡ query_reads q) (list_all are_sides_alike (map selects_of ctes) && are_sides_alike all) (record { ctes = map selects_of ctes; selects = all }) (mismatch 0)
      (λ alike. ap (λ l. l ++ selects_names all) e ∙ ap (λ l. flat_map cte_reads q.ctes ++ l) f)))

pub names_agree : (known : Known) (q : Surface) (query : Query) → resolved known q ≡ Ok query → defn_names (body.Sql query) ≡ query_reads q
names_agree known q query e = of_query known q query e
