-- What every SELECT keeps holds of all SELECTs of a resolved query, each beside the CTEs before it.
use Rattle.std.proofs.Common.{List, [], ◌∷◌, ◌++◌, map, Ok, not, ◌&&◌, sym, subst, append_assoc}
use Rattle.std.specs.List.{AllByRecursion, list_all, list_any}
use Rattle.std.proofs.lemmas.List.{append-nil, map-append}
use Rattle.mesh_base.specs.declared.queries.Query.{Query}
use Rattle.mesh_base.specs.declared.queries.Select.{Select}
use Rattle.mesh_query_grammar.specs.declared.surface.queries.Surface.{Surface}
use Rattle.mesh_query_grammar.specs.declared.surface.queries.SurfaceCte.{SurfaceCte}
use Rattle.mesh_query_grammar.specs.declared.surface.queries.SurfaceSelect.{SurfaceSelect}
use Rattle.mesh_query_grammar.specs.declared.surface.queries.SurfaceUnion.{SurfaceUnion}
use Rattle.mesh_query_tokens.specs.Gives.{◌>>=◌}
use Rattle.mesh_query_tokens.specs.Walk.{provided, along}
use Rattle.mesh_resolve_types.specs.Faults.{duplicate, mismatch}
use Rattle.mesh_resolve.specs.declared.known.Known.{Known}
use Rattle.mesh_resolve_selects.specs.declared.outputs.commons.Common.{Common}
use Rattle.mesh_resolve_selects.specs.outputs.Commons.{is_cte, selects_of}
use Rattle.mesh_resolve.specs.Selects.{select}
use Rattle.mesh_resolve_selects.specs.outputs.Sides.{are_sides_alike, with_sides_alike}
use Rattle.mesh_resolve.specs.Queries.{cte, one_select, resolved, selects}
use Rattle.mesh_law_reading.specs.Each.{EachSelect}
use Rattle.mesh_law_reading.proofs.Good.{Good, given, then_good, along_good, AllByRecursion-push, provided_good, any}

-- each CTE, with those before it
abbrev pub CtesKeep : (List (List Select) → Select → Type 0) → List (List Select) → List (List Select) → Type 0
CtesKeep R before [] = Unit {0}
CtesKeep R before (c ∷ cs) = AllByRecursion (R before) c × CtesKeep R (before ++ c ∷ []) cs

abbrev pub QueryKeeps : (List (List Select) → Select → Type 0) → Query → Type 0
QueryKeeps R q = CtesKeep R [] q.ctes × AllByRecursion (R q.ctes) q.selects

module _ (R : List (List Select) → Select → Type 0) where
  one_more_cte : (before cs : List (List Select)) (c : List Select) → CtesKeep R before cs → AllByRecursion (R (before ++ cs)) c → CtesKeep R before (cs ++ c ∷ [])
  one_more_cte before [] c keep all = (subst (λ b. AllByRecursion (R b) c) (append-nil before) all, tt)
  one_more_cte before (d ∷ cs) c keep all =
      (keep.0, one_more_cte (before ++ d ∷ []) cs c keep.1 (subst (λ b. AllByRecursion (R b) c) (sym (append_assoc before (d ∷ []) cs)) all))

  abbrev CommonsKeep : List Common → Type 0
  CommonsKeep ctes = CtesKeep R [] (map selects_of ctes)

  module _ (known : Known) (selected : (ctes : List Common) (s : SurfaceSelect) → Good (R (map selects_of ctes)) (select known ctes s)) where
    abbrev All_keep : List Common → List Select → Type 0
    All_keep ctes all = AllByRecursion (R (map selects_of ctes)) all

    unions : (ctes : List Common) (u : SurfaceUnion) → Good (All_keep ctes) (selects known ctes u)
    unfolding selects
    unions ctes u =
        along_good (All_keep ctes) (λ s. Unit {0}) (one_select known ctes)
        (λ done s so_far x. then_good (R (map selects_of ctes)) (All_keep ctes) (select known ctes s) (λ r. Ok (done ++ r ∷ [])) (selected ctes s)
        (λ r p. given (All_keep ctes) (done ++ r ∷ []) (AllByRecursion-push (R (map selects_of ctes)) done r p so_far)))
        [] tt u.selects (any u.selects)

    one_cte : (done : List Common) (c : SurfaceCte) → CommonsKeep done → Good CommonsKeep (cte known done c)
    one_cte done c so_far =
        then_good (All_keep done) CommonsKeep (selects known done c.body) (λ body. provided (not (list_any (is_cte c.name) done)) (done ++ (record { name = c.name; selects = body }) ∷ []) (duplicate c.at c.name)) (unions done c.body)
        (λ body p. let one : Common = record { name = c.name; selects = body } in
        provided_good CommonsKeep (not (list_any (is_cte c.name) done)) (done ++ one ∷ []) (duplicate c.at c.name)
        (λ is_new. subst (CtesKeep R []) (sym (map-append selects_of done (one ∷ []))) (one_more_cte [] (map selects_of done) body so_far p)))

    pub queries_keep : (q : Surface) → Good (QueryKeeps R) (resolved known q)
    unfolding resolved
    queries_keep q =
        then_good CommonsKeep (QueryKeeps R) (along (cte known) [] q.ctes) (λ ctes. selects known ctes q.body >>= λ body. with_sides_alike (map selects_of ctes) body)
        (along_good CommonsKeep (λ c. Unit {0}) (cte known) (λ done c so_far x. one_cte done c so_far) [] tt q.ctes (any q.ctes))
        (λ ctes p. then_good (All_keep ctes) (QueryKeeps R) (selects known ctes q.body) (λ body. with_sides_alike (map selects_of ctes) body) (unions ctes q.body)
        (λ body r. provided_good (QueryKeeps R) (list_all are_sides_alike (map selects_of ctes) && are_sides_alike body) (record { ctes = map selects_of ctes; selects = body }) (mismatch 0) (λ alike. (p, r))))

-- where the CTEs before don't matter
each_cte : (R : Select → Type 0) (before cs : List (List Select)) → CtesKeep (λ ctes. R) before cs → AllByRecursion (AllByRecursion R) cs
each_cte R before [] keep = tt
each_cte R before (c ∷ cs) keep = (keep.0, each_cte R (before ++ c ∷ []) cs keep.1)

pub each_select : (R : Select → Type 0) (q : Query) → QueryKeeps (λ ctes. R) q → EachSelect R q
each_select R q keep = (each_cte R [] q.ctes keep.0, keep.1)
