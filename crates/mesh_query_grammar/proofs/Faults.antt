-- From runs to queries: what is read to the end is the one query, and where a run fails no query goes on.
use Rattle.std.proofs.Common.{◌≡◌, ℕ, ◌+◌, ◌≤◌, List, [], ◌∷◌, ◌++◌, length, Some, None, ◌⊎◌, inl, inr, refl, ap, sym, ◌∙◌, subst, arith, append_assoc}
use Rattle.mesh_query_tokens.specs.declared.tokens.Token.{Token}
use Rattle.mesh_query_grammar.specs.declared.surface.queries.Surface.{Surface}
use Rattle.mesh_query_grammar.specs.Grammar as gram
use Rattle.mesh_query_grammar.specs.Grammar.{Spells}
use Rattle.mesh_query_grammar.specs.Beginnings.{IsQuery, IsBegun, IsLongestBegun}
use Rattle.mesh_query_grammar.specs.Rules.{query}
use Rattle.mesh_query_grammar.specs.Plans.{plan}
use Rattle.mesh_query_grammar.specs.Machine.{next, Reads, Fails, syntax, nesting}
use Rattle.mesh_query_grammar.proofs.Runs.{Front, Shape, listed, shape, deeper, Settled, settled, refused, Begun, begun_behind}
use Rattle.mesh_query_grammar.proofs.Means.{Means}
use Rattle.mesh_query_grammar.proofs.Sound.{says_means}
use Rattle.mesh_query_grammar.proofs.Scale.{scale}
use Rattle.mesh_query_grammar.proofs.Complete.{complete}
use Rattle.mesh_query_grammar.proofs.Endings.{all}

-- a query is read to the end
pub as_read : {n : ℕ} {t : Surface} {ts : List Token} → Spells n (gram.query t) ts [] → Reads n query t ts []
unfolding scale
as_read d = complete d (omega arith)

settle : {n : ℕ} {t : Surface} {s e : List Token} → Reads n query t s e → Settled n query (plan query) t s e
settle d = settled all d (all query).1

-- what is read is spelled
pub is_spelled : {n : ℕ} {t : Surface} {s e : List Token} → Reads n query t s e → Spells n (gram.query t) s e
is_spelled {n = n} {t = t} {s = s} {e = e} d =
    let I = settle d in
    let m : Means n query t I.taken = says_means I.says in
    subst (λ (z : List Token). Spells n (gram.query t) z e) (sym I.whole) (m e)

pub one_tree : {n m : ℕ} {t b : Surface} {ts : List Token} → Spells n (gram.query t) ts [] → Spells m (gram.query b) ts [] → t ≡ b
one_tree {m = m} {b = b} d g =
    let I = settle (as_read d) in
    sym (I.only [] refl m b [] (subst (λ (z : List Token). Reads m query b z []) I.whole (as_read g))).0

-- what is read is the only query
pub only_read : {n m : ℕ} {t b : Surface} {ts : List Token} → Reads n query t ts [] → Spells m (gram.query b) ts [] → t ≡ b
only_read d g = one_tree (is_spelled d) g

-- a query may be read with more room
pub with_more_room : {n : ℕ} {t : Surface} {ts : List Token} → Spells n (gram.query t) ts [] → Spells (n + 1) (gram.query t) ts []
with_more_room {n = n} {t = t} d =
    let I = settle (as_read d) in
    let m : Means (n + 1) query t I.taken = says_means (deeper I.says) in
    subst (λ (z : List Token). Spells (n + 1) (gram.query t) z []) (sym I.whole) (m [])

-- of two beginnings the second is no longer, or it goes on behind the first
compared : (l o x y : List Token) → l ++ x ≡ o ++ y → (length o ≤ length l) ⊎ ((k : Token) × (c : List Token) × (o ≡ l ++ k ∷ c) × (x ≡ k ∷ (c ++ y)))
compared [] [] x y h = inl (omega arith)
compared [] (k ∷ c) x y h = inr (k, c, refl, h)
compared (j ∷ l) [] x y h = inl (omega arith)
compared (j ∷ l) (i ∷ o) x y h = further (compared l o x y (let g = h in cc))
  where
    further : (length o ≤ length l) ⊎ ((k : Token) × (c : List Token) × (o ≡ l ++ k ∷ c) × (x ≡ k ∷ (c ++ y))) →
        (length (i ∷ o) ≤ length (j ∷ l)) ⊎ ((k : Token) × (c : List Token) × (i ∷ o ≡ j ∷ (l ++ k ∷ c)) × (x ≡ k ∷ (c ++ y)))
    further (inl g) = inl (omega (arith, g))
    further (inr g) = let same : i ≡ j = cc in inr (g.0, g.1, ap (λ (z : Token). z ∷ o) same ∙ ap (λ (z : List Token). j ∷ z) g.2, g.3)

-- no query goes on with the token behind the front
abbrev Stopped : Front → List Token → Type 0
Stopped u e = (x : List Token) → next x ≡ next e → (k : Token) → next x ≡ Some k → (m : ℕ) (t : Surface) → Reads m query t (u x) [] → ⊥

front_longest : {u : Front} (a : Shape u) (s e : List Token) → s ≡ u e → IsBegun (listed a).0 → Stopped u e → IsLongestBegun s (listed a).0
front_longest {u = u} a s e h b stops = record {
  rest = e;
  whole = h ∙ (listed a).1 e;
  begun = b;
  longest = λ o more w g. longest_by o more g (compared (listed a).0 o e more (sym ((listed a).1 e) ∙ sym h ∙ w));
}
  where
    longest_by : (o more : List Token) → IsBegun o → (length o ≤ length (listed a).0) ⊎ ((k : Token) × (c : List Token) × (o ≡ (listed a).0 ++ k ∷ c) × (e ≡ k ∷ (c ++ more))) → length o ≤ length (listed a).0
    longest_by o more g (inl i) = i
    longest_by o more g (inr i) =
        let x : List Token = i.0 ∷ (i.1 ++ g.1) in
        let same : o ++ g.1 ≡ u x = ap (λ (z : List Token). z ++ g.1) i.2 ∙ append_assoc (listed a).0 (i.0 ∷ i.1) g.1 ∙ sym ((listed a).1 x) in
        absurd (stops x (sym (ap next i.3)) i.0 refl g.2.0 g.0 (subst (λ (z : List Token). Reads g.2.0 query g.0 z []) same (as_read g.2.1)))

some_query : IsBegun []
some_query =
    let E = (all query).0 0 in
    let m : Means 1 query E.0 E.1 = says_means E.2 in
    (E.0, E.1 [], (1, m []))

-- two longest beginnings are one
pub one_longest : (ts a b : List Token) → IsLongestBegun ts a → IsLongestBegun ts b → a ≡ b
one_longest ts a b A B =
    let one = A.longest b B.rest B.whole B.begun in
    let other = B.longest a A.rest A.whole A.begun in
    same_length a b A.rest B.rest (sym A.whole ∙ B.whole) (omega (arith, one, other))
  where
    same_length : (a b x y : List Token) → a ++ x ≡ b ++ y → length a ≡ length b → a ≡ b
    same_length [] [] x y h g = refl
    same_length [] (k ∷ b) x y h g = absurd (omega (arith, g))
    same_length (k ∷ a) [] x y h g = absurd (omega (arith, g))
    same_length (k ∷ a) (j ∷ b) x y h g =
        let same : k ≡ j = cc in
        ap (λ (z : Token). z ∷ a) same ∙ ap (λ (z : List Token). j ∷ z) (same_length a b x y (let i = h in cc) (omega (arith, g)))

-- what is taken is begun
taken_begun : (n : ℕ) {u : Front} (a : Shape u) → Begun n query (plan query) u → IsBegun (listed a).0
taken_begun n {u = u} a b =
    let z = begun_behind n query (plan query) (all query).0 b in
    let m : Means (n + 1) query z.0 (λ x. u (z.1 x)) = says_means z.2 in
    (z.0, z.1 [], (n + 1, subst (λ (y : List Token). Spells (n + 1) (gram.query z.0) y []) ((listed a).1 (z.1 [])) (m [])))

-- Where a run fails by syntax: the tokens before are the longest beginning of a query, and all of them are none.
pub failed : {n : ℕ} {s e : List Token} → Fails syntax n query (plan query) s e →
    (front : List Token) × (s ≡ front ++ e) × IsLongestBegun s front × ((t : Surface) → IsQuery t s → ⊥)
failed {n = n} {s = s} {e = e} d =
    let I = refused all d (all query).1 in
    let l = listed I.shaped in (
      l.0,
      I.whole ∙ l.1 e,
      front_longest I.shaped s e I.whole (taken_begun n I.shaped I.begun) (λ x h k g m t r. I.no_run x h m t [] tt r),
      λ t q. I.no_run e refl q.0 t [] tt (subst (λ (z : List Token). Reads q.0 query t z []) I.whole (as_read q.1)),
    )

-- where a run fails by nesting there is no query of the same depth
pub too_deep : {n : ℕ} {s e : List Token} → Fails nesting n query (plan query) s e → (t : Surface) → Spells n (gram.query t) s [] → ⊥
too_deep {n = n} {e = e} d t q =
    let I = refused all d (all query).1 in
    I.no_run e refl n t [] refl (subst (λ (z : List Token). Reads n query t z []) I.whole (as_read q))

-- where a query is over before the tokens are
pub left_over : {n : ℕ} {t : Surface} {s e : List Token} (k : Token) → next e ≡ Some k → Reads n query t s e →
    (front : List Token) × (s ≡ front ++ e) × IsLongestBegun s front × ((t : Surface) → IsQuery t s → ⊥)
left_over {n = n} {t = t} {s = s} {e = e} k h d =
    let I = settle d in
    let a = shape I.says in
    let l = listed a in
    let m : Means n query t I.taken = says_means I.says in
    let over : (x : List Token) → next x ≡ next e → (i : ℕ) (b : Surface) → Reads i query b (I.taken x) [] → ⊥ =
    λ x g i b r. let o = (I.only x g i b [] r).1 in let f : None ≡ Some k = ap next o ∙ g ∙ h in absurd cc in (
      l.0,
      I.whole ∙ l.1 e,
      front_longest a s e I.whole (t, [], (n, subst (λ (y : List Token). Spells n (gram.query t) y []) (l.1 []) (m []))) (λ x g j i m b r. over x g m b r),
      λ b q. over e refl q.0 b (subst (λ (z : List Token). Reads q.0 query b z []) I.whole (as_read q.1)),
    )
