-- Tokens are refused in one way, and what is a query of the depth that is allowed for want of memory alone, or
-- because an expression is too large.
use Rattle.std.proofs.Common.{◌≡◌, ◌+◌, ℕ, List, [], ◌∷◌, ◌++◌, codes, true, false, Some, ◌⊎◌, inl, inr, refl, ap, sym, ◌∙◌, arith}
use Rattle.mesh_query_tokens.specs.declared.tokens.Token.{Token}
use Rattle.mesh_query_tokens.specs.declared.faults.FaultKind.TheVariants.{Syntax, TooLarge}
use Rattle.mesh_query_tokens.specs.declared.faults.ReadFault.{ReadFault}
use Rattle.mesh_query_tokens.specs.declared.faults.ReadFault.TheVariants.{Fault, Memory}
use Rattle.mesh_query_grammar.specs.lookahead.Places.{deepest}
use Rattle.mesh_query_grammar.specs.declared.surface.queries.Surface.{Surface}
use Rattle.mesh_query_grammar.specs.Grammar.{query, Spells}
use Rattle.mesh_query_grammar.specs.Machine.{next, Cause, syntax, nesting}
use Rattle.mesh_query_grammar.proofs.Faults.{as_read, one_tree, one_longest}
use Rattle.mesh_query.specs.Refusals.{end_of, IsNoQuery, IsTooDeep, IsTooLarge, IsCrowded, StopsAt, StopsFirst, IsLimit, IsRefusal}
use Rattle.mesh_query.specs.Sizes.{is_within, most_nodes}
use Rattle.mesh_query.proofs.Descent.{both}
use Rattle.mesh_query.proofs.Stops.{one_run, one_fault, clash}

-- what stops in front of a rest isn't read to the end
unread : {s rest : List Token} {cause : Cause} {left : ℕ} {tree : Surface} → StopsAt s cause rest left → Spells deepest (query tree) s [] → ⊥
unread (inl d) q = clash d.0 (as_read q)
unread {rest = rest} (inr d) q =
    let z = one_run d.4.0 _ [] (as_read q) in
    no_token rest d.1 z.1 d.2
  where
    no_token : (rest : List Token) (k : Token) → rest ≡ [] → next rest ≡ Some k → ⊥
    no_token [] k h g = cc
    no_token (j ∷ rest) k h g = cc

-- reading stops for one cause, and with one number of nodes left
one_stop : {s rest more : List Token} {b k : Cause} {left other : ℕ} → StopsAt s b rest left → StopsAt s k more other → (b ≡ k) × (left ≡ other)
one_stop (inl d) (inl g) = let z = one_fault d.0 _ _ g.0 in (z.0, sym d.1 ∙ z.2 false (most_nodes + 1) ∙ g.1)
one_stop (inl d) (inr g) = absurd (clash d.0 g.4.0)
one_stop (inr d) (inl g) = absurd (clash g.0 d.4.0)
one_stop (inr d) (inr g) = let z = one_run d.4.0 _ _ g.4.0 in (d.0 ∙ sym g.0, sym d.4.1 ∙ z.2 false (most_nodes + 1) ∙ g.4.1)

-- no expression had too many nodes before it stopped, or one had
uncrowded : {s rest : List Token} {cause : Cause} → StopsFirst s cause rest → IsCrowded s → ⊥
uncrowded d g = let z = one_stop d.2 g.2 in absurd (omega (arith, d.1, z.1))

-- one of the causes
one_cause : {s rest more : List Token} → StopsFirst s syntax rest → StopsFirst s nesting more → ⊥
one_cause d g = let z : syntax ≡ nesting = (one_stop d.2 g.2).0 in cc

abbrev Limit : List Token → List ℕ → ℕ → Type 0
Limit s what limit = ((what ≡ codes "nesting") × (limit ≡ deepest) × IsTooDeep s × ((rest : List Token) × StopsFirst s nesting rest)) ⊎ ((what ≡ codes "expression") × (limit ≡ most_nodes) × (IsTooLarge s ⊎ IsCrowded s))

-- what is a query of the depth that is allowed passes the limit of nodes alone
large_alone : {s : List Token} {what : List ℕ} {limit : ℕ} (tree : Surface) → Spells deepest (query tree) s [] → Limit s what limit → (what ≡ codes "expression") × (limit ≡ most_nodes) × (is_within tree ≡ false)
large_alone tree d (inl h) = absurd (h.2 tree d)
large_alone tree d (inr (e, f, inl h)) = (e, f, ap is_within (one_tree d h.1) ∙ h.2)
large_alone tree d (inr (e, f, inr h)) = absurd (unread h.2 d)

-- a query of the depth that is allowed in which no expression has too many nodes is refused for want of memory alone
pub short : (before s : List Token) (f : ReadFault) (tree : Surface) → IsRefusal before s f → Spells deepest (query tree) s [] → is_within tree ≡ true → f ≡ Memory
short before s Memory tree h d w = refl
short before s (Fault at Syntax) tree h d w = absurd (h.0 tree (deepest, d))
short before s (Fault at (TooLarge what limit)) tree h d w = absurd (both w (large_alone tree d h.1).2)
short before s (Fault at _) tree h d w = absurd h

-- one in which an expression has too many is refused for that limit
pub long : (before s : List Token) (f : ReadFault) (tree : Surface) → IsRefusal before s f → Spells deepest (query tree) s [] → IsLimit (codes "expression") 4096 f
long before s Memory tree h d = tt
long before s (Fault at Syntax) tree h d = absurd (h.0 tree (deepest, d))
long before s (Fault at (TooLarge what limit)) tree h d = let z = large_alone tree d h.1 in (h.0, z.0, z.1)
long before s (Fault at _) tree h d = absurd h

-- no query, and a limit
no_limit : {s rest : List Token} {what : List ℕ} {limit : ℕ} → IsNoQuery s → StopsFirst s syntax rest → Limit s what limit → ⊥
no_limit g d (inl h) = one_cause d h.3.1
no_limit g d (inr (e, f, inl h)) = g h.0 (deepest, h.1)
no_limit g d (inr (e, f, inr h)) = uncrowded d h

one_limit : {s : List Token} {what name : List ℕ} {limit most : ℕ} → Limit s what limit → Limit s name most → (what ≡ name) × (limit ≡ most)
one_limit (inl h) (inl g) = (h.0 ∙ sym g.0, h.1 ∙ sym g.1)
one_limit (inr h) (inr g) = (h.0 ∙ sym g.0, h.1 ∙ sym g.1)
one_limit (inl h) (inr (e, f, inl g)) = absurd (h.2 g.0 g.1)
one_limit (inl h) (inr (e, f, inr g)) = absurd (uncrowded h.3.1 g)
one_limit (inr (e, f, inl h)) (inl g) = absurd (g.2 h.0 h.1)
one_limit (inr (e, f, inr h)) (inl g) = absurd (uncrowded g.3.1 h)

-- one fault at most is told of tokens
pub one_refusal : (before s : List Token) (f g : ReadFault) → IsRefusal before s f → IsRefusal before s g → (f ≡ Memory) ⊎ ((g ≡ Memory) ⊎ (f ≡ g))
one_refusal before s Memory g h i = inl refl
one_refusal before s (Fault at kind) Memory h i = inr (inl refl)
one_refusal before s (Fault at Syntax) (Fault to Syntax) h i =
    let front : h.1.0 ≡ i.1.0 = one_longest s h.1.0 i.1.0 h.1.3 i.1.3 in
    let place : at ≡ to = h.1.4 ∙ ap (λ (z : List Token). end_of (before ++ z)) front ∙ sym i.1.4 in
    inr (inr (ap (λ (z : ℕ). Fault z Syntax) place))
one_refusal before s (Fault at Syntax) (Fault to (TooLarge name most)) h i = absurd (no_limit h.0 h.1.5 i.1)
one_refusal before s (Fault at (TooLarge what limit)) (Fault to Syntax) h i = absurd (no_limit i.0 i.1.5 h.1)
one_refusal before s (Fault at (TooLarge what limit)) (Fault to (TooLarge name most)) h i =
    let z = one_limit h.1 i.1 in
    inr (inr (ap (λ (v : ℕ). Fault v (TooLarge what limit)) (h.0 ∙ sym i.0) ∙ ap (λ (v : List ℕ). Fault to (TooLarge v limit)) z.0 ∙ ap (λ (v : ℕ). Fault to (TooLarge name v)) z.1))
one_refusal before s (Fault at Syntax) (Fault to _) h i = absurd i
one_refusal before s (Fault at (TooLarge what limit)) (Fault to _) h i = absurd i
one_refusal before s (Fault at _) g h i = absurd h
