-- Why tokens are refused, and where they go wrong.
use Rattle.std.specs.Prelude.{◌≡◌, ◌<◌, ◌+◌, ℕ, List, [], ◌∷◌, ◌++◌, codes, drop, ◌⊎◌, false, Some}
use Rattle.mesh_query_tokens.specs.declared.tokens.Token.{Token}
use Rattle.mesh_query_tokens.specs.declared.faults.FaultKind.TheVariants.{Syntax, TooLarge}
use Rattle.mesh_query_tokens.specs.declared.faults.ReadFault.{ReadFault}
use Rattle.mesh_query_tokens.specs.declared.faults.ReadFault.TheVariants.{Fault, Memory}
use Rattle.mesh_query_grammar.specs.declared.lookahead.fault.Fault.{Fault as TokenFault}
use Rattle.mesh_query_grammar.specs.declared.lookahead.fault.Fault.TheVariants as fault
use Rattle.mesh_query_grammar.specs.lookahead.Places.{deepest}
use Rattle.mesh_query_grammar.specs.declared.surface.queries.Surface.{Surface}
use Rattle.mesh_query_grammar.specs.Grammar.{query, Spells}
use Rattle.mesh_query_grammar.specs.Rules.{query as the_query}
use Rattle.mesh_query_grammar.specs.Plans.{plan}
use Rattle.mesh_query_grammar.specs.Machine.{next, Cause, syntax, nesting}
use Rattle.mesh_query_grammar.specs.Beginnings.{IsQuery, IsLongestBegun}
use Rattle.mesh_query.specs.Sizes.{is_within, most_nodes}
use Rattle.mesh_query.specs.Counts.{GoesWrong, Reads}

-- the end of the last token, or 0 where there is none
abbrev pub end_of : List Token → ℕ
end_of [] = 0
end_of (k ∷ []) = k.end
end_of (k ∷ j ∷ ks) = end_of (j ∷ ks)

-- the tokens are no query, however deep
abbrev pub IsNoQuery : List Token → Type 0
IsNoQuery s = (tree : Surface) → IsQuery tree s → ⊥

-- the tokens are no query of the depth that is allowed
abbrev pub IsTooDeep : List Token → Type 0
IsTooDeep s = (tree : Surface) → Spells deepest (query tree) s [] → ⊥

-- the tokens are a query of that depth in which an expression has too many nodes
abbrev pub IsTooLarge : List Token → Type 0
IsTooLarge s = (tree : Surface) × Spells deepest (query tree) s [] × (is_within tree ≡ false)

-- Reading a query stops in front of the rest, and so many nodes of the expression that is read are left. No rule goes
-- on there, for that cause, or the query is over and the rest stands behind it.
abbrev pub StopsAt : List Token → Cause → List Token → ℕ → Type 0
StopsAt s cause rest left =
    GoesWrong false cause deepest the_query (plan the_query) s rest (most_nodes + 1) left
    ⊎ ((cause ≡ syntax) × (k : Token) × (next rest ≡ Some k) × (tree : Surface) × Reads false deepest the_query tree s rest (most_nodes + 1) left)

-- it stops there for that cause, and no expression had too many nodes before
abbrev pub StopsFirst : List Token → Cause → List Token → Type 0
StopsFirst s cause rest = (left : ℕ) × (0 < left) × StopsAt s cause rest left

-- it stops somewhere, and an expression had too many nodes before
abbrev pub IsCrowded : List Token → Type 0
IsCrowded s = (cause : Cause) × (rest : List Token) × StopsAt s cause rest 0

-- a limit is passed, or memory is out
abbrev pub IsLimit : List ℕ → ℕ → ReadFault → Type 0
IsLimit name most Memory = Unit {0}
IsLimit name most (Fault at (TooLarge what limit)) = (at ≡ 0) × (what ≡ name) × (limit ≡ most)
IsLimit name most (Fault at _) = ⊥

-- Reading stops at the token at fault, and so many nodes are left then: what is before it is the longest beginning of a
-- query. Or it stops where too much is open, and there is no query of the depth that is allowed. Or memory is out.
abbrev pub IsAmiss : List Token → List Token → ℕ → TokenFault → Type 0
IsAmiss ts s left fault.Memory = Unit {0}
IsAmiss ts s left (fault.Syntax q) = StopsAt s syntax (drop q ts) left × ((front : List Token) × (s ≡ front ++ drop q ts) × IsLongestBegun s front) × IsNoQuery s
IsAmiss ts s left fault.Nesting = ((rest : List Token) × StopsAt s nesting rest left) × IsTooDeep s

-- The tokens behind those before are refused. They are no query, and the place is the end of the longest beginning of
-- one, behind which reading stops. Or they are no query of the depth that is allowed, and reading stops where more is
-- opened. Or an expression has too many nodes, in a query of that depth or before reading stops. Or memory is out.
abbrev pub IsRefusal : List Token → List Token → ReadFault → Type 0
IsRefusal before s Memory = Unit {0}
IsRefusal before s (Fault at Syntax) = IsNoQuery s × ((front rest : List Token) × (s ≡ front ++ rest) × IsLongestBegun s front × (at ≡ end_of (before ++ front)) × StopsFirst s syntax rest)
IsRefusal before s (Fault at (TooLarge what limit)) =
    (at ≡ 0)
    × (((what ≡ codes "nesting") × (limit ≡ deepest) × IsTooDeep s × ((rest : List Token) × StopsFirst s nesting rest))
    ⊎ ((what ≡ codes "expression") × (limit ≡ most_nodes) × (IsTooLarge s ⊎ IsCrowded s)))
IsRefusal before s (Fault at _) = ⊥
