-- From the answers of the descent to what is refused, and that what is read is the only tree.
use Rattle.std.proofs.Common.{◌≡◌, ◌⊎◌, false, ℕ, ◌+◌, ◌<◌, [], ◌∷◌, ◌++◌, codes, inl, inr, List, length, drop, take, get_or, refl, ap, subst, sym, ◌∙◌, append_assoc}
use Rattle.std.proofs.lemmas.List.{drop_more, take_more, take-append-drop, append_cancel_right}
use Rattle.mesh_query_tokens.specs.declared.tokens.Token.{Token}
use Rattle.mesh_query_tokens.specs.declared.tokens.TokenKind.TheVariants.{Number}
use Rattle.mesh_query_tokens.specs.declared.faults.FaultKind.TheVariants.{Syntax, TooLarge}
use Rattle.mesh_query_tokens.specs.declared.faults.ReadFault.{ReadFault}
use Rattle.mesh_query_tokens.specs.declared.faults.ReadFault.TheVariants.{Fault, Memory}
use Rattle.mesh_query_grammar.specs.declared.lookahead.fault.Fault.{Fault as TokenFault}
use Rattle.mesh_query_grammar.specs.declared.lookahead.fault.Fault.TheVariants as fault
use Rattle.mesh_query_grammar.specs.lookahead.Places.{deepest}
use Rattle.mesh_query_grammar.specs.declared.surface.queries.Surface.{Surface}
use Rattle.mesh_query_grammar.specs.Rules.{query as the_query}
use Rattle.mesh_query_grammar.specs.Machine.{next, syntax, nesting}
use Rattle.mesh_query_grammar.proofs.Faults.{failed, too_deep, left_over}
use Rattle.mesh_query.specs.Answers.{Failed}
use Rattle.mesh_query.specs.Refusals.{end_of, IsTooDeep, IsTooLarge, IsCrowded, StopsFirst, IsLimit, IsAmiss, IsRefusal}
use Rattle.mesh_query.specs.Sizes.{most_nodes}
use Rattle.mesh_query.specs.Counts.{Reads}

pub nesting_refused : (before s : List Token) (f : ReadFault) → IsLimit (codes "nesting") 64 f → IsTooDeep s → ((rest : List Token) × StopsFirst s nesting rest) → IsRefusal before s f
nesting_refused before s Memory h d g = tt
nesting_refused before s (Fault at (TooLarge what limit)) h d g = (h.0, inl (h.1, h.2, d, g))
nesting_refused before s (Fault at _) h d g = absurd h

pub expression_refused : (before s : List Token) (f : ReadFault) → IsLimit (codes "expression") 4096 f → IsTooLarge s ⊎ IsCrowded s → IsRefusal before s f
expression_refused before s Memory h d = tt
expression_refused before s (Fault at (TooLarge what limit)) h d = (h.0, inr (h.1, h.2, d))
expression_refused before s (Fault at _) h d = absurd h

-- where an expression had too many nodes before reading stopped
pub crowded_refused : (ts before s : List Token) (e : TokenFault) (f : ReadFault) → (e ≡ fault.Nesting) ⊎ ((q : ℕ) × (e ≡ fault.Syntax q)) → IsLimit (codes "expression") 4096 f → IsAmiss ts s 0 e → IsRefusal before s f
crowded_refused ts before s e f (inl h) g d = let x = subst (IsAmiss ts s 0) h d in expression_refused before s f g (inr (nesting, x.0.0, x.0.1))
crowded_refused ts before s e f (inr h) g d = let x = subst (IsAmiss ts s 0) h.1 d in expression_refused before s f g (inr (syntax, drop h.0 ts, x.0))

-- where the descent fails
pub amiss : (ts s : List Token) (left : ℕ) (e : TokenFault) → Failed false deepest the_query s ts (most_nodes + 1) left e → IsAmiss ts s left e
amiss ts s left fault.Memory d = tt
amiss ts s left (fault.Syntax q) d = let x = failed d.0 in (inl d, (x.0, x.1, x.2), x.3)
amiss ts s left fault.Nesting d = ((d.0, inl d.1), too_deep d.1.0)

-- where something stands behind a query
pub amiss_behind : (ts s : List Token) (left : ℕ) (tree : Surface) (q : ℕ) → q < length ts → Reads false deepest the_query tree s (drop q ts) (most_nodes + 1) left → IsAmiss ts s left (fault.Syntax q)
amiss_behind ts s left tree q h d =
    let k : Token = record { start = 0; end = 0; kind = Number 0 } in
    let there = ap next (drop_more ts q k h) in
    let x = left_over (get_or ts q k) there d.0 in
    (inr (refl, get_or ts q k, there, tree, d), (x.0, x.1, x.2), x.3)

-- the tokens up to the one at fault
up_to : (ts front : List Token) (from q : ℕ) → drop from ts ≡ front ++ drop q ts → take from ts ++ front ≡ take q ts
up_to ts front from q h =
    append_cancel_right (take from ts ++ front) (take q ts) (drop q ts)
    (append_assoc (take from ts) front (drop q ts) ∙ ap (λ (z : List Token). take from ts ++ z) (sym h) ∙ take-append-drop from ts ∙ sym (take-append-drop q ts))

pub syntax_refused : (ts : List Token) (from q at left : ℕ) → 0 < left → IsAmiss ts (drop from ts) left (fault.Syntax q) → at ≡ end_of (take q ts) → IsRefusal (take from ts) (drop from ts) (Fault at Syntax)
syntax_refused ts from q at left h d e =
    let front = d.1 in
    (d.2, (front.0, drop q ts, front.1, front.2, e ∙ ap end_of (sym (up_to ts front.0 from q front.1)), (left, h, d.0)))

last_of : (s : List Token) (k : Token) → end_of (s ++ k ∷ []) ≡ k.end
last_of [] k = refl
last_of (j ∷ []) k = refl
last_of (j ∷ i ∷ s) k = last_of (i ∷ s) k

-- the end of the token before a place
pub end_before : (ts : List Token) (at : ℕ) (d : Token) → at < length ts → end_of (take (at + 1) ts) ≡ (get_or ts at d).end
end_before ts at d h = ap end_of (take_more ts at d h) ∙ last_of (take at ts) (get_or ts at d)
