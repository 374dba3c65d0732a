-- The token at a place, and what is left from there on.
use Rattle.std.proofs.Common.{◌≡◌, ℕ, ◌+◌, ◌<◌, ◌≤◌, List, Bool, false, length, get_or, drop, ap}
use Rattle.std.proofs.lemmas.List.{drop_more, drop_all}
use Rattle.mesh_query_tokens.specs.declared.tokens.Token.{Token}
use Rattle.mesh_query_tokens.specs.declared.tokens.TokenKind.{TokenKind}
use Rattle.mesh_query_grammar.specs.Signs.{place, Next}
use Rattle.mesh_query_grammar.specs.Machine.{begins}

pub place_at : (ts : List Token) (at : ℕ) (d : Token) → at < length ts → place (drop at ts) ≡ (get_or ts at d).start
place_at ts at d h = ap place (drop_more ts at d h)

pub next_at : (ts : List Token) (at : ℕ) (d : Token) (kind : TokenKind) → at < length ts → (get_or ts at d).kind ≡ kind → Next kind (drop at ts) (drop (at + 1) ts)
next_at ts at d kind h e = (get_or ts at d, drop_more ts at d h, e)

-- what a test of the next token's kind says
pub begins_at : (test : TokenKind → Bool) (ts : List Token) (at : ℕ) (d : Token) → at < length ts → begins (λ k. test k.kind) (drop at ts) ≡ test (get_or ts at d).kind
begins_at test ts at d h = ap (begins (λ k. test k.kind)) (drop_more ts at d h)

pub begins_past : (test : TokenKind → Bool) (ts : List Token) (at : ℕ) → length ts ≤ at → begins (λ k. test k.kind) (drop at ts) ≡ false
begins_past test ts at h = ap (begins (λ k. test k.kind)) (drop_all at ts h)
