-- A token that is none of several signs is no operator.
use Rattle.std.proofs.Common.{◌≡◌, List, [], ◌∷◌, codes, false, refl}
use Rattle.mesh_query_tokens.specs.declared.tokens.Token.{Token}
use Rattle.mesh_query_grammar.specs.Plans.{is_sign, is_cmp, is_add, is_mul}
use Rattle.mesh_query_grammar.specs.Machine.{begins}

pub no_add : (s : List Token) → begins (is_sign (codes "+")) s ≡ false → begins (is_sign (codes "-")) s ≡ false → begins is_add s ≡ false
no_add [] a b = refl
no_add (k ∷ s) a b = rw (a, b) refl

pub no_mul : (s : List Token) → begins (is_sign (codes "*")) s ≡ false → begins (is_sign (codes "/")) s ≡ false → begins (is_sign (codes "%")) s ≡ false → begins is_mul s ≡ false
no_mul [] a b c = refl
no_mul (k ∷ s) a b c = rw (a, b, c) refl

pub no_cmp : (s : List Token) → begins (is_sign (codes "=")) s ≡ false → begins (is_sign (codes "<>")) s ≡ false → begins (is_sign (codes "<")) s ≡ false → begins (is_sign (codes "<=")) s ≡ false → begins (is_sign (codes ">")) s ≡ false → begins (is_sign (codes ">=")) s ≡ false → begins is_cmp s ≡ false
no_cmp [] a b c d e f = refl
no_cmp (k ∷ s) a b c d e f = rw (a, b, c, d, e, f) refl
