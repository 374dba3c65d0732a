-- What a function of the descent answers: a phrase and the place behind it, or where there is none; and how many nodes
-- are left then.
use Rattle.std.specs.Prelude.{◌≡◌, ℕ, ℤ, ◌≤◌, List, [], ◌∷◌, codes, drop, Bool, false, Option, None, Result, MatchResult}
use Rattle.mesh_query_tokens.specs.declared.tokens.Token.{Token}
use Rattle.mesh_query_tokens.specs.declared.tokens.TokenKind.{TokenKind}
use Rattle.mesh_query_tokens.specs.declared.tokens.TokenKind.TheVariants.{Ident}
use Rattle.mesh_query_grammar.specs.declared.surface.signs.Function.{Function}
use Rattle.mesh_query_grammar.specs.declared.lookahead.fault.Fault.{Fault}
use Rattle.mesh_query_grammar.specs.declared.lookahead.fault.Fault.TheVariants as fault
use Rattle.mesh_query_grammar.specs.Words.{function_of}
use Rattle.mesh_query_grammar.specs.Signs.{IsDay, IsSign}
use Rattle.mesh_query_grammar.specs.Rules.{Rule, Tree}
use Rattle.mesh_query_grammar.specs.Plans.{Plan, plan, is_sign}
use Rattle.mesh_query_grammar.specs.Machine.{Cause, syntax, nesting, begins}
use Rattle.mesh_query.specs.Counts.{Goes, Reads, GoesWrong}

-- nothing is read by the rule from the list on: the fault names the token at which it fails, or memory is out
abbrev pub Failed : Bool → ℕ → Rule → List Token → List Token → ℕ → ℕ → Fault → Type 0
Failed i n r s ts before now fault.Memory = Unit {0}
Failed i n r s ts before now (fault.Syntax q) = GoesWrong i syntax n r (plan r) s (drop q ts) before now
Failed i n r s ts before now fault.Nesting = (e : List Token) × GoesWrong i nesting n r (plan r) s e before now

-- a phrase that began with the list is read from a place up to another, or there is none
abbrev pub AnswersFrom : Bool → ℕ → (r : Rule) → List Token → List Token → ℕ → ℕ → ℕ → Result (Tree r × ℕ) Fault → Type 0
AnswersFrom i n r s ts from before now result = MatchResult result (λ x. (from ≤ x.1) × Reads i n r x.0 s (drop x.1 ts) before now) (Failed i n r s ts before now)

-- a phrase is read from a place up to another, or there is none
abbrev pub Answers : Bool → ℕ → (r : Rule) → List Token → ℕ → ℕ → ℕ → Result (Tree r × ℕ) Fault → Type 0
Answers i n r ts from before now result = AnswersFrom i n r (drop from ts) ts from before now result

-- What is read and what fails from one state on does so from an earlier one. With so many nodes left at the earlier
-- one, so many are left now.
pub record Onward (i : Bool) (n : ℕ) (r : Rule) (s : List Token) (q : Plan r) (m : List Token) (before now : ℕ) : Type 0 where
  pub reads_on : (t : Tree r) (e : List Token) (left : ℕ) → Goes i n r q t m e now left → Reads i n r t s e before left
  pub fails_on : (c : Cause) (e : List Token) (left : ℕ) → GoesWrong i c n r q m e now left → GoesWrong i c n r (plan r) s e before left

-- what is left of a phrase is read, or there is none
abbrev pub AnswersOn : Bool → ℕ → (r : Rule) → Plan r → List Token → ℕ → ℕ → ℕ → Result (Tree r × ℕ) Fault → Type 0
AnswersOn i n r p ts from now after result = (s : List Token) (before : ℕ) → Onward i n r s p (drop from ts) before now → AnswersFrom i n r s ts from before after result

-- no parenthesis is opened at a place: none stands there, too much is open, or memory is out
abbrev pub IsUnopened : ℕ → List Token → ℕ → Fault → Type 0
IsUnopened depth ts at fault.Memory = Unit {0}
IsUnopened depth ts at (fault.Syntax token) = (token ≡ at) × (begins (is_sign (codes "(")) (drop at ts) ≡ false)
IsUnopened depth ts at fault.Nesting = (depth ≡ 0) × (m : List Token) × IsSign (codes "(") (drop at ts) m

-- no real day stands at a place, which is at fault
abbrev pub IsNoDay : List Token → ℕ → Fault → Type 0
IsNoDay ts at fault.Memory = Unit {0}
IsNoDay ts at (fault.Syntax token) = (token ≡ at) × ((d : ℤ) (m : List Token) → IsDay d (drop at ts) m → ⊥)
IsNoDay ts at fault.Nesting = ⊥

abbrev pub kind_calls : TokenKind → Option Function
kind_calls (Ident x) = function_of x
kind_calls _ = None

-- the function that the next token names
abbrev pub function_in : List Token → Option Function
function_in [] = None
function_in (k ∷ s) = kind_calls k.kind
