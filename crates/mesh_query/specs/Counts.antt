-- How many nodes of an expression are left when reading has come so far. A node is met where the first token stands
-- that shows it. An expression begins with one node more than it may have, so that none is left where it has too
-- many. Behind a query as many have been met as its tree has: that is a law of this crate.
use Rattle.std.specs.Prelude.{◌≡◌, ℕ, ◌+◌, ◌-◌, List, codes, Bool, true, false, ◌||◌, if◌then◌else◌, nat_le}
use Rattle.mesh_query_tokens.specs.declared.tokens.Token.{Token}
use Rattle.mesh_query_tokens.specs.declared.tokens.TokenKind.{TokenKind}
use Rattle.mesh_query_tokens.specs.declared.tokens.TokenKind.TheVariants.{Sign}
use Rattle.mesh_query_grammar.specs.Rules.{Rule, Tree, expr, more_ors, more_ands, negation, tested, ranged, more_cats, more_sums, more_products, signed, more_casts, value, case, cast, operand}
use Rattle.mesh_query_grammar.specs.Plans.{Plan, plan, kind_is_word}
use Rattle.mesh_query_grammar.specs.Machine.{Runs, ends, accepts, rejects, sees, misses, notes, reads, nests, days, stars, starless, Cause, Fails, fails_here, fails_deep, fails_day, fails_behind_day, fails_after, fails_without, fails_seen, fails_missed, fails_noted, fails_first, fails_then, fails_inside, fails_behind, fails_starred, fails_starless}
use Rattle.mesh_query.specs.Sizes.{most_nodes}

abbrev pub kind_is_a_sign : TokenKind → Bool
kind_is_a_sign (Sign x) = true
kind_is_a_sign _ = false

-- the tokens that are nodes, by the rule that takes them: operators, IS, BETWEEN, IN, and what a value begins with
abbrev pub is_node : Rule → TokenKind → Bool
is_node (more_ors at xs) kind = true
is_node (more_ands at xs) kind = true
is_node tested kind = kind_is_a_sign kind || kind_is_word (codes "is") kind
is_node (ranged g) kind = kind_is_word (codes "between") kind || kind_is_word (codes "in") kind
is_node (more_cats at xs) kind = true
is_node (more_sums at x xs) kind = true
is_node (more_products at x xs) kind = true
is_node (more_casts at v ks) kind = kind_is_a_sign kind
is_node value kind = true
is_node _ kind = false

-- the nodes that are met where one rule goes over to another: NOT, a minus sign and CASE, which have to be opened
-- first, and CAST
abbrev pub opens_node : Rule → Rule → Bool
opens_node negation negation = true
opens_node signed signed = true
opens_node case operand = true
opens_node value cast = true
opens_node _ _ = false

-- one node is met
abbrev pub less : Bool → ℕ → ℕ
less true left = left - 1
less false left = left

-- an expression begins; where one before had too many nodes, none is left any more
abbrev pub anew : ℕ → ℕ
anew left = if nat_le 1 left then most_nodes + 1 else 0

-- a whole expression is one that isn't within another
abbrev pub begun : Bool → Rule → ℕ → ℕ
begun false expr left = anew left
begun _ _ left = left

-- within an expression
abbrev pub inside : Bool → Rule → Bool
inside true r = true
inside false expr = true
inside false _ = false

-- what is left where a rule goes over to another
abbrev pub entered : Bool → Rule → Rule → ℕ → ℕ
entered i r o left = begun i o (less (opens_node r o) left)

-- what is left behind a run
abbrev pub left_behind : Bool → {n : ℕ} {r : Rule} {p : Plan r} {t : Tree r} {s e : List Token} → Runs n r p t s e → ℕ → ℕ
left_behind i ends left = left
left_behind i (accepts {r = r} {k = k} h d) left = left_behind i d (less (is_node r k.kind) left)
left_behind i (rejects h d) left = left_behind i d left
left_behind i (sees h d) left = left_behind i d left
left_behind i (misses h d) left = left_behind i d left
left_behind i (notes d) left = left_behind i d left
left_behind i (reads {r = r} {o = o} d g) left = left_behind i g (left_behind (inside i o) d (entered i r o left))
left_behind i (nests {r = r} {o = o} h d g) left = left_behind i g (left_behind (inside i o) d (entered i r o left))
left_behind i (days c h d) left = left_behind i d left
left_behind i (stars h d) left = left_behind i d left
left_behind i (starless h d) left = left_behind i d left

-- what is left where a run fails
abbrev pub left_at : Bool → {c : Cause} {n : ℕ} {r : Rule} {p : Plan r} {s e : List Token} → Fails c n r p s e → ℕ → ℕ
left_at i fails_here left = left
left_at i (fails_deep h) left = left
left_at i (fails_day h) left = left
left_at i (fails_behind_day c h d) left = left_at i d left
left_at i (fails_after {r = r} {k = k} h d) left = left_at i d (less (is_node r k.kind) left)
left_at i (fails_without h d) left = left_at i d left
left_at i (fails_seen h d) left = left_at i d left
left_at i (fails_missed h d) left = left_at i d left
left_at i (fails_noted d) left = left_at i d left
left_at i (fails_first {r = r} {o = o} d) left = left_at (inside i o) d (entered i r o left)
left_at i (fails_then {r = r} {o = o} d g) left = left_at i g (left_behind (inside i o) d (entered i r o left))
left_at i (fails_inside {r = r} {o = o} h d) left = left_at (inside i o) d (entered i r o left)
left_at i (fails_behind {r = r} {o = o} h d g) left = left_at i g (left_behind (inside i o) d (entered i r o left))
left_at i (fails_starred h d) left = left_at i d left
left_at i (fails_starless h d) left = left_at i d left

-- what is left of a phrase is read, with so many nodes left before it and behind it
abbrev pub Goes : Bool → ℕ → (r : Rule) → Plan r → Tree r → List Token → List Token → ℕ → ℕ → Type 0
Goes i n r p t s e before now = (d : Runs n r p t s e) × (left_behind i d before ≡ now)

-- a phrase is read
abbrev pub Reads : Bool → ℕ → (r : Rule) → Tree r → List Token → List Token → ℕ → ℕ → Type 0
Reads i n r t s e before now = Goes i n r (plan r) t s e before now

-- what is left of a phrase isn't read, with so many nodes left before it and where it fails
abbrev pub GoesWrong : Bool → Cause → ℕ → (r : Rule) → Plan r → List Token → List Token → ℕ → ℕ → Type 0
GoesWrong i c n r p s e before now = (d : Fails c n r p s e) × (left_at i d before ≡ now)
