-- What is left of some rules when their beginnings have been read.
use Rattle.std.specs.Prelude.{ℕ, ◌∷◌, [], codes, Bool, true, false}
use Rattle.mesh_query_grammar.specs.declared.surface.signs.Function.{Function}
use Rattle.mesh_query_grammar.specs.declared.surface.expressions.Test.TheVariants as the_test
use Rattle.mesh_query_grammar.specs.declared.surface.expressions.Primary.TheVariants as the_primary
use Rattle.mesh_query_grammar.specs.declared.surface.expressions.Args.TheVariants as the_args
use Rattle.mesh_query_grammar.specs.Rules.{tested, ranged, cat, exprs, value, named, arguments, expr}
use Rattle.mesh_query_grammar.specs.Plans.{Plan, done, accept, read, nest, take, said, literal_plan, is_word, is_sign, is_name}

-- behind IS
abbrev pub behind_is : Plan tested
behind_is = accept (is_word (codes "not")) (λ j. take (is_word (codes "null")) (λ i. done (the_test.IsNull true))) (take (is_word (codes "null")) (λ j. done (the_test.IsNull false)))

-- behind BETWEEN
abbrev pub behind_between : (g : Bool) → Plan (ranged g)
behind_between g = read cat (λ a. take (is_word (codes "and")) (λ j. read cat (λ b. done (the_test.Between g a b))))

-- behind IN
abbrev pub behind_in : (g : Bool) → Plan (ranged g)
behind_in g = take (is_sign (codes "(")) (λ j. nest exprs (λ xs. take (is_sign (codes ")")) (λ i. done (the_test.OneOf g xs))))

-- a value that no parenthesis, CASE or CAST begins
abbrev pub unopened : ℕ → Plan value
unopened at = accept is_name (λ k. read (named at (said k)) done) (literal_plan at)

-- TRUE, FALSE and NULL
abbrev pub word_plan : ℕ → Plan value
word_plan at =
    accept (is_word (codes "true")) (λ k. done (the_primary.Truth at true))
    (accept (is_word (codes "false")) (λ k. done (the_primary.Truth at false))
    (take (is_word (codes "null")) (λ k. done (the_primary.Null at))))

-- one argument alone
abbrev pub one_alone : (f : Function) → ℕ → Plan (arguments f)
one_alone f at = read expr (λ x. done (the_args.List at (x ∷ [])))
