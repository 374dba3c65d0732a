-- Columns, one after the other.
use Rattle.std.proofs.Common.{◌≡◌, ℕ, zero, suc, ◌+◌, ◌-◌, ◌<◌, ◌≤◌, List, [], ◌∷◌, ◌++◌, length, refl, sym, ◌∙◌, ap, arith}
use Rattle.std.specs.declared.option.Option.{Option}
use Rattle.std.specs.declared.option.Option.TheVariants.{None, Some}
use Rattle.mesh_base_values.specs.declared.values.Column.{Column}
use Rattle.mesh_query_tokens.specs.declared.tokens.Token.{Token}
use Rattle.mesh_query_tokens.specs.bounds.Found.{◌>>=◌}
use Rattle.mesh_model_statement.specs.Values.{one_column, columns_from}

left : (n i : ℕ) → i < n → n - i ≡ suc (n - (i + 1))
left n i lt = omega arith

none_left : (n i : ℕ) → n ≤ i → n - i ≡ 0
none_left n i le = omega arith

one : (most : ℕ) (front : List Column) (ts : List Token) → 0 < length ts
    → columns_from (suc most) front ts ≡ (one_column ts >>= λ r. columns_from most (front ++ r.0 ∷ []) r.1)
unfolding columns_from
one most front [] lt = absurd (omega arith)
one most front (k ∷ ks) lt = refl

pub all_read : (most : ℕ) (front : List Column) (ts : List Token) (total : Option (List Column)) → length ts ≡ 0 → columns_from most front ts ≡ total → Some front ≡ total
unfolding columns_from
all_read zero front [] total none so_far = so_far
all_read (suc most) front [] total none so_far = so_far
all_read most front (k ∷ ks) total none so_far = absurd (omega (none, arith))

pub column_read : (n i : ℕ) (front : List Column) (c : Column) (ts rest : List Token) (total : Option (List Column)) → i < n → 0 < length ts → Some (c, rest) ≡ one_column ts
    → columns_from (n - i) front ts ≡ total → columns_from (n - (i + 1)) (front ++ c ∷ []) rest ≡ total
column_read n i front c ts rest total lt some is so_far =
    sym (ap (λ m. columns_from m front ts) (left n i lt) ∙ one (n - (i + 1)) front ts some
    ∙ ap (λ (o : Option (Column × List Token)). o >>= λ r. columns_from (n - (i + 1)) (front ++ r.0 ∷ []) r.1) (sym is)) ∙ so_far

pub column_missing : (n i : ℕ) (front : List Column) (ts : List Token) (total : Option (List Column)) → i < n → 0 < length ts → None ≡ one_column ts
    → columns_from (n - i) front ts ≡ total → None ≡ total
column_missing n i front ts total lt some is so_far =
    sym (ap (λ m. columns_from m front ts) (left n i lt) ∙ one (n - (i + 1)) front ts some
    ∙ ap (λ (o : Option (Column × List Token)). o >>= λ r. columns_from (n - (i + 1)) (front ++ r.0 ∷ []) r.1) (sym is)) ∙ so_far

pub too_many : (n i : ℕ) (front : List Column) (ts : List Token) (total : Option (List Column)) → n ≤ i → 0 < length ts → columns_from (n - i) front ts ≡ total → None ≡ total
unfolding columns_from
too_many n i front [] total le some so_far = absurd (omega arith)
too_many n i front (k ∷ ks) total le some so_far = sym (ap (λ m. columns_from m front (k ∷ ks)) (none_left n i le)) ∙ so_far
