-- In a group a part that equals a key has the value that it has for each of the group's rows.
use Rattle.std.proofs.Common.{◌≡◌, true, List, [], ◌∷◌, map, refl, ap, sym, ◌∙◌}
use Rattle.std.specs.List.{All, Contains, filter}
use Rattle.std.proofs.lemmas.List.Elements.{All-nil, All-cons, All-map, All-weaker, filter_passes}
use Rattle.mesh_base_values.specs.Order.{row_order}
use Rattle.mesh_base_values.specs.declared.times.Bounds.{Bounds}
use Rattle.mesh_base_values.specs.declared.values.Cell.{Cell}
use Rattle.mesh_base_values.specs.declared.values.Column.{Column}
use Rattle.mesh_base_values.proofs.Total.{row_exact}
use Rattle.mesh_base_values.proofs.Equals.{equal_of}
use Rattle.mesh_base.specs.declared.expressions.Expr.{Expr}
use Rattle.mesh_spec_query.specs.Aggregates.{distinct}
use Rattle.mesh_spec_query.specs.Ev.{Ev}
use Rattle.mesh_spec_query.specs.Sel.{Group, Joined, group_of, group_scope, groups, key_list, row_scope, same_row}
use Rattle.mesh_spec_query.proofs.Nodes.{of_key}

module _ (u : Bounds) (columns : List (List Column)) where
  -- each row of a group has its key values
  abbrev HasItsKeys : List Expr → Group → Type 0
  HasItsKeys keys g = All (λ row. g.key_values ≡ key_list u columns keys row) g.rows

  of_keys : (keys : List Expr) (rows : List Joined) (v : List Cell) → HasItsKeys keys (group_of u columns keys rows v)
  of_keys keys rows v =
      All-weaker (λ row. same_row v (key_list u columns keys row) ≡ true) (λ row. v ≡ key_list u columns keys row)
      (λ row t. sym (row_exact (key_list u columns keys row) v (equal_of (row_order (key_list u columns keys row) v) t)))
      (filter (λ row. same_row v (key_list u columns keys row)) rows) (filter_passes (λ row. same_row v (key_list u columns keys row)) rows)

  each_has : (keys : List Expr) (rows : List Joined) → All (HasItsKeys keys) (groups u columns keys rows)
  each_has [] rows = All-cons (HasItsKeys []) (record { key_values = []; rows = rows }) [] (λ k d l. refl) (All-nil (HasItsKeys []))
  each_has (e ∷ es) rows =
      All-map (HasItsKeys (e ∷ es)) (group_of u columns (e ∷ es) rows) (distinct same_row (map (key_list u columns (e ∷ es)) rows))
      (λ k d l. of_keys (e ∷ es) rows _)

  pub of_group : (keys : List Expr) (rows : List Joined)
      → All (λ (g : Group). All (λ row. (e : Expr) → Contains keys e → Ev e (group_scope u columns keys g) ≡ Ev e (row_scope u columns row)) g.rows) (groups u columns keys rows)
  of_group keys rows =
      All-weaker (HasItsKeys keys) (λ (g : Group). All (λ row. (e : Expr) → Contains keys e → Ev e (group_scope u columns keys g) ≡ Ev e (row_scope u columns row)) g.rows)
      (λ g h. All-weaker (λ row. g.key_values ≡ key_list u columns keys row) (λ row. (e : Expr) → Contains keys e → Ev e (group_scope u columns keys g) ≡ Ev e (row_scope u columns row))
      (λ row is e k. ap (λ values. Ev e (group_scope u columns keys (record { key_values = values; rows = g.rows }))) is ∙ of_key u columns keys row g.rows e k) g.rows h)
      (groups u columns keys rows) (each_has keys rows)
