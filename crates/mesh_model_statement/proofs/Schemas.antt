-- A name that is read has a schema.
use Rattle.std.proofs.Common.{◌≡◌, ℕ, Bool, true, false, cond, ◌&&◌, List, [], ◌∷◌, codes, refl, subst}
use Rattle.std.specs.declared.option.Option.{Option}
use Rattle.std.specs.declared.option.Option.TheVariants.{None, Some}
use Rattle.mesh_base_values.specs.Names.{is_schema}
use Rattle.mesh_base_values.specs.declared.values.Name.{Name}
use Rattle.mesh_query_tokens.specs.declared.tokens.Token.{Token}
use Rattle.mesh_query_tokens.specs.bounds.Found.{◌>>=◌}
use Rattle.mesh_query_tokens.specs.bounds.Signs.{is_sign}
use Rattle.mesh_model_statement.specs.Values.{word, name_of}

pub schema_read : (value : List Token) (name : Name) → name_of value ≡ Some name → is_schema name.schema ≡ true
schema_read [] name e = cc e
schema_read (s ∷ []) name e = cc e
schema_read (s ∷ p ∷ []) name e = cc e
schema_read (s ∷ p ∷ m ∷ x ∷ xs) name e = cc e
schema_read (s ∷ p ∷ m ∷ []) name e = by (word s) (word m) e
  where
    one : (a b : Bool) (schema model : List ℕ) → is_schema schema ≡ b → cond (a && b) (Some (record { schema = schema; model = model })) None ≡ Some name → is_schema name.schema ≡ true
    one true true schema model is f = let same : (record { schema = schema; model = model }) ≡ name = cc f in subst (λ (n : Name). is_schema n.schema ≡ true) same is
    one true false schema model is f = cc f
    one false b schema model is f = cc f

    by : (a b : Option (List ℕ)) → (a >>= λ schema. b >>= λ model. cond (is_sign (codes ".") p && is_schema schema) (Some (record { schema = schema; model = model })) None) ≡ Some name → is_schema name.schema ≡ true
    by None b f = cc f
    by (Some a) None f = cc f
    by (Some a) (Some b) f = one (is_sign (codes ".") p) (is_schema a) a b refl f
