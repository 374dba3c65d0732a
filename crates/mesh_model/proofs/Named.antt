-- A statement whose identifiers are words gives a model's name.
use Rattle.std.proofs.Common.{◌≡◌, ℕ, zero, suc, Bool, true, false, cond, ◌&&◌, not, List, [], ◌∷◌, codes, take, drop, Ok, IfOk, refl, subst}
use Rattle.std.specs.Str.{bytes_eq}
use Rattle.std.specs.declared.option.Option.{Option}
use Rattle.std.specs.declared.option.Option.TheVariants.{None, Some}
use Rattle.std.proofs.lemmas.Bool.{and_from as and_both}
use Rattle.mesh_list.proofs.Ascends.{and_left, and_right}
use Rattle.mesh_base_values.specs.Names.{is_schema}
use Rattle.mesh_base_values.specs.declared.values.Name.{Name}
use Rattle.mesh_query_tokens.specs.Gives.{◌>>=◌}
use Rattle.mesh_query_tokens.specs.declared.tokens.Token.{Token}
use Rattle.mesh_model_statement.specs.declared.parts.Parts.{Parts}
use Rattle.mesh_query_tokens.specs.bounds.Brackets.{or_fault}
use Rattle.mesh_query_tokens.specs.bounds.Faults.{broken}
use Rattle.mesh_query_tokens.specs.bounds.Found as options
use Rattle.mesh_query_tokens.specs.bounds.Signs.{is_sign}
use Rattle.mesh_model_statement.specs.Faults.{bad}
use Rattle.mesh_model_statement.specs.Kinds.{kind_value, first_at, is_one_of}
use Rattle.mesh_model_statement.specs.Statement.{Read, is_free, is_property, put, admitted, value_size, property, statement}
use Rattle.mesh_model_statement.specs.Values.{word, name_of, unit_of, start_of, cron_value, columns_value}
use Rattle.mesh_model_statement.proofs.Held.{after, after_any, either}
use Rattle.mesh_model_statement.proofs.Kept.{stated}
use Rattle.mesh_model.specs.Complete.{is_word, is_model_name}
use Rattle.mesh_model.proofs.Words.{is_word_if_any, have_words}

abbrev pub is_name_if_any : Option Name → Bool
is_name_if_any None = true
is_name_if_any (Some name) = is_model_name name

name_read : (value : List Token) → have_words value ≡ true → is_name_if_any (name_of value) ≡ true
name_read [] h = refl
name_read (s ∷ []) h = refl
name_read (s ∷ p ∷ []) h = refl
name_read (s ∷ p ∷ m ∷ x ∷ xs) h = refl
name_read (s ∷ p ∷ m ∷ []) h = by (word s) (word m) (and_left _ _ h) (and_left _ _ (and_right _ _ (and_right _ _ h)))
  where
    one : (a b : Bool) (schema model : List ℕ) → is_schema schema ≡ b → is_word schema ≡ true → is_word model ≡ true → is_name_if_any (cond (a && b) (Some (record { schema = schema; model = model })) None) ≡ true
    one true true schema model is s m = and_both _ _ s (and_both _ _ m is)
    one true false schema model is s m = refl
    one false b schema model is s m = refl

    by : (a b : Option (List ℕ)) → is_word_if_any a ≡ true → is_word_if_any b ≡ true
        → is_name_if_any (options.◌>>=◌ a (λ schema. options.◌>>=◌ b (λ model. cond (is_sign (codes ".") p && is_schema schema) (Some (record { schema = schema; model = model })) None))) ≡ true
    by None b s m = refl
    by (Some a) None s m = refl
    by (Some a) (Some b) s m = one (is_sign (codes ".") p) (is_schema a) a b refl s m

taken : (n : ℕ) (ts : List Token) → have_words ts ≡ true → have_words (take n ts) ≡ true
taken zero ts h = refl
taken (suc n) [] h = refl
taken (suc n) (t ∷ ts) h = and_both _ _ (and_left _ _ h) (taken n ts (and_right _ _ h))

dropped : (n : ℕ) (ts : List Token) → have_words ts ≡ true → have_words (drop n ts) ≡ true
dropped zero ts h = h
dropped (suc n) [] h = refl
dropped (suc n) (t ∷ ts) h = dropped n ts (and_right _ _ h)

abbrev HasName : Parts → Type 0
HasName p = is_name_if_any p.name ≡ true

admitted_named : (p : Parts) (at : ℕ) (name : List ℕ) → HasName p → IfOk (admitted p at name) HasName
admitted_named p at name h = either HasName (not (is_property name)) _ _ tt (either HasName (not (is_one_of p.seen name)) _ _ h tt)

put_named : (file : List ℕ) (p : Parts) (at : ℕ) (name : List ℕ) (value : List Token) → HasName p → have_words value ≡ true → IfOk (put file p at name value) HasName
put_named file p at name value h words =
    either HasName (bytes_eq name (codes "name")) _ _ (by (name_of value) (name_read value words))
    (either HasName (bytes_eq name (codes "kind")) _ _ (after_any HasName (kind_value file at value) _ (λ x. h))
    (either HasName (bytes_eq name (codes "cron")) _ _ (after_any HasName (cron_value at value) _ (λ x. h))
    (either HasName (bytes_eq name (codes "interval_unit")) _ _ (after_any HasName (or_fault (bad at (codes "interval_unit")) (unit_of value)) _ (λ x. h))
    (either HasName (bytes_eq name (codes "start")) _ _ (after_any HasName (or_fault (bad at (codes "start")) (start_of value)) _ (λ x. h))
    (either HasName (bytes_eq name (codes "columns")) _ _ (after_any HasName (columns_value at value) _ (λ x. h))
    (either HasName (bytes_eq name (codes "audits")) _ _ h h))))))
  where
    by : (o : Option Name) → is_name_if_any o ≡ true → IfOk (or_fault (bad at (codes "name")) o >>= λ name. Ok (record p { name = Some name })) HasName
    by None is = tt
    by (Some name) is = is

-- the name that is known, and the identifiers that are left
abbrev Left : Parts → List Token → Type 0
Left p ts = HasName p × (have_words ts ≡ true)

property_named : (file : List ℕ) (p : Parts) (before : ℕ) (ts : List Token) → Left p ts → IfOk (property file p before ts) (λ r. Left r.parts r.rest)
property_named file p before [] h = tt
property_named file p before (k ∷ ks) h =
    let Q : Read → Type 0 = λ r. Left r.parts r.rest in
    let words : have_words ks ≡ true = and_right _ _ h.1 in
    after_any Q (or_fault (broken before) (word k)) _ (λ name.
    after HasName Q (admitted p k.start name) _ (admitted_named p k.start name h.0) (λ known has.
    after_any Q (value_size (is_free name) k.end ks) _ (λ n.
    after HasName Q (put file known (first_at ks) name (take n ks)) _ (put_named file known (first_at ks) name (take n ks) has (taken n ks words)) (λ more found.
    (found, dropped n ks words)))))

pub statement_named : (file : List ℕ) (ts : List Token) (r : Read) → have_words ts ≡ true → statement file ts ≡ Ok r → is_name_if_any r.parts.name ≡ true
statement_named file ts r words e =
    (stated file Left (λ p before ts r e h. subst (λ x. IfOk x (λ r. Left r.parts r.rest)) e (property_named file p before ts h)) (λ p k ks h. (h.0, and_right _ _ h.1)) ts r e (refl, words)).0
