-- What is left of a file's tokens, and the name that was read.
use Rattle.std.proofs.Common.{◌≡◌, ℕ, ◌-◌, Bool, true, false, cond, not, List, [], ◌∷◌, ◌++◌, codes, length, take, drop, Result, Ok, Err, refl, sym, ◌∙◌, ap, subst, arith}
use Rattle.std.proofs.Math.Seq.{drop-append_seam}
use Rattle.std.proofs.lemmas.List.{append_assoc, take-append-drop, length-append}
use Rattle.std.specs.Str.{bytes_eq}
use Rattle.std.specs.declared.option.Option.{Option}
use Rattle.std.specs.declared.option.Option.TheVariants.{None, Some}
use Rattle.mesh_base_values.specs.declared.values.Name.{Name}
use Rattle.mesh_query_tokens.specs.Gives.{◌>>=◌}
use Rattle.mesh_query_tokens.specs.declared.faults.ReadFault.{ReadFault}
use Rattle.mesh_query_tokens.specs.declared.tokens.Token.{Token}
use Rattle.mesh_model_statement.specs.declared.parts.Parts.{Parts}
use Rattle.mesh_query_tokens.specs.bounds.Brackets.{or_fault}
use Rattle.mesh_query_tokens.specs.bounds.Faults.{broken}
use Rattle.mesh_model_statement.specs.Faults.{bad, unknown, provided}
use Rattle.mesh_model_statement.specs.Kinds.{kind_value, first_at, is_one_of}
use Rattle.mesh_model_statement.specs.Named.{has_schema}
use Rattle.mesh_model_statement.specs.Statement.{Read, noted, is_free, is_property, put_name, put_audits, put, admitted, end_of, value_size, property, statement}
use Rattle.mesh_model_statement.specs.Values.{word, name_of, unit_of, start_of, cron_value, columns_value}
use Rattle.mesh_model_statement.proofs.Kept.{bound, stated}
use Rattle.mesh_model_statement.proofs.Schemas.{schema_read}

-- the steps of a property
pub record Steps (file : List ℕ) (p : Parts) (k : Token) (ks : List Token) (r : Read) : Type 0 where
  pub name : List ℕ
  pub known : Parts
  pub n : ℕ
  pub admits : admitted p k.start name ≡ Ok known
  pub puts : put file known (first_at ks) name (take n ks) ≡ Ok r.parts
  pub rests : drop n ks ≡ r.rest

steps : (file : List ℕ) (p : Parts) (before : ℕ) (k : Token) (ks : List Token) (r : Read) → property file p before (k ∷ ks) ≡ Ok r → Steps file p k ks r
steps file p before k ks r e =
    let last : ℕ → Parts → Result Read ReadFault = λ n more. Ok (record { parts = more; before = end_of k.end (take n ks); rest = drop n ks }) in
    let value : List ℕ → Parts → ℕ → Result Read ReadFault = λ name known n. put file known (first_at ks) name (take n ks) >>= λ more. last n more in
    let behind : List ℕ → Parts → Result Read ReadFault = λ name known. value_size (is_free name) k.end ks >>= λ n. value name known n in
    let name = bound (or_fault (broken before) (word k)) (λ name. admitted p k.start name >>= λ known. behind name known) r e in
    let known = bound (admitted p k.start name.0) (λ known. behind name.0 known) r name.2 in
    let some = bound (value_size (is_free name.0) k.end ks) (λ n. value name.0 known.0 n) r known.2 in
    let more = bound (put file known.0 (first_at ks) name.0 (take some.0 ks)) (λ more. last some.0 more) r some.2 in
    let same : (record { parts = more.0; before = end_of k.end (take some.0 ks); rest = drop some.0 ks }) ≡ r = cc more.2 in
    record {
      name = name.0;
      known = known.0;
      n = some.0;
      admits = known.1;
      puts = more.1 ∙ ap (λ (r : Read). Ok r.parts) same;
      rests = ap (λ (r : Read). r.rest) same;
    }

-- some tokens stand in front of what is left
Left : List Token → Parts → List Token → Type 0
Left ts p rest = (front : List Token) × (ts ≡ front ++ rest)

left_by_property : (ts : List Token) (file : List ℕ) (p : Parts) (before : ℕ) (ks : List Token) (r : Read) → property file p before ks ≡ Ok r → Left ts p ks → Left ts r.parts r.rest
unfolding Left
left_by_property ts file p before [] r e h = cc e
left_by_property ts file p before (k ∷ ks) r e h =
    let s = steps file p before k ks r e in (
      h.0 ++ k ∷ take s.n ks,
      h.1 ∙ ap (λ l. h.0 ++ k ∷ l) (sym (take-append-drop s.n ks)) ∙ sym (append_assoc h.0 (k ∷ take s.n ks) (drop s.n ks)) ∙ ap (λ l. (h.0 ++ k ∷ take s.n ks) ++ l) s.rests,
    )

left_by_sign : (ts : List Token) (p : Parts) (k : Token) (ks : List Token) → Left ts p (k ∷ ks) → Left ts p ks
unfolding Left
left_by_sign ts p k ks h = (h.0 ++ k ∷ [], h.1 ∙ sym (append_assoc h.0 (k ∷ []) ks))

seam : (front rest : List Token) → drop (length (front ++ rest) - length rest) (front ++ rest) ≡ rest
seam front rest =
    let e : length (front ++ rest) - length rest ≡ length front = omega (length-append front rest, arith) in
    ap (λ n. drop n (front ++ rest)) e ∙ drop-append_seam front rest

pub rest_is_left : (file : List ℕ) (ts : List Token) (r : Read) → statement file ts ≡ Ok r → drop (length ts - length r.rest) ts ≡ r.rest
unfolding Left
rest_is_left file ts r e =
    let h = stated file (Left ts) (left_by_property ts file) (left_by_sign ts) ts r e ([], refl) in
    subst (λ l. drop (length l - length r.rest) l ≡ r.rest) (sym h.1) (seam h.0 r.rest)

-- a name that is read has a schema
Named : Parts → List Token → Type 0
Named p ts = has_schema p.name ≡ true

provided_is : {A : Type 0} (b : Bool) (x y : A) (fault : ReadFault) → provided b x fault ≡ Ok y → x ≡ y
provided_is true x y fault e = cc e
provided_is false x y fault e = cc e

admits_name : (p known : Parts) (at : ℕ) (name : List ℕ) → admitted p at name ≡ Ok known → p.name ≡ known.name
admits_name p known at name e = by (is_property name) e
  where
    by : (b : Bool) → cond (not b) (Err (unknown at name)) (provided (not (is_one_of p.seen name)) (noted p name) (bad at name)) ≡ Ok known → p.name ≡ known.name
    by true f = ap (λ (q : Parts). q.name) (provided_is (not (is_one_of p.seen name)) (noted p name) known (bad at name) f)
    by false f = cc f

chosen : (Q : Parts → Type 0) (b : Bool) (x y : Result Parts ReadFault) (m : Parts) → (x ≡ Ok m → Q m) → (y ≡ Ok m → Q m) → cond b x y ≡ Ok m → Q m
chosen Q true x y m f g e = f e
chosen Q false x y m f g e = g e

-- other properties leave the name
leaves : {A : Type 0} (r : Result A ReadFault) (next : A → Parts) (p m : Parts) → ((x : A) → p.name ≡ (next x).name) → (r >>= λ x. Ok (next x)) ≡ Ok m → p.name ≡ m.name
leaves (Ok x) next p m same e = let is : next x ≡ m = cc e in same x ∙ ap (λ (q : Parts). q.name) is
leaves (Err f) next p m same e = cc e

put_schema : (p m : Parts) (at : ℕ) (value : List Token) → put_name p at value ≡ Ok m → has_schema m.name ≡ true
put_schema p m at value e = by (name_of value) refl e
  where
    by : (o : Option Name) → name_of value ≡ o → (or_fault (bad at (codes "name")) o >>= λ name. Ok (record p { name = Some name })) ≡ Ok m → has_schema m.name ≡ true
    by None is f = cc f
    by (Some name) is f = let same : (record p { name = Some name }) ≡ m = cc f in subst (λ (q : Parts). has_schema q.name ≡ true) same (schema_read value name is)

keeps : (p m : Parts) → has_schema p.name ≡ true → p.name ≡ m.name → has_schema m.name ≡ true
keeps p m h e = sym (ap has_schema e) ∙ h

put_keeps : (file : List ℕ) (p m : Parts) (at : ℕ) (name : List ℕ) (value : List Token) → has_schema p.name ≡ true → put file p at name value ≡ Ok m → has_schema m.name ≡ true
put_keeps file p m at name value h e =
    let Q : Parts → Type 0 = λ (m : Parts). has_schema m.name ≡ true in
    chosen Q (bytes_eq name (codes "name")) _ _ m (put_schema p m at value)
    (chosen Q (bytes_eq name (codes "kind")) _ _ m (λ f. keeps p m h (leaves (kind_value file at value) (λ kind. record p { kind = Some kind }) p m (λ x. refl) f))
    (chosen Q (bytes_eq name (codes "cron")) _ _ m (λ f. keeps p m h (leaves (cron_value at value) (λ cron. record p { cron = Some cron }) p m (λ x. refl) f))
    (chosen Q (bytes_eq name (codes "interval_unit")) _ _ m (λ f. keeps p m h (leaves (or_fault (bad at (codes "interval_unit")) (unit_of value)) (λ unit. record p { unit = Some unit }) p m (λ x. refl) f))
    (chosen Q (bytes_eq name (codes "start")) _ _ m (λ f. keeps p m h (leaves (or_fault (bad at (codes "start")) (start_of value)) (λ start. record p { start = Some start }) p m (λ x. refl) f))
    (chosen Q (bytes_eq name (codes "columns")) _ _ m (λ f. keeps p m h (leaves (columns_value at value) (λ columns. record p { columns = columns }) p m (λ x. refl) f))
    (chosen Q (bytes_eq name (codes "audits")) _ _ m (λ f. let same : put_audits p value ≡ m = cc f in keeps p m h (ap (λ (q : Parts). q.name) same))
    (λ f. let same : p ≡ m = cc f in keeps p m h (ap (λ (q : Parts). q.name) same)))))))) e

named_by_property : (file : List ℕ) (p : Parts) (before : ℕ) (ks : List Token) (r : Read) → property file p before ks ≡ Ok r → Named p ks → Named r.parts r.rest
unfolding Named
named_by_property file p before [] r e h = cc e
named_by_property file p before (k ∷ ks) r e h =
    let s = steps file p before k ks r e in
    put_keeps file s.known r.parts (first_at ks) s.name (take s.n ks) (keeps p s.known h (admits_name p s.known k.start s.name s.admits)) s.puts

pub name_is_proper : (file : List ℕ) (ts : List Token) (r : Read) → statement file ts ≡ Ok r → has_schema r.parts.name ≡ true
unfolding Named
name_is_proper file ts r e = stated file Named (named_by_property file) (λ p k ks h. h) ts r e refl
