-- The lookback of a kind that is read is not too long.
use Rattle.std.proofs.Common.{◌≡◌, ℕ, zero, suc, Bool, true, false, cond, ◌||◌, not, nat_le, List, [], ◌∷◌, codes, length, take, drop, Ok, IfOk, refl, subst}
use Rattle.std.specs.Str.{bytes_eq}
use Rattle.std.specs.declared.option.Option.{Option}
use Rattle.std.specs.declared.option.Option.TheVariants.{None, Some}
use Rattle.mesh_base_values.specs.Kinds.{lookback_of}
use Rattle.mesh_query_tokens.specs.Gives.{◌>>=◌}
use Rattle.mesh_query_tokens.specs.declared.faults.ReadFault.{ReadFault}
use Rattle.mesh_query_tokens.specs.declared.tokens.Token.{Token}
use Rattle.mesh_model_statement.specs.declared.kinds.Entries.{Entries}
use Rattle.mesh_model_statement.specs.declared.kinds.KindText.{KindText}
use Rattle.mesh_model_statement.specs.declared.kinds.KindWord.{KindWord}
use Rattle.mesh_model_statement.specs.declared.kinds.KindWord.TheVariants as the_kind
use Rattle.mesh_model_statement.specs.declared.parts.Parts.{Parts}
use Rattle.mesh_query_tokens.specs.bounds.Brackets.{or_fault, value_len}
use Rattle.mesh_query_tokens.specs.bounds.Faults.{broken}
use Rattle.mesh_query_tokens.specs.bounds.Found as options
use Rattle.mesh_query_tokens.specs.bounds.Numbers.{longest_lookback, number_kind, as_lookback, lookback_number}
use Rattle.mesh_query_tokens.specs.bounds.Signs.{is_sign}
use Rattle.mesh_model_statement.specs.Faults.{bad}
use Rattle.mesh_model_statement.specs.Kinds.{kind_or_fault, first_at, path_text, time_word, is_idle, is_one_of, is_entry, formed, noted, file_named, entry_value, is_empty, entry, one_entry, entries_from, no_entries, entries_in, whole, kind_value}
use Rattle.mesh_model_statement.specs.Lookbacks.{is_short}
use Rattle.mesh_model_statement.specs.Statement.{Read, is_free, is_property, put, admitted, value_size, property, statement}
use Rattle.mesh_model_statement.specs.Values.{word, behind, name_of, unit_of, start_of, cron_value, columns_value}
use Rattle.mesh_model_statement.proofs.Held.{after, after_any, either}
use Rattle.mesh_model_statement.proofs.Kept.{stated}

abbrev Short : Entries → Type 0
Short e = nat_le e.lookback longest_lookback ≡ true

number_short : (e : Entries) (fault : ReadFault) (value : List Token) → IfOk (or_fault fault (lookback_number value) >>= λ n. Ok (record e { lookback = n })) Short
number_short e fault [] = tt
number_short e fault (k ∷ l ∷ ks) = tt
number_short e fault (k ∷ []) = by (number_kind k.kind)
  where
    one : (b : Bool) (n : ℕ) → nat_le n longest_lookback ≡ b → IfOk (or_fault fault (cond b (Some n) None) >>= λ n. Ok (record e { lookback = n })) Short
    one true n is = is
    one false n is = tt

    by : (o : Option ℕ) → IfOk (or_fault fault (options.◌>>=◌ o as_lookback) >>= λ n. Ok (record e { lookback = n })) Short
    by None = tt
    by (Some n) = one (nat_le n longest_lookback) n refl

value_short : (file : List ℕ) (e : Entries) (at : ℕ) (name : List ℕ) (value : List Token) → Short e → IfOk (entry_value file e at name value) Short
value_short file e at name value h =
    either Short (bytes_eq name (codes "path")) _ _ (after_any Short (or_fault (bad (first_at value) name) (file_named file (path_text value))) _ (λ x. h))
    (either Short (bytes_eq name (codes "time_column")) _ _ (after_any Short (or_fault (bad (first_at value) name) (time_word value)) _ (λ x. h))
    (either Short (bytes_eq name (codes "lookback")) _ _ (number_short e (bad (first_at value) name) value)
    (either Short (is_idle name value) _ _ h tt)))

entry_short : (file : List ℕ) (kind : KindWord) (e : Entries) (at : ℕ) (name : List ℕ) (value : List Token) → Short e → IfOk (entry file kind e at name value) Short
entry_short file kind e at name value h =
    either Short (not (is_entry kind name)) _ _ tt (either Short (is_one_of e.seen name || is_empty value) _ _ tt (value_short file (noted e name) at name value h))

Left : Entries × List Token → Type 0
Left r = Short r.0

one_short : (file : List ℕ) (fault : ReadFault) (kind : KindWord) (e : Entries) (ts : List Token) → Short e → IfOk (one_entry file fault kind e ts) Left
unfolding Left
one_short file fault kind e [] h = tt
one_short file fault kind e (k ∷ ks) h =
    after_any Left (or_fault fault (word k)) _ (λ name.
    after_any Left (value_len true k.end [] ks) _ (λ n.
    after Short Left (entry file kind e k.start name (take n ks)) _ (entry_short file kind e k.start name (take n ks) h) (λ more short.
    after_any Left (or_fault fault (behind (drop n ks))) _ (λ rest. short))))

from_short : (file : List ℕ) (most : ℕ) (fault : ReadFault) (kind : KindWord) (e : Entries) (ts : List Token) → Short e → IfOk (entries_from file most fault kind e ts) Short
unfolding entries_from Left
from_short file zero fault kind e [] h = h
from_short file (suc most) fault kind e [] h = h
from_short file zero fault kind e (k ∷ ks) h = tt
from_short file (suc most) fault kind e (k ∷ ks) h =
    after Left Short (one_entry file fault kind e (k ∷ ks)) _ (one_short file fault kind e (k ∷ ks) h) (λ r short. from_short file most fault kind r.0 r.1 short)

entries_short : (file : List ℕ) (fault : ReadFault) (kind : KindWord) (ts : List Token) → IfOk (entries_in file fault kind ts) Short
entries_short file fault kind [] = refl
entries_short file fault kind (p ∷ []) = tt
entries_short file fault kind (p ∷ q ∷ ks) = either Short (is_sign (codes "(") p) _ _ (from_short file (length (q ∷ ks)) fault kind no_entries (q ∷ ks) refl) tt

abbrev Within : KindText → Type 0
Within k = nat_le (lookback_of k.kind) longest_lookback ≡ true

whole_short : (fault : ReadFault) (kind : KindWord) (e : Entries) → Short e → IfOk (whole fault kind e) Within
whole_short fault the_kind.Full e h = refl
whole_short fault the_kind.View e h = refl
whole_short fault the_kind.Seed e h = after_any Within (or_fault fault e.path) _ (λ path. refl)
whole_short fault the_kind.Incremental e h = after_any Within (or_fault fault e.time) _ (λ time. h)

kind_short : (file : List ℕ) (at : ℕ) (value : List Token) → IfOk (kind_value file at value) Within
kind_short file at [] = tt
kind_short file at (k ∷ ks) =
    let fault = bad at (codes "kind") in
    after_any Within (or_fault fault (word k)) _ (λ word.
    after_any Within (kind_or_fault at word) _ (λ named.
    after_any Within (formed fault named ks) _ (λ kind.
    after Short Within (entries_in file fault kind ks) _ (entries_short file fault kind ks) (λ entries short. whole_short fault kind entries short))))

abbrev Has : Parts → Type 0
Has p = is_short p.kind ≡ true

admitted_short : (p : Parts) (at : ℕ) (name : List ℕ) → Has p → IfOk (admitted p at name) Has
admitted_short p at name h = either Has (not (is_property name)) _ _ tt (either Has (not (is_one_of p.seen name)) _ _ h tt)

put_short : (file : List ℕ) (p : Parts) (at : ℕ) (name : List ℕ) (value : List Token) → Has p → IfOk (put file p at name value) Has
put_short file p at name value h =
    either Has (bytes_eq name (codes "name")) _ _ (after_any Has (or_fault (bad at (codes "name")) (name_of value)) _ (λ x. h))
    (either Has (bytes_eq name (codes "kind")) _ _ (after Within Has (kind_value file at value) _ (kind_short file at value) (λ x short. short))
    (either Has (bytes_eq name (codes "cron")) _ _ (after_any Has (cron_value at value) _ (λ x. h))
    (either Has (bytes_eq name (codes "interval_unit")) _ _ (after_any Has (or_fault (bad at (codes "interval_unit")) (unit_of value)) _ (λ x. h))
    (either Has (bytes_eq name (codes "start")) _ _ (after_any Has (or_fault (bad at (codes "start")) (start_of value)) _ (λ x. h))
    (either Has (bytes_eq name (codes "columns")) _ _ (after_any Has (columns_value at value) _ (λ x. h))
    (either Has (bytes_eq name (codes "audits")) _ _ h h))))))

abbrev Kept : Parts → List Token → Type 0
Kept p ts = Has p

property_short : (file : List ℕ) (p : Parts) (before : ℕ) (ts : List Token) → Has p → IfOk (property file p before ts) (λ r. Has r.parts)
property_short file p before [] h = tt
property_short file p before (k ∷ ks) h =
    let Q : Read → Type 0 = λ r. Has r.parts in
    after_any Q (or_fault (broken before) (word k)) _ (λ name.
    after Has Q (admitted p k.start name) _ (admitted_short p k.start name h) (λ known has.
    after_any Q (value_size (is_free name) k.end ks) _ (λ n.
    after Has Q (put file known (first_at ks) name (take n ks)) _ (put_short file known (first_at ks) name (take n ks) has) (λ more found. found))))

pub lookback_short : (file : List ℕ) (ts : List Token) (r : Read) → statement file ts ≡ Ok r → is_short r.parts.kind ≡ true
lookback_short file ts r e =
    stated file Kept (λ p before ts r e h. subst (λ x. IfOk x (λ r. Has r.parts)) e (property_short file p before ts h)) (λ p k ks h. h) ts r e refl
