-- What each property and each sign keeps, a statement keeps.
use Rattle.std.proofs.Common.{◌≡◌, ℕ, zero, suc, Bool, true, false, cond, List, [], ◌∷◌, codes, length, Result, Ok, Err, refl, subst}
use Rattle.mesh_query_tokens.specs.Gives.{◌>>=◌}
use Rattle.mesh_query_tokens.specs.declared.faults.ReadFault.{ReadFault}
use Rattle.mesh_query_tokens.specs.declared.tokens.Token.{Token}
use Rattle.mesh_model_statement.specs.declared.parts.Parts.{Parts}
use Rattle.mesh_query_tokens.specs.bounds.Faults.{broken}
use Rattle.mesh_query_tokens.specs.bounds.Signs.{is_sign}
use Rattle.mesh_model_statement.specs.Faults.{provided, is_word}
use Rattle.mesh_model_statement.specs.Statement.{Read, no_parts, property, expect, begins, closes, goes_on, one_property, properties, model_word, statement}

pub bound : {A B : Type 0} (r : Result A ReadFault) (next : A → Result B ReadFault) (y : B) → (r >>= next) ≡ Ok y → (x : A) × (r ≡ Ok x) × (next x ≡ Ok y)
bound (Ok x) next y e = (x, refl, e)
bound (Err f) next y e = cc e

module _ (file : List ℕ) (P : Parts → List Token → Type 0)
    (by_property : (p : Parts) (before : ℕ) (ts : List Token) (r : Read) → property file p before ts ≡ Ok r → P p ts → P r.parts r.rest)
    (by_sign : (p : Parts) (k : Token) (ks : List Token) → P p (k ∷ ks) → P p ks) where
  after : (b : Bool) (p : Parts) (k : Token) (ks : List Token) (fault : ReadFault) (r : Read) → provided b (record { parts = p; before = k.end; rest = ks }) fault ≡ Ok r → P p (k ∷ ks) → P r.parts r.rest
  after true p k ks fault r e h = let same : (record { parts = p; before = k.end; rest = ks }) ≡ r = cc e in subst (λ (r : Read). P r.parts r.rest) same (by_sign p k ks h)
  after false p k ks fault r e h = cc e

  stood : (b : Bool) (p : Parts) (k : Token) (ks : List Token) (fault : ReadFault) (r : Read) → (provided b (k.end, ks) fault >>= λ (s : ℕ × List Token). Ok (record { parts = p; before = s.0; rest = s.1 })) ≡ Ok r → P p (k ∷ ks) → P r.parts r.rest
  stood true p k ks fault r e h = after true p k ks fault r e h
  stood false p k ks fault r e h = cc e

  expected : (sign : List ℕ) (p : Parts) (before : ℕ) (ts : List Token) (r : Read) → expect sign p before ts ≡ Ok r → P p ts → P r.parts r.rest
  expected sign p before [] r e h = cc e
  expected sign p before (k ∷ ks) r e h = stood (is_sign sign k) p k ks (broken before) r e h

  closed : (r : Read) (s : Bool × Read) → closes r ≡ Ok s → P r.parts r.rest → P s.1.parts s.1.rest
  closed r s e h =
      let c = bound (expect (codes ")") r.parts r.before r.rest) (λ c. Ok (true, c)) s e in
      let same : (true, c.0) ≡ s = cc c.2 in
      subst (λ (s : Bool × Read). P s.1.parts s.1.rest) same (expected (codes ")") r.parts r.before r.rest c.0 c.1 h)

  then_closed : (b : Bool) (c : Read) (s : Bool × Read) → cond b (closes c) (Ok (false, c)) ≡ Ok s → P c.parts c.rest → P s.1.parts s.1.rest
  then_closed true c s e h = closed c s e h
  then_closed false c s e h = let same : (false, c) ≡ s = cc e in subst (λ (s : Bool × Read). P s.1.parts s.1.rest) same h

  went_on : (r : Read) (s : Bool × Read) → goes_on r ≡ Ok s → P r.parts r.rest → P s.1.parts s.1.rest
  went_on r s e h =
      let c = bound (expect (codes ",") r.parts r.before r.rest) (λ c. cond (begins (codes ")") c.rest) (closes c) (Ok (false, c))) s e in
      then_closed (begins (codes ")") c.0.rest) c.0 s c.2 (expected (codes ",") r.parts r.before r.rest c.0 c.1 h)

  closed_or_on : (b : Bool) (r : Read) (s : Bool × Read) → cond b (closes r) (goes_on r) ≡ Ok s → P r.parts r.rest → P s.1.parts s.1.rest
  closed_or_on true r s e h = closed r s e h
  closed_or_on false r s e h = went_on r s e h

  one : (p : Parts) (before : ℕ) (ts : List Token) (s : Bool × Read) → one_property file p before ts ≡ Ok s → P p ts → P s.1.parts s.1.rest
  one p before ts s e h =
      let r = bound (property file p before ts) (λ r. cond (begins (codes ")") r.rest) (closes r) (goes_on r)) s e in
      closed_or_on (begins (codes ")") r.0.rest) r.0 s r.2 (by_property p before ts r.0 r.1 h)

  all : (most : ℕ) (p : Parts) (before : ℕ) (ts : List Token) (r : Read) → properties file most p before ts ≡ Ok r → P p ts → P r.parts r.rest
  unfolding properties
  all zero p before ts r e h = cc e
  all (suc most) p before ts r e h =
      let s = bound (one_property file p before ts) (λ (s : Bool × Read). cond s.0 (Ok s.1) (properties file most s.1.parts s.1.before s.1.rest)) r e in
      last s.0.0 s.0.1 (λ q f h. all most q.parts q.before q.rest r f h) s.2 (one p before ts s.0 s.1 h)
    where
      last : (b : Bool) (q : Read) → ((q : Read) → properties file most q.parts q.before q.rest ≡ Ok r → P q.parts q.rest → P r.parts r.rest)
          → cond b (Ok q) (properties file most q.parts q.before q.rest) ≡ Ok r → P q.parts q.rest → P r.parts r.rest
      last true q more f h = let same : q ≡ r = cc f in subst (λ (r : Read). P r.parts r.rest) same h
      last false q more f h = more q f h

  begun : (ts : List Token) (r : Read) → model_word ts ≡ Ok r → P no_parts ts → P r.parts r.rest
  begun [] r e h = cc e
  begun (k ∷ ks) r e h = after (is_word (codes "model") k) no_parts k ks (broken 0) r e h

  pub stated : (ts : List Token) (r : Read) → statement file ts ≡ Ok r → P no_parts ts → P r.parts r.rest
  stated ts r e h =
      let m = bound (model_word ts) (λ m. expect (codes "(") m.parts m.before m.rest >>= λ o. properties file (length o.rest) o.parts o.before o.rest >>= λ q. expect (codes ";") q.parts q.before q.rest) r e in
      let o = bound (expect (codes "(") m.0.parts m.0.before m.0.rest) (λ o. properties file (length o.rest) o.parts o.before o.rest >>= λ q. expect (codes ";") q.parts q.before q.rest) r m.2 in
      let q = bound (properties file (length o.0.rest) o.0.parts o.0.before o.0.rest) (λ q. expect (codes ";") q.parts q.before q.rest) r o.2 in
      expected (codes ";") q.0.parts q.0.before q.0.rest r q.2
      (all (length o.0.rest) o.0.parts o.0.before o.0.rest q.0 q.1
      (expected (codes "(") m.0.parts m.0.before m.0.rest o.0 o.1 (begun ts m.0 m.1 h)))
