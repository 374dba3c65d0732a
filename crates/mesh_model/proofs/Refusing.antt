-- A step that refuses ends the reading.
use Rattle.std.proofs.Common.{◌≡◌, ℕ, ◌-◌, List, length, Result, Ok, ap, sym, subst}
use Rattle.mesh_query_tokens.specs.Gives.{◌>>=◌, Refuses}
use Rattle.mesh_query_tokens.specs.declared.faults.ReadFault.{ReadFault}
use Rattle.mesh_query_tokens.specs.declared.faults.ReadFault.TheVariants as faults
use Rattle.mesh_query_tokens.specs.declared.tokens.Token.{Token}
use Rattle.mesh_query_grammar.specs.declared.surface.queries.Surface.{Surface}
use Rattle.mesh_model_statement.specs.Statement.{Read, statement}
use Rattle.mesh_model.specs.declared.model.Whole.{Whole}
use Rattle.mesh_model.specs.ModelTexts.{is_seed_text, body, whole, behind_statement, query_at}
use Rattle.mesh_model.specs.Reads.{IsQueryRead}

pub refused_on : {A B : Type 0} (x : ReadFault) (r : Result A ReadFault) (next : A → Result B ReadFault) → Refuses x r → Refuses x (r >>= next)
refused_on faults.Memory r next h = tt
refused_on (faults.Fault at kind) r next h = ap (λ r. r >>= next) h

pub query_refused : (x : ReadFault) (file : List ℕ) (ts : List Token) (r : Read) (query : Result Surface ReadFault) → statement file ts ≡ Ok r
    → IsQueryRead ts (length ts - length r.rest) query → Refuses x (body (is_seed_text r.parts.kind) r.before r.rest query)
    → (q : Result Surface ReadFault) × IsQueryRead ts (query_at file ts) q × Refuses x (whole file ts q)
query_refused x file ts r query e read h =
    let behind : Read → Result Whole ReadFault = λ r. body (is_seed_text r.parts.kind) r.before r.rest query >>= λ q. Ok (record { parts = r.parts; query = q }) in
    let refused : Refuses x (behind r) = refused_on x (body (is_seed_text r.parts.kind) r.before r.rest query) (λ q. Ok (record { parts = r.parts; query = q })) h in (
      query,
      subst (λ s. IsQueryRead ts (behind_statement ts s) query) (sym e) read,
      subst (λ (s : Result Read ReadFault). Refuses x (s >>= behind)) (sym e) refused,
    )
