-- Writes and records of a kind, one after another.
use Rattle.std.proofs.Common.{◌≡◌, ℕ, zero, suc, ◌+◌, ◌<◌, List, [], ◌∷◌, ◌++◌, length, take, filter, map, get_or, sym, ap, subst, ◌∙◌, arith}
use Rattle.std.specs.Prelude.{◌==◌}
use Rattle.std.proofs.lemmas.List.{map-append, take_more}
use Rattle.std.proofs.lemmas.List.Elements.{filter-append}
use Rattle.mesh_keep.specs.declared.kept.Kept.{Kept}
use Rattle.mesh_keep.specs.declared.kept.Write.{Write}
use Rattle.mesh_keep.specs.Places.{as_record, records_of, write_one, written}

pub written_more : (kept : List Kept) (ws : List Write) (i : ℕ) (w : Write) → i < length ws → w ≡ get_or ws i w → written kept (take (suc i) ws) ≡ write_one (written kept (take i ws)) w
written_more kept [] i w lt here = absurd (omega arith)
written_more kept (x ∷ ws) zero w lt here = ap (write_one kept) (sym here)
written_more kept (x ∷ ws) (suc i) w lt here = written_more (write_one kept x) ws i w (omega arith) here

pub records_more : (kind : ℕ) (xs : List Kept) (i : ℕ) (x : Kept) → i < length xs → x ≡ get_or xs i x → records_of kind (take (i + 1) xs) ≡ records_of kind (take i xs) ++ records_of kind (x ∷ [])
records_more kind xs i x lt here =
    ap (records_of kind) (subst (λ y. take (i + 1) xs ≡ take i xs ++ y ∷ []) (sym here) (take_more xs i x lt))
    ∙ ap (map as_record) (filter-append (λ k. k.kind == kind) (take i xs) (x ∷ []))
    ∙ map-append as_record (filter (λ k. k.kind == kind) (take i xs)) (filter (λ k. k.kind == kind) (x ∷ []))
