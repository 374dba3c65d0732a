-- Columns that are counted before they are made.
use Rattle.std.proofs.Common.{◌≡◌, ℕ, ◌+◌, ◌<◌, ◌≤◌, Bool, true, false, List, [], ◌∷◌, ◌++◌, length, map, take, drop, get_or, sym, ap, ◌∙◌, if◌then◌else◌, nat_le, arith}
use Rattle.std.proofs.lemmas.Bool.{lt-leb}
use Rattle.std.proofs.lemmas.Grind.{flat_map-append}
use Rattle.std.proofs.lemmas.List.{drop_more, take-append-drop, length-append, length-map}
use Rattle.std.specs.declared.option.Option.{Option}
use Rattle.mesh_resolve_scope.specs.declared.sight.sight.Seen.{Seen}
use Rattle.mesh_resolve_scope.specs.sight.Sight.{answers_to}
use Rattle.mesh_resolve_types.specs.Faults.{most_columns}
use Rattle.mesh_resolve_selects.specs.outputs.Outputs.{all_of_one, expanded, starred}

-- the columns of one FROM item that answers, among all
counted : (at : ℕ) (item : Option (List ℕ)) (from : List Seen) (i : ℕ) (d : Seen) → i < length from → d ≡ get_or from i d → answers_to item d ≡ true
    → length (expanded at item (take i from)) + length d.columns ≤ length (expanded at item from)
counted at item from i d lt is answers =
    let cut : take i from ++ d ∷ drop (i + 1) from ≡ from = ap (λ y. take i from ++ y ∷ drop (i + 1) from) is ∙ ap (λ l. take i from ++ l) (sym (drop_more from i d lt)) ∙ take-append-drop i from in
    let whole = ap length (ap (expanded at item) (sym cut) ∙ flat_map-append (all_of_one at item) (take i from) (d ∷ drop (i + 1) from)) in
    let first = length-append (expanded at item (take i from)) (expanded at item (d ∷ drop (i + 1) from)) in
    let second = length-append (all_of_one at item d) (expanded at item (drop (i + 1) from)) in
    let own : length (all_of_one at item d) ≡ length d.columns = ap (λ (b : Bool). length (if b then map (starred at d) d.columns else [])) answers ∙ length-map d.columns (starred at d) in
    omega (arith, whole, first, second, own)

-- where one FROM item has more columns than there is room for, all are too many
pub no_room : (at : ℕ) (item : Option (List ℕ)) (from : List Seen) (taken room i : ℕ) (d : Seen) → i < length from → d ≡ get_or from i d → answers_to item d ≡ true
    → taken + length (expanded at item (take i from)) + room ≡ most_columns → room < length d.columns → false ≡ nat_le (taken + length (expanded at item from)) most_columns
no_room at item from taken room i d lt is answers so_far more =
    let h = counted at item from i d lt is answers in
    sym (lt-leb (taken + length (expanded at item from)) most_columns (omega (arith, h, so_far, more)))
