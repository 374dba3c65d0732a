-- What stands at a place of records once another place was written, or that place itself.
use Rattle.std.proofs.Common.{◌≡◌, ℕ, Bool, true, false, cond, List, Some, None, ap, ◌∙◌}
use Rattle.std.specs.declared.option.Option.{Option}
use Rattle.std.specs.Ordering.{is_eq}
use Rattle.std.proofs.lemmas.Cmp.{tied_itself}
use Rattle.mesh_list.specs.Keyed.{ascends, found}
use Rattle.mesh_list.proofs.Ascends.{ascends-placed}
use Rattle.mesh_list.proofs.Found.{found-placed}
use Rattle.mesh_list.proofs.Standing.{ascends-without}
use Rattle.mesh_keep.specs.declared.kept.Kept.{Kept}
use Rattle.mesh_keep.specs.declared.kept.Place.{Place}
use Rattle.mesh_keep.specs.Places.{body_at, body_of, kept_place, place_cmp, places_exact, places_total, put}
use Rattle.mesh_keep_house.proofs.touched.Elsewhere.{found_beside, found_gone, found_without}

-- the body of the record at a place
abbrev pub at_place : List Kept → Place → Option (List ℕ)
at_place kept p = body_at kept p.kind p.name

-- two places are one
abbrev pub same_place : Place → Place → Bool
same_place p q = is_eq (place_cmp p q)

pub put_ascends : (kept : List Kept) (p : Place) (o : Option (List ℕ)) → ascends place_cmp kept_place kept ≡ true → ascends place_cmp kept_place (put kept p.kind p.name o) ≡ true
put_ascends kept p None up = ascends-without place_cmp places_total kept_place p kept up
put_ascends kept p (Some b) up = ascends-placed place_cmp places_total kept_place (record { kind = p.kind; name = p.name; body = b }) kept up

pub put_here : (kept : List Kept) (p : Place) (o : Option (List ℕ)) → ascends place_cmp kept_place kept ≡ true → at_place (put kept p.kind p.name o) p ≡ o
put_here kept p None up = ap body_of (found_gone place_cmp places_exact kept_place p places_total kept up)
put_here kept p (Some b) up =
    let k : Kept = record { kind = p.kind; name = p.name; body = b } in
    ap body_of (found-placed place_cmp places_exact kept_place k p kept ∙ ap (λ r. cond (is_eq r) (Some k) (found place_cmp kept_place p kept)) (tied_itself places_total p))

pub put_elsewhere : (kept : List Kept) (p q : Place) (o : Option (List ℕ)) → same_place p q ≡ false → at_place (put kept p.kind p.name o) q ≡ at_place kept q
put_elsewhere kept p q None other = ap body_of (found_without place_cmp places_exact kept_place q p kept other)
put_elsewhere kept p q (Some b) other =
    let k : Kept = record { kind = p.kind; name = p.name; body = b } in
    ap body_of (found_beside place_cmp places_exact kept_place q k kept other)
