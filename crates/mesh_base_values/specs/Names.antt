-- How names are spelled, and their order.
use Rattle.std.specs.Prelude.{ℕ, Bool, false, ◌&&◌, ◌||◌, not, nat_le, nat_eq, ◌==◌, List, [], ◌∷◌}
use Rattle.std.specs.List.{list_all, ends_with}
use Rattle.std.specs.declared.cmp.Ordering.{Ordering}
use Rattle.std.specs.Ordering.{nat_cmp, ordering_then}
use Rattle.std.specs.Cmp.Lexicographic.{slice_cmp}
use Rattle.mesh_base_values.specs.declared.values.Name.{Name}

-- texts by their bytes
abbrev pub text_cmp : List ℕ → List ℕ → Ordering
text_cmp = slice_cmp nat_cmp

-- names by schema, and then by model
abbrev pub name_cmp : Name → Name → Ordering
name_cmp a b = ordering_then (text_cmp a.schema b.schema) (text_cmp a.model b.model)

-- a letter of ASCII
abbrev pub is_letter : ℕ → Bool
is_letter b = (nat_le 97 b && nat_le b 122) || (nat_le 65 b && nat_le b 90)

-- a letter, a digit or an underscore
abbrev pub is_name_byte : ℕ → Bool
is_name_byte b = is_letter b || (nat_le 48 b && nat_le b 57) || (b == 95)

-- a letter or an underscore, and then letters, digits and underscores
abbrev pub is_identifier : List ℕ → Bool
is_identifier [] = false
is_identifier (b ∷ bs) = (is_letter b || (b == 95)) && list_all is_name_byte bs

abbrev pub begins_with : ℕ → List ℕ → Bool
begins_with b [] = false
begins_with b (x ∷ xs) = x == b

-- two underscores adjoin somewhere
abbrev pub has_two_underscores : List ℕ → Bool
has_two_underscores [] = false
has_two_underscores (b ∷ bs) = ((b == 95) && begins_with 95 bs) || has_two_underscores bs

-- Whether an identifier may be the schema of a model or a source: it begins with a letter, has no two underscores that
-- adjoin and doesn't end in one.
abbrev pub is_schema : List ℕ → Bool
is_schema [] = false
is_schema (b ∷ bs) = is_letter b && (not (ends_with nat_eq (b ∷ bs) (95 ∷ [])) && not (has_two_underscores (b ∷ bs)))
