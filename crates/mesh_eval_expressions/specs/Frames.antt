-- What a bound expression is given, as a frame has it.
use Rattle.std.specs.Prelude.{ℕ, List, [], map, slice_index_or}
use Rattle.std.specs.List.{range_with_len}
use Rattle.std.specs.Option.{option_map}
use Rattle.mesh_eval_expressions.specs.declared.frames.Frame.{Frame}
use Rattle.mesh_eval_expressions.specs.declared.frames.Members.{Members}
use Rattle.mesh_eval_rows.specs.joins.joined.Joined.{shown}
use Rattle.mesh_spec_query.specs.Sel.{Joined}
use Rattle.mesh_eval_expressions.specs.bound.Meaning.{Given}

-- the rows at places, empty ones where there are none
abbrev pub picked : List Joined → List ℕ → List Joined
picked rows places = map (λ at. slice_index_or rows at []) places

-- the places 0, 1 and so on, so many
abbrev pub all_places : ℕ → List ℕ
all_places count = range_with_len 0 count

abbrev pub members : Members → List Joined
members g = picked g.rows.now.rows g.places.now

abbrev pub given_of : Frame → Given
given_of f = record { row = shown f.row.now; key_values = f.key_values.now; group = option_map members f.group }
