-- What the records that a warehouse begins with hold, where there were none.
use Rattle.std.proofs.Common.{◌≡◌, true, ◌&&◌, [], ◌∷◌, Some, None, refl, ap, ◌∙◌}
use Rattle.std.specs.Prelude.{if◌then◌else◌}
use Rattle.std.specs.declared.option.Option.{Option}
use Rattle.std.specs.Cmp.{tied_itself}
use Rattle.std.specs.Fmt.{digits}
use Rattle.std.specs.Ordering.{is_eq}
use Rattle.mesh_base_values.proofs.Equals.{text_itself as same_itself}
use Rattle.mesh_house.specs.declared.world.World.{World}
use Rattle.mesh_house.specs.World.{empty_world}
use Rattle.mesh_canon_text.specs.Text.{list_of, members, spaced, text_of}
use Rattle.mesh_canon_reading.specs.Fits.{text_fits}
use Rattle.mesh_canon_words.specs.Words.{◌>>=◌}
use Rattle.mesh_keep_records.specs.declared.book_records.BookHead.{BookHead}
use Rattle.mesh_keep_records.specs.Keys.{head_key}
use Rattle.mesh_keep_records.specs.Records.{head_text}
use Rattle.mesh_keep_records.specs.reading.Reading.{head_in}
use Rattle.mesh_keep_records.proofs.reading.Read.{head_read}
use Rattle.mesh_keep.specs.declared.kept.Kept.{Kept}
use Rattle.mesh_keep.specs.Holds.{all_known}
use Rattle.mesh_keep.specs.Places.{body_at, body_of, kept_place, places_total}
use Rattle.mesh_keep.specs.Said.{head_said, known_world, world_of}
use Rattle.mesh_keep_house.specs.stored.Begun.{begun, first_head, first_write}

-- the only record
abbrev head_record : Kept
head_record = record { kind = 0; name = head_key; body = head_text first_head }

begun_is : begun [] ≡ head_record ∷ []
unfolding first_write
begun_is = refl

first_fits : text_fits (head_text first_head) ≡ true
unfolding list_of members text_of spaced digits
first_fits = refl

body_there : body_at (head_record ∷ []) 0 head_key ≡ Some (head_text first_head)
body_there = ap (λ b. body_of (if b then Some head_record else None)) (ap is_eq (tied_itself places_total (kept_place head_record)))

head_there : head_said (head_record ∷ []) ≡ Some first_head
head_there = ap (λ o. o >>= head_in) body_there ∙ (head_read (head_text first_head) first_head).1 (first_fits, refl, refl)

-- the world of a head, where there is nothing else
abbrev only_head : Option BookHead → Option World
only_head o =
    (o >>= λ head. Some (record { version = head.version; moment = head.moment; snapshots = []; versions = []; environments = [] }))
    >>= λ book. Some (record { sources = []; objects = []; views = []; book = book })

known_there : known_world (head_record ∷ []) ≡ Some empty_world
unfolding known_world
known_there = ap only_head head_there

all_there : all_known (head_record ∷ []) ≡ true
all_there = ap (λ b. b && true) (same_itself head_key)

pub empty_begun : world_of (begun []) ≡ Some empty_world
unfolding world_of
empty_begun = ap world_of begun_is ∙ (ap (λ b. if b then known_world (head_record ∷ []) else None) all_there ∙ known_there)
