-- The texts of moments.
use Rattle.std.specs.Prelude.{ℤ, pos, negsuc, ℕ, Bool, ◌&&◌, List, [], ◌++◌, if◌then◌else◌}
use Rattle.std.specs.Int.Signed.{le_z}
use Rattle.mesh_time_days.specs.casts.Dates.{day_text}
use Rattle.mesh_time_days.specs.Moments.{day_at, second_at, second_text}

-- a second of a day from 0001-01-01 to 9999-12-31
abbrev pub is_printable : ℤ → Bool
is_printable t = le_z (negsuc 62_135_596_799) t && le_z t (pos 253_402_300_799)

-- YYYY-MM-DDTHH:MM:SS, and nothing outside of these days
unfoldable pub moment_text : ℤ → List ℕ
moment_text t = if is_printable t then day_text (day_at t) ++ second_text (second_at t) else []
