-- What the objects in memory hold, and what they so tell.
use Rattle.std.specs.Prelude.{ℕ, ℤ, List, Some}
use Rattle.mesh_io.specs.declared.files.File.{File}
use Rattle.mesh_io.specs.declared.calls.Calls.{Calls}
use Rattle.mesh_io.specs.Told.{FolderTold, ClockTold, SourceTold, SinkTold}

-- a folder: its files
pub record FolderHeld : Type 0 where
  pub files : List File
  pub calls : Calls

-- a clock: the moment that it stands at
pub record ClockHeld : Type 0 where
  pub moment : ℤ
  pub calls : Calls

-- a source: the bytes that are left
pub record SourceHeld : Type 0 where
  pub left : List ℕ
  pub calls : Calls

-- a sink: the bytes that were written
pub record SinkHeld : Type 0 where
  pub written : List ℕ
  pub calls : Calls

-- what each tells is what it holds, and how many listed calls have come
abbrev pub folder_told : FolderHeld → FolderTold
folder_told f = record { files = Some f.files; faults = f.calls.faults }

abbrev pub clock_told : ClockHeld → ClockTold
clock_told c = record { moment = Some c.moment; faults = c.calls.faults }

abbrev pub source_told : SourceHeld → SourceTold
source_told s = record { left = Some s.left; faults = s.calls.faults }

abbrev pub sink_told : SinkHeld → SinkTold
sink_told s = record { written = Some s.written; faults = s.calls.faults }
