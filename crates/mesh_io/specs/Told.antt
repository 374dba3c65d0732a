-- What an object at the outside tells of itself, before a call and after it, and what its calls do. Where it tells
-- nothing of its content there is none, and its count of faults is known alone.
use Rattle.std.specs.Prelude.{◌≡◌, ◌↔◌, ℕ, ℤ, pos, ◌<◌, ◌≤◌, ◌≤ℤ◌, List, [], ◌++◌, length, take, Result, IfOk, OnOk, OnErr, IfSome, IsErrOf}
use Rattle.std.specs.Option.{option_map}
use Rattle.std.specs.declared.option.Option.{Option}
use Rattle.mesh_list.specs.Counts.{Rose}
use Rattle.mesh_io.specs.declared.fails.IoFail.{IoFail}
use Rattle.mesh_io.specs.declared.fails.IoFail.TheVariants.{Failed}
use Rattle.mesh_io.specs.declared.files.File.{File}

-- a folder: its files, and the count of its faults
pub record FolderTold : Type 0 where
  pub files : Option (List File)
  pub faults : ℕ

-- a clock: the moment that it stands at
pub record ClockTold : Type 0 where
  pub moment : Option ℤ
  pub faults : ℕ

-- a source: the bytes that it has left
pub record SourceTold : Type 0 where
  pub left : Option (List ℕ)
  pub faults : ℕ

-- a sink: the bytes that were written to it
pub record SinkTold : Type 0 where
  pub written : Option (List ℕ)
  pub faults : ℕ

-- a count of faults never falls, and a call that failed has raised it
pub record CountsFaults {T : Type 0} (before now : ℕ) (result : Result T IoFail) : Type 0 where
  pub kept : before ≤ now
  pub risen : IsErrOf result Failed → Rose before now

-- A folder was asked, and stays as it is.
pub record FolderAnswers {T : Type 0} (answer : List File → T) (old new : FolderTold) (result : Result T IoFail) : Type 0 where
  pub counts : CountsFaults old.faults new.faults result
  pub files : new.files ≡ old.files
  pub ok : IfOk result (λ x. IfSome old.files (λ fs. x ≡ answer fs))

-- from 1970-01-01T00:00:00 to the last second of 9999, in seconds
abbrev pub IsMoment : ℤ → Type 0
IsMoment t = (pos 0 ≤ℤ t) × (t ≤ℤ pos 253402300799)

-- A clock was asked, and stands where it stood.
pub record ClockAnswers (old new : ClockTold) (result : Result ℤ IoFail) : Type 0 where
  pub counts : CountsFaults old.faults new.faults result
  pub moment : new.moment ≡ old.moment
  pub ok : IfOk result (λ t. IfSome old.moment (λ m. t ≡ m))
  pub within : IfOk result IsMoment

-- The first bytes of a source were moved out, none only at its end.
pub record SourceTakes (most : ℕ) (old new : SourceTold) (result : Result (List ℕ) IoFail) : Type 0 where
  pub counts : CountsFaults old.faults new.faults result
  pub ok : IfOk result (λ piece. old.left ≡ option_map (λ rest. piece ++ rest) new.left)
  pub most_bytes : IfOk result (λ piece. length piece ≤ most)
  pub at_end : IfOk result (λ piece. IfSome old.left (λ bytes. (piece ≡ []) ↔ (bytes ≡ [])))
  pub refused : OnErr result (new.left ≡ old.left)

-- The first bytes of a source were moved out, as many as were asked for, or all of them where it had fewer; it is at
-- its end then. Where the call is refused, some of its first bytes are gone.
pub record SourceGives (most : ℕ) (old new : SourceTold) (result : Result (List ℕ) IoFail) : Type 0 where
  pub counts : CountsFaults old.faults new.faults result
  pub ok : IfOk result (λ all. old.left ≡ option_map (λ rest. all ++ rest) new.left)
  pub most_bytes : IfOk result (λ all. length all ≤ most)
  pub whole : IfOk result (λ all. length all < most → IfSome new.left (λ rest. rest ≡ []))
  pub refused : OnErr result ((gone : List ℕ) × (old.left ≡ option_map (λ rest. gone ++ rest) new.left))

-- A piece was written to a sink, and where the call is refused, none, some or all of it from its first byte on.
pub record SinkPuts {T : Type 0} (piece : List ℕ) (old new : SinkTold) (result : Result T IoFail) : Type 0 where
  pub counts : CountsFaults old.faults new.faults result
  pub ok : OnOk result (new.written ≡ option_map (λ bytes. bytes ++ piece) old.written)
  pub refused : OnErr result ((n : ℕ) × (new.written ≡ option_map (λ bytes. bytes ++ take n piece) old.written))
