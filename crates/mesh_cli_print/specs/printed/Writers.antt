-- A writer of records, and what it has written.
use Rattle.std.specs.Prelude.{◌≡◌, ℕ, false, List, Some}
use Rattle.std.specs.declared.option.Option.{Option}
use Rattle.csv.specs.declared.writer.Writer.{Writer}
use Rattle.csv.specs.Writing.{default_writer, fields_written, has_written, text_written, writer_setup}

-- between two records, it has written this text by the defaults of the format
pub record Holds {W : Type 0} (contents : W → Option (List ℕ)) (w : Writer W) (text : List ℕ) : Type 0 where
  pub fields : fields_written w ≡ 0
  pub clean : has_written w ≡ false
  pub setup : writer_setup w ≡ default_writer
  pub written : text_written contents w ≡ Some text
