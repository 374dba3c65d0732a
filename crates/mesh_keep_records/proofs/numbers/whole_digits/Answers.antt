use Rattle.std.proofs.Common.{Ok, Err, refl}
use Rattle.hex.specs.Hex.{decode_sized}
use Rattle.mesh_keep_records.proofs.Digits.{decoded, not_decoded}
use Rattle.mesh_keep_records.proofs.numbers.whole_digits.Goals as goal

pub returns-in-Ok : goal.returns-in-Ok
returns-in-Ok c = decoded (decode_sized c.args.bytes.now 32) (Ok c.in-Ok.field-0) c.decode_to_slice.new.out c.in-Ok.ensures.value refl

pub returns-in-Err : goal.returns-in-Err
returns-in-Err c = not_decoded (decode_sized c.args.bytes.now 32) (Err c.in-Err.field-0) c.decode_to_slice.new.out c.in-Err.field-0 c.in-Err.ensures.value refl
