-- The line that a command prints when it isn't done, and its exit status.
use Rattle.std.specs.Prelude.{ℕ, List, codes}
use Rattle.std.specs.Fmt.{decimal}
use Rattle.mesh_cli_print.specs.faults.Lines.{◌·◌, fault_line, name_text}
use Rattle.mesh_cli_print.specs.plans.Moments.{moment_text}
use Rattle.mesh_cli_print.specs.declared.printed.refusals.Refusal.{Refusal}
use Rattle.mesh_cli_print.specs.declared.printed.refusals.Refusal.TheVariants.{Model, Usage, Warehouse, Memory, Input, MomentBehind, EnvUnknown, EnvPending, BookBroken, ObjectMissing, StateOld}

abbrev pub refusal_line : Refusal → List ℕ
refusal_line (Model file at kind) = fault_line file at kind
refusal_line Usage = codes "usage: mesh [--paths DIR] [--warehouse FILE] COMMAND\n"
refusal_line Warehouse = codes "warehouse fault\n"
refusal_line Memory = codes "want of memory\n"
refusal_line Input = codes "input fault\n"
refusal_line (MomentBehind given kept) = codes "S1 moment " · moment_text given · codes " is behind " · moment_text kept · codes "\n"
refusal_line (EnvUnknown env) = codes "S2 environment " · env · codes " is unknown\n"
refusal_line (EnvPending env) = codes "S3 environment " · env · codes " is pending\n"
refusal_line (BookBroken part place) = codes "S4 book part " · decimal part · codes " place " · decimal place · codes "\n"
refusal_line (ObjectMissing object) = codes "S4 object " · name_text object · codes " is missing\n"
refusal_line (StateOld version) = codes "S5 state version " · decimal version · codes " needs 2\n"

-- 1 for a fault of the project or of the words' own query and names, 2 for words that are no command, 3 and 5 for a
-- warehouse and an outside that failed, 4 for want of memory, 7 for what the warehouse's state doesn't allow
abbrev pub status : Refusal → ℕ
status (Model file at kind) = 1
status Usage = 2
status Warehouse = 3
status Memory = 4
status Input = 5
status (MomentBehind given kept) = 7
status (EnvUnknown env) = 7
status (EnvPending env) = 7
status (BookBroken part place) = 7
status (ObjectMissing object) = 7
status (StateOld version) = 7
