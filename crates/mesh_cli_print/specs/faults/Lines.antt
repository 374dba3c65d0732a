-- The line that is printed for a fault.
use Rattle.std.specs.Prelude.{ℕ, List, ◌++◌, codes}
use Rattle.std.specs.Fmt.{decimal}
use Rattle.std.specs.List.{flat_map}
use Rattle.hex.specs.Hex.{encode_lower}
use Rattle.mesh_base_values.specs.declared.crons.CronFault.{CronFault}
use Rattle.mesh_base_values.specs.declared.crons.CronFault.TheVariants.{BadField, TooFine, NoTick}
use Rattle.mesh_base_values.specs.declared.values.Name.{Name}
use Rattle.mesh_query_tokens.specs.declared.faults.FaultKind.{FaultKind}
use Rattle.mesh_query_tokens.specs.declared.faults.FaultKind.TheVariants.{Syntax, TooLarge, UnknownProperty, BadProperty, DuplicateModel, UnknownRelation, UnknownColumn, Ambiguous, TypeMismatch, Duplicate, NotGrouped, Cycle, BadCron, NoStart, TimeColumn, BadRow, SourceMissing, SourceShape, BadMacro, FingerprintClash, Outside}

-- some bytes and then others
infixr 30 ◌·◌
abbrev pub ◌·◌ : List ℕ → List ℕ → List ℕ
a · b = a ++ b

abbrev pub name_text : Name → List ℕ
name_text n = n.schema · codes "." · n.model

-- each name behind a space
abbrev pub names_text : List Name → List ℕ
names_text names = flat_map (λ n. codes " " · name_text n) names

abbrev pub cron_fault_text : CronFault → List ℕ
cron_fault_text (BadField k) = codes "bad field " · decimal k
cron_fault_text TooFine = codes "too fine"
cron_fault_text NoTick = codes "no tick"

unfoldable pub kind_text : FaultKind → List ℕ
kind_text Syntax = codes "M1 syntax"
kind_text (TooLarge what limit) = codes "M2 " · what · codes " exceeds " · decimal limit
kind_text (UnknownProperty name) = codes "M3 unknown property " · name
kind_text (BadProperty name) = codes "M4 bad property " · name
kind_text (DuplicateModel name) = codes "M5 duplicate model " · name_text name
kind_text (UnknownRelation name) = codes "M6 unknown relation " · name
kind_text (UnknownColumn name) = codes "M7 unknown column " · name
kind_text (Ambiguous name) = codes "M8 ambiguous column " · name
kind_text TypeMismatch = codes "M9 type mismatch"
kind_text (Duplicate name) = codes "M10 duplicate column " · name
kind_text NotGrouped = codes "M11 not grouped"
kind_text (Cycle names) = codes "M12 cycle" · names_text names
kind_text (BadCron fault) = codes "M13 cron " · cron_fault_text fault
kind_text NoStart = codes "M14 no start"
kind_text (TimeColumn name) = codes "M15 time column " · name
kind_text (BadRow row field) = codes "M16 record " · decimal row · codes " field " · decimal field
kind_text (SourceMissing name) = codes "M17 source " · name_text name · codes " is missing"
kind_text (SourceShape name) = codes "M17 source " · name_text name · codes " has another shape"
kind_text (BadMacro name) = codes "M18 macro " · name
kind_text (FingerprintClash stored given) = codes "M19 clash " · encode_lower stored · codes " " · encode_lower given
kind_text (Outside name) = codes "M20 outside " · name

-- a file, a place in its bytes and what is wrong there
abbrev pub fault_line : List ℕ → ℕ → FaultKind → List ℕ
fault_line file at kind = file · codes ":" · decimal at · codes ": " · kind_text kind · codes "\n"
