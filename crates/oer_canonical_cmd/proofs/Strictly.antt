-- Answers of `check` where octets that aren't canonical are an error.
use Rattle.std.proofs.Common.{Result, Ok, Err, String, Global}
use Rattle.clap.specs.Words.{Text}
use Rattle.oer_cmd.proofs.Meeting.{bytes, goes, stops}
use Rattle.oer_cmd.specs.Expected.{Expected, Meets}
use Rattle.oer_cmd.specs.declared.fault.Fault.{Fault}
use Rattle.oer_canonical_cmd.specs.Strict.{strict, strict_line}

-- the line was made
pub made : (answer : Expected Text) (line : String Global) (result : Result (String Global) Fault) → Meets bytes answer (Ok line)
    → Meets bytes (strict_line (bytes line)) result → Meets bytes (strict answer) result
made answer line result h k = goes bytes bytes answer strict_line line result h k

-- there is none
pub none : (answer : Expected Text) (fault : Fault) → Meets {X = String Global} bytes answer (Err fault) → Meets {X = String Global} bytes (strict answer) (Err fault)
none answer fault h = stops {X = String Global} bytes bytes answer strict_line fault h
