-- How `oer compare` ends: its status, and what stands on its output and its errors.
use Rattle.std.specs.Prelude.{◌≡◌, ◌≤◌, ◌⊎◌, ℕ, List, Option, Some, None, codes, true}
use Rattle.std.specs.Io.KnownBytes.{Keeps}
use Rattle.clap.specs.Words.{IsAmong, Text, fault_of, takes}
use Rattle.clap.specs.declared.error.kind.ErrorKind.TheVariants.{DisplayHelp, DisplayVersion}
use Rattle.oer_model.specs.AsnType.{AsnType}
use Rattle.oer_options.specs.Words.{Texts, behind, texts_of}
use Rattle.oer_cmd.specs.Answer.{expected_type}
use Rattle.oer_cmd.specs.Ending.{Breaks, Delivers, IsMachineLine, Streams, refusal_line}
use Rattle.oer_cmd.specs.Expected.{Expected, Refusal, refusal, value, ◌>>=◌}
use Rattle.oer_cmd.specs.Faults.{AppendsFront, Reports}
use Rattle.oer_cmd.specs.declared.fault.Fault.TheVariants.{Memory}
use Rattle.oer_compare.specs.Difference.{Difference}
use Rattle.oer_compare_cmd.specs.Line.{compare_of, differs}
use Rattle.oer_compare_cmd.specs.Words.{Asks, app}
use Rattle.oer_compare_cmd.specs.declared.asked.Asked.{Asked}
use Rattle.oer_compare_cmd.specs.declared.misuse.Misuse.{Misuse}
use Rattle.oer_compare_cmd.specs.declared.misuse.Misuse.TheVariants.{NoWith, NoTypes}

-- what is wrong with the options on the second type
abbrev pub refusal_of : Misuse → Refusal
refusal_of NoWith = record { status = 2; text = codes "compare needs --with" }
refusal_of NoTypes = record { status = 2; text = codes "--with-types needs --types" }

abbrev pub other_in : Option Text → Option Text → Text → Option Text → Expected Texts
other_in (Some one) types other None = value (record { one = Some other; types = None; name = None })
other_in (Some one) types other (Some others) = refusal (refusal_of NoTypes)
other_in None types other None = value (record { one = None; types = types; name = Some other })
other_in None types other (Some others) = value (record { one = None; types = Some others; name = Some other })

-- The texts of the second type: beside --type the value of --with is a type, and else a Name, among the definitions of
-- --with-types, or those of --types where that isn't given.
abbrev pub other_texts : Texts → Option Text → Option Text → Expected Texts
other_texts t None others = refusal (refusal_of NoWith)
other_texts t (Some other) others = other_in t.one t.types other others

-- the line for this first type, and the second one that the texts name
abbrev pub named_answer : AsnType → Texts → Expected Text
named_answer T u = expected_type u >>= compare_of T

-- the same where the options name the second one
abbrev pub other_answer : Texts → Option Text → Option Text → AsnType → Expected Text
other_answer t with others T = other_texts t with others >>= named_answer T

-- the line for the types that the texts name
abbrev pub compare_answer : Texts → Option Text → Option Text → Expected Text
compare_answer t with others = expected_type t >>= other_answer t with others

-- The answer is given, or the machine failed.
abbrev pub Answers : Expected Text → ℕ → Streams → Type 0
Answers expected status s = Delivers expected status s ⊎ Breaks expected status s

abbrev pub EndsIn : Expected Text → ℕ → Option (List ℕ) → Option (List ℕ) → Option (List ℕ) → Option (List ℕ) → Type 0
EndsIn expected status output output' errors errors' =
    Answers expected status (record { output = output; output' = output'; errors = errors; errors' = errors' })

-- The errors tell of the difference, or of memory that was refused.
abbrev pub TellsOf : Difference → ℕ → Option (List ℕ) → Option (List ℕ) → Type 0
TellsOf d status errors errors' =
    ((status ≡ 1) × AppendsFront errors errors' (refusal_line (differs d).text)) ⊎ Reports Memory status errors errors'

-- The words ask for this, which is answered.
pub record Does (words : List Text) (status : ℕ) (s : Streams) : Type 0 where
  pub asked : Asked
  pub asks : Asks words asked
  pub answers : Answers (compare_answer (texts_of asked.options) (behind asked.with) (behind asked.with_types)) status s

-- The words ask for help.
abbrev pub AsksForHelp : List Text → Type 0
AsksForHelp words = IsAmong DisplayHelp (fault_of app words) ⊎ IsAmong DisplayVersion (fault_of app words)

-- The words are not taken. They ask for help, which is on the output, with status 0, and nothing is on the errors; or
-- the errors say what is wrong with them, with status 2, and nothing is on the output; or the machine failed. What is
-- said is not fixed.
pub record IsNotTaken (words : List Text) (status : ℕ) (s : Streams) : Type 0 where
  pub refused : status ≤ 2 → takes app words ≡ true → ⊥
  pub help : status ≡ 0 → AsksForHelp words × Keeps s.errors s.errors'
  pub said : 1 ≤ status → status ≤ 2 → (status ≡ 2) × Keeps s.output s.output'
  pub unwritten : takes app words ≡ true → Keeps s.output s.output'
  pub machine : status ≡ 3 → (line : Text) × IsMachineLine line × AppendsFront s.errors s.errors' line

-- What the program does.
abbrev pub Ends : List Text → ℕ → Option (List ℕ) → Option (List ℕ) → Option (List ℕ) → Option (List ℕ) → Type 0
Ends words status output output' errors errors' =
    let s : Streams = record { output = output; output' = output'; errors = errors; errors' = errors' } in
    Does words status s ⊎ IsNotTaken words status s
