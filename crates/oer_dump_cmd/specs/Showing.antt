-- What is shown of octets.
use Rattle.std.specs.Prelude.{◌≡◌, ◌≤◌, ℕ, List, [], ◌∷◌, ◌++◌, length, Bool, Option, Some, None, Result, Ok, Err, String, codes, string_bytes, ⊤}
use Rattle.std.specs.Global.{Global}
use Rattle.std.specs.Io.KnownBytes.{Appends}
use Rattle.clap.specs.Words.{Text}
use Rattle.oer_model.specs.AsnType.{AsnType}
use Rattle.oer_options.specs.Words.{Texts, behind}
use Rattle.oer_cmd.specs.Answer.{checked, expected_type, hex_octets, limited_octets, texts_read}
use Rattle.oer_cmd.specs.Expected.{Expected, Refusal, refusal, refusal_of, unknown, value, ◌>>=◌}
use Rattle.oer_cmd.specs.Faults.{status_of}
use Rattle.oer_cmd.specs.Run.{IsEncoding, OfOctets}
use Rattle.oer_cmd.specs.Types.{SpelledBy, SpelledWith}
use Rattle.oer_cmd.specs.declared.fault.Fault.{Fault}
use Rattle.oer_layout.specs.Pages.{IsArray, IsLines}
use Rattle.oer_dump_cmd.specs.Words.{texts_asked}
use Rattle.oer_dump_cmd.specs.declared.options.Form.{Form}
use Rattle.oer_dump_cmd.specs.declared.options.Form.TheVariants as form
use Rattle.oer_dump_cmd.specs.declared.options.Options.{Options}

-- what `oer check` judges of the octets: whether they are canonical, or why they are rejected
abbrev pub judged_octets : Option Text → ℕ → Option (List ℕ) → AsnType → Expected Bool
judged_octets hex limit told T = hex_octets hex >>= λ spelt. limited_octets limit spelt told >>= checked T

-- the same for the type that the texts name
abbrev pub judged_for : Texts → Option Text → ℕ → Option (List ℕ) → Expected Bool
judged_for texts hex limit told = expected_type texts >>= judged_octets hex limit told

-- what comes next, by the type that the texts name, where the text of the definitions is read from the input if `--types` is `-`
abbrev pub by_texts : {Z : Type 0} → (AsnType → Expected Z) → Texts → Option Text → Option (List ℕ) → Expected Z
by_texts next t hex told = texts_read t hex told >>= λ texts. expected_type texts >>= next

-- what `oer check` judges for what the options ask for
abbrev pub judged_as : Options → Option (List ℕ) → Expected Bool
judged_as o told = by_texts (judged_octets (behind o.hex) o.limit told) (texts_asked o) (behind o.hex) told

-- a line with this reason, and behind it maybe the part that was being read
abbrev pub IsReasonLine : Text → Text → Type 0
IsReasonLine reason line = (part : Text) × (line ≡ codes "oer: " ++ reason ++ part ++ 10 ∷ [])

-- the line of a refusal of the octets
abbrev pub IsRejection : Refusal → Option (String Global) → Type 0
IsRejection r None = ⊥
IsRejection r (Some line) = (r.status ≡ 1) × IsReasonLine r.text (string_bytes line)

-- the line on the errors, if the octets are rejected
abbrev pub Rejection : Type 0
Rejection = Option (String Global)

-- There is a rejection just where one is expected, and it is that one; or printing failed, for the reason that is expected, or since
-- memory ran out or a device failed.
abbrev pub Shows : Expected Bool → Result Rejection Fault → Type 0
Shows unknown result = ⊤
Shows (value canonical) (Ok rejection) = rejection ≡ None
Shows (value canonical) (Err fault) = status_of fault ≤ 2 → ⊥
Shows (refusal r) (Ok rejection) = IsRejection r rejection
Shows (refusal r) (Err fault) = status_of fault ≤ 2 → refusal_of fault ≡ r

-- The octets of `--hex`, and without it all that the input had left, are one encoding of the type, within the limit.
abbrev pub AreOne : AsnType → Option Text → ℕ → Option (List ℕ) → Type 0
AreOne T hex limit told = OfOctets hex told (λ b. IsEncoding T b × (length b ≤ limit))

-- the same for the type that the texts name
abbrev pub AreOneFor : Texts → Option Text → ℕ → Option (List ℕ) → Type 0
AreOneFor texts hex limit told = (T : AsnType) × SpelledBy texts T × AreOne T hex limit told

-- the same where the text of the definitions is read from the input if `--types` is `-`
abbrev pub AreOneWith : Texts → Option Text → ℕ → Option (List ℕ) → Type 0
AreOneWith t hex limit told = (T : AsnType) × SpelledWith t hex told T × AreOne T hex limit told

-- The text is that of entries of the octets b, in this form.
abbrev pub IsPage : Form → AsnType → List ℕ → Text → Type 0
IsPage form.Json T b text = IsArray T b text
IsPage (form.Text width) T b text = IsLines width T b text

-- the type, and the octets of `--hex`, else those of the input: no more than the limit
abbrev pub octets_at : Option Text → ℕ → Option (List ℕ) → AsnType → Expected (AsnType × List ℕ)
octets_at hex limit told T = hex_octets hex >>= λ spelt. limited_octets limit spelt told >>= λ b. value (T, b)

-- the same for the type that the texts name
abbrev pub octets_for : Texts → Option Text → ℕ → Option (List ℕ) → Expected (AsnType × List ℕ)
octets_for texts hex limit told = expected_type texts >>= octets_at hex limit told

-- the same for what the options ask for
abbrev pub octets_as : Options → Option (List ℕ) → Expected (AsnType × List ℕ)
octets_as o told = by_texts (octets_at (behind o.hex) o.limit told) (texts_asked o) (behind o.hex) told

-- The page of the octets is on the output.
abbrev pub PrintsPage : Form → AsnType → List ℕ → Option (List ℕ) → Option (List ℕ) → Type 0
PrintsPage f T b output output' = (text : Text) × IsPage f T b text × Appends output output' text

-- Where there are a type and octets, their page is printed, unless memory ran out or a device failed; else nothing is.
abbrev pub Displays : Form → Expected (AsnType × List ℕ) → Result Rejection Fault → Option (List ℕ) → Option (List ℕ) → Type 0
Displays f unknown (Ok rejection) output output' = (text : Text) × Appends output output' text
Displays f unknown (Err fault) output output' = ⊤
Displays f (value p) (Ok rejection) output output' = PrintsPage f p.0 p.1 output output'
Displays f (value p) (Err fault) output output' = status_of fault ≤ 2 → ⊥
Displays f (refusal r) (Ok rejection) output output' = ⊥
Displays f (refusal r) (Err fault) output output' = ⊤
