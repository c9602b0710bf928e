-- The type that the options name.
use Rattle.std.specs.Prelude.{◌≡◌, ◌≢◌, ◌≤◌, ℕ, length, Bool, false, List, Option, Some, None, IfSome, MatchBool, codes}
use Rattle.std.specs.Str.{IsUtf8, bytes_eq}
use Rattle.clap.specs.Words.{Text}
use Rattle.oer_model.specs.AsnType.{AsnType}
use Rattle.oer_checker.specs.Check.{most}
use Rattle.oer_model.specs.WellFormed.{IsWellFormed}
use Rattle.oer_notation.specs.Grammar.{AreWellFormed, IsDefined, Spells, SpellsAll}
use Rattle.oer_notation.specs.Reading.{Known}
use Rattle.oer_options.specs.Words.{Texts}
use Rattle.oer_cmd.specs.declared.fault.Fault.{Fault}
use Rattle.oer_cmd.specs.declared.fault.Fault.TheVariants.{Memory, NoName, NoTypes, OneType}
use Rattle.oer_cmd.specs.declared.type_text.TypeText.{TypeText}
use Rattle.oer_cmd.specs.declared.type_text.TypeText.TheVariants.{One, Named}

-- the text spells the type, which is well-formed
abbrev pub IsTypeIn : Text → AsnType → Type 0
IsTypeIn text T = Spells T text × IsWellFormed T

-- the text spells the definitions, and their types are well-formed
abbrev pub AreDefinedIn : Text → List Known → Type 0
AreDefinedIn text definitions = SpellsAll definitions text × AreWellFormed definitions

-- among the definitions of the text the Name has the type
abbrev pub Defines : Text → Text → AsnType → Type 0
Defines text name T = (definitions : List Known) × AreDefinedIn text definitions × IsDefined name T definitions

-- P holds of x, and of nothing else
abbrev pub IsOnly : {A : Type 0} → (A → Type 0) → A → Type 0
IsOnly {A} P x = P x × ((y : A) → P y → y ≡ x)

abbrev pub IsNamed : Option Text → Option Text → Option Text → AsnType → Type 0
IsNamed (Some text) None None T = IsTypeIn text T
IsNamed None (Some text) (Some name) T = Defines text name T
IsNamed one types name T = ⊥

-- the type is the well-formed one that the text of `--type` spells, or that the Name of `--name` has among the definitions of `--types`
abbrev pub SpelledBy : Texts → AsnType → Type 0
SpelledBy t T = IsNamed t.one t.types t.name T

-- The text of the definitions is read from the input: `--types` is `-`, `--name` is given, and `--type` is not.
abbrev pub are_read : Option Text → Option Text → Option Text → Bool
are_read None (Some text) (Some name) = bytes_eq text (codes "-")
are_read one types name = false

abbrev pub reads_types : Texts → Bool
reads_types t = are_read t.one t.types t.name

-- The type is the one that the texts name. Where the text of the definitions is read from the input, it is all that this had left, where
-- that is known, and fewer than 2^64 octets, and the octets or the JSON are given.
abbrev pub SpelledWith : Texts → Option Text → Option (List ℕ) → AsnType → Type 0
SpelledWith t source told T = MatchBool (reads_types t)
    ((source ≢ None) × IfSome told (λ b. (length b ≤ most) × IsUtf8 b × SpelledBy (record t { types = Some b }) T))
    (SpelledBy t T)

-- no texts of these options name a type
abbrev pub NamesNone : Texts → Type 0
NamesNone t = (T : AsnType) → SpelledBy t T → ⊥

-- why texts of `--type` and `--types` name no type, where with `--name` they name none
abbrev pub lack_in : Option Text → Option Text → Fault
lack_in None None = OneType
lack_in None (Some text) = NoName
lack_in (Some text) None = NoTypes
lack_in (Some text) (Some texts) = OneType

abbrev pub lack_of : Texts → Fault
lack_of t = lack_in t.one t.types

-- Unless memory ran out, the text spells no well-formed type.
abbrev pub SpellsNone : Fault → Text → Type 0
SpellsNone fault text = fault ≢ Memory → (T : AsnType) → IsTypeIn text T → ⊥

-- Unless memory ran out, the text spells no definitions whose types are all well-formed.
abbrev pub DefinesNone : Fault → Text → Type 0
DefinesNone fault text = fault ≢ Memory → (definitions : List Known) → AreDefinedIn text definitions → ⊥

abbrev pub texts_at : TypeText → Texts
texts_at (One text) = record { one = Some text.now; types = None; name = None }
texts_at (Named types name) = record { one = None; types = Some types.now; name = Some name.now }
