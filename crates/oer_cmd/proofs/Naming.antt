-- The one type that texts name.
use Rattle.std.proofs.Common.{◌≡◌, ◌∙◌, List, Ok, sym}
use Rattle.clap.specs.Words.{Text}
use Rattle.oer_model.specs.AsnType.{AsnType}
use Rattle.oer_notation.specs.Laws.{OneType, ParseAllComplete, ParseAllSound, ParseSound}
use Rattle.oer_notation.specs.Parsing.{parse, parse_all}
use Rattle.oer_notation.specs.Reading.{Known}
use Rattle.oer_cmd.specs.Types.{AreDefinedIn, IsOnly, IsTypeIn}

-- What was read of a text is the one type in it.
pub only_type : ParseSound → OneType → (text : Text) (T : AsnType) → parse text ≡ Ok T → IsOnly (IsTypeIn text) T
only_type sound one text T e = let s = sound text T e in (s, λ U h. one text U T h.0 s.0 h.1 s.1)

pub only_definitions : ParseAllSound → ParseAllComplete → (text : Text) (ks : List Known) → parse_all text ≡ Ok ks
    → IsOnly (AreDefinedIn text) ks
only_definitions sound complete text ks e = (sound text ks e, λ others h. let both = sym (complete text others h.0 h.1) ∙ e in cc)
