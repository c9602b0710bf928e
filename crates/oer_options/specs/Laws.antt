-- What the words of some command lines ask for.
use Rattle.std.specs.Prelude.{◌≡◌, List, [], ◌∷◌, ◌++◌, Option, Some, None, true, codes}
use Rattle.clap.specs.Words.{Text, takes}
use Rattle.oer_options.specs.Words.{Texts, asked, default_limit, given, given_number, oer, texts_in}

-- the words are taken, and ask for the task with the type, the digits and the limit
pub record AsksFor (words : List Text) (name : Text) (types : Texts) (hex_value limit_value : Option Text) : Type 0 where
  pub takes : takes oer words ≡ true
  pub task : asked words ≡ Some name
  pub texts : texts_in words ≡ types
  pub hex : given words (codes "hex") ≡ hex_value
  pub limit : given_number words (codes "limit") ≡ limit_value

-- the text of one type
abbrev pub one : Text → Texts
one t = record { one = Some t; types = None; name = None }

-- definitions and a Name
abbrev pub named : Text → Text → Texts
named t n = record { one = None; types = Some t; name = Some n }

abbrev pub WithEqualSigns : Type 0
WithEqualSigns = (t h : Text)
    → AsksFor (codes "oer" ∷ codes "canon" ∷ (codes "--type=" ++ t) ∷ (codes "--hex=" ++ h) ∷ []) (codes "canon") (one t) (Some h)
    (Some default_limit)

abbrev pub WithName : Type 0
WithName = (t n h : Text)
    → AsksFor (codes "oer" ∷ codes "canon" ∷ (codes "--types=" ++ t) ∷ (codes "--name=" ++ n) ∷ (codes "--hex=" ++ h) ∷ [])
    (codes "canon") (named t n) (Some h) (Some default_limit)

abbrev pub WithoutDigits : Type 0
WithoutDigits = (t : Text)
    → AsksFor (codes "oer" ∷ codes "canon" ∷ (codes "--type=" ++ t) ∷ codes "--limit" ∷ codes "7" ∷ []) (codes "canon")
    (one t) None (Some (codes "7"))

abbrev pub StoredRun : Type 0
StoredRun = AsksFor (codes "oer" ∷ codes "canon" ∷ codes "--type" ∷ codes "INTEGER (0..MAX)" ∷ codes "--hex" ∷ codes "020005"
    ∷ []) (codes "canon")
    (one (codes "INTEGER (0..MAX)")) (Some (codes "020005")) (Some default_limit)

abbrev pub ShowHex : Type 0
ShowHex = (t h : Text)
    → AsksFor (codes "oer" ∷ codes "show" ∷ (codes "--hex=" ++ h) ∷ (codes "--type=" ++ t) ∷ codes "--limit=9" ∷ [])
    (codes "show") (one t) (Some h) (Some (codes "9"))

abbrev pub CheckHex : Type 0
CheckHex = (t h : Text)
    → AsksFor (codes "oer" ∷ codes "check" ∷ (codes "--hex=" ++ h) ∷ (codes "--type=" ++ t) ∷ []) (codes "check") (one t) (Some h)
    (Some default_limit)

abbrev pub MakeJson : Type 0
MakeJson = (t j : Text) → let words = codes "oer" ∷ codes "make" ∷ (codes "--json=" ++ j) ∷ (codes "--type=" ++ t) ∷ [] in
    AsksFor words (codes "make") (one t) None (Some default_limit) × (given words (codes "json") ≡ Some j)

abbrev pub PartWithPath : Type 0
PartWithPath = (t p : Text)
    → let words = codes "oer" ∷ codes "part" ∷ (codes "--path=" ++ p) ∷ (codes "--type=" ++ t) ∷ codes "--limit=9" ∷ [] in
    AsksFor words (codes "part") (one t) None (Some (codes "9")) × (given words (codes "path") ≡ Some p)
