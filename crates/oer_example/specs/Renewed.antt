-- What the program does with a certificate.
use Rattle.std.specs.Prelude.{◌≡◌, ℕ, zero, suc, List, [], ◌∷◌, ◌++◌, length, Option, Some, None, option_map, pos, Ok}
use Rattle.hex.specs.Hex.{decode_of, encode_lower}
use Rattle.oer_model.specs.AsnType.{AsnType}
use Rattle.oer_model.specs.AsnValue.{AsnValue, Places, absent, int, no_places, present, seq}
use Rattle.oer_model.specs.Encoding.{Encodes}
use Rattle.oer_model.specs.Parts.{Step, Within, to_component}
use Rattle.oer_model.specs.Strict.{IsCanonical}

-- b is all of one encoding
abbrev pub IsEncoding : AsnType → List ℕ → Type 0
IsEncoding T b = (v : AsnValue) × Encodes T v b

-- no encoding at the front of b has another length than b
abbrev pub IsNoFront : AsnType → List ℕ → Type 0
IsNoFront T b = (v : AsnValue) (c rest : List ℕ) → b ≡ c ++ rest → Encodes T v c → length c ≡ length b

-- in b the path leads to s
abbrev pub IsPart : AsnType → List ℕ → List Step → List ℕ → Type 0
IsPart T b path s = (U : Option AsnType) × Within (Some T) b path U s

-- the components with x in the place i, if there is such a place
abbrev pub put_at : ℕ → AsnValue → Places → Option Places
put_at i x no_places = None
put_at zero x (absent ps) = Some (present x ps)
put_at zero x (present v ps) = Some (present x ps)
put_at (suc i) x (absent ps) = option_map absent (put_at i x ps)
put_at (suc i) x (present v ps) = option_map (present v) (put_at i x ps)

-- the SEQUENCE with x in the place i of its root, if it has such a place
abbrev pub with_component : ℕ → AsnValue → AsnValue → Option AsnValue
with_component i x (seq root added us) = option_map (λ (ps : Places). seq ps added us) (put_at i x root)
with_component i x v = None

-- where a certificate has the part that is signed: its component 3, counted from 0
abbrev pub signed_path : List Step
signed_path = to_component 3 ∷ []

-- New are the octets to sign for the certificate with another series. T is the type of certificates, U that of the part that is signed.
pub record IsRenewed (T U : AsnType) (certificate : List ℕ) (series : ℕ) (new : List ℕ) : Type 0 where
  -- the certificate is an encoding, and the part that is signed is there in it
  pub whole : IsEncoding T certificate
  pub signed : List ℕ
  pub part : IsPart T certificate signed_path signed
  -- the part is an encoding of a value, and new are the canonical octets of that value with the series as its component 2
  pub value : AsnValue
  pub encodes : Encodes U value signed
  pub changed : AsnValue
  pub change : with_component 2 (int (pos series)) value ≡ Some changed
  pub canonical : IsCanonical U changed new

-- the line is those octets in digits, for the certificate that the digits spell
abbrev pub IsRenewedLine : AsnType → AsnType → List ℕ → ℕ → List ℕ → Type 0
IsRenewedLine T U digits series line = (b : List ℕ) × (new : List ℕ) × (decode_of digits ≡ Ok b)
    × IsRenewed T U b series new × (line ≡ encode_lower new)
