-- What is said of octets that a type rejects: their rows, and what is wrong.
use Rattle.std.specs.Prelude.{◌≡◌, ℕ, ◌==◌, List, [], ◌∷◌, ◌++◌, Bool, true, false, Option, Some, None, IfSome, is_some, option_map, codes, string_bytes, if◌then◌else◌}
use Rattle.oer_units.specs.Reader.{Outcome, at, got, refused}
use Rattle.oer_units.specs.declared.fault.Why.{Why}
use Rattle.oer_units.specs.declared.fault.Why.TheVariants.{Limit}
use Rattle.oer_model.specs.AsnType.{AsnType}
use Rattle.oer_model.specs.Checking.{check_value}
use Rattle.oer_values.specs.ShapeView.{type_of}
use Rattle.oer_checker.specs.Check.{most}
use Rattle.oer_entries.specs.Places.{IsPlace, is_rejected}
use Rattle.oer_entries.specs.declared.entry.Place.{Place}
use Rattle.oer_layout.specs.Pages.{IsLines}
use Rattle.oer_explain.specs.JsonPath.{at_line}
use Rattle.oer_explain.specs.OctetsWords.{octets_line}

-- ---- the rows

-- what stands before an octet of lines
abbrev pub margin : Bool → List ℕ
margin is_start = if is_start then codes "  " else codes ""

abbrev pub indented_onto : List ℕ → Bool → List ℕ → List ℕ
indented_onto text is_start [] = text
indented_onto text is_start (c ∷ cs) = indented_onto ((text ++ margin is_start) ++ c ∷ []) (c == 10) cs

-- lines, each behind two spaces
abbrev pub indented : List ℕ → List ℕ
indented lines = indented_onto [] true lines

-- the rows, as `oer-dump --width 100` prints them, behind two spaces
abbrev pub IsRows : AsnType → List ℕ → List ℕ → Type 0
IsRows T b rows = (lines : List ℕ) × IsLines 100 T b lines × (rows ≡ indented lines)

-- ---- the part

-- what is said of the part that was being read: the names on the path to it, and its type, if that is known
abbrev pub Spot : Type 0
Spot = List ℕ × Option AsnType

abbrev pub spot_of : Place → Spot
spot_of place = (string_bytes place.names, option_map (λ s. type_of s.now) place.shape)

abbrev pub place_lines : Why → Option Spot → List ℕ
place_lines why None = octets_line why None
place_lines why (Some (names, U)) = at_line names ++ octets_line why U

-- The place is a part of the type where octets are rejected, and only there is one.
abbrev pub IsPlaceOf : AsnType → List ℕ → Option Place → Type 0
IsPlaceOf T b found = IfSome found (IsPlace T) × (is_some found ≡ is_rejected T b)

-- ---- what is said

-- the rows of octets that are rejected for this reason, the part that was being read, and what is wrong with it
abbrev pub AreRowsSaid : Why → AsnType → List ℕ → List ℕ → Type 0
AreRowsSaid why T b text = (rows : List ℕ) × (place : Option Place) × IsRows T b rows × IsPlaceOf T b place
    × (text ≡ rows ++ place_lines why (option_map spot_of place))

-- Octets that would pass the limit have no rows up to there.
abbrev pub is_limit : Why → Bool
is_limit Limit = true
is_limit why = false

-- what is said of octets that are rejected for this reason
abbrev pub IsSaid : Bool → Why → AsnType → List ℕ → List ℕ → Type 0
IsSaid true why T b text = text ≡ octets_line why None
IsSaid false why T b text = AreRowsSaid why T b text

-- the same, and nothing without a reason
abbrev pub SaysOf : AsnType → List ℕ → Option Why → List ℕ → Type 0
SaysOf T b None text = text ≡ []
SaysOf T b (Some why) text = IsSaid (is_limit why) why T b text

-- ---- octets that `check` rejects

abbrev pub why_in : {A : Type 0} → Outcome A → Option Why
why_in (got x q) = None
why_in (refused why rest) = Some why

-- why it rejects the octets b; none where it accepts them
abbrev pub check_why : AsnType → List ℕ → Option Why
check_why T b = why_in (check_value T (at b most))

-- what is said of them; nothing where it accepts them
abbrev pub SaysChecked : AsnType → List ℕ → List ℕ → Type 0
SaysChecked T b text = SaysOf T b (check_why T b) text
