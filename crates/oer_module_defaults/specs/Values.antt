-- The value that tokens of a module are, and where the values in it stand.
use Rattle.std.specs.Prelude.{ℕ, List, Ok, if◌then◌else◌}
use Rattle.oer_module_lexer.specs.Token.{Spot}
use Rattle.oer_module_names.specs.declared.error.Place.{Place}
use Rattle.oer_module_syntax.specs.Modules.{none_left}
use Rattle.oer_module_syntax.specs.State.{State}
use Rattle.oer_module_terms.specs.Trees.{Value, atom, numbered, choice, braces, Parts, no_parts, part as a_part}
use Rattle.oer_module_terms.specs.Values.{value_at}
use Rattle.oer_module_text.specs.Errors.{Read, error, in_module, not_taken, place_in, ◌>>=◌}
use Rattle.oer_module_text.specs.declared.error.Part.TheVariants as part
use Rattle.oer_module_values.specs.Kept.{kept}
use Rattle.oer_module_values.specs.Numbers.{place_of_first}

-- and nothing behind it, as actual parameters are
abbrev pub alone : Place → Value × State → Read Value
alone p (v, s) = if none_left s.left then Ok v else error p (not_taken part.Value)

-- values may nest to 64 levels
unfoldable pub value_in : ℕ → List Spot → Read Value
value_in m ts = in_module m (value_at 64 (kept ts)) >>= alone (place_of_first m ts)

-- the byte at which a value begins
abbrev pub begin_of : Value → ℕ
begin_of (atom at a) = at
begin_of (numbered at w n) = at
begin_of (choice at w v) = at
begin_of (braces at ms) = at

abbrev pub value_place : ℕ → Value → Place
value_place m v = place_in m (begin_of v)

-- where a member of braces at a place begins; each has a part
abbrev pub member_place : Place → Parts → Place
member_place p no_parts = p
member_place p (a_part v vs) = value_place p.«module» v
