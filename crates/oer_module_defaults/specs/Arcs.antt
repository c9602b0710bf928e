-- Values of OBJECT IDENTIFIER (X.680, 32).
use Rattle.std.specs.Prelude.{ℕ, List, [], ◌∷◌, true, false, Option, Some, None, Ok, codes}
use Rattle.oer_literals.specs.Numbers.{arc_of}
use Rattle.oer_model.specs.AsnValue.{AsnValue, oid}
use Rattle.oer_module_names.specs.declared.error.Place.{Place}
use Rattle.oer_module_terms.specs.Trees.{Amount, number, named, Atom, amount, Value, atom, numbered, braces, Parts, no_parts, part}
use Rattle.oer_module_terms.specs.Trees.{Members, no_members, member}
use Rattle.oer_module_text.specs.Errors.{Read, error, too_wide, ◌>>=◌}
use Rattle.oer_module_text.specs.Room.{Room, put}
use Rattle.oer_module_defaults.specs.Atoms.{none_such, no_text}

-- the digits of a number without a sign
abbrev pub digits_of : Amount → Option (List ℕ)
digits_of (number false w) = Some w
digits_of (number true w) = None
digits_of (named w steps) = None

abbrev pub atom_digits : Atom → Option (List ℕ)
atom_digits (amount a) = digits_of a
atom_digits _ = None

-- of an arc: a number, also in parentheses behind a name
abbrev pub digits_in : Value → Option (List ℕ)
digits_in (atom at a) = atom_digits a
digits_in (numbered at name a) = digits_of a
digits_in _ = None

abbrev pub or_no_text : Place → Option (List ℕ) → Read (List ℕ)
or_no_text p None = no_text p
or_no_text p (Some w) = Ok w

-- 128 bits at the most
abbrev pub or_too_wide : Place → Option ℕ → Read ℕ
or_too_wide p None = error p too_wide
or_too_wide p (Some n) = Ok n

-- one, behind a space
unfoldable pub arc_at : Place → Value → Room → Read (ℕ × Room)
arc_at p v r = or_no_text p (digits_in v) >>= λ w. or_too_wide p (arc_of w) >>= λ n. Ok (n, put w (put (codes " ") r))

-- each behind a space
abbrev pub some_arcs : Place → Parts → Room → Read (List ℕ × Room)
some_arcs p no_parts r = Ok ([], r)
some_arcs p (part v vs) r = arc_at p v r >>= λ a. some_arcs p vs a.1 >>= λ s. Ok (a.0 ∷ s.0, s.1)

-- two or more, in braces
abbrev pub braced : Place → Parts → Room → Read (AsnValue × Room)
braced p vs r = some_arcs p vs (put (codes "{") r) >>= λ s. Ok (oid s.0, put (codes " }") s.1)

abbrev pub part_arcs : Place → Parts → Room → Read (AsnValue × Room)
part_arcs p no_parts r = none_such p
part_arcs p (part v no_parts) r = none_such p
part_arcs p (part v (part w vs)) r = braced p (part v (part w vs)) r

abbrev pub only_member : Members → Option Parts
only_member no_members = None
only_member (member vs no_members) = Some vs
only_member (member vs (member ws more)) = None

abbrev pub arcs_by : Place → Option Parts → Room → Read (AsnValue × Room)
arcs_by p None r = none_such p
arcs_by p (Some vs) r = part_arcs p vs r

abbrev pub arcs : Place → Value → Room → Read (AsnValue × Room)
arcs p (braces at ms) r = arcs_by p (only_member ms) r
arcs p _ r = none_such p
