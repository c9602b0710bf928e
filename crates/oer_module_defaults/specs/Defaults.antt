-- A value after DEFAULT in a module (X.680, 17.7): which value it is, and the text with it, as ASN.1 writes values.
use Rattle.std.specs.Prelude.{ℕ, zero, suc, List, [], ◌∷◌, ◌++◌, length, ◌==◌, Bool, not, Option, Some, None, Ok, codes, if◌then◌else◌}
use Rattle.oer_model.specs.AsnValue.{AsnValue, items, chosen}
use Rattle.oer_module_lexer.specs.Token.{Spot}
use Rattle.oer_module_names.specs.declared.error.Place.{Place}
use Rattle.oer_module_syntax.specs.Tree.{Module, Tree}
use Rattle.oer_module_terms.specs.Trees.{Value, choice, braces, Parts, no_parts, part, Members, no_members, member}
use Rattle.oer_module_text.specs.Errors.{Read, error, too_deep, ◌>>=◌}
use Rattle.oer_module_text.specs.Room.{Room, put, take_part}
use Rattle.oer_module_values.specs.Numbers.{place_of_first}
use Rattle.oer_module_values.specs.Types.{TypeIn, type_in}
use Rattle.oer_values.specs.ValueView.{values_from}
use Rattle.oer_module_defaults.specs.Alternatives.{Alternative, alternative_at}
use Rattle.oer_module_defaults.specs.Arcs.{arcs}
use Rattle.oer_module_defaults.specs.Atoms.{boolean_at, no_text, none_such, null_at, octet_string_at, single, text_at}
use Rattle.oer_module_defaults.specs.Components.{Component, components_at, elements_of, item_in}
use Rattle.oer_module_defaults.specs.Filled.{Filled, empty, sequence_in, with_value}
use Rattle.oer_module_defaults.specs.Governors.{Governor, governor_at, is_taken_by}
use Rattle.oer_module_defaults.specs.Leaves.{bit_string_at, enumerated_at, integer_at}
use Rattle.oer_module_defaults.specs.Slots.{Slot, slots_in}
use Rattle.oer_module_defaults.specs.Values.{member_place, value_place}
use Rattle.oer_module_defaults.specs.Walks.{Literal, Source, reference_at, walk}
use Rattle.oer_module_defaults.specs.declared.governor.Kind.{Kind}
use Rattle.oer_module_defaults.specs.declared.governor.Kind.TheVariants.{Boolean, Null, Integer, Enumerated, Octets, Bits, Text, Arcs}
use Rattle.oer_module_defaults.specs.declared.governor.Kind.TheVariants.{Sequence, SequenceOf, Choice}

-- a type as it is written where it is used, and what it governs
pub record Target : Type 0 where
  pub of : TypeIn
  pub governor : Governor

-- a comma behind others
abbrev pub put_comma : Bool → Room → Room
put_comma any r = if any then put (codes ", ") r else r

-- the name of a component, behind others
abbrev pub put_name : Bool → List ℕ → Room → Room
put_name any w r = put (codes " ") (put w (put_comma any r))

abbrev pub has_any : List AsnValue → Bool
has_any found = not (length found == 0)

-- the value that a member is, if it is one alone
abbrev pub only_part : Parts → Option Value
only_part no_parts = None
only_part (part v no_parts) = Some v
only_part (part v (part w vs)) = None

-- values where so are those in them, by their types and modules
module _ (value : TypeIn → ℕ → Value → Room → Read (AsnValue × Room)) where
  -- a value in another takes a part
  abbrev pub inner_at : TypeIn → ℕ → Value → Room → Read (AsnValue × Room)
  inner_at t m v r = take_part (value_place m v) r >>= λ s. value t m v s

  -- ---- SEQUENCE (25): each component, behind those before it

  abbrev pub slot_by : ℕ → Component → Option Value → Filled → Room → Read (Filled × Room)
  slot_by m c None f r = Ok (with_value c.added None f, r)
  slot_by m c (Some v) f r =
      inner_at (type_in c.«module» c.type) m v (put_name f.any c.name r) >>= λ x. Ok (with_value c.added (Some x.0) f, x.1)

  abbrev pub filled_at : ℕ → List Slot → Filled → Room → Read (Filled × Room)
  filled_at m [] f r = Ok (f, r)
  filled_at m (s ∷ ss) f r = slot_by m s.component s.value f r >>= λ x. filled_at m ss x.0 x.1

  -- ---- SEQUENCE OF (26): items of a type, behind those found

  abbrev pub item_by : Place → Place → TypeIn → Option Value → List AsnValue → Room → Read (List AsnValue × Room)
  item_by p q t None found r = none_such q
  item_by p q t (Some v) found r =
      inner_at t p.«module» v (put_comma (has_any found) r) >>= λ x. Ok (found ++ x.0 ∷ [], x.1)

  abbrev pub items_at : Place → TypeIn → Members → List AsnValue → Room → Read (List AsnValue × Room)
  items_at p t no_members found r = Ok (found, r)
  items_at p t (member vs more) found r =
      item_by p (member_place p vs) t (only_part vs) found r >>= λ x. items_at p t more x.0 x.1

  abbrev pub list_at : Place → TypeIn → Members → Room → Read (AsnValue × Room)
  list_at p t members r = items_at p t members [] (put (codes "{") r) >>= λ x. Ok (items (values_from x.0), put (codes "}") x.1)

  abbrev pub list_of : Place → TypeIn → Value → Room → Read (AsnValue × Room)
  list_of p t (braces at members) r = list_at p t members r
  list_of p t v r = none_such p

  abbrev pub list_by : Place → ℕ → Option Tree → Value → Room → Read (AsnValue × Room)
  list_by p m None v r = none_such p
  list_by p m (Some t) v r = list_of p (type_in m t) v r

  -- ---- CHOICE (29)

  abbrev pub chosen_at : Place → List ℕ → Value → Alternative → Room → Read (AsnValue × Room)
  chosen_at p w v a r = inner_at a.of p.«module» v (put (codes " : ") (put w r)) >>= λ x. Ok (chosen a.tag x.0, x.1)

  -- ---- all kinds

  module _ (ms : List Module) where
    abbrev pub sequence_at : Place → Governor → Members → Room → Read (AsnValue × Room)
    sequence_at p g members r = do
      es ← elements_of p g.type
      cs ← components_at ms g.«module» es r
      ss ← slots_in p cs.0 members
      x ← filled_at p.«module» ss empty (put (codes "{") cs.1)
      Ok (sequence_in x.0, put (codes "}") x.1)

    abbrev pub sequence_by : Place → Governor → Value → Room → Read (AsnValue × Room)
    sequence_by p g (braces at members) r = sequence_at p g members r
    sequence_by p g v r = none_such p

    abbrev pub choice_by : Place → Governor → Value → Room → Read (AsnValue × Room)
    choice_by p g (choice at w v) r = alternative_at ms p g w r >>= λ a. chosen_at p w v a.0 a.1
    choice_by p g v r = none_such p

    -- a value of a type, of the kind that governs it
    abbrev pub kind_at : Kind → Target → Literal → Room → Read (AsnValue × Room)
    kind_at Boolean t l r = boolean_at l.place (single l.value) r
    kind_at Null t l r = null_at l.place (single l.value) r
    kind_at Integer t l r = integer_at ms t.of l.place (single l.value) r
    kind_at Enumerated t l r = enumerated_at ms t.governor l.governor l.place (single l.value) r
    kind_at Octets t l r = octet_string_at l.place (single l.value) r
    kind_at Bits t l r = bit_string_at ms t.of l.place l.governor l.value r
    kind_at Text t l r = text_at l.place (single l.value) r
    kind_at Arcs t l r = arcs l.place l.value r
    kind_at Sequence t l r = sequence_by l.place l.governor l.value r
    kind_at SequenceOf t l r = list_by l.place l.governor.«module» (item_in l.governor.type) l.value r
    kind_at Choice t l r = choice_by l.place l.governor l.value r

    -- one that is no reference
    abbrev pub literal_at : Target → Literal → Room → Read (AsnValue × Room)
    literal_at t l r = if is_taken_by t.governor l.governor then kind_at l.governor.kind t l r else no_text l.place

    -- one to which tokens come
    abbrev pub source_at : Target → Source → Room → Read (AsnValue × Room)
    source_at t s r = walk ms 255 s >>= λ l. literal_at t l r

    abbrev pub found_at : Target → Place → Value → Option Source → Room → Read (AsnValue × Room)
    found_at t p v (Some s) r = source_at t s r
    found_at t p v None r = literal_at t (record { place = p; governor = t.governor; value = v }) r

    -- one at a place
    abbrev pub governed_at : TypeIn → Place → Value → Room → Read (AsnValue × Room)
    governed_at t p v r = do
      g ← governor_at ms p t
      s ← reference_at ms p g v
      found_at (record { of = t; governor = g }) p v s r

module _ (ms : List Module) where
  -- a value of a type, which stands in a module; the number is how many levels of values may nest
  unfoldable pub value_at : ℕ → TypeIn → ℕ → Value → Room → Read (AsnValue × Room)
  value_at zero t m v r = error (value_place m v) too_deep
  value_at (suc levels) t m v r = governed_at (value_at levels) ms t (value_place m v) v r

  -- the value that tokens in a module are, of a type; 32 levels may nest
  unfoldable pub default_at : TypeIn → ℕ → List Spot → Room → Read (AsnValue × Room)
  default_at t m ts r = do
    g ← governor_at ms (place_of_first m ts) t
    source_at (value_at 31) ms (record { of = t; governor = g }) (record { «module» = m; governor = g; spots = ts }) r
