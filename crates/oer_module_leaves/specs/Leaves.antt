-- The type and the text of types that hold no other: the text as docs/NOTATION.md has it in "Printing".
use Rattle.std.specs.Prelude.{ℕ, List, Bool, false, not, ◌&&◌, Option, Some, None, is_none, slice_get, Ok, codes, if◌then◌else◌}
use Rattle.oer_model.specs.AsnType.{AsnType, boolean, integer, null, object_id}
use Rattle.oer_module_lexer.specs.Token.{Spot}
use Rattle.oer_module_limits.specs.Limits.{integer_range, size_range}
use Rattle.oer_module_limits.specs.Written.{written}
use Rattle.oer_module_names.specs.declared.error.Place.{Place}
use Rattle.oer_module_syntax.specs.Modules.{none_left}
use Rattle.oer_module_syntax.specs.Tree.{Module, Tree, plain}
use Rattle.oer_module_syntax.specs.declared.word.Builtin.{Builtin}
use Rattle.oer_module_syntax.specs.declared.word.Builtin.TheVariants as bi
use Rattle.oer_module_text.specs.Errors.{Read, refused, limited_by, place_in, ◌>>=◌}
use Rattle.oer_module_text.specs.Room.{Room, put}
use Rattle.oer_module_text.specs.declared.error.Part.TheVariants as part
use Rattle.oer_module_values.specs.Looks.{place_of}
use Rattle.oer_module_values.specs.Types.{Meaning}
use Rattle.oer_module_leaves.specs.Comments.{checked_of, unchecked_at}
use Rattle.oer_module_leaves.specs.Numbered.{Numbered, numbered_at}
use Rattle.oer_module_leaves.specs.Shapes.{counted_type, enumerated_type, size_at, words}
use Rattle.oer_module_leaves.specs.Texts.{Sizes, fixed, items_at, put_range, put_size, sizes_within}
use Rattle.oer_module_leaves.specs.declared.shape.Counted.{Counted}
use Rattle.oer_module_leaves.specs.declared.shape.Counted.TheVariants.{Bits, Octets, Ia5, Visible, Numeric, Printable, Utf8}

abbrev pub has_implied : Option Module → Bool
has_implied None = false
has_implied (Some m) = m.extensible

-- the words of a type, and its sizes
abbrev pub put_sized : List ℕ → Sizes → Room → Room
put_sized words s r = put_size s (put words r)

-- a type at a place whose values SIZE counts, with these sizes
abbrev pub counted_at : Place → Counted → Room → Sizes → Read (AsnType × Room)
counted_at p c r s = size_at p s >>= λ size. Ok (counted_type c size, put_sized (words c) s r)

-- the items of an ENUMERATED in a module: too many parts come before a number that is too wide
unfoldable pub listed_at : ℕ → Numbered → Room → Read (AsnType × Room)
listed_at m e r = items_at m e r >>= λ s. enumerated_type m e >>= λ t. Ok (t, s)

-- the header of a module has EXTENSIBILITY IMPLIED (X.680, 13.4)
abbrev pub is_implied : List Module → ℕ → Bool
is_implied ms m = has_implied (slice_get ms m)

module _ (ms : List Module) where
  -- the sizes of what a type at a place stands for
  abbrev pub sizes_at : Place → Meaning → Read Sizes
  sizes_at p m = limited_by (size_range ms p m) >>= λ s. Ok (sizes_within s)

  abbrev pub integer_at : Place → Meaning → Room → Read (AsnType × Room)
  integer_at p m r = limited_by (integer_range ms p m) >>= λ s. Ok (integer s.low s.high, put_range s (put (codes "INTEGER") r))

  -- a type at a place, q, whose values SIZE counts
  abbrev pub sized_at : Counted → Place → Meaning → Place → Room → Read (AsnType × Room)
  sized_at c p m q r = sizes_at p m >>= counted_at q c r

  -- Where bits have names, canonical octets leave out last bits that are 0 (X.680, 22.7; X.696, 13), unless there is one size alone.
  abbrev pub bits_by : Place → List Spot → Room → Sizes → Read (AsnType × Room)
  bits_by p ts r s =
      if not (none_left ts) && is_none (fixed s) then refused p.«module» p.at part.NamedBits
      else counted_at p Bits r s

  abbrev pub bits_at : Place → Meaning → Place → List Spot → Room → Read (AsnType × Room)
  bits_at p m q ts r = sizes_at p m >>= bits_by q ts r

  -- there is no marker, and the header of the module implies one
  abbrev pub lacks_marker : ℕ → Numbered → Bool
  lacks_marker m e = is_none e.marker && is_implied ms m

  abbrev pub enumerated_by : Place → Room → Numbered → Read (AsnType × Room)
  enumerated_by p r e =
      if lacks_marker p.«module» e then refused p.«module» p.at part.Implied
      else listed_at p.«module» e (put (codes "ENUMERATED {") r)

  abbrev pub enumerated_at : Place → List Spot → Room → Read (AsnType × Room)
  enumerated_at p ts r = numbered_at ms p ts >>= enumerated_by p r

  -- a type with words of its own, at a place, q, for which the type at p stands
  abbrev pub plain_at : Place → Meaning → Place → Builtin → List Spot → Room → Read (AsnType × Room)
  plain_at p m q bi.Boolean ts r = Ok (boolean, put (codes "BOOLEAN") r)
  plain_at p m q bi.Null ts r = Ok (null, put (codes "NULL") r)
  plain_at p m q bi.ObjectIdentifier ts r = Ok (object_id, put (codes "OBJECT IDENTIFIER") r)
  plain_at p m q bi.Integer ts r = integer_at p m r
  plain_at p m q bi.Enumerated ts r = enumerated_at q ts r
  plain_at p m q bi.BitString ts r = bits_at p m q ts r
  plain_at p m q bi.OctetString ts r = sized_at Octets p m q r
  plain_at p m q bi.Ia5String ts r = sized_at Ia5 p m q r
  plain_at p m q bi.VisibleString ts r = sized_at Visible p m q r
  plain_at p m q bi.Iso646String ts r = sized_at Visible p m q r
  plain_at p m q bi.NumericString ts r = sized_at Numeric p m q r
  plain_at p m q bi.PrintableString ts r = sized_at Printable p m q r
  plain_at p m q bi.Utf8String ts r = sized_at Utf8 p m q r
  plain_at p m q builtin ts r = refused q.«module» q.at part.Word

  -- its words, and a comment on constraints that aren't in them
  abbrev pub leaf_by : Place → Meaning → ℕ → Tree → Room → Read (AsnType × Room)
  leaf_by p m k (plain at builtin ts cs) r =
      plain_at p m (place_in k at) builtin ts r >>= λ x. Ok (x.0, unchecked_at (checked_of builtin) false (written k cs m.given) x.1)
  leaf_by p m k u r = refused k (place_of u) part.Word

  -- what a type at a place stands for
  unfoldable pub leaf_at : Place → Meaning → Room → Read (AsnType × Room)
  leaf_at p m r = leaf_by p m m.of.«module» m.of.type r
