-- What comes next where octets were rejected, by what was read before.
use Rattle.std.specs.Prelude.{ℕ, suc, ◌-◌, ◌*◌, List, [], ◌∷◌, length, drop, take, Bool, true, false, ◌&&◌, ◌||◌, leb, ltb, min, Option, Some, None, if◌then◌else◌}
use Rattle.oer_units.specs.Stream.{one_more}
use Rattle.oer_units.specs.declared.tagging.Tag.{Tag}
use Rattle.oer_model.specs.AsnType.{AsnType, Fields, Need, choice, default, extensible_sequence, field, leaf, may, must, no_fields, sequence, sequence_of}
use Rattle.oer_model.specs.Bits.{bit_value, bits_of, first_bit}
use Rattle.oer_model.specs.Constraints.{has_tag}
use Rattle.oer_model.specs.SharedSteps.{bits_left, is_there}
use Rattle.oer_checker.specs.Check.{most}
use Rattle.oer_parts.specs.declared.step.Step.{Step}
use Rattle.oer_parts.specs.declared.step.Step.TheVariants.{Addition, Chosen, Component, Item}
use Rattle.oer_entries.specs.Frames.{Seen}
use Rattle.oer_entries.specs.Trails.{entered}
use Rattle.oer_entries.specs.declared.bits.Bitmap.{Bitmap}
use Rattle.oer_entries.specs.declared.next.Next.{Next}
use Rattle.oer_entries.specs.declared.next.Next.TheVariants.{After, Here, Inside}

-- to the part that is there, or else otherwise
abbrev pub inside_or : Next → Option Step → Next
inside_or otherwise None = otherwise
inside_or otherwise (Some step) = Inside step

-- ---- SEQUENCE

-- whether a component has a bit in the preamble (X.696, 16.2)
abbrev pub has_bit : Need → Bool
has_bit must = false
has_bit may = true
has_bit (default v) = true

-- the first component that is there of those with the number `from` or above, by the presence bits; i: the number of the first
abbrev pub component_from : ℕ → ℕ → Fields → List Bool → Option Step
component_from i from no_fields s = None
component_from i from (field name need T fs) s =
    if is_there need s && leb from i then Some (Component i) else component_from (suc i) from fs (bits_left need s)

-- where to look after the part that was begun last: among the components, unless an addition was begun
abbrev pub from_component : Option Step → Option ℕ
from_component None = Some 0
from_component (Some (Component i)) = Some (one_more i)
from_component (Some _) = None

abbrev pub component_if : Option ℕ → Fields → List Bool → Option Step
component_if None fs s = None
component_if (Some from) fs s = component_from 0 from fs s

-- the first bit that is set; i: the number of the first
abbrev pub addition_from : ℕ → List Bool → Option Step
addition_from i [] = None
addition_from i (x ∷ s) = if x then Some (Addition i) else addition_from (suc i) s

-- what follows a length
abbrev pub after_length : List ℕ → List ℕ
after_length [] = []
after_length (x ∷ rest) = if ltb x 128 then rest else drop (x - 128) rest

-- the bits of a bitmap (X.696, 16.4), the last of which aren't used; there are no more than a machine counts
abbrev pub used_bits : List ℕ → List Bool
used_bits [] = []
used_bits (unused ∷ octets) = take (min (length octets * 8) most - unused) (bits_of octets)

abbrev pub map_bits : List ℕ → List Bool
map_bits octets = used_bits (after_length octets)

-- the same as the program has them
abbrev pub bits_in : Bitmap → List Bool
bits_in bits = take bits.count (bits_of bits.octets.now)

-- the number of the addition after the one that was begun last
abbrev pub from_addition : Option Step → ℕ
from_addition (Some (Addition i)) = one_more i
from_addition _ = 0

abbrev pub after_map : Option (List ℕ) → Option Step → Next
after_map None last = Here
after_map (Some b) last = inside_or After (addition_from (from_addition last) (drop (from_addition last) (map_bits b)))

-- after the components of the root
abbrev pub after_root : Bool → Seen → Next
after_root false f = After
after_root true f = after_map f.bitmap f.last

-- in a SEQUENCE, with an extension marker or without one
abbrev pub after_preamble : Bool → Fields → Option (List ℕ) → Seen → Next
after_preamble extensible fs None f = Here
after_preamble extensible fs (Some b) f =
    inside_or (after_root (extensible && first_bit (bits_of b)) f)
    (component_if (from_component f.last) fs (drop (bit_value extensible) (bits_of b)))

-- ---- SEQUENCE OF

abbrev pub from_item : Option Step → ℕ
from_item (Some (Item i)) = one_more i
from_item _ = 0

abbrev pub after_quantity : Option ℕ → Option Step → Next
after_quantity None last = Here
after_quantity (Some count) last = if ltb (from_item last) count then Inside (Item (from_item last)) else After

-- ---- CHOICE

-- something follows a tag where the type knows it, or has an extension marker
abbrev pub follows_tag : Option AsnType → Tag → Bool
follows_tag (Some (choice extensible more)) t = extensible || has_tag t more
follows_tag _ t = false

abbrev pub after_tag : Option AsnType → Option Tag → Option Step → Next
after_tag T t (Some step) = After
after_tag T None None = Here
after_tag T (Some t) None = if follows_tag T t then Inside Chosen else Here

-- ---- all

abbrev pub after_octets : Bool → Next
after_octets true = After
after_octets false = Here

-- what comes next in a part of a type of which some was read
abbrev pub next_by : Option AsnType → Seen → Next
next_by (Some (sequence fs)) f = after_preamble false fs f.preamble f
next_by (Some (extensible_sequence fs more)) f = after_preamble true fs f.preamble f
next_by (Some (sequence_of size T)) f = after_quantity f.count f.last
next_by (Some (choice extensible more)) f = after_tag (Some (choice extensible more)) f.tag f.last
next_by (Some (leaf kind)) f = after_octets f.is_done
next_by None f = after_octets f.is_done

abbrev pub next_in : Seen → Next
next_in f = next_by f.is.type f

-- whether so many octets reach to the end of the open type that the part fills, if it fills one
abbrev pub reaches : ℕ → Option ℕ → Bool
reaches read None = true
reaches read (Some end) = leb end read

-- ---- the part that comes next, where so many octets were read

-- whether the part is through, and nothing of it comes next
abbrev pub through : ℕ → Option ℕ → Next → Bool
through read end After = reaches read end
through read end _ = false

abbrev pub is_through : ℕ → Seen → Bool
is_through read f = through read f.end (next_in f)

abbrev pub unless_through : ℕ → Seen → List Seen → List Seen
unless_through read f [] = if is_through read f then [] else f ∷ []
unless_through read f (g ∷ gs) = f ∷ g ∷ gs

-- the parts up to the last that isn't through; none where all are
abbrev pub open_parts : ℕ → List Seen → List Seen
open_parts read [] = []
open_parts read (f ∷ fs) = unless_through read f (open_parts read fs)

-- what comes next in the last part
abbrev pub next_at : List Seen → Next
next_at [] = After
next_at (f ∷ []) = next_in f
next_at (f ∷ g ∷ gs) = next_at (g ∷ gs)

abbrev pub gone : Next → List Seen → List Seen
gone (Inside step) parts = entered step parts
gone _ parts = parts

abbrev pub gone_from : List Seen → List Seen → List Seen
gone_from [] parts = take 1 parts
gone_from (f ∷ fs) parts = gone (next_at (f ∷ fs)) (f ∷ fs)

-- the way to the part that comes next, that to the whole where nothing does
abbrev pub gone_on : ℕ → List Seen → List Seen
gone_on read parts = gone_from (open_parts read parts) parts
