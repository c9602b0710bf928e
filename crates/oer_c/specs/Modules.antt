-- What reading modules answers, and which types there are then.
use Rattle.std.specs.Prelude.{◌≡◌, ◌<◌, ◌≤◌, ◌+◌, ℕ, List, [], ◌∷◌, ◌++◌, Bool, length, map, drop, take, slice_get, ◌==◌, Option, Some, None, option_map, Ok, Err, ◌⊎◌, ⊤, codes, string_bytes}
use Rattle.std.specs.Fmt.{decimal}
use Rattle.std.specs.List.{All, before_first, between}
use Rattle.std.specs.Str.{IsUtf8, IsValidUpTo}
use Rattle.oer_module_syntax.specs.declared.fault.Why.TheVariants as fault
use Rattle.oer_module_text.specs.declared.error.Why.TheVariants as raws
use Rattle.oer_module_values.specs.declared.error.Why.TheVariants as told
use Rattle.oer_modules.specs.Defined.{types_of_modules}
use Rattle.oer_modules.specs.Modules.{ComesFirst, definitions_of_modules}
use Rattle.oer_modules.specs.Places.{Point, point_of}
use Rattle.oer_modules.specs.Refusals.{refusal_of}
use Rattle.oer_modules.specs.Words.{refusal_words}
use Rattle.oer_modules.specs.declared.refusal.Refusal.{Refusal as RawRefusal}
use Rattle.oer_notation.specs.Defining.{HaveSameTypes}
use Rattle.oer_notation.specs.Reading.{Known}
use Rattle.oer_notation.specs.Views.{knowns}
use Rattle.oer_notation.specs.declared.types.Types.{Types}
use Rattle.oer_c.specs.Buffers.{IsFront}
use Rattle.oer_c.specs.Messages.{end}
use Rattle.oer_c.specs.Reasons.{modules_number}
use Rattle.oer_c.specs.declared.many.Message.{Message}
use Rattle.oer_c.specs.declared.modules.Stop.{Stop}
use Rattle.oer_c.specs.declared.modules.Stop.TheVariants.{Memory, Outside, NotUtf8, Refused, NoTypes}
use Rattle.oer_c.specs.declared.modules.Understood.{Understood}

-- ---- texts

-- the octets at a place
abbrev pub at_place : List ℕ → Message → List ℕ
at_place octets m = between m.at (end m) octets

-- A text is at the place: all of it is in the octets, and it is UTF-8.
abbrev pub IsText : List ℕ → Message → Type 0
IsText octets m = (end m ≤ length octets) × IsUtf8 (at_place octets m)

-- the texts at the places
abbrev pub texts_of : List ℕ → List Message → List (List ℕ)
texts_of octets places = map (at_place octets) places

-- Why no text is at the place, with this number: it is not all in the octets; or it is not UTF-8, and so many octets are its longest front
-- that is.
abbrev pub IsNoText : List ℕ → Message → ℕ → Stop → Type 0
IsNoText octets m n Memory = ⊥
IsNoText octets m n (Outside k) = (k ≡ n) × (length octets < end m)
IsNoText octets m n (NotUtf8 k at) = (k ≡ n) × (end m ≤ length octets) × (IsUtf8 (at_place octets m) → ⊥) × IsValidUpTo (at_place octets m) at
IsNoText octets m n (Refused r) = ⊥
IsNoText octets m n (NoTypes printed) = ⊥

-- An allocation failed; or no text is at a place, the first such one. They count from 1.
abbrev pub IsTextless : List ℕ → List Message → Stop → Type 0
IsTextless octets places s = (s ≡ Memory)
    ⊎ ((k : ℕ) × (m : Message) × All (IsText octets) (take k places) × (slice_get places k ≡ Some m) × IsNoText octets m (k + 1) s)

-- ---- types

-- Each Name has the type that the modules give it.
abbrev pub AreUnderstood : List (List ℕ) → ℕ → Types → Type 0
AreUnderstood ts n t = (found : List Known) × (types_of_modules ts n ≡ Ok found) × HaveSameTypes (knowns t) found

-- Why texts give no types: an allocation failed; or they can't be read, and this is the first fault; or no definition is understood, as
-- what is printed of all definitions says.
abbrev pub IsTypeless : List (List ℕ) → ℕ → Stop → Type 0
IsTypeless ts n Memory = ⊤
IsTypeless ts n (Outside k) = ⊥
IsTypeless ts n (NotUtf8 k at) = ⊥
IsTypeless ts n (Refused r) = types_of_modules ts n ≡ Err (refusal_of r)
IsTypeless ts n (NoTypes printed) = (types_of_modules ts n ≡ Ok []) × ComesFirst (string_bytes printed) (definitions_of_modules ts n)

-- A refusal says that an allocation failed, or it is told.
abbrev pub IsStopBy : RawRefusal → Stop → Type 0
IsStopBy r Memory = ⊤
IsStopBy r (Outside n) = ⊥
IsStopBy r (NotUtf8 n at) = ⊥
IsStopBy r (Refused x) = (x ≡ r) × (r.why ≡ raws.Unresolved (told.Unread fault.Memory) → ⊥)
IsStopBy r (NoTypes printed) = ⊥

-- ---- answers

-- a status and nothing else
abbrev pub only : ℕ → Understood
only status = record { status = status; why = 0; text = 0; place = 0; line = 0; column = 0; words = 0 }

-- a place in the text of this number
abbrev pub at_text : ℕ → ℕ → ℕ → Understood
at_text status n place = record { status = status; why = 0; text = n; place = place; line = 0; column = 0; words = 0 }

-- a rejection that has no place
abbrev pub rejected : ℕ → Understood
rejected why = record { status = 1; why = why; text = 0; place = 0; line = 0; column = 0; words = 0 }

-- a text that can't be read for this reason, and where that shows
abbrev pub refused : ℕ → Option Point → Understood
refused why None = rejected why
refused why (Some p) = record { status = 1; why = why; text = p.text; place = p.at; line = p.line; column = p.column; words = 0 }

abbrev pub with_words : Understood → ℕ → Understood
with_words a n = record { status = a.status; why = a.why; text = a.text; place = a.place; line = a.line; column = a.column; words = n }

-- The answer says how much of these words is in the buffer: as much as it has room for.
abbrev pub IsSaid : List ℕ → Understood → List ℕ → List ℕ → Understood → Type 0
IsSaid w answer old new a = (n : ℕ) × IsFront w old new n × (a ≡ with_words answer n)

-- The same, or an allocation failed, and the buffer is as before.
abbrev pub IsSaidIfRoom : List ℕ → Understood → List ℕ → List ℕ → Understood → Type 0
IsSaidIfRoom w answer old new a = ((a ≡ only 4) × (new ≡ old)) ⊎ IsSaid w answer old new a

abbrev pub is_line_feed : ℕ → Bool
is_line_feed c = c == 10

-- what a listing says where no definition is understood: its first comment, behind `-- `
abbrev pub first_words : List ℕ → List ℕ
first_words [] = codes "the modules give no types"
first_words (c ∷ cs) = drop 3 (before_first is_line_feed (c ∷ cs))

-- what is said of a text that isn't UTF-8, by its number
abbrev pub not_utf8_words : ℕ → List ℕ
not_utf8_words n = codes "text " ++ decimal n ++ codes ": not UTF-8"

-- what is answered of a stop
abbrev pub Tells : Stop → List ℕ → List ℕ → Understood → Type 0
Tells Memory old new a = (a ≡ only 4) × (new ≡ old)
Tells (Outside n) old new a = (a ≡ at_text 10 n 0) × (new ≡ old)
Tells (NotUtf8 n at) old new a = IsSaidIfRoom (not_utf8_words n) (at_text 1 n at) old new a
Tells (Refused r) old new a = IsSaidIfRoom (refusal_words (refusal_of r)) (refused (modules_number r.why) (option_map point_of r.point)) old new a
Tells (NoTypes printed) old new a = IsSaid (first_words (string_bytes printed)) (rejected 4) old new a

-- ---- the call

-- A text is at each place, and the types are those that are understood of them.
abbrev pub Understands : List ℕ → List Message → ℕ → Types → Type 0
Understands octets places nesting t =
    All (IsText octets) places × AreUnderstood (texts_of octets places) nesting t

-- Why there are no types: at a place is no text; or the texts give none.
abbrev pub IsStopped : List ℕ → List Message → ℕ → Stop → Type 0
IsStopped octets places nesting s = IsTextless octets places s
    ⊎ (All (IsText octets) places × IsTypeless (texts_of octets places) nesting s)

-- There are types that are understood of the texts; or there are those from before, and the answer and the words say why.
abbrev pub AreRead : List ℕ → List Message → ℕ → Option Types → Option Types → List ℕ → List ℕ → Understood → Type 0
AreRead octets places nesting old new before after a =
    ((t : Types) × (new ≡ Some t) × Understands octets places nesting t × (a ≡ only 0) × (after ≡ before))
    ⊎ ((s : Stop) × (new ≡ old) × IsStopped octets places nesting s × Tells s before after a)
