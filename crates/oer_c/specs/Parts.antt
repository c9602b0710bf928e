-- What the calls answer that hand out parts, and that say where they lie.
use Rattle.std.specs.Prelude.{◌≡◌, ℕ, true, false, List, [], ◌∷◌, length, map, Bool, ◌&&◌, Option, Some, Result, Ok, Err, ◌⊎◌}
use Rattle.std.specs.Str.{IsUtf8}
use Rattle.oer_units.specs.declared.fault.ReadFault.{ReadFault}
use Rattle.oer_model.specs.AsnType.{AsnType}
use Rattle.oer_model.specs.Parts.{Answer, Step, StopsAt, Within, absent_part, found, no_such_step}
use Rattle.oer_checker.specs.Check.{Answers, Tells}
use Rattle.oer_parts.specs.Handing.{Begins}
use Rattle.oer_parts.specs.Path.{SpellsPath}
use Rattle.oer_parts.specs.Offsets.{StandsAt}
use Rattle.oer_at.specs.Finding.{find_at}
use Rattle.oer_at.specs.Hops.{hops_of}
use Rattle.oer_at.specs.Meaning.{step_behind}
use Rattle.oer_at.specs.Names.{is_word, names_in}
use Rattle.oer_at.specs.declared.hop.Hop.{Hop}
use Rattle.oer_at.specs.declared.hop.NameFault.{NameFault}
use Rattle.oer_c.specs.Buffers.{IsPut, only_written, rejection, wrote}
use Rattle.oer_c.specs.declared.buffer.Written.{Written}
use Rattle.oer_c.specs.declared.part_at.Located.{Located}

-- An encoding b of n octets is at the front of the octets, and P holds of it.
abbrev pub BeginsWith : AsnType → List ℕ → ℕ → (List ℕ → Type 0) → Type 0
BeginsWith T octets n P = Begins T octets (λ b. (n ≡ length b) × P b)

-- `check` rejects the octets, for this reason and there.
abbrev pub IsRejected : AsnType → List ℕ → Written → Type 0
IsRejected T octets a = (e : ReadFault) × (a ≡ rejection e) × Tells T octets (Err e) × Answers T octets (Err e)

-- A part s of which P holds, of the encoding at the front, of n octets, is put into the buffer; or the buffer is as before, and the answer
-- is one of Q.
abbrev pub Copies : AsnType → List ℕ → (List ℕ → List ℕ → Type 0) → (Written → Type 0) → List ℕ → List ℕ → Written → Type 0
Copies T octets P Q old new a = ((s : List ℕ) × (n : ℕ) × BeginsWith T octets n (λ b. P b s) × IsPut s n old new a) ⊎ ((new ≡ old) × Q a)

-- a status, a reason and how many octets were looked at, and no place
abbrev pub nowhere : ℕ → ℕ → ℕ → Located
nowhere status why taken = record { status = status; why = why; octets = taken; at = 0; length = 0 }

-- a part in an encoding of so many octets, after so many of them, of so many
abbrev pub somewhere : ℕ → ℕ → ℕ → Located
somewhere taken at length = record { status = 0; why = 0; octets = taken; at = at; length = length }

-- A part s of which P holds is after n octets of the encoding at the front, of m octets, and the answer says so; or the answer has the numbers
-- of one of Q, and no place.
abbrev pub Locates : AsnType → List ℕ → (List ℕ → List ℕ → ℕ → Type 0) → (Written → Type 0) → Located → Type 0
Locates T octets P Q a =
    ((s : List ℕ) × (m : ℕ) × (n : ℕ) × BeginsWith T octets m (λ b. P b s n) × (a ≡ somewhere m n (length s)))
    ⊎ ((w : Written) × (a ≡ nowhere w.status w.why w.octets) × Q w)

-- ---- by a path

-- The path leads from an encoding b to s.
abbrev pub IsPart : AsnType → List ℕ → List ℕ → List ℕ → Type 0
IsPart T path b s = (steps : List Step) × SpellsPath path steps × ((U : Option AsnType) × Within (Some T) b steps U s)

-- The same, and n octets of b stand before s.
abbrev pub IsPartAt : AsnType → List ℕ → List ℕ → List ℕ → ℕ → Type 0
IsPartAt T path b s n = (steps : List Step) × SpellsPath path steps × ((U : Option AsnType) × StandsAt (Some T) b steps U s n)

-- The path leads from the encoding at the front, of n octets, to nothing. The status is 8 where the first step that does so names a
-- component of the root or a known addition, and else 7.
abbrev pub IsMissed : AsnType → List ℕ → List Step → Written → Type 0
IsMissed T octets steps a = ((n : ℕ) × (a ≡ wrote 7 n 0) × BeginsWith T octets n (λ b. StopsAt (Some T) b steps false))
    ⊎ ((n : ℕ) × (a ≡ wrote 8 n 0) × BeginsWith T octets n (λ b. StopsAt (Some T) b steps true))

-- Why there is no part: an allocation failed; the text is no path; the octets are rejected; or the path leads nowhere.
abbrev pub IsNoPart : AsnType → List ℕ → List ℕ → Written → Type 0
IsNoPart T octets path a = (a ≡ only_written 4)
    ⊎ (((a ≡ only_written 6) × (IsUtf8 path → (steps : List Step) → SpellsPath path steps → ⊥))
    ⊎ (IsRejected T octets a ⊎ ((steps : List Step) × SpellsPath path steps × IsMissed T octets steps a)))

abbrev pub IsCopied : AsnType → List ℕ → List ℕ → List ℕ → List ℕ → Written → Type 0
IsCopied T octets path old new a = Copies T octets (IsPart T path) (IsNoPart T octets path) old new a

abbrev pub IsLocated : AsnType → List ℕ → List ℕ → Located → Type 0
IsLocated T octets path a = Locates T octets (IsPartAt T path) (IsNoPart T octets path) a

-- ---- by names

-- Each name has letters, digits and hyphens only, and one at least.
abbrev pub are_words : List (List ℕ) → Bool
are_words [] = true
are_words (name ∷ names) = is_word name && are_words names

-- What hops find in an encoding b; a name that leads nowhere in the type is no step.
abbrev pub find_by : Result (List Hop) NameFault → AsnType → List ℕ → Answer
find_by (Ok hops) T b = find_at (Some T) b hops
find_by (Err fault) T b = no_such_step

-- What the names lead to in an encoding b.
abbrev pub find_named : AsnType → List ℕ → List ℕ → Answer
find_named T names b = find_by (hops_of T (names_in names)) T b

-- The names lead from an encoding b to s.
abbrev pub IsPartByNames : AsnType → List ℕ → List ℕ → List ℕ → Type 0
IsPartByNames T names b s = (U : Option AsnType) × (find_named T names b ≡ found U s)

-- The same, and n octets of b stand before s, by the steps for which the hops stand.
abbrev pub IsPartByNamesAt : AsnType → List ℕ → List ℕ → List ℕ → ℕ → Type 0
IsPartByNamesAt T names b s n = IsPartByNames T names b s
    × ((hops : List Hop) × (hops_of T (names_in names) ≡ Ok hops)
    × ((U : Option AsnType) × StandsAt (Some T) b (map step_behind hops) U s n))

-- The names lead from the encoding at the front, of n octets, to nothing. The status is 8 where a component or a known addition is absent,
-- or another alternative is chosen, and else 7.
abbrev pub IsMissedByNames : AsnType → List ℕ → List ℕ → Written → Type 0
IsMissedByNames T octets names a = ((n : ℕ) × (a ≡ wrote 7 n 0) × BeginsWith T octets n (λ b. find_named T names b ≡ no_such_step))
    ⊎ ((n : ℕ) × (a ≡ wrote 8 n 0) × BeginsWith T octets n (λ b. find_named T names b ≡ absent_part))

-- Why there is no part: an allocation failed; the text has no names; or it has, and the octets are rejected, or the names lead nowhere.
abbrev pub IsNoPartByNames : AsnType → List ℕ → List ℕ → Written → Type 0
IsNoPartByNames T octets names a = (a ≡ only_written 4)
    ⊎ (((a ≡ only_written 6) × (IsUtf8 names → are_words (names_in names) ≡ false))
    ⊎ ((are_words (names_in names) ≡ true) × (IsRejected T octets a ⊎ IsMissedByNames T octets names a)))

abbrev pub IsCopiedByNames : AsnType → List ℕ → List ℕ → List ℕ → List ℕ → Written → Type 0
IsCopiedByNames T octets names old new a = Copies T octets (IsPartByNames T names) (IsNoPartByNames T octets names) old new a

abbrev pub IsLocatedByNames : AsnType → List ℕ → List ℕ → Located → Type 0
IsLocatedByNames T octets names a = Locates T octets (IsPartByNamesAt T names) (IsNoPartByNames T octets names) a
