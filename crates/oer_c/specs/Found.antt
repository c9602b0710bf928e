-- What the code finds, before it is answered.
use Rattle.std.specs.Prelude.{◌≡◌, ℕ, true, false, List, length, map, Result, Ok, Err, ◌⊎◌, Vec}
use Rattle.std.specs.declared.alloc.Global.{Global}
use Rattle.std.specs.Borrow.{Bor}
use Rattle.std.specs.Str.{IsUtf8}
use Rattle.oer_model.specs.AsnType.{AsnType}
use Rattle.oer_model.specs.Parts.{Step}
use Rattle.oer_checker.specs.Check.{Finds as Checks, Tells}
use Rattle.oer_parts.specs.Encoding.{octets_in, type_of_encoding}
use Rattle.oer_parts.specs.Path.{SpellsPath}
use Rattle.oer_parts.specs.Walk.{path_of}
use Rattle.oer_parts.specs.declared.encoding.Encoding.{Encoding}
use Rattle.oer_parts.specs.declared.step.Step as rust_step
use Rattle.oer_at.specs.Names.{names_in, text_behind}
use Rattle.oer_c.specs.Buffers.{IsPut}
use Rattle.oer_c.specs.Parts.{BeginsWith, IsNoPart, IsNoPartByNames, IsPartAt, IsPartByNamesAt, IsRejected, are_words, nowhere, somewhere}
use Rattle.oer_c.specs.declared.buffer.Written.{Written}
use Rattle.oer_c.specs.declared.find.Found.{Found}
use Rattle.oer_c.specs.declared.find.Way.{Way}
use Rattle.oer_c.specs.declared.find.Way.TheVariants.{Names, Path}
use Rattle.oer_c.specs.declared.part_at.Located.{Located}

-- the steps that the text spells; or the status where an allocation fails, or where it spells none
abbrev pub AreSteps : List ℕ → Result (Vec rust_step.Step Global) ℕ → Type 0
AreSteps path (Ok steps) = SpellsPath path (path_of steps.items)
AreSteps path (Err status) = (status ≡ 4) ⊎ ((status ≡ 6) × (IsUtf8 path → (steps : List Step) → SpellsPath path steps → ⊥))

-- the names of the text; or the status where an allocation fails, or where it has none
abbrev pub AreNames : List ℕ → Result (Vec (Bor (List ℕ)) Global) ℕ → Type 0
AreNames text (Ok names) = (map text_behind names.items ≡ names_in text) × (are_words (names_in text) ≡ true)
AreNames text (Err status) = (status ≡ 4) ⊎ ((status ≡ 6) × (IsUtf8 text → are_words (names_in text) ≡ false))

-- the encoding at the front of the octets, as `check` finds it; or they are rejected
abbrev pub IsFront : AsnType → List ℕ → Result Encoding Written → Type 0
IsFront T octets (Ok e) = (type_of_encoding e ≡ T) × (octets_in e ≡ octets) × Tells T octets (Ok e.verdict) × Checks T octets (Ok e.verdict)
IsFront T octets (Err a) = IsRejected T octets a

-- a part of which P holds, in the encoding at the front; or an answer of Q
abbrev pub Finds : AsnType → List ℕ → (List ℕ → List ℕ → ℕ → Type 0) → (Written → Type 0) → Result Found Written → Type 0
Finds T octets P Q (Ok f) = BeginsWith T octets f.taken (λ b. P b f.part.now f.at)
Finds T octets P Q (Err a) = Q a

-- what is found on the way
abbrev pub IsFound : Way → AsnType → List ℕ → Result Found Written → Type 0
IsFound (Path path) T octets result = Finds T octets (IsPartAt T path.now) (IsNoPart T octets path.now) result
IsFound (Names names) T octets result = Finds T octets (IsPartByNamesAt T names.now) (IsNoPartByNames T octets names.now) result

-- what was found is put into the buffer, or its answer is given
abbrev pub Puts : Result Found Written → List ℕ → List ℕ → Written → Type 0
Puts (Ok f) old new a = IsPut f.part.now f.taken old new a
Puts (Err e) old new a = (new ≡ old) × (a ≡ e)

-- where what was found lies, or the numbers of its answer
abbrev pub place_of : Result Found Written → Located
place_of (Ok f) = somewhere f.taken f.at (length f.part.now)
place_of (Err e) = nowhere e.status e.why e.octets
