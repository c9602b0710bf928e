-- What the caller of `rewrite` learns, in the words of encodings.
use Rattle.std.specs.Prelude.{◌≡◌, ◌≢◌, ℕ, ◌≤◌, List, ◌++◌, length, Option, Some, Result, Ok, Err, IfOk, ◌⊎◌, ⊤}
use Rattle.std.specs.Io.KnownBytes.{Appends}
use Rattle.oer_units.specs.declared.fault.Why.TheVariants.{Device, Memory}
use Rattle.oer_units.specs.declared.fault.ReadFault.{ReadFault}
use Rattle.oer_units.specs.Reads.{ReadsFront}
use Rattle.oer_model.specs.AsnType.{AsnType}
use Rattle.oer_model.specs.AsnValue.{AsnValue}
use Rattle.oer_model.specs.Canonical.{canonical_octets}
use Rattle.oer_model.specs.Encoding.{Encodes}
use Rattle.oer_model.specs.Reading.{read_value}
use Rattle.oer_model.specs.Strict.{IsCanonical}
use Rattle.oer_writer.specs.Write.{Fails, StopsWriting, Writes}
use Rattle.oer_decoder.specs.Front.{Takes, Told}
use Rattle.oer_decoder.specs.declared.fault.RewriteFault.{RewriteFault}
use Rattle.oer_decoder.specs.declared.fault.RewriteFault.TheVariants.{Read, Write}

-- the octets that a reader will give, or that a sink holds, where they are known
abbrev pub Known : Type 0
Known = Option (List ℕ)

-- The canonical octets of v, n of them, were appended.
abbrev pub Puts : AsnType → AsnValue → Known → Known → ℕ → Type 0
Puts T v old new n = (c : List ℕ) × IsCanonical T v c × (n ≡ length c) × Appends old new c

-- At Ok: m octets were taken, an encoding of a value, and that value's canonical octets, n of them, were appended.
abbrev pub IsRewritten : AsnType → ℕ → Known → Known → Known → Known → ℕ × ℕ → Type 0
IsRewritten T limit known known' old new (m, n) = (v : AsnValue) × (t : List ℕ) × Takes T limit known known' v t × (m ≡ length t)
    × Puts T v old new n

-- Where the value was not read nothing was written, and what `read` says of its refusals holds. Where it was read and not all of it was
-- written, an encoding of a value was taken, and the sink is as after that refusal of `write` for this value.
abbrev pub IsRefused : AsnType → ℕ → Known → Known → Known → RewriteFault → Known → Type 0
IsRefused T limit known known' old (Read e) new = Told T limit known known' (Err e) × (new ≡ old)
IsRefused T limit known known' old (Write e) new = (v : AsnValue) × (t : List ℕ) × Takes T limit known known' v t
    × StopsWriting T v old e new

-- what becomes of an encoding of v that comes next, before the octets rest
abbrev pub BecomesCanonical : AsnType → AsnValue → List ℕ → List ℕ → Known → Known → Known → Result (ℕ × ℕ) RewriteFault → Type 0
BecomesCanonical T v b rest known' old new (Ok (m, n)) = (known' ≡ Some rest) × (m ≡ length b) × Puts T v old new n
BecomesCanonical T v b rest known' old new (Err (Read e)) = (e.why ≡ Device) ⊎ (e.why ≡ Memory)
BecomesCanonical T v b rest known' old new (Err (Write e)) = known' ≡ Some rest

-- An encoding that comes next, within the limit, is rewritten, unless the reader or the sink failed, memory ran out, or
-- the octets are too many.
abbrev pub RewritesWhatComes : AsnType → ℕ → Known → Known → Known → Known → Result (ℕ × ℕ) RewriteFault → Type 0
RewritesWhatComes T limit known known' old new result = (v : AsnValue) (b rest : List ℕ) → known ≡ Some (b ++ rest)
    → Encodes T v b → length b ≤ limit → BecomesCanonical T v b rest known' old new result

-- Where canonical octets of a value come next, these are taken and appended as they are.
abbrev pub KeepsCanonical : AsnType → Known → Known → Known → Known → Result (ℕ × ℕ) RewriteFault → Type 0
KeepsCanonical T known known' old new result = (v : AsnValue) (b rest : List ℕ) → known ≡ Some (b ++ rest) → IsCanonical T v b
    → IfOk result (λ done. (done ≡ (length b, length b)) × (known' ≡ Some rest) × Appends old new b)

-- No growth of memory was refused.
abbrev pub NotForMemory : RewriteFault → Type 0
NotForMemory (Read e) = e.why ≢ Memory
NotForMemory (Write e) = ⊤

-- what was made of the answer of `read`
abbrev pub Follows : AsnType → Result AsnValue ReadFault → Known → ℕ → Result (ℕ × ℕ) RewriteFault → Known → ℕ → Type 0
Follows T (Err e) old count result new count' = (result ≡ Err (Read e)) × (new ≡ old) × (count' ≡ count)
Follows T (Ok v) old count (Ok (m, n)) new count' = Writes (canonical_octets T v) old count (Ok n) new count'
Follows T (Ok v) old count (Err (Read e)) new count' = ⊥
Follows T (Ok v) old count (Err (Write e)) new count' = Fails (canonical_octets T v) old count e new count'

-- It does what `read` does, and then what `write` does.
abbrev pub ReadsAndWrites : AsnType → ℕ → Known → ℕ → Known → ℕ → Known → ℕ → Result (ℕ × ℕ) RewriteFault → Known → ℕ → Type 0
ReadsAndWrites T limit known failed known' failed' old count result new count' = (answer : Result AsnValue ReadFault)
    × ReadsFront (read_value T) limit known failed answer known' failed' × Follows T answer old count result new count'
