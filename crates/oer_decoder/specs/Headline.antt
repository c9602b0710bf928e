-- The headline, of the calls.
use Rattle.std.specs.Prelude.{◌≡◌, ◌≢◌, ◌↔◌, ℕ, ◌-◌, ◌^◌, ◌<◌, ◌≤◌, List, [], ◌++◌, length, Some, Result, Ok, Err, IfErr, IfOk, IsOk, ◌⊎◌}
use Rattle.oer_units.specs.Reads.{ReadsFront, TakesNoMemory}
use Rattle.oer_units.specs.declared.fault.Why.TheVariants.{Device, Memory}
use Rattle.oer_units.specs.declared.fault.ReadFault.{ReadFault}
use Rattle.oer_model.specs.AsnType.{AsnType}
use Rattle.oer_model.specs.AsnValue.{AsnValue}
use Rattle.oer_model.specs.Encoding.{Encodes}
use Rattle.oer_model.specs.Filling.{filled}
use Rattle.oer_model.specs.Fits.{Fits}
use Rattle.oer_model.specs.Reading.{read_value}
use Rattle.oer_model.specs.Strict.{IsCanonical}
use Rattle.oer_model.specs.WellFormed.{IsWellFormed}
use Rattle.oer_writer.specs.Write.{IsTooLong}
use Rattle.oer_writer.specs.declared.fault.WriteFault.TheVariants.{TooLong}
use Rattle.oer_decoder.specs.Front.{ReadsWhatComes, Told}
use Rattle.oer_decoder.specs.Rewriting.{IsRefused, IsRewritten, Known, NotForMemory, ReadsAndWrites, RewritesWhatComes}
use Rattle.oer_decoder.specs.declared.fault.RewriteFault.{RewriteFault}
use Rattle.oer_decoder.specs.declared.fault.RewriteFault.TheVariants.{Write}

-- ---- runs, and the premises

-- A reader or a sink as contracts see it: the octets that it will give, or that it holds, where they are known, and its count of failures.
pub record Side : Type 0 where
  pub octets : Known
  pub failed : ℕ

-- a reader or a sink with these
abbrev pub side_of : Known → ℕ → Side
side_of octets failed = record { octets = octets; failed = failed }

-- Its octets are known: xs.
abbrev pub Tells : Side → List ℕ → Type 0
Tells side xs = side.octets ≡ Some xs

-- From side to side' no call of it failed: its count of failures, below its greatest, stands still.
abbrev pub NeverFailed : Side → Side → Type 0
NeverFailed side side' = (side.failed < 2 ^ 64 - 1) × (side'.failed ≡ side.failed)

-- What `read` promises of a run: its clauses of these names.
pub record ReadPromises (T : AsnType) (limit : ℕ) (reader reader' : Side) (answer : Result AsnValue ReadFault) : Type 0 where
  pub told : Told T limit reader.octets reader'.octets answer
  pub comes : ReadsWhatComes T limit reader.octets reader'.octets answer
  pub exact : ReadsFront (read_value T) limit reader.octets reader.failed answer reader'.octets reader'.failed

-- What `rewrite` promises of a run: its clauses of these names.
pub record RewritePromises (T : AsnType) (limit : ℕ) (reader reader' sink sink' : Side) (answer : Result (ℕ × ℕ) RewriteFault)
    : Type 0 where
  pub rewritten : IfOk answer (λ done. IsRewritten T limit reader.octets reader'.octets sink.octets sink'.octets done)
  pub refused : IfErr answer (λ fault. IsRefused T limit reader.octets reader'.octets sink.octets fault sink'.octets)
  pub comes : RewritesWhatComes T limit reader.octets reader'.octets sink.octets sink'.octets answer
  pub exact : ReadsAndWrites T limit reader.octets reader.failed reader'.octets reader'.failed sink.octets sink.failed
      answer sink'.octets sink'.failed

-- ---- two values

-- Two values that fit have equal canonical octets exactly where they are equal after defaults are filled in: where c
-- are those of v, they are those of w, too, exactly then. No other octets are those of v.
abbrev pub TellsValues : AsnType → Type 0
TellsValues T = (v w : AsnValue) (c : List ℕ) → Fits T v → Fits T w → IsCanonical T v c
    → (IsCanonical T w c ↔ (filled T v ≡ filled T w)) × ((d : List ℕ) → IsCanonical T v d → d ≡ c)

-- ---- reading

-- The input begins with the octets b, which are at most as many as the limit and an encoding of v, and then rest follows.
abbrev pub Begins : AsnType → ℕ → List ℕ → AsnValue → List ℕ → List ℕ → Type 0
Begins T limit xs v b rest = (xs ≡ b ++ rest) × (length b ≤ limit) × Encodes T v b

-- It begins with an encoding within the limit.
abbrev pub BeginsWithEncoding : AsnType → ℕ → List ℕ → Type 0
BeginsWithEncoding T limit xs = (v : AsnValue) × (b : List ℕ) × (rest : List ℕ) × Begins T limit xs v b rest

-- what `read` does with the input xs
pub record AcceptsExactly (T : AsnType) (limit : ℕ) (xs : List ℕ) (reader reader' : Side) (answer : Result AsnValue ReadFault)
    : Type 0 where
  -- Where the reader didn't fail and no growth was refused, it is Ok exactly where the input begins with an encoding within the limit.
  pub accepts : NeverFailed reader reader' → TakesNoMemory answer → (IsOk answer ↔ BeginsWithEncoding T limit xs)
  -- A refusal, but for the device or for memory, comes only where it begins with none.
  pub refuses : (e : ReadFault) → answer ≡ Err e → e.why ≢ Device → e.why ≢ Memory → BeginsWithEncoding T limit xs → ⊥
  -- The value is that of an encoding at the front of the input, and just this one's octets were taken.
  pub gives : (v : AsnValue) → answer ≡ Ok v → (b : List ℕ) × (rest : List ℕ) × Begins T limit xs v b rest × Tells reader' rest
  -- No other value has an encoding at the front of the input, and no other front of it, within the limit or not, is an encoding.
  pub one : (v w : AsnValue) (b c rest more : List ℕ) → xs ≡ b ++ rest → xs ≡ c ++ more → Encodes T v b → Encodes T w c → (v ≡ w) × (b ≡ c)

-- Each run of `read` on an input that the reader tells does so. However the reader cuts it: only its octets count.
abbrev pub ReadsExactly : AsnType → Type 0
ReadsExactly T = (limit : ℕ) (xs : List ℕ) (reader reader' : Side) (answer : Result AsnValue ReadFault) → Tells reader xs
    → ReadPromises T limit reader reader' answer → AcceptsExactly T limit xs reader reader' answer

-- ---- rewriting

-- Each run of `rewrite` on the octets b, before whatever rest, under each limit that they fit, to whatever sink that tells what it holds,
-- where neither side failed and no growth was refused: its answer is this one, just rest is left, and the sink grew by c.
abbrev pub EachRun : AsnType → List ℕ → Result (ℕ × ℕ) RewriteFault → List ℕ → Type 0
EachRun T b result c = (limit : ℕ) (rest old : List ℕ) (reader reader' sink sink' : Side) (answer : Result (ℕ × ℕ) RewriteFault)
    → Tells reader (b ++ rest) → length b ≤ limit → Tells sink old → RewritePromises T limit reader reader' sink sink' answer
    → NeverFailed reader reader' → NeverFailed sink sink' → IfErr answer NotForMemory
    → (answer ≡ result) × Tells reader' rest × Tells sink' (old ++ c)

-- The octets b are rewritten as c.
abbrev pub IsRewrittenAs : AsnType → List ℕ → List ℕ → Type 0
IsRewrittenAs T b c = EachRun T b (Ok (length b, length c)) c

-- v has canonical octets, fewer than 2 ^ 64: an encoding b of v is rewritten as these, and these as themselves.
abbrev pub RewritesCanonically : AsnType → AsnValue → List ℕ → Type 0
RewritesCanonically T v b = (c : List ℕ) × IsCanonical T v c × (length c < 2 ^ 64) × IsRewrittenAs T b c × IsRewrittenAs T c c

-- v has no canonical octets, or 2 ^ 64 or more: where an encoding b of v is rewritten, the answer is TooLong, and nothing is written.
abbrev pub RefusesTooLong : AsnType → AsnValue → List ℕ → Type 0
RefusesTooLong T v b = IsTooLong T v × EachRun T b (Err (Write TooLong)) []

-- An encoding of a value is rewritten as this value's canonical octets, which rewriting leaves unchanged, or these are too long.
abbrev pub Rewrites : AsnType → Type 0
Rewrites T = (v : AsnValue) (b : List ℕ) → Encodes T v b → RewritesCanonically T v b ⊎ RefusesTooLong T v b

abbrev pub Headline : Type 0
Headline = (T : AsnType) → IsWellFormed T → TellsValues T × ReadsExactly T × Rewrites T
