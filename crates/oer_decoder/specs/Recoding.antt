-- What recoding does: it gathers the canonical octets of what it reads, and makes no value of it.
use Rattle.std.specs.Prelude.{◌≡◌, ℕ, Bool, true, false, List, [], ◌++◌, get_or, if◌then◌else◌, Result, Ok, Err, Vec}
use Rattle.std.specs.declared.alloc.Global.{Global}
use Rattle.oer_units.specs.Least.{counted}
use Rattle.oer_units.specs.Reader.{Reader}
use Rattle.oer_units.specs.Reads.{Reads, State}
use Rattle.oer_units.specs.declared.fault.Why.TheVariants.{Memory}
use Rattle.oer_units.specs.declared.fault.ReadFault.{ReadFault}
use Rattle.oer_units.specs.declared.tagging.Tag.{Tag}
use Rattle.oer_model.specs.AsnType.{Alternatives, AsnType}
use Rattle.oer_model.specs.AsnValue.{AsnValue, chosen, foreign}
use Rattle.oer_model.specs.Canonical.{canonical_octets}
use Rattle.oer_model.specs.Reading.{read_value}
use Rattle.oer_leaves.specs.Parts.{chosen_octets}
use Rattle.oer_writer.specs.declared.fault.WriteFault.{WriteFault}
use Rattle.oer_writer.specs.Write.{Fails, Writes}
use Rattle.oer_decoder.specs.Front.{ReadsAndCounts}
use Rattle.oer_decoder.specs.Rewriting.{Known}
use Rattle.oer_decoder.specs.declared.fault.RewriteFault.{RewriteFault}
use Rattle.oer_decoder.specs.declared.fault.RewriteFault.TheVariants.{Read, Write}
use Rattle.oer_decoder.specs.declared.stop.Stop.{Stop}

-- To those that were gathered these were added, or memory ran out.
abbrev pub Grows : {A B : Type 0} → List A → List A → Result B Stop → List A → Type 0
Grows more old (Ok x) new = new ≡ old ++ more
Grows more old (Err e) new = e.why ≡ Memory

-- From s to s' what r reads was read, of which and of the answer P holds; or it was refused as by r.
abbrev pub ReadsOne : {A B : Type 0} → Reader A → State → Result B Stop → State → (B → A → Type 0) → Type 0
ReadsOne {A} r s (Ok x) s' P = (v : A) × Reads r s (Ok v) s' × P x v
ReadsOne r s (Err e) s' P = Reads r s (Err (record { taken = s'.bound.taken; why = e.why })) s'

-- The octets f of what was read were added to those that were gathered.
abbrev pub Recodes : {A B : Type 0} → Reader A → (A → List ℕ) → State → List ℕ → Result B Stop → List ℕ → State → Type 0
Recodes r f s old result new s' = ReadsOne r s result s' (λ _ v. new ≡ old ++ f v)

-- the same of a value of the type, and its canonical octets
abbrev pub RecodesValue : {B : Type 0} → AsnType → State → List ℕ → Result B Stop → List ℕ → State → Type 0
RecodesValue T s old result new s' = Recodes (read_value T) (canonical_octets T) s old result new s'

-- what follows the tag of an alternative, of these or of none of them
abbrev pub after_tag : Alternatives → AsnValue → List ℕ
after_tag more (chosen t v) = chosen_octets more t v
after_tag more (foreign t w) = counted w
after_tag more _ = []

-- an alternative with the tag t
abbrev pub IsTagged : Tag → AsnValue → Type 0
IsTagged t (chosen u v) = u ≡ t
IsTagged t (foreign u w) = u ≡ t
IsTagged t _ = ⊥

-- what the bit at an index is worth, 0 where there is none
abbrev pub bit_at : List Bool → ℕ → ℕ → ℕ
bit_at s i weight = if get_or s i false then weight else 0

-- From the front of a reader, under a limit, a value was read, of so many octets, and its canonical octets were gathered; or it was refused.
abbrev pub RecodesFront : AsnType → ℕ → Known → ℕ → Result (Vec ℕ Global × ℕ) ReadFault → Known → ℕ → Type 0
RecodesFront T limit known failed (Ok p) known' failed' = (v : AsnValue)
    × ReadsAndCounts (read_value T) limit known failed (Ok (v, p.1)) known' failed' × (p.0.items ≡ canonical_octets T v)
RecodesFront T limit known failed (Err e) known' failed' = ReadsAndCounts (read_value T) limit known failed (Err e) known' failed'

-- what becomes of what was read: its canonical octets are written; where nothing was read the sink is as it was
abbrev pub Completes : AsnType → Result (AsnValue × ℕ) ReadFault → Known → ℕ → Result (ℕ × ℕ) RewriteFault → Known → ℕ → Type 0
Completes T (Err e) old count result new count' = (result ≡ Err (Read e)) × (new ≡ old) × (count' ≡ count)
Completes T (Ok (v, m)) old count (Ok (k, n)) new count' = (k ≡ m) × Writes (canonical_octets T v) old count (Ok n) new count'
Completes T (Ok (v, m)) old count (Err (Read e)) new count' = ⊥
Completes T (Ok (v, m)) old count (Err (Write e)) new count' = Fails (canonical_octets T v) old count e new count'

-- It reads a value from the front of a reader, and writes its canonical octets.
abbrev pub Rewrites : AsnType → ℕ → Known → ℕ → Known → ℕ → Known → ℕ → Result (ℕ × ℕ) RewriteFault → Known → ℕ → Type 0
Rewrites T limit known failed known' failed' old count result new count' = (answer : Result (AsnValue × ℕ) ReadFault)
    × ReadsAndCounts (read_value T) limit known failed answer known' failed' × Completes T answer old count result new count'
