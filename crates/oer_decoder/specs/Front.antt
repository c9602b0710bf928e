-- What the caller of `read` learns, in the words of encodings alone.
use Rattle.std.specs.Prelude.{◌≡◌, ◌≢◌, ℕ, ◌*◌, ◌≤◌, max, List, ◌++◌, length, Option, Some, None, Result, Ok, Err, IfOk, ◌⊎◌, ⊤}
use Rattle.std.specs.Borrow.{GName}
use Rattle.std.specs.Io.KnownBytes.{Consumes}
use Rattle.oer_units.specs.Reader.{Reader}
use Rattle.oer_units.specs.Reads.{Reads, Span, seen, start}
use Rattle.oer_units.specs.declared.fault.Why.TheVariants.{Device, Memory}
use Rattle.oer_units.specs.declared.fault.ReadFault.{ReadFault}
use Rattle.oer_model.specs.AsnType.{AsnType}
use Rattle.oer_model.specs.AsnValue.{AsnValue}
use Rattle.oer_model.specs.Encoding.{Encodes}
use Rattle.oer_model.specs.Laws.{Means}
use Rattle.oer_model.specs.Nodes.{nodes, payload, type_nodes}
use Rattle.oer_values.specs.ValueView.{value_of}
use Rattle.oer_values.specs.declared.value.Value.{Value}

-- What an answer says that took t, where n octets were allowed, and left rest. A value that was read has no more parts, and holds no
-- more octets, than the type and t allow.
abbrev pub Speaks : AsnType → ℕ → List ℕ → List ℕ → Result AsnValue ReadFault → Type 0
Speaks T n t rest (Ok v) = Encodes T v t × (nodes v ≤ type_nodes T * max 1 (length t)) × (payload v ≤ length t)
Speaks T n t rest (Err e) = (e.taken ≡ length t) × (e.why ≢ Device → e.why ≢ Memory → Means e.why T n t rest)

-- Where the octets are known: those that were taken, at most as many as the limit, and what the answer says of them.
abbrev pub Told : AsnType → ℕ → Option (List ℕ) → Option (List ℕ) → Result AsnValue ReadFault → Type 0
Told T n None known' result = ⊤
Told T n (Some xs) None result = ⊥
Told T n (Some xs) (Some ys) result = (t : List ℕ) × (xs ≡ t ++ ys) × (length t ≤ n) × Speaks T n t ys result

abbrev pub IsFound : AsnValue → List ℕ → Option (List ℕ) → Result AsnValue ReadFault → Type 0
IsFound v rest None result = ⊥
IsFound v rest (Some ys) (Ok w) = (w ≡ v) × (ys ≡ rest)
IsFound v rest (Some ys) (Err e) = (e.why ≡ Device) ⊎ (e.why ≡ Memory)

-- An encoding that comes next, within the limit, is read, unless the device failed or memory ran out.
abbrev pub ReadsWhatComes : AsnType → ℕ → Option (List ℕ) → Option (List ℕ) → Result AsnValue ReadFault → Type 0
ReadsWhatComes T n known known' result = (v : AsnValue) (b rest : List ℕ) → known ≡ Some (b ++ rest) → Encodes T v b
    → length b ≤ n → IsFound v rest known' result

-- a value beside the number of octets that were taken
abbrev pub counted_of : Value × ℕ → AsnValue × ℕ
counted_of p = (value_of p.0, p.1)

-- the value of those
abbrev pub value_in : Value × ℕ → AsnValue
value_in p = value_of p.0

-- t was taken, at most as many octets as the limit, and is an encoding of v.
abbrev pub Takes : AsnType → ℕ → Option (List ℕ) → Option (List ℕ) → AsnValue → List ℕ → Type 0
Takes T limit known known' v t = Consumes known known' t × (length t ≤ limit) × Encodes T v t

-- An encoding of v was taken, of m octets.
abbrev pub IsTaken : AsnType → ℕ → Option (List ℕ) → Option (List ℕ) → AsnValue × ℕ → Type 0
IsTaken T limit known known' (v, m) = (t : List ℕ) × Takes T limit known known' v t × (m ≡ length t)

abbrev pub first_of : {A : Type 0} → A × ℕ → A
first_of p = p.0

abbrev pub second_of : {A : Type 0} → A × ℕ → ℕ
second_of p = p.1

-- A call reads as r does from the front of a reader, under a limit, and answers how many octets it took, too.
pub record ReadsAndCounts {A : Type 0} (r : Reader A) (limit : ℕ) (known : Option (List ℕ)) (failed : ℕ)
    (result : Result (A × ℕ) ReadFault) (known' : Option (List ℕ)) (failed' : ℕ) : Type 0 where
  pub name : GName
  pub loan : Option GName
  pub bound : Span
  pub within : bound.taken ≤ limit
  pub reads : Reads r (start name loan known failed limit) (seen first_of result) (record
      { name = name; loan = loan; known = known'; failed = failed'; bound = bound })
  pub count : IfOk result (λ p. second_of p ≡ bound.taken)
