-- What is expected of a function that makes a step of an answer.
use Rattle.std.specs.Prelude.{◌≡◌, ◌≤◌, ℕ, List, Result, Ok, Err, ⊤}
use Rattle.clap.specs.Words.{Text}
use Rattle.oer_units.specs.Octets.{IsOctets}
use Rattle.oer_cmd.specs.Faults.{status_of, text_of}
use Rattle.oer_cmd.specs.declared.fault.Fault.{Fault}

-- why there is no line: the status, and the text after `oer: `
pub record Refusal : Type 0 where
  pub status : ℕ
  pub text : Text

-- the refusal that a fault stands for
abbrev pub refusal_of : Fault → Refusal
refusal_of fault = record { status = status_of fault; text = text_of fault }

-- a value, or a refusal; unknown where it depends on input whose octets are not known
pub data Expected (A : Type 0) : Type 0 where
  unknown : Expected A
  refusal : Refusal → Expected A
  value : A → Expected A

abbrev pub stop : {A : Type 0} → Fault → Expected A
stop fault = refusal (refusal_of fault)

infixl 10 ◌>>=◌
abbrev pub ◌>>=◌ : {A B : Type 0} → Expected A → (A → Expected B) → Expected B
unknown >>= next = unknown
(refusal r) >>= next = refusal r
(value x) >>= next = next x

-- A function answers as expected, its value seen by view; or memory ran out, or a device failed.
abbrev pub Meets : {X Y : Type 0} → (X → Y) → Expected Y → Result X Fault → Type 0
Meets view unknown result = ⊤
Meets view (value y) (Ok x) = view x ≡ y
Meets view (value y) (Err fault) = status_of fault ≤ 2 → ⊥
Meets view (refusal r) (Ok x) = ⊥
Meets view (refusal r) (Err fault) = status_of fault ≤ 2 → refusal_of fault ≡ r

-- A function answers just that, its value seen by view; or memory ran out, or a device failed. So what is expected is known.
abbrev pub Says : {X Y : Type 0} → (X → Y) → Expected Y → Result X Fault → Type 0
Says view expected (Ok x) = expected ≡ value (view x)
Says view expected (Err fault) = status_of fault ≤ 2 → expected ≡ stop fault

-- The same of what is made of what an input had, b: where it is a value, b are octets.
abbrev pub SaysOf : {X Y : Type 0} → (X → Y) → List ℕ → Expected Y → Result X Fault → Type 0
SaysOf view b expected (Ok x) = IsOctets b × (expected ≡ value (view x))
SaysOf view b expected (Err fault) = status_of fault ≤ 2 → expected ≡ stop fault
