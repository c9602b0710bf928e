-- What is taken of JSON, or the first fault.
use Rattle.std.specs.Prelude.{◌≡◌, Option, Some, None, Result, Ok, Err}
use Rattle.oer_json.specs.declared.fault.JsonFault.{JsonFault}
use Rattle.oer_json.specs.declared.fault.JsonFault.TheVariants.{Memory}

infixl 10 ◌>>=◌
abbrev pub ◌>>=◌ : {A B : Type 0} → Result A JsonFault → (A → Result B JsonFault) → Result B JsonFault
(Ok x) >>= f = f x
(Err e) >>= f = Err e

-- what is there, or else the fault
abbrev pub some_or : {A : Type 0} → JsonFault → Option A → Result A JsonFault
some_or e None = Err e
some_or e (Some x) = Ok x

-- What a function returned, seen by view, is the same as the answer, or Memory.
abbrev pub IsSameOrMemory : {X Y : Type 0} → (X → Y) → Result X JsonFault → Result Y JsonFault → Type 0
IsSameOrMemory view (Ok x) answer = answer ≡ Ok (view x)
IsSameOrMemory view (Err e) answer = (e ≡ Memory → ⊥) → answer ≡ Err e

-- What a function returned that may find nothing: what is answered whatever else is, or nothing at all.
abbrev pub Tries : {X Y : Type 0} → (X → Y) → Result (Option X) JsonFault → (Result Y JsonFault → Result Y JsonFault) → Type 0
Tries view (Ok None) answer = (otherwise : Result _ JsonFault) → answer otherwise ≡ otherwise
Tries view (Ok (Some x)) answer = (otherwise : Result _ JsonFault) → answer otherwise ≡ Ok (view x)
Tries view (Err e) answer = (e ≡ Memory → ⊥) → (otherwise : Result _ JsonFault) → answer otherwise ≡ Err e
