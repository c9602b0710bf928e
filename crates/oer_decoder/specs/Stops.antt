-- Answers whose error doesn't say its place.
use Rattle.std.specs.Prelude.{◌≢◌, Result, Ok, Err, IfErr}
use Rattle.oer_units.specs.declared.fault.ReadFault.{ReadFault}
use Rattle.oer_units.specs.declared.fault.Why.TheVariants.{Memory}
use Rattle.oer_units.specs.Reader.{Reader}
use Rattle.oer_units.specs.Reads.{Reads, State}
use Rattle.oer_decoder.specs.declared.stop.Stop.{Stop}

-- an answer, its value as f shows it and its error at the place that was reached
abbrev pub placed : {A B : Type 0} → (A → B) → Result A Stop → State → Result B ReadFault
placed f (Ok x) s = Ok (f x)
placed f (Err e) s = Err (record { taken = s.bound.taken; why = e.why })

abbrev pub same : {A : Type 0} → A → A
same x = x

-- From old to new a call reads as r does, and answers result.
abbrev pub ReadsAs : {A B : Type 0} → Reader B → State → (A → B) → Result A Stop → State → Type 0
ReadsAs r old f result new = Reads r old (placed f result new) new

-- No growth of memory was refused.
abbrev pub StopsNotForMemory : {A : Type 0} → Result A Stop → Type 0
StopsNotForMemory result = IfErr result (λ e. e.why ≢ Memory)
