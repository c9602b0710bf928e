-- What a writer does to a sink.
use Rattle.std.specs.Prelude.{◌≡◌, ℕ, ◌<◌, List, length, take, Option, Result, Ok, Err, IfErr}
use Rattle.std.specs.Io.KnownBytes.{Appends}
use Rattle.oer_units.specs.declared.fault.SinkFault.{SinkFault}
use Rattle.oer_units.specs.Stream.{one_more}

-- how many of n octets were written
abbrev pub written : {A : Type 0} → ℕ → Result A SinkFault → ℕ
written n (Ok x) = n
written n (Err e) = e.written

-- the count of failures after a writer
abbrev pub counted_put : {A : Type 0} → ℕ → Result A SinkFault → ℕ
counted_put n (Ok x) = n
counted_put n (Err e) = one_more n

-- A call writes the octets: all of them, or those before a failure.
pub record Puts {A : Type 0} (octets : List ℕ) (old : Option (List ℕ)) (failed : ℕ) (result : Result A SinkFault)
    (new : Option (List ℕ)) (failed' : ℕ) : Type 0 where
  pub within : IfErr result (λ e. e.written < length octets)
  pub appends : Appends old new (take (written (length octets) result) octets)
  pub count : failed' ≡ counted_put failed result
