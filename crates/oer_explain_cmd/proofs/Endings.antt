-- How a command ends, with `--explain` or without it.
use Rattle.std.proofs.Common.{◌≡◌, ℕ, List, Bool, Option, Some, true, false, Vec, Global, inl, inr, subst}
use Rattle.std.specs.Prelude.{◌≤◌, ◌⊎◌, ⊤}
use Rattle.std.specs.Io.KnownBytes.{Keeps}
use Rattle.clap.specs.Words.{HasKind, Text, fault_of, kind_of, takes}
use Rattle.oer_model.specs.AsnType.{AsnType}
use Rattle.clap.specs.declared.error.Error.{Error}
use Rattle.clap.specs.declared.error.kind.ErrorKind.TheVariants.{DisplayHelp, DisplayVersion, OutOfMemory}
use Rattle.oer_options.specs.Words.{oer}
use Rattle.oer_cmd.proofs.Endings.{words_end}
use Rattle.oer_cmd.specs.Ending as usual
use Rattle.oer_cmd.specs.Ending.{Streams}
use Rattle.oer_cmd.specs.Faults.{Reports}
use Rattle.oer_cmd.specs.declared.fault.Fault.TheVariants.{Memory, Output}
use Rattle.oer_canonical_cmd.specs.Ending as canonical
use Rattle.oer_at_cmd.specs.Ending as at
use Rattle.oer_ends.specs.Ends.{has_end}
use Rattle.oer_ends_cmd.specs.Ending.{DoesNested, EndsBy}
use Rattle.oer_explain_cmd.specs.Ending.{EndsWithout, EndsWithoutFor, IsDone, IsHeld}
use Rattle.oer_explain_cmd.specs.declared.adding.Command.{Command}
use Rattle.oer_explain_cmd.specs.declared.adding.Command.TheVariants.{At, Canonical, Usual}

-- the words aren't taken
pub not_taken : (command : Command) (words : List Text) (told : Option (List ℕ)) (untouched : Type 0) (e : Error) (status : ℕ) (s : Streams)
    → HasKind (fault_of oer words) e → (takes oer words ≡ true → kind_of e ≡ OutOfMemory)
    → (kind_of e ≡ OutOfMemory → status ≡ 3) → (status ≡ 0 → (kind_of e ≡ DisplayHelp) ⊎ (kind_of e ≡ DisplayVersion)) → (status ≡ 0
    → Keeps s.errors s.errors')
    → (1 ≤ status → status ≤ 2 → status ≡ 2) → (1 ≤ status → status ≤ 2 → Keeps s.output s.output')
    → (status ≡ 3 → Reports Memory 3 s.errors s.errors' ⊎ Reports Output 3 s.errors s.errors') → (kind_of e ≡ OutOfMemory
    → Keeps s.output s.output')
    → (kind_of e ≡ OutOfMemory → Reports Memory 3 s.errors s.errors') → untouched
    → EndsWithout command words told untouched status s.output s.output' s.errors s.errors'
not_taken Usual words told untouched e status s among passes memory shows alone two quiet failed kept line same =
    words_end words untouched e status s among passes memory shows alone two quiet failed kept line same
not_taken Canonical words told untouched e status s among passes memory shows alone two quiet failed kept line same =
    words_end words untouched e status s among passes memory shows alone two quiet failed kept line same
not_taken (At names) words told untouched e status s among passes memory shows alone two quiet failed kept line same =
    words_end words untouched e status s among passes memory shows alone two quiet failed kept line same

-- the same by a type of modules
pub not_taken_for : (command : Command) (T : AsnType) (words : List Text) (told : Option (List ℕ)) (untouched : Type 0) (e : Error)
    (status : ℕ) (s : Streams)
    → HasKind (fault_of oer words) e → (takes oer words ≡ true → kind_of e ≡ OutOfMemory)
    → (kind_of e ≡ OutOfMemory → status ≡ 3) → (status ≡ 0 → (kind_of e ≡ DisplayHelp) ⊎ (kind_of e ≡ DisplayVersion)) → (status ≡ 0
    → Keeps s.errors s.errors')
    → (1 ≤ status → status ≤ 2 → status ≡ 2) → (1 ≤ status → status ≤ 2 → Keeps s.output s.output')
    → (status ≡ 3 → Reports Memory 3 s.errors s.errors' ⊎ Reports Output 3 s.errors s.errors') → (kind_of e ≡ OutOfMemory
    → Keeps s.output s.output')
    → (kind_of e ≡ OutOfMemory → Reports Memory 3 s.errors s.errors') → untouched
    → EndsWithoutFor command T words told untouched status s.output s.output' s.errors s.errors'
not_taken_for Usual T words told untouched e status s among passes memory shows alone two quiet failed kept line same = by (has_end T) where
  by : (nests : Bool) → EndsBy nests T words told untouched status s.output s.output' s.errors s.errors'
  by true = words_end words untouched e status s among passes memory shows alone two quiet failed kept line same
  by false = words_end words untouched e status s among passes memory shows alone two quiet failed kept line same
not_taken_for Canonical T words told untouched e status s among passes memory shows alone two quiet failed kept line same =
    words_end words untouched e status s among passes memory shows alone two quiet failed kept line same
not_taken_for (At names) T words told untouched e status s among passes memory shows alone two quiet failed kept line same =
    words_end words untouched e status s among passes memory shows alone two quiet failed kept line same

not_taken_anyhow : (words : List Text) (untouched : Type 0) (status : ℕ) (s : Streams) → usual.IsNotTaken words untouched status s
    → usual.IsNotTaken words ⊤ status s
not_taken_anyhow words untouched status s n = record {
  refused = n.refused;
  help = n.help;
  said = n.said;
  unwritten = n.unwritten;
  machine = n.machine;
  keeps = tt;
}

usual_anyhow : (words : List Text) (told : Option (List ℕ)) (untouched : Type 0) (status : ℕ) (s : Streams)
    → usual.IsUnstarted untouched status s ⊎ usual.Does words told untouched status s ⊎ usual.IsNotTaken words untouched status s
    → usual.IsUnstarted ⊤ status s ⊎ usual.Does words told ⊤ status s ⊎ usual.IsNotTaken words ⊤ status s
usual_anyhow words told untouched status s (inl (three, same, kept, front)) = inl (three, tt, kept, front)
usual_anyhow words told untouched status s (inr (inl d)) = inr (inl
    (record { options = d.options; asks = d.asks; answers = d.answers; keeps = λ some own. tt }))
usual_anyhow words told untouched status s (inr (inr n)) = inr (inr (not_taken_anyhow words untouched status s n))

canonical_anyhow : (words : List Text) (told : Option (List ℕ)) (untouched : Type 0) (status : ℕ) (s : Streams)
    → usual.IsUnstarted untouched status s ⊎ canonical.Does words told untouched status s ⊎ usual.IsNotTaken words untouched status s
    → usual.IsUnstarted ⊤ status s ⊎ canonical.Does words told ⊤ status s ⊎ usual.IsNotTaken words ⊤ status s
canonical_anyhow words told untouched status s (inl (three, same, kept, front)) = inl (three, tt, kept, front)
canonical_anyhow words told untouched status s (inr (inl d)) = inr (inl
    (record { options = d.options; asks = d.asks; answers = d.answers; keeps = λ some own. tt }))
canonical_anyhow words told untouched status s (inr (inr n)) = inr (inr (not_taken_anyhow words untouched status s n))

at_anyhow : (names : Text) (words : List Text) (told : Option (List ℕ)) (untouched : Type 0) (status : ℕ) (s : Streams)
    → usual.IsUnstarted untouched status s ⊎ at.Does names words told untouched status s ⊎ usual.IsNotTaken words untouched status s
    → usual.IsUnstarted ⊤ status s ⊎ at.Does names words told ⊤ status s ⊎ usual.IsNotTaken words ⊤ status s
at_anyhow names words told untouched status s (inl (three, same, kept, front)) = inl (three, tt, kept, front)
at_anyhow names words told untouched status s (inr (inl d)) = inr (inl
    (record { options = d.options; asks = d.asks; answers = d.answers; keeps = λ some own. tt }))
at_anyhow names words told untouched status s (inr (inr n)) = inr (inr (not_taken_anyhow words untouched status s n))

-- whatever became of its input
pub ends_anyhow : (command : Command) (words : List Text) (told : Option (List ℕ)) (untouched : Type 0) (status : ℕ)
    (output output' errors errors' : Option (List ℕ))
    → EndsWithout command words told untouched status output output' errors errors'
    → EndsWithout command words told ⊤ status output output' errors errors'
ends_anyhow Usual words told untouched status output output' errors errors' h =
    usual_anyhow words told untouched status (record { output = output; output' = output'; errors = errors; errors' = errors' }) h
ends_anyhow Canonical words told untouched status output output' errors errors' h =
    canonical_anyhow words told untouched status (record { output = output; output' = output'; errors = errors; errors' = errors' }) h
ends_anyhow (At names) words told untouched status output output' errors errors' h =
    at_anyhow names.now words told untouched status (record { output = output; output' = output'; errors = errors; errors' = errors' }) h

-- what it does on the text that was held
pub done_on : (command : Command) (words : List Text) (told : Option (List ℕ)) (untouched own : Type 0) (held : Option (Vec ℕ Global))
    (b : Vec ℕ Global) (l : List ℕ) (is : Bool)
    (status : ℕ) (output output' errors middle : Option (List ℕ)) → IsHeld is told untouched held → held ≡ Some b → l ≡ b.items
    → EndsWithout command words (Some l) own status output output' errors middle
    → IsDone command words told untouched (Some b.items) is status output output' errors middle
done_on command words told untouched own held b l is status output output' errors middle h of same ends =
    let k : IsHeld is told untouched (Some b) = subst (λ o. IsHeld is told untouched o) of h in (
      k.0,
      k.1,
      ends_anyhow command words (Some b.items) own status output output' errors middle
          (subst (λ (x : List ℕ). EndsWithout command words (Some x) own status output output' errors middle) same ends),
    )

-- by a type of modules, whatever became of its input
given_anyhow : (T : AsnType) (words : List Text) (told : Option (List ℕ)) (untouched : Type 0) (status : ℕ) (s : Streams)
    → usual.IsUnstarted untouched status s ⊎ usual.DoesFor T words told untouched status s ⊎ usual.IsNotTaken words untouched status s
    → usual.IsUnstarted ⊤ status s ⊎ usual.DoesFor T words told ⊤ status s ⊎ usual.IsNotTaken words ⊤ status s
given_anyhow T words told untouched status s (inl (three, same, kept, front)) = inl (three, tt, kept, front)
given_anyhow T words told untouched status s (inr (inl d)) = inr (inl
    (record { options = d.options; asks = d.asks; answers = d.answers; keeps = λ some. tt }))
given_anyhow T words told untouched status s (inr (inr n)) = inr (inr (not_taken_anyhow words untouched status s n))

nested_anyhow : (T : AsnType) (words : List Text) (told : Option (List ℕ)) (untouched : Type 0) (status : ℕ) (s : Streams)
    → usual.IsUnstarted untouched status s ⊎ DoesNested T words told untouched status s ⊎ usual.IsNotTaken words untouched status s
    → usual.IsUnstarted ⊤ status s ⊎ DoesNested T words told ⊤ status s ⊎ usual.IsNotTaken words ⊤ status s
nested_anyhow T words told untouched status s (inl (three, same, kept, front)) = inl (three, tt, kept, front)
nested_anyhow T words told untouched status s (inr (inl d)) = inr (inl
    (record { options = d.options; asks = d.asks; answers = d.answers; keeps = λ some. tt }))
nested_anyhow T words told untouched status s (inr (inr n)) = inr (inr (not_taken_anyhow words untouched status s n))

canonical_for_anyhow : (T : AsnType) (words : List Text) (told : Option (List ℕ)) (untouched : Type 0) (status : ℕ) (s : Streams)
    → usual.IsUnstarted untouched status s ⊎ canonical.DoesFor T words told untouched status s ⊎ usual.IsNotTaken words untouched status s
    → usual.IsUnstarted ⊤ status s ⊎ canonical.DoesFor T words told ⊤ status s ⊎ usual.IsNotTaken words ⊤ status s
canonical_for_anyhow T words told untouched status s (inl (three, same, kept, front)) = inl (three, tt, kept, front)
canonical_for_anyhow T words told untouched status s (inr (inl d)) =
    inr (inl (record { options = d.options; asks = d.asks; answers = d.answers; keeps = λ some. tt }))
canonical_for_anyhow T words told untouched status s (inr (inr n)) = inr (inr (not_taken_anyhow words untouched status s n))

at_for_anyhow : (T : AsnType) (names : Text) (words : List Text) (told : Option (List ℕ)) (untouched : Type 0) (status : ℕ) (s : Streams)
    → usual.IsUnstarted untouched status s ⊎ at.DoesFor T names words told untouched status s ⊎ usual.IsNotTaken words untouched status s
    → usual.IsUnstarted ⊤ status s ⊎ at.DoesFor T names words told ⊤ status s ⊎ usual.IsNotTaken words ⊤ status s
at_for_anyhow T names words told untouched status s (inl (three, same, kept, front)) = inl (three, tt, kept, front)
at_for_anyhow T names words told untouched status s (inr (inl d)) =
    inr (inl (record { options = d.options; asks = d.asks; answers = d.answers; keeps = λ some. tt }))
at_for_anyhow T names words told untouched status s (inr (inr n)) = inr (inr (not_taken_anyhow words untouched status s n))

pub ends_for_anyhow : (command : Command) (T : AsnType) (words : List Text) (told : Option (List ℕ)) (untouched : Type 0) (status : ℕ)
    (output output' errors errors' : Option (List ℕ))
    → EndsWithoutFor command T words told untouched status output output' errors errors'
    → EndsWithoutFor command T words told ⊤ status output output' errors errors'
ends_for_anyhow Usual T words told untouched status output output' errors errors' = by (has_end T) where
  by : (nests : Bool) → EndsBy nests T words told untouched status output output' errors errors'
      → EndsBy nests T words told ⊤ status output output' errors errors'
  by true h = nested_anyhow T words told untouched status
      (record { output = output; output' = output'; errors = errors; errors' = errors' }) h
  by false h = given_anyhow T words told untouched status
      (record { output = output; output' = output'; errors = errors; errors' = errors' }) h
ends_for_anyhow Canonical T words told untouched status output output' errors errors' =
    canonical_for_anyhow T words told untouched status (record { output = output; output' = output'; errors = errors; errors' = errors' })
ends_for_anyhow (At names) T words told untouched status output output' errors errors' =
    at_for_anyhow T names.now words told untouched status
    (record { output = output; output' = output'; errors = errors; errors' = errors' })

-- what it does on octets that were held
pub held_on : (command : Command) (words : List Text) (own : Type 0) (b l : List ℕ) (status : ℕ) (output output' errors middle : Option
    (List ℕ)) → l ≡ b
    → EndsWithout command words (Some l) own status output output' errors middle → EndsWithout command words
    (Some b) ⊤ status output output' errors middle
held_on command words own b l status output output' errors middle same ends =
    ends_anyhow command words (Some b) own status output output' errors middle
    (subst (λ (x : List ℕ). EndsWithout command words (Some x) own status output output' errors middle) same ends)

pub held_on_for : (command : Command) (T : AsnType) (words : List Text) (own : Type 0) (b l : List ℕ) (status : ℕ)
    (output output' errors middle : Option (List ℕ)) → l ≡ b → EndsWithoutFor command T words
    (Some l) own status output output' errors middle
    → EndsWithoutFor command T words (Some b) ⊤ status output output' errors middle
held_on_for command T words own b l status output output' errors middle same ends =
    ends_for_anyhow command T words (Some b) own status output output' errors middle
    (subst (λ (x : List ℕ). EndsWithoutFor command T words (Some x) own status output output' errors middle) same ends)
