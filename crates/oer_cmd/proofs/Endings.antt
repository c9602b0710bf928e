-- How the program ends, from what its steps answer.
use Rattle.std.proofs.Common.{Result, ◌≡◌, ◌∙◌, ℕ, ◌≤◌, List, [], ◌∷◌, ◌++◌, true, Option, Some, None, Ok, Err, String, Global, refl, sym, ap, subst, arith, string_bytes, ◌⊎◌, inl, inr}
use Rattle.std.specs.Prelude.{IfOk, IsOkAnd}
use Rattle.std.specs.Io.KnownBytes.{Appends, Keeps}
use Rattle.clap.specs.Words.{HasKind, IsAmong, Kinds, Text, fault_of, kind_of, takes}
use Rattle.clap.specs.declared.error.Error.{Error}
use Rattle.clap.specs.declared.error.kind.ErrorKind.{ErrorKind}
use Rattle.clap.specs.declared.error.kind.ErrorKind.TheVariants.{DisplayHelp, DisplayVersion, OutOfMemory}
use Rattle.oer_options.specs.Words.{oer}
use Rattle.oer_cmd.specs.Ending.{Delivers, Breaks, HoldsFront, IsMachineLine, IsNotTaken, IsUnstarted, MayPrint, Streams, refusal_line}
use Rattle.oer_cmd.specs.Expected.{Expected, Meets, refusal, unknown, value}
use Rattle.oer_cmd.specs.Faults.{AppendsFront, Printed, Reports, error_line, status_of}
use Rattle.oer_cmd.specs.declared.fault.Fault.{Fault}
use Rattle.oer_cmd.specs.declared.fault.Fault.TheVariants.{Input, Memory, Output}
use Rattle.oer_cmd.proofs.Meeting.{bytes}

-- ---- the end

-- the status is 2 at most, or the machine failed and the line says so
pub by_status : (fault : Fault) → (status_of fault ≤ 2) ⊎ ((status_of fault ≡ 3) × IsMachineLine (error_line fault))
by_status Input = inr (refl, inl refl)
by_status Output = inr (refl, inr (inl refl))
by_status Memory = inr (refl, inr (inr refl))
by_status _ = inl (omega arith)

pub moved : (line own : Text) → line ≡ own → IsMachineLine own → IsMachineLine line
moved line own is h = subst IsMachineLine (sym is) h

-- The fault is told, and the output is as it was.
pub refused_end : (expected : Expected Text) (fault : Fault) (status : ℕ) (s : Streams)
    → Meets {X = String Global} bytes expected (Err fault) → Reports fault status s.errors s.errors' → Keeps s.output s.output'
    → Delivers expected status s ⊎ Breaks expected status s
refused_end expected fault status s meets (line, inr (three, is), front) kept = inr (three, inl kept, (line, inr (inr is), front))
refused_end expected fault status s meets (line, inl (same, is), front) kept = by expected meets (by_status fault) where
  by : (expected : Expected Text) → Meets {X = String Global} bytes expected (Err fault) → (status_of fault ≤ 2) ⊎ ((status_of fault ≡ 3) × IsMachineLine (error_line fault)) → Delivers expected status s ⊎ Breaks expected status s
  by expected meets (inr (three, own)) = inr (same ∙ three, inl kept, (line, moved line (error_line fault) is own, front))
  by unknown meets (inl small) = inl tt
  by (value y) meets (inl small) = absurd (meets small)
  by (refusal r) meets (inl small) = inl (same ∙ ap (λ x. x.status) (meets small), kept, subst (λ l. AppendsFront s.errors s.errors' l) (is ∙ ap (λ x. refusal_line x.text) (meets small)) front)

-- The line is printed.
pub printed_end : (expected : Expected Text) (line : String Global) (s : Streams) → Meets bytes expected (Ok line)
    → Appends s.output s.output' (string_bytes line ++ 10 ∷ []) → Keeps s.errors s.errors' → Delivers expected 0 s ⊎ Breaks expected 0 s
printed_end unknown line s meets appends kept = inl tt
printed_end (value y) line s meets appends kept = inl (refl, subst (λ (l : List ℕ). Appends s.output s.output' (l ++ 10 ∷ [])) meets appends, kept)
printed_end (refusal r) line s meets appends kept = absurd meets

prints : (expected : Expected Text) (line : String Global) → Meets bytes expected (Ok line) → MayPrint expected (string_bytes line)
prints unknown line meets = tt
prints (value y) line meets = sym meets
prints (refusal r) line meets = meets

fronts : (expected : Expected Text) (line : String Global) (fault : Fault) (s : Streams) → Meets bytes expected (Ok line)
    → Printed (string_bytes line) s.output s.output' (Err fault)
    → HoldsFront expected s × (status_of fault ≡ 3) × IsMachineLine (error_line fault)
fronts expected line Output s meets printed = (inr (string_bytes line, prints expected line meets, printed), refl, inr (inl refl))
fronts expected line Memory s meets printed = (inl printed, refl, inr (inr refl))
fronts expected line fault s meets printed = absurd printed

-- The output failed, or memory ran out before it.
pub broken_end : (expected : Expected Text) (line : String Global) (fault : Fault) (status : ℕ) (s : Streams)
    → Meets bytes expected (Ok line) → Printed (string_bytes line) s.output s.output' (Err fault)
    → Reports fault status s.errors s.errors'
    → Delivers expected status s ⊎ Breaks expected status s
broken_end expected line fault status s meets printed (told, inl (same, is), front) = let f = fronts expected line fault s meets printed in inr (same ∙ f.1, f.0, (told, moved told (error_line fault) is f.2, front))
broken_end expected line fault status s meets printed (told, inr (three, is), front) = let f = fronts expected line fault s meets printed in inr (three, f.0, (told, inr (inr is), front))

-- Memory for the words was refused.
pub unread_end : (status : ℕ) (old new : Option (List ℕ)) → Reports Memory 3 old new → AppendsFront old new (error_line Memory)
unread_end status old new (line, inl (same, is), front) = subst (λ l. AppendsFront old new l) is front
unread_end status old new (line, inr (three, is), front) = subst (λ l. AppendsFront old new l) is front

-- The line of a machine that fails is told.
told_machine : (fault : Fault) (old new : Option (List ℕ)) → IsMachineLine (error_line fault) → Reports fault 3 old new
    → (line : Text) × IsMachineLine line × AppendsFront old new line
told_machine fault old new own (line, inl (same, is), front) = (line, moved line (error_line fault) is own, front)
told_machine fault old new own (line, inr (three, is), front) = (line, inr (inr is), front)

among_help : (kinds : Kinds) (kind : ErrorKind) → IsAmong kind kinds → (kind ≡ DisplayHelp) ⊎ (kind ≡ DisplayVersion)
    → IsAmong DisplayHelp kinds ⊎ IsAmong DisplayVersion kinds
among_help kinds kind among (inl is) = inl (subst (λ k. IsAmong k kinds) is among)
among_help kinds kind among (inr is) = inr (subst (λ k. IsAmong k kinds) is among)

-- The line that was printed is that of which P holds.
pub line_printed : (result : Result (String Global) Fault) (P Q : Text → Type 0) (s : Streams) → IfOk result (λ line. P (string_bytes line)) → ((line : Text) → P line → Q line)
    → IsOkAnd result (λ line. Appends s.output s.output' (string_bytes line ++ 10 ∷ []) × Keeps s.errors s.errors')
    → (line : Text) × Q line × Appends s.output s.output' (line ++ 10 ∷ []) × Keeps s.errors s.errors'
line_printed (Ok line) P Q s h to printed = (string_bytes line, to (string_bytes line) h, printed.0, printed.1)
line_printed (Err fault) P Q s h to printed = absurd printed

pub keeps_same : (known : Option (List ℕ)) → Keeps known known
keeps_same None = tt
keeps_same (Some xs) = refl

-- What `clap` says of the words.
pub words_end : {D : Type 0} (words : List Text) (untouched : Type 0) (e : Error) (status : ℕ) (s : Streams)
    → HasKind (fault_of oer words) e → (takes oer words ≡ true → kind_of e ≡ OutOfMemory)
    → (kind_of e ≡ OutOfMemory → status ≡ 3) → (status ≡ 0 → (kind_of e ≡ DisplayHelp) ⊎ (kind_of e ≡ DisplayVersion))
    → (status ≡ 0 → Keeps s.errors s.errors') → (1 ≤ status → status ≤ 2 → status ≡ 2)
    → (1 ≤ status → status ≤ 2 → Keeps s.output s.output')
    → (status ≡ 3 → Reports Memory 3 s.errors s.errors' ⊎ Reports Output 3 s.errors s.errors')
    → (kind_of e ≡ OutOfMemory → Keeps s.output s.output')
    → (kind_of e ≡ OutOfMemory → Reports Memory 3 s.errors s.errors') → untouched
    → IsUnstarted untouched status s ⊎ D ⊎ IsNotTaken words untouched status s
words_end words untouched e status s (inl kind) passes memory shows alone two quiet failed kept line same = inl (memory kind, same, kept kind, unread_end 3 s.errors s.errors' (line kind))
words_end words untouched e status s (inr among) passes memory shows alone two quiet failed kept line same = inr (inr (record {
  refused = λ small taken. (let three = memory (passes taken) in omega (arith, small, three));
  help = λ none. (among_help (fault_of oer words) (kind_of e) among (shows none), alone none);
  said = λ low high. (two low high, quiet low high);
  unwritten = λ taken. kept (passes taken);
  machine = λ three. by (failed three);
  keeps = same;
})) where
  by : Reports Memory 3 s.errors s.errors' ⊎ Reports Output 3 s.errors s.errors' → (line : Text) × IsMachineLine line × AppendsFront s.errors s.errors' line
  by (inl h) = told_machine Memory s.errors s.errors' (inr (inr refl)) h
  by (inr h) = told_machine Output s.errors s.errors' (inr (inl refl)) h
