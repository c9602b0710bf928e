-- How a run ends.
use Rattle.std.proofs.Common.{◌≡◌, ◌⊎◌, inl, inr, ℕ, ◌≤◌, List, true, Option, Err, String, Global, refl, sym, subst, arith}
use Rattle.std.specs.Io.KnownBytes.{Keeps}
use Rattle.clap.specs.Words.{HasKind, IsAmong, Kinds, Text, fault_of, kind_of, takes}
use Rattle.clap.specs.declared.error.Error.{Error}
use Rattle.clap.specs.declared.error.kind.ErrorKind.{ErrorKind}
use Rattle.clap.specs.declared.error.kind.ErrorKind.TheVariants.{DisplayHelp, DisplayVersion, OutOfMemory}
use Rattle.oer_model.specs.AsnType.{AsnType}
use Rattle.oer_options.specs.Words.{Texts, behind, texts_of}
use Rattle.oer_cmd.specs.Answer.{expected_type}
use Rattle.oer_cmd.specs.Ending.{IsMachineLine, Streams}
use Rattle.oer_cmd.specs.Expected.{Expected, Meets, stop, ◌>>=◌}
use Rattle.oer_cmd.specs.Faults.{AppendsFront, Reports, error_line}
use Rattle.oer_cmd.specs.declared.fault.Fault.{Fault}
use Rattle.oer_cmd.specs.declared.fault.Fault.TheVariants.{Memory, Output}
use Rattle.oer_cmd.proofs.Endings.{moved, refused_end}
use Rattle.oer_cmd.proofs.Meeting.{bytes, stops}
use Rattle.oer_compare_cmd.specs.Ending.{Answers, AsksForHelp, Does, IsNotTaken, compare_answer, other_answer}
use Rattle.oer_compare_cmd.specs.Words.{Asks, app}
use Rattle.oer_compare_cmd.specs.declared.asked.Asked.{Asked}

-- ---- steps

pub refused_next : {X Y : Type 0} (view : X → Y) (m : Expected Y) (next : Y → Expected Text) (fault : Fault) (status : ℕ) (s : Streams)
    → Meets {X = X} view m (Err fault) → Reports fault status s.errors s.errors' → Keeps s.output s.output' → Answers (m >>= next) status s
refused_next {X = X} view m next fault status s h told kept = refused_end (m >>= next) fault status s (stops {X = X} {Z = String Global} view bytes m next fault h) told kept

-- The words name no type.
pub lacking_end : (t : Texts) (with others : Option Text) (fault : Fault) (status : ℕ) (s : Streams) → expected_type t ≡ stop fault
    → Reports fault status s.errors s.errors' → Keeps s.output s.output' → Answers (compare_answer t with others) status s
lacking_end t with others fault status s is tells kept =
    subst (λ (m : Expected AsnType). Answers (m >>= other_answer t with others) status s) (sym is)
    (refused_end (stop fault) fault status s (λ small. refl) tells kept)

-- ---- words that are not taken

told_machine : (fault : Fault) (old new : Option (List ℕ)) → IsMachineLine (error_line fault) → Reports fault 3 old new
    → (line : Text) × IsMachineLine line × AppendsFront old new line
told_machine fault old new own (line, inl (same, is), front) = (line, moved line (error_line fault) is own, front)
told_machine fault old new own (line, inr (three, is), front) = (line, inr (inr is), front)

among_help : (kinds : Kinds) (kind : ErrorKind) → IsAmong kind kinds → (kind ≡ DisplayHelp) ⊎ (kind ≡ DisplayVersion)
    → IsAmong DisplayHelp kinds ⊎ IsAmong DisplayVersion kinds
among_help kinds kind among (inl is) = inl (subst (λ k. IsAmong k kinds) is among)
among_help kinds kind among (inr is) = inr (subst (λ k. IsAmong k kinds) is among)

module _ (words : List Text) (e : Error) (status : ℕ) (s : Streams) (memory : kind_of e ≡ OutOfMemory → status ≡ 3) where
  helped : HasKind (fault_of app words) e → (status ≡ 0 → (kind_of e ≡ DisplayHelp) ⊎ (kind_of e ≡ DisplayVersion)) → status ≡ 0 → AsksForHelp words
  helped (inl kind) shows none = absurd (let three = memory kind in omega (arith, three, none))
  helped (inr among) shows none = among_help (fault_of app words) (kind_of e) among (shows none)

  machine_told : Reports Memory 3 s.errors s.errors' ⊎ Reports Output 3 s.errors s.errors' → (line : Text) × IsMachineLine line × AppendsFront s.errors s.errors' line
  machine_told (inl h) = told_machine Memory s.errors s.errors' (inr (inr refl)) h
  machine_told (inr h) = told_machine Output s.errors s.errors' (inr (inl refl)) h

  pub not_taken : HasKind (fault_of app words) e → (takes app words ≡ true → kind_of e ≡ OutOfMemory) → (kind_of e ≡ OutOfMemory → Keeps s.output s.output')
      → (status ≡ 0 → (kind_of e ≡ DisplayHelp) ⊎ (kind_of e ≡ DisplayVersion)) → (status ≡ 0 → Keeps s.errors s.errors') → (1 ≤ status → status ≤ 2 → status ≡ 2)
      → (1 ≤ status → status ≤ 2 → Keeps s.output s.output') → (status ≡ 3 → Reports Memory 3 s.errors s.errors' ⊎ Reports Output 3 s.errors s.errors')
      → IsNotTaken words status s
  not_taken kind passes kept shows alone two quiet failed = record {
    refused = λ small taken. (let three = memory (passes taken) in omega (arith, small, three));
    help = λ none. (helped kind shows none, alone none);
    said = λ low high. (two low high, quiet low high);
    unwritten = λ taken. kept (passes taken);
    machine = λ three. machine_told (failed three);
  }

pub does : (words : List Text) (status : ℕ) (s : Streams) (a : Asked) (t : Texts) → Asks words a → t ≡ texts_of a.options
    → Answers (compare_answer t (behind a.with) (behind a.with_types)) status s → Does words status s
does words status s a t asks is h =
    record { asked = a; asks = asks; answers = subst (λ u. Answers (compare_answer u (behind a.with) (behind a.with_types)) status s) is h }
