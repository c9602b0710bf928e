-- How a run ends.
use Rattle.std.proofs.Common.{◌≡◌, ◌∙◌, ◌⊎◌, inl, inr, ℕ, ◌≤◌, ◌<◌, List, [], Bool, true, false}
use Rattle.std.proofs.Common.{if◌then◌else◌, Option, Some, None, Ok, Err, String, Global, refl, sym, subst, arith, string_bytes, nat_lt}
use Rattle.std.proofs.lemmas.Bool.{lt-ltb, ltb-true}
use Rattle.std.specs.Io.KnownBytes.{Keeps}
use Rattle.clap.specs.Words.{HasKind, IsAmong, Kinds, Text, fault_of, kind_of, takes}
use Rattle.clap.specs.declared.error.Error.{Error}
use Rattle.clap.specs.declared.error.kind.ErrorKind.{ErrorKind}
use Rattle.clap.specs.declared.error.kind.ErrorKind.TheVariants.{DisplayHelp, DisplayVersion, OutOfMemory}
use Rattle.oer_model.specs.AsnType.{AsnType}
use Rattle.oer_options.specs.Words.{Texts, texts_of}
use Rattle.oer_cmd.specs.Answer.{expected_type, types_input}
use Rattle.oer_cmd.specs.Ending.{IsMachineLine, Streams, refusal_line}
use Rattle.oer_cmd.specs.Expected.{Expected, Meets, refusal, stop, unknown, value, ◌>>=◌}
use Rattle.oer_cmd.specs.Faults.{AppendsFront, Reports, error_line}
use Rattle.oer_cmd.specs.Types.{reads_types}
use Rattle.oer_cmd.specs.declared.fault.Fault.{Fault}
use Rattle.oer_cmd.specs.declared.fault.Fault.TheVariants.{Memory, Output}
use Rattle.oer_cmd.proofs.Endings.{moved, refused_end}
use Rattle.oer_cmd.proofs.Meeting.{bytes, fails, stops}
use Rattle.oer_skeleton.specs.Weight.{max_weight}
use Rattle.oer_example_cmd.specs.Ending.{Answers, AsksForHelp, Does, DoesFor, IsNotTaken, both_wanted, example_answer, example_of, expected_wanted, named_answer, too_long}
use Rattle.oer_example_cmd.specs.Line.{wanted_line, wanted_weight}
use Rattle.oer_example_cmd.specs.Wanted.{wanted_of}
use Rattle.oer_example_cmd.specs.Words.{Asks, app}
use Rattle.oer_example_cmd.specs.declared.asked.Asked.{Asked}
use Rattle.oer_example_cmd.specs.declared.wanted.Wanted.{Wanted}

-- ---- the line

not_more : (n : ℕ) → n ≤ max_weight → nat_lt max_weight n ≡ false
not_more n few = by (nat_lt max_weight n) refl
  where
    by : (b : Bool) → nat_lt max_weight n ≡ b → nat_lt max_weight n ≡ false
    by true e = let more = ltb-true max_weight n e in absurd (omega arith)
    by false e = e

pub line_met : (wanted : Wanted) (T : AsnType) (line : String Global) → wanted_weight wanted T ≤ max_weight → string_bytes line ≡ wanted_line wanted T
    → Meets bytes (example_of wanted T) (Ok line)
line_met wanted T line few is =
    subst (λ (b : Bool). Meets bytes (if b then refusal too_long else value (wanted_line wanted T)) (Ok line)) (sym (not_more (wanted_weight wanted T) few)) is

pub long_end : (wanted : Wanted) (T : AsnType) (s : Streams) → max_weight < wanted_weight wanted T → Keeps s.output s.output'
    → AppendsFront s.errors s.errors' (refusal_line too_long.text) → Answers (example_of wanted T) 2 s
long_end wanted T s more kept front =
    subst (λ (b : Bool). Answers (if b then refusal too_long else value (wanted_line wanted T)) 2 s) (sym (lt-ltb max_weight (wanted_weight wanted T) more))
    (inl (refl, kept, front))

pub memory_end : (expected : Expected Text) (status : ℕ) (s : Streams) → Reports Memory status s.errors s.errors' → Keeps s.output s.output' → Answers expected status s
memory_end expected status s told kept = refused_end expected Memory status s (fails {X = String Global} bytes expected Memory (λ small. omega arith)) told kept

-- ---- steps

pub refused_next : {X Y : Type 0} (view : X → Y) (m : Expected Y) (next : Y → Expected Text) (fault : Fault) (status : ℕ) (s : Streams)
    → Meets {X = X} view m (Err fault) → Reports fault status s.errors s.errors' → Keeps s.output s.output' → Answers (m >>= next) status s
refused_next {X = X} view m next fault status s h told kept = refused_end (m >>= next) fault status s (stops {X = X} {Z = String Global} view bytes m next fault h) told kept

pub answered_next : {X Y : Type 0} (view : X → Y) (m : Expected Y) (next : Y → Expected Text) (x : X) (status : ℕ) (s : Streams)
    → Meets view m (Ok x) → Answers (next (view x)) status s → Answers (m >>= next) status s
answered_next view unknown next x status s h k = inl tt
answered_next view (value y) next x status s h k = subst (λ z. Answers (next z) status s) h k
answered_next view (refusal r) next x status s h k = absurd h

-- ---- the text of definitions

pub unread_answer : (wanted : Wanted) (t : Texts) (told : Option (List ℕ)) (status : ℕ) (s : Streams) → reads_types t ≡ false
    → Answers (named_answer wanted t) status s → Answers (example_answer wanted t told) status s
unread_answer wanted t told status s own h =
    subst (λ (b : Bool). Answers ((if b then (types_input (Some []) told >>= λ text. value (record t { types = Some text })) else value t) >>= named_answer wanted) status s) (sym own) h

pub read_answer : (wanted : Wanted) (t : Texts) (told : Option (List ℕ)) (text : String Global) (status : ℕ) (s : Streams) → reads_types t ≡ true
    → Meets bytes (types_input (Some []) told) (Ok text)
    → Answers (named_answer wanted (record t { types = Some (bytes text) })) status s → Answers (example_answer wanted t told) status s
read_answer wanted t told text status s own h k =
    subst (λ (b : Bool). Answers ((if b then (types_input (Some []) told >>= λ text. value (record t { types = Some text })) else value t) >>= named_answer wanted) status s) (sym own)
    (by (types_input (Some []) told) h)
  where
    by : (m : Expected Text) → Meets bytes m (Ok text) → Answers (m >>= (λ text. value (record t { types = Some text })) >>= named_answer wanted) status s
    by unknown h = inl tt
    by (value y) h = subst (λ (z : Text). Answers (named_answer wanted (record t { types = Some z })) status s) h k
    by (refusal r) h = absurd h

pub lost_answer : (wanted : Wanted) (t : Texts) (told : Option (List ℕ)) (fault : Fault) (status : ℕ) (s : Streams) → reads_types t ≡ true
    → Meets {X = String Global} bytes (types_input (Some []) told) (Err fault)
    → Reports fault status s.errors s.errors' → Keeps s.output s.output' → Answers (example_answer wanted t told) status s
lost_answer wanted t told fault status s own h tells kept =
    subst (λ (b : Bool). Answers ((if b then (types_input (Some []) told >>= λ text. value (record t { types = Some text })) else value t) >>= named_answer wanted) status s) (sym own)
    (by (types_input (Some []) told) h)
  where
    by : (m : Expected Text) → Meets {X = String Global} bytes m (Err fault)
        → Answers (m >>= (λ text. value (record t { types = Some text })) >>= named_answer wanted) status s
    by unknown h = inl tt
    by (value y) h =
        let m = named_answer wanted (record t { types = Some y }) in refused_end m fault status s (fails {X = String Global} bytes m fault h) tells kept
    by (refusal r) h = refused_end (refusal r) fault status s h tells kept

-- The words name no type.
pub lacking_end : (wanted : Wanted) (t : Texts) (told : Option (List ℕ)) (fault : Fault) (status : ℕ) (s : Streams) → reads_types t ≡ false → expected_type t ≡ stop fault
    → Reports fault status s.errors s.errors' → Keeps s.output s.output' → Answers (example_answer wanted t told) status s
lacking_end wanted t told fault status s own is tells kept =
    unread_answer wanted t told status s own
    (subst (λ (m : Expected AsnType). Answers (m >>= example_of wanted) status s) (sym is)
    (refused_end (stop fault) fault status s (λ small. refl) tells kept))

-- ---- words that are not taken

told_machine : (fault : Fault) (old new : Option (List ℕ)) → IsMachineLine (error_line fault) → Reports fault 3 old new
    → (line : Text) × IsMachineLine line × AppendsFront old new line
told_machine fault old new own (line, inl (same, is), front) = (line, moved line (error_line fault) is own, front)
told_machine fault old new own (line, inr (three, is), front) = (line, inr (inr is), front)

among_help : (kinds : Kinds) (kind : ErrorKind) → IsAmong kind kinds → (kind ≡ DisplayHelp) ⊎ (kind ≡ DisplayVersion)
    → IsAmong DisplayHelp kinds ⊎ IsAmong DisplayVersion kinds
among_help kinds kind among (inl is) = inl (subst (λ k. IsAmong k kinds) is among)
among_help kinds kind among (inr is) = inr (subst (λ k. IsAmong k kinds) is among)

module _ (words : List Text) (e : Error) (status : ℕ) (s : Streams) (memory : kind_of e ≡ OutOfMemory → status ≡ 3) where
  helped : HasKind (fault_of app words) e → (status ≡ 0 → (kind_of e ≡ DisplayHelp) ⊎ (kind_of e ≡ DisplayVersion)) → status ≡ 0 → AsksForHelp words
  helped (inl kind) shows none = absurd (let three = memory kind in omega (arith, three, none))
  helped (inr among) shows none = among_help (fault_of app words) (kind_of e) among (shows none)

  machine_told : Reports Memory 3 s.errors s.errors' ⊎ Reports Output 3 s.errors s.errors' → (line : Text) × IsMachineLine line × AppendsFront s.errors s.errors' line
  machine_told (inl h) = told_machine Memory s.errors s.errors' (inr (inr refl)) h
  machine_told (inr h) = told_machine Output s.errors s.errors' (inr (inl refl)) h

  pub not_taken : HasKind (fault_of app words) e → (takes app words ≡ true → kind_of e ≡ OutOfMemory) → (kind_of e ≡ OutOfMemory → Keeps s.output s.output')
      → (status ≡ 0 → (kind_of e ≡ DisplayHelp) ⊎ (kind_of e ≡ DisplayVersion)) → (status ≡ 0 → Keeps s.errors s.errors') → (1 ≤ status → status ≤ 2 → status ≡ 2)
      → (1 ≤ status → status ≤ 2 → Keeps s.output s.output') → (status ≡ 3 → Reports Memory 3 s.errors s.errors' ⊎ Reports Output 3 s.errors s.errors')
      → IsNotTaken words status s
  not_taken kind passes kept shows alone two quiet failed = record {
    refused = λ small taken. (let three = memory (passes taken) in omega (arith, small, three));
    help = λ none. (helped kind shows none, alone none);
    said = λ low high. (two low high, quiet low high);
    unwritten = λ taken. kept (passes taken);
    machine = λ three. machine_told (failed three);
  }

pub does : (words : List Text) (told : Option (List ℕ)) (status : ℕ) (s : Streams) (a : Asked) (o : Option Wanted) (wanted : Wanted) (t : Texts) → Asks words a → t ≡ texts_of a.options
    → o ≡ wanted_of a.parts a.seed → o ≡ Some wanted → Answers (example_answer wanted t told) status s → Does words told status s
does words told status s a o wanted t asks is found some h = record {
  asked = a;
  asks = asks;
  answers = subst (λ o. Answers (expected_wanted o >>= (λ w. example_answer w (texts_of a.options) told)) status s) (sym some ∙ found)
      (subst (λ u. Answers (example_answer wanted u told) status s) is h);
}

pub does_for : (T : AsnType) (words : List Text) (status : ℕ) (s : Streams) (a : Asked) (wanted : Wanted) → Asks words a → wanted_of a.parts a.seed ≡ Some wanted
    → Answers (example_of wanted T) status s → DoesFor T words status s
does_for T words status s a wanted asks want h = record {
  asked = a;
  asks = asks;
  answers = subst (λ o. Answers (expected_wanted o >>= (λ w. example_of w T)) status s) (sym want) h;
}

-- ---- all parts, and a value that is made up

pub both_refused : (words : List Text) (told : Option (List ℕ)) (status : ℕ) (s : Streams) (a : Asked) (o : Option Wanted) → Asks words a
    → o ≡ wanted_of a.parts a.seed → o ≡ None → status ≡ 2
    → Keeps s.output s.output' → AppendsFront s.errors s.errors' (refusal_line both_wanted.text) → Does words told status s
both_refused words told status s a o asks found none two kept front = record {
  asked = a;
  asks = asks;
  answers = subst (λ o. Answers (expected_wanted o >>= (λ w. example_answer w (texts_of a.options) told)) status s) (sym none ∙ found) (inl (two, kept, front));
}
