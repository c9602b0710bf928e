-- What is shown by definitions that are read from the input, and by those that aren't.
use Rattle.std.proofs.Common.{Result, ◌≡◌, ◌≢◌, ◌∙◌, ℕ, ◌-◌, ◌^◌, ◌≤◌, List, length, true, false, Bool, Option, Some, None, Ok, Err, String, Global, refl, sym, ap, subst, string_bytes}
use Rattle.std.specs.Prelude.{IfOk, IfSome, codes, if◌then◌else◌}
use Rattle.std.specs.Str.{IsUtf8, bytes_eq}
use Rattle.std.proofs.lemmas.Result.{IfOk-weaker}
use Rattle.clap.specs.Words.{Text}
use Rattle.oer_model.specs.AsnType.{AsnType}
use Rattle.oer_options.specs.Words.{Texts}
use Rattle.oer_cmd.specs.Answer.{digits_octets, expected_type, limited_octets, types_input}
use Rattle.oer_cmd.specs.Expected.{Expected, Meets, refusal, unknown, value, ◌>>=◌}
use Rattle.oer_cmd.specs.Types.{SpelledBy, reads_types}
use Rattle.oer_cmd.specs.declared.fault.Fault.{Fault}
use Rattle.oer_cmd.proofs.Choices.{failing, passing}
use Rattle.oer_cmd.proofs.Meeting as meeting
use Rattle.oer_cmd.proofs.Meeting.{bytes}
use Rattle.oer_cmd.proofs.TypesInput.{was_read}
use Rattle.oer_dump_cmd.specs.Showing.{AreOne, AreOneFor, AreOneWith, Rejection, by_texts}
use Rattle.oer_dump_cmd.proofs.Shown.{Tolerates, goes, of_octets, stops}

-- the definitions of this text, and this Name
abbrev among : Text → Text → Texts
among types name = record { one = None; types = Some types; name = Some name }

-- ---- texts that are not read

pub own_shown : {Z : Type 0} (R : Expected Z → Result Rejection Fault → Type 0) → (next : AsnType → Expected Z) (t : Texts) (hex : Option Text) (told : Option (List ℕ))
    (result : Result Rejection Fault)
    → reads_types t ≡ false → R (expected_type t >>= next) result → R (by_texts next t hex told) result
own_shown R next t hex told result own h =
    subst (λ (b : Bool). R ((if b then (types_input hex told >>= λ text. value (record t { types = Some text })) else value t)
    >>= λ texts. expected_type texts >>= next) result) (sym own) h

pub own_one : (t : Texts) (hex : Option Text) (limit : ℕ) (told : Option (List ℕ)) (result : Result Rejection Fault) → reads_types t ≡ false
    → IfOk result (λ rejection. rejection ≡ None → AreOneFor t hex limit told) → IfOk result (λ rejection. rejection ≡ None → AreOneWith t hex limit told)
own_one t hex limit told result own h = IfOk-weaker result _ _ (λ rejection k none. let a = k none in (
  a.0,
  failing (reads_types t) ((hex ≢ None) × IfSome told (λ b. (length b ≤ 2 ^ 64 - 1) × IsUtf8 b × SpelledBy (record t { types = Some b }) a.0)) (SpelledBy t a.0) own a.1,
  a.2,
)) h

-- ---- texts that are read

-- Octets that are given don't depend on what the input has.
kept : {Z : Type 0} (next : AsnType → List ℕ → Expected Z) (hex : Option Text) (limit : ℕ) (told mid : Option (List ℕ)) (T : AsnType) → hex ≢ None
    → of_octets next hex limit mid T ≡ of_octets next hex limit told T
kept next None limit told mid T some = absurd (some refl)
kept {Z} next (Some digits) limit told mid T some = by (digits_octets digits) where
  by : (m : Expected (List ℕ)) → (m >>= (λ b. value (Some b)) >>= (λ spelt. limited_octets limit spelt mid >>= next T))
      ≡ (m >>= (λ b. value (Some b)) >>= (λ spelt. limited_octets limit spelt told >>= next T))
  by unknown = refl
  by (refusal r) = refl
  by (value b) = refl

kept_type : {Z : Type 0} (next : AsnType → List ℕ → Expected Z) (hex : Option Text) (limit : ℕ) (told mid : Option (List ℕ)) (m : Expected AsnType) → hex ≢ None
    → (m >>= of_octets next hex limit mid) ≡ (m >>= of_octets next hex limit told)
kept_type next hex limit told mid unknown some = refl
kept_type next hex limit told mid (refusal r) some = refl
kept_type next hex limit told mid (value T) some = kept next hex limit told mid T some

pub read_shown : {Z : Type 0} (R : Expected Z → Result Rejection Fault → Type 0) → Tolerates R → (next : AsnType → List ℕ → Expected Z)
    (types name body : Text) (text : String Global) (hex : Option Text) (limit : ℕ) (told mid : Option (List ℕ)) (result : Result Rejection Fault)
    → bytes_eq types (codes "-") ≡ true → body ≡ string_bytes text → Meets bytes (types_input hex told) (Ok text)
    → R (expected_type (among body name) >>= of_octets next hex limit mid) result
    → R (by_texts (of_octets next hex limit told) (among types name) hex told) result
read_shown R w next types name body text hex limit told mid result mark same read h =
    let some = (was_read hex told text read).0 in
    let moved = ap (λ (l : List ℕ). expected_type (among l name) >>= of_octets next hex limit mid) same
    ∙ kept_type next hex limit told mid (expected_type (among (string_bytes text) name)) some in
    subst (λ (b : Bool). R ((if b then (types_input hex told >>= λ text. value (among text name)) else value (among types name))
    >>= λ texts. expected_type texts >>= of_octets next hex limit told) result) (sym mark)
    (goes R w (λ (s : String Global). among (string_bytes s) name) (types_input hex told >>= λ text. value (among text name))
    (λ texts. expected_type texts >>= of_octets next hex limit told) text result
    (meeting.goes bytes (λ (s : String Global). among (string_bytes s) name) (types_input hex told) (λ text. value (among text name)) text (Ok text) read refl)
    (subst (λ m. R m result) moved h))

pub lost_shown : {Z : Type 0} (R : Expected Z → Result Rejection Fault → Type 0) → Tolerates R → (next : AsnType → Expected Z)
    (types name : Text) (hex : Option Text) (told : Option (List ℕ)) (fault : Fault)
    → bytes_eq types (codes "-") ≡ true → Meets {X = String Global} bytes (types_input hex told) (Err fault)
    → R (by_texts next (among types name) hex told) (Err fault)
lost_shown R w next types name hex told fault mark lost =
    subst (λ (b : Bool). R ((if b then (types_input hex told >>= λ text. value (among text name)) else value (among types name))
    >>= λ texts. expected_type texts >>= next) (Err fault)) (sym mark)
    (stops {X = String Global} R w (λ (s : String Global). among (string_bytes s) name) (types_input hex told >>= λ text. value (among text name))
    (λ texts. expected_type texts >>= next) fault
    (meeting.stops {X = String Global} {Z = String Global} bytes (λ (s : String Global). among (string_bytes s) name) (types_input hex told) (λ text. value
    (among text name)) fault lost))

same_octets : (T : AsnType) (hex : Option Text) (limit : ℕ) (told mid : Option (List ℕ)) → hex ≢ None → AreOne T hex limit mid → AreOne T hex limit told
same_octets T None limit told mid some h = absurd (some refl)
same_octets T (Some digits) limit told mid some h = h

pub read_one : (types name body : Text) (text : String Global) (hex : Option Text) (limit : ℕ) (told mid : Option (List ℕ)) (result : Result Rejection Fault)
    → bytes_eq types (codes "-") ≡ true → body ≡ string_bytes text → Meets bytes (types_input hex told) (Ok text)
    → IfOk result (λ rejection. rejection ≡ None → AreOneFor (among body name) hex limit mid)
    → IfOk result (λ rejection. rejection ≡ None → AreOneWith (among types name) hex limit told)
read_one types name body text hex limit told mid result mark same read h = IfOk-weaker result _ _ (λ rejection k none.
    let a = k none in
    let was = was_read hex told text read in (
      a.0,
      passing (bytes_eq types (codes "-")) ((hex ≢ None) × IfSome told (λ b. (length b ≤ 2 ^ 64 - 1) × IsUtf8 b × SpelledBy (among b name) a.0))
          (SpelledBy (among types name) a.0) mark (was.0, spelled a.0 told was.1 a.1),
      same_octets a.0 hex limit told mid was.0 a.2,
    )) h where
      spelled : (T : AsnType) (told : Option (List ℕ)) → IfSome told (λ b. (length b ≤ 2 ^ 64 - 1) × IsUtf8 b × (string_bytes text ≡ b)) → SpelledBy (among body name) T
          → IfSome told (λ b. (length b ≤ 2 ^ 64 - 1) × IsUtf8 b × SpelledBy (among b name) T)
      spelled T None was h = tt
      spelled T (Some b) was h = (was.0, was.1, subst (λ (l : List ℕ). SpelledBy (among l name) T) (same ∙ was.2) h)

-- ---- the same texts

pub same_shown : {Z : Type 0} (R : Expected Z → Result Rejection Fault → Type 0) → (next : AsnType → Expected Z) (texts same : Texts) (hex : Option Text) (told : Option
    (List ℕ)) (result : Result Rejection Fault)
    → same ≡ texts → R (by_texts next same hex told) result → R (by_texts next texts hex told) result
same_shown R next texts same hex told result is h = subst (λ t. R (by_texts next t hex told) result) is h

pub same_one : (texts same : Texts) (hex : Option Text) (limit : ℕ) (told : Option (List ℕ)) (result : Result Rejection Fault) → same ≡ texts
    → IfOk result (λ rejection. rejection ≡ None → AreOneWith same hex limit told) → IfOk result (λ rejection. rejection ≡ None → AreOneWith texts hex limit told)
same_one texts same hex limit told result is h = subst (λ t. IfOk result (λ rejection. rejection ≡ None → AreOneWith t hex limit told)) is h
