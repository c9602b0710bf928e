-- The text of definitions that is read from the input, and what is made of it.
use Rattle.std.proofs.Common.{Result, ◌≡◌, ◌≢◌, ◌∙◌, ℕ, ◌≤◌, List, [], ◌∷◌, length, true, false, Bool, Option, Some, None, Ok, Err, String, Global, refl, sym, ap, subst, string_bytes, true≢false}
use Rattle.std.proofs.lemmas.Bool.{le-leb, leb-true}
use Rattle.std.proofs.lemmas.Str.{IsUtf8-string_bytes, is_utf8-from_IsUtf8, IsUtf8-from_is_utf8}
use Rattle.std.specs.Prelude.{IfSome, leb, codes, if◌then◌else◌}
use Rattle.std.specs.Str.{IsUtf8, bytes_eq, chars, is_utf8}
use Rattle.std.specs.Str.Lossy.{utf8_valid_len}
use Rattle.clap.specs.Words.{Text}
use Rattle.oer_checker.specs.Check.{most}
use Rattle.oer_model.specs.AsnType.{AsnType}
use Rattle.oer_model.specs.Parts.{Step}
use Rattle.oer_value_notation.specs.declared.fault.TextWhy.TheVariants.{Token}
use Rattle.oer_options.specs.Words.{Kind, Texts, kind, path_text, show, source_text}
use Rattle.oer_options.specs.declared.options.Task.{Task}
use Rattle.oer_options.specs.declared.options.Task.TheVariants.{Canon, Check, Make, Part, Show}
use Rattle.oer_cmd.specs.Answer.{answer_of, digits_octets, expected_type, given_answer, limited_octets, part_octets, task_answer, types_input, types_text}
use Rattle.oer_cmd.specs.Expected.{Expected, Meets, refusal, stop, unknown, value, ◌>>=◌}
use Rattle.oer_cmd.specs.Run.{IsLineBy, IsLineFor, IsLineGiven}
use Rattle.oer_cmd.specs.Taking.{GivesAll, GivesTypes}
use Rattle.oer_cmd.specs.Types.{SpelledBy}
use Rattle.oer_cmd.specs.declared.fault.Fault.{Fault}
use Rattle.oer_cmd.specs.declared.fault.Fault.TheVariants.{Longer, «Type»}
use Rattle.oer_cmd.proofs.Choices.{passing}
use Rattle.oer_cmd.proofs.Exact.{not_text}
use Rattle.oer_cmd.proofs.Meeting.{assoc, bytes, goes, stops}

-- ---- the text

-- It is UTF-8.
pub text_made : (octets : List ℕ) (text : String Global) → string_bytes text ≡ octets → types_text octets ≡ value (string_bytes text)
text_made octets text same = subst (λ (l : List ℕ). types_text l ≡ value (string_bytes text)) same
    (ap (λ (b : Bool). if b then value (string_bytes text) else stop («Type» (record { at = utf8_valid_len (string_bytes text); why = Token })))
    (is_utf8-from_IsUtf8 (string_bytes text) (IsUtf8-string_bytes text)))

-- It is not.
pub text_refused : (octets : List ℕ) (n : ℕ) → n ≡ utf8_valid_len octets → (IsUtf8 octets → ⊥)
    → types_text octets ≡ stop («Type» (record { at = n; why = Token }))
text_refused octets n place none =
    ap (λ (b : Bool). if b then value octets else stop («Type» (record { at = utf8_valid_len octets; why = Token })))
    (not_text octets none)
    ∙ ap (λ (k : ℕ). stop («Type» (record { at = k; why = Token }))) (sym place)

-- ---- the input

-- A text was read: there are octets or JSON, and it is what the input had left.
pub was_read : (source : Option Text) (told : Option (List ℕ)) (text : String Global) → Meets bytes (types_input source told) (Ok text)
    → (source ≢ None) × IfSome told (λ b. (length b ≤ most) × IsUtf8 b × (string_bytes text ≡ b))
was_read None told text h = absurd h
was_read (Some t) None text h = (λ none. let no : Some t ≡ None = none in cc, tt)
was_read (Some t) (Some b) text h = (λ none. let no : Some t ≡ None = none in cc, by (leb (length b) most) refl h) where
  all : (utf8 : Bool) → length b ≤ most → is_utf8 b ≡ utf8
      → Meets bytes (if utf8 then value b else stop («Type» (record { at = utf8_valid_len b; why = Token }))) (Ok text)
      → (length b ≤ most) × IsUtf8 b × (string_bytes text ≡ b)
  all true few is h = (few, IsUtf8-from_is_utf8 b is, h)
  all false few is h = absurd h

  by : (few : Bool) → leb (length b) most ≡ few → Meets bytes ((if few then value b else stop (Longer most)) >>= types_text) (Ok text)
      → (length b ≤ most) × IsUtf8 b × (string_bytes text ≡ b)
  by true few h = all (is_utf8 b) (leb-true (length b) most few) refl h
  by false few h = absurd h

-- A text that is there is read.
pub input_there : (source : Text) (b : List ℕ) → length b ≤ most → IsUtf8 b → types_input (Some source) (Some b) ≡ value b
input_there source b few utf8 =
    ap (λ (c : Bool). (if c then value b else stop (Longer most)) >>= types_text) (le-leb (length b) most few)
    ∙ ap (λ (c : Bool). if c then value b else stop («Type» (record { at = utf8_valid_len b; why = Token }))) (is_utf8-from_IsUtf8 b utf8)

-- This octet is in no text.
lone : is_utf8 (255 ∷ []) ≡ false
unfolding is_utf8 chars
lone = refl

pub no_octet : IsUtf8 (255 ∷ []) → ⊥
no_octet utf8 = true≢false (sym (is_utf8-from_IsUtf8 (255 ∷ []) utf8) ∙ lone)

-- ---- a task whose octets or JSON are given

pub line_by : (k : Kind) (source path : Option Text) (told told' : Option (List ℕ)) (T : AsnType) (limit : ℕ) (line : Text) → source ≢ None
    → IsLineBy k source path told T limit line → IsLineBy k source path told' T limit line
line_by k None path told told' T limit line some h = absurd (some refl)
line_by (show style) (Some t) path told told' T limit line some h = h
line_by _ (Some t) path told told' T limit line some h = h

in_hand : {A : Type 0} (m : Expected (List ℕ)) (f g : Option (List ℕ) → Expected A) → ((b : List ℕ) → f (Some b) ≡ g (Some b))
    → (m >>= (λ b. value (Some b)) >>= f) ≡ (m >>= (λ b. value (Some b)) >>= g)
in_hand unknown f g h = refl
in_hand (refusal r) f g h = refl
in_hand (value b) f g h = h b

pub task_kept : (task : Task) (T : AsnType) (limit : ℕ) (path : Expected (List Step)) (told told' : Option (List ℕ))
    → source_text task ≢ None
    → task_answer task T limit path told ≡ task_answer task T limit path told'
task_kept (Show (Some h) style) T limit path told told' some = refl
task_kept (Canon (Some h)) T limit path told told' some = refl
task_kept (Check (Some h)) T limit path told told' some = refl
task_kept (Make (Some h)) T limit path told told' some = refl
task_kept (Part (Some h) text) T limit path told told' some = in_hand (digits_octets h.now)
    (λ spelt. path >>= λ steps. limited_octets limit spelt told >>= part_octets T steps)
    (λ spelt. path >>= λ steps. limited_octets limit spelt told' >>= part_octets T steps) (λ b. refl)
task_kept _ T limit path told told' some = absurd (some refl)

after : {A B : Type 0} (m : Expected A) (f g : A → Expected B) → ((x : A) → f x ≡ g x) → (m >>= f) ≡ (m >>= g)
after unknown f g h = refl
after (refusal r) f g h = refl
after (value x) f g h = h x

pub answer_kept : (t : Texts) (task : Task) (limit : ℕ) (path : Expected (List Step)) (told told' : Option (List ℕ))
    → source_text task ≢ None
    → answer_of t task limit path told ≡ answer_of t task limit path told'
answer_kept t task limit path told told' some = after (expected_type t) (λ T. task_answer task T limit path told)
    (λ T. task_answer task T limit path told') (λ T. task_kept task T limit path told told' some)

-- ---- the line by definitions that are read

abbrev among : Text → Text → Texts
among types name = record { one = None; types = Some types; name = Some name }

pub read_line : (types name body : Text) (text : String Global) (task : Task) (limit : ℕ) (told mid : Option (List ℕ)) (line : Text)
    → bytes_eq types (codes "-") ≡ true → body ≡ string_bytes text → Meets bytes (types_input (source_text task) told) (Ok text)
    → IsLineFor (SpelledBy (among body name)) task limit mid line → IsLineGiven (among types name) task limit told line
read_line types name body text task limit told mid line mark same read h =
    let was = was_read (source_text task) told text read in
    record {
      type = h.type;
      spelled = passing (bytes_eq types (codes "-"))
          ((source_text task ≢ None) × IfSome told (λ b. (length b ≤ most) × IsUtf8 b × SpelledBy (among b name) h.type))
          (SpelledBy (among types name) h.type) mark (was.0, by told was.1);
      line_is = line_by (kind task) (source_text task) (path_text task) mid told h.type limit line was.0 h.line_is;
    } where
      by : (told : Option (List ℕ)) → IfSome told (λ b. (length b ≤ most) × IsUtf8 b × (string_bytes text ≡ b))
          → IfSome told (λ b. (length b ≤ most) × IsUtf8 b × SpelledBy (among b name) h.type)
      by None was = tt
      by (Some b) was = (was.0, was.1, subst (λ (l : List ℕ). SpelledBy (among l name) h.type) (same ∙ was.2) h.spelled)

-- ---- the answer by definitions that are read

module _ (types name : Text) (task : Task) (limit : ℕ) (path : Expected (List Step)) (told : Option (List ℕ)) (mark : bytes_eq types (codes "-") ≡ true) where
  abbrev by_body : Text → Expected Text
  by_body body = answer_of (among body name) task limit path told

  given_read : given_answer (among types name) task limit path told ≡ (types_input (source_text task) told >>= by_body)
  given_read = ap (λ (b : Bool). (if b then (types_input (source_text task) told >>= λ text. value (among text name)) else value (among types name))
      >>= λ texts. answer_of texts task limit path told) mark
      ∙ assoc (types_input (source_text task) told) (λ text. value (among text name)) (λ texts. answer_of texts task limit path told)

  pub read_answer : (body : Text) (text : String Global) (mid : Option (List ℕ)) (result : Result (String Global) Fault) → body ≡ string_bytes text
      → Meets bytes (types_input (source_text task) told) (Ok text) → Meets bytes (answer_of (among body name) task limit path mid) result
      → Meets bytes (given_answer (among types name) task limit path told) result
  read_answer body text mid result same read made =
      let moved = ap (λ (l : List ℕ). answer_of (among l name) task limit path mid) same
      ∙ answer_kept (among (string_bytes text) name) task limit path mid told (was_read (source_text task) told text read).0 in
      subst (λ m. Meets bytes m result) (sym given_read)
      (goes bytes bytes (types_input (source_text task) told) by_body text result read (subst (λ m. Meets bytes m result) moved made))

  pub lost_answer : (fault : Fault) → Meets {X = String Global} bytes (types_input (source_text task) told) (Err fault)
      → Meets {X = String Global} bytes (given_answer (among types name) task limit path told) (Err fault)
  lost_answer fault lost = subst (λ m. Meets {X = String Global} bytes m (Err fault)) (sym given_read)
      (stops {X = String Global} {Z = String Global} bytes bytes (types_input (source_text task) told) by_body fault lost)

-- ---- what is taken

pub types_given : (source : Option Text) (untouched : Type 0) (status : ℕ) (told told' : Option (List ℕ)) → (source ≡ None → untouched)
    → (source ≢ None → GivesAll most status told told') → GivesTypes source untouched status told told'
types_given None untouched status told told' same gives = same refl
types_given (Some t) untouched status told told' same gives = gives (λ none. let no : Some t ≡ None = none in cc)
