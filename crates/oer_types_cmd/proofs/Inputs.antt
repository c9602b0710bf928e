-- The text on standard input, and how much of it is taken.
use Rattle.std.proofs.Common.{◌≡◌, ◌≢◌, ◌∙◌, ℕ, ◌+◌, ◌≤◌, List, [], ◌∷◌, ◌++◌, length, Bool, true, false, Option, Some, None, Result, Ok, Err, String, Global, refl, sym, ap, subst, arith, string_bytes, length-append}
use Rattle.std.proofs.Math.Nat.{min-le_left}
use Rattle.std.proofs.lemmas.Str.{IsUtf8-string_bytes, is_utf8-from_IsUtf8}
use Rattle.std.specs.Prelude.{IfSome, ◌||◌, if◌then◌else◌}
use Rattle.std.specs.Str.{IsUtf8}
use Rattle.oer_checker.specs.Check.{most}
use Rattle.oer_cmd.specs.Answer.{input_octets, types_input}
use Rattle.oer_cmd.specs.Expected as expected
use Rattle.oer_cmd.specs.Expected.{Expected, value, ◌>>=◌}
use Rattle.oer_cmd.specs.Taking.{GivesAll, IsGathered}
use Rattle.oer_cmd.proofs.Meeting.{bytes}
use Rattle.oer_cmd.proofs.TypesInput.{was_read}
use Rattle.oer_module_cmd.specs.Errors.{Read, error_of, status_of as error_status}
use Rattle.oer_module_cmd.specs.Input as input
use Rattle.oer_module_cmd.specs.Input.{MayBeLeft, input_for, reads_input, text_in}
use Rattle.oer_module_cmd.specs.declared.error.Error.{Error as RawError}
use Rattle.oer_module_options.specs.Asked.{is_input}
use Rattle.oer_module_options.specs.Words.{Text}
use Rattle.oer_types_cmd.specs.Answer.{Meets, from_modules, given_modules, given_types}
use Rattle.oer_types_cmd.specs.Ending.{GivesText, IsGiven}
use Rattle.oer_types_cmd.specs.declared.stop.Stop.{Stop}
use Rattle.oer_types_cmd.specs.declared.stop.Stop.TheVariants as raw
use Rattle.oer_types_cmd.proofs.Meeting.{modules_met, modules_stopped, two_of}

-- ---- one text of definitions

pub reads_hyphen : (source : Text) → is_input source ≡ true → reads_input (source ∷ []) ≡ true
reads_hyphen source mark = ap (λ (b : Bool). b || false) mark

pub reads_none : (source : Text) → is_input source ≡ false → reads_input (source ∷ []) ≡ false
reads_none source mark = ap (λ (b : Bool). b || false) mark

abbrev given_if : Bool → Expected Text → Expected Text
given_if b m = if b then m else value []

-- It is not that on standard input,
pub unasked_types : (types : Text) (told : Option (List ℕ)) (s : String Global) → is_input types ≡ false → string_bytes s ≡ []
    → Meets bytes (given_types types told) (Ok s)
unasked_types types told s mark empty =
    subst (λ (b : Bool). Meets bytes (given_if b (types_input (Some types) told)) (Ok s)) (sym mark) empty

-- or it is.
pub asked_types : (types : Text) (told : Option (List ℕ)) (r : Result (String Global) Stop) → is_input types ≡ true
    → Meets bytes (types_input (Some types) told) r → Meets bytes (given_types types told) r
asked_types types told r mark h =
    subst (λ (b : Bool). Meets bytes (given_if b (types_input (Some types) told)) r) (sym mark) h

abbrev read_if : Bool → List ℕ → Read Text
read_if b xs = if b then text_in xs else Ok []

abbrev okay : Text → Read Text
okay t = Ok t

pub none_read : (source : Text) (told : Option (List ℕ)) (s : String Global) → is_input source ≡ false → string_bytes s ≡ []
    → IsGiven told (source ∷ []) (string_bytes s)
none_read source told s mark empty = by told where
  is : (xs : List ℕ) → input_for (source ∷ []) xs ≡ Ok (string_bytes s)
  is xs = ap (λ (b : Bool). read_if (b || false) xs) mark ∙ ap okay (sym empty)

  by : (told : Option (List ℕ)) → IsGiven told (source ∷ []) (string_bytes s)
  by None = ([], tt, is [])
  by (Some xs) = (xs, refl, is xs)

own_text : (t : String Global) → text_in (string_bytes t) ≡ Ok (string_bytes t)
own_text t = rw (is_utf8-from_IsUtf8 (string_bytes t) (IsUtf8-string_bytes t)) refl

was_left : (told : Option (List ℕ)) (t : Text) → IfSome told (λ b. (length b ≤ most) × IsUtf8 b × (t ≡ b)) → MayBeLeft told t
was_left None t h = tt
was_left (Some b) t h = sym h.2

-- What was read is what it had left.
pub was_given : (told : Option (List ℕ)) (source : Text) (t : String Global) → is_input source ≡ true
    → expected.Meets bytes (types_input (Some source) told) (Ok t) → IsGiven told (source ∷ []) (string_bytes t)
was_given told source t mark h = (
  string_bytes t,
  was_left told (string_bytes t) (was_read (Some source) told t h).1,
  ap (λ (b : Bool). read_if (b || false) (string_bytes t)) mark ∙ own_text t,
)

pub some_text : (t : Text) → Some t ≢ None
some_text t none = let no : Some t ≡ None = none in cc

-- ---- texts of modules

pub modules_given : (ts : List Text) (told : Option (List ℕ)) (xs : List ℕ) (s : String Global) → MayBeLeft told xs
    → input_for ts xs ≡ Ok (string_bytes s) → Meets bytes (given_modules ts told) (Ok s)
modules_given ts told xs s left is = by (reads_input ts) told left is where
  by : (b : Bool) (told : Option (List ℕ)) → MayBeLeft told xs → read_if b xs ≡ Ok (string_bytes s)
      → Meets bytes (given_if b (input_octets told >>= λ ys. from_modules (text_in ys))) (Ok s)
  by false told left is = let same : okay [] ≡ okay (string_bytes s) = is in cc
  by true None left is = tt
  by true (Some ys) left is = modules_met bytes (text_in ys) s (ap text_in left ∙ is)

pub modules_ungiven : (ts : List Text) (told : Option (List ℕ)) (xs : List ℕ) (e : RawError) → MayBeLeft told xs
    → (error_status (error_of e) ≡ 2 → input_for ts xs ≡ Err (error_of e))
    → Meets {X = String Global} bytes (given_modules ts told) (Err (raw.Modules e))
modules_ungiven ts told xs e left is = by (reads_input ts) told left is where
  by : (b : Bool) (told : Option (List ℕ)) → MayBeLeft told xs → (error_status (error_of e) ≡ 2 → read_if b xs ≡ Err (error_of e))
      → Meets {X = String Global} bytes (given_if b (input_octets told >>= λ ys. from_modules (text_in ys)))
      (Err (raw.Modules e))
  by false told left is = λ small. let no : okay [] ≡ Err (error_of e) = is (two_of (error_of e) small) in cc
  by true None left is = tt
  by true (Some ys) left is = modules_stopped bytes (text_in ys) e (λ two. ap text_in left ∙ is two)

-- ---- what is taken

pub types_taken : (status : ℕ) (told told' : Option (List ℕ)) → GivesAll most status told told' → GivesText status told told'
types_taken status None told' h = tt
types_taken status (Some b) None h = h
types_taken status (Some b) (Some rest) (t, is, (few, exact)) = (t, is, exact)

all_taken : (b bs rest : List ℕ) → b ≡ bs ++ rest → rest ≡ [] → IsGathered most b (length bs)
all_taken b bs rest is none =
    let m = min-le_left (length b) (most + 1) in
    let size = ap length is ∙ length-append bs rest in
    omega (arith, m, size, ap length none)

pub modules_taken : (status : ℕ) (told told' : Option (List ℕ)) → input.GivesAll status told told' → GivesText status told told'
modules_taken status None told' h = tt
modules_taken status (Some b) None h = h.0.1
modules_taken status (Some b) (Some rest) h = (h.0.0, h.0.1, λ small. all_taken b h.0.0 rest h.0.1 (h.1 small))

-- what is left unsaid at a later status
pub text_later : (status status' : ℕ) (told told' : Option (List ℕ)) → (status' ≤ 2 → status ≤ 2) → GivesText status told told'
    → GivesText status' told told'
text_later status status' None told' less h = tt
text_later status status' (Some b) None less h = h
text_later status status' (Some b) (Some rest) less (t, is, exact) = (t, is, λ small. exact (less small))

-- nothing, where the machine failed
pub none_taken : (status : ℕ) (told : Option (List ℕ)) → (status ≤ 2 → ⊥) → GivesText status told told
none_taken status None high = tt
none_taken status (Some b) high = ([], refl, λ small. absurd (high small))
