-- From what `clap` says of its matches to what the words ask for.
use Rattle.std.proofs.Common.{◌≡◌, ◌≢◌, ◌∙◌, ℕ, List, Bool, Option, Some, None, false, true, sym, ap, refl, true≢false, IfSome, Ok, Err, Result, ◌<◌, ◌≤◌, ◌^◌, codes, inl, inr, arith}
use Rattle.std.proofs.lemmas.Bool.{cases_lt}
use Rattle.std.specs.Prelude.{is_some, unwrap_or}
use Rattle.std.specs.Str.Parse.{IsNumeral, ParsesUnsigned, digits_value, without_leading_plus}
use Rattle.clap.specs.Words.{ReadsOne, Text, first_of, first_value, found_of, is_simple, is_simple_and_free, matches_of, one_of, one_text, rows_of}
use Rattle.clap.specs.declared.parser.matches.ArgMatches.{ArgMatches}
use Rattle.clap.proofs.WalkLemmas.{first_value-rows, one_text-rows}
use Rattle.oer_options.specs.Words.{NumberOf}
use Rattle.oer_dump_cmd.specs.Words.{IsWidth, given, given_number, oer_dump}

pub simple : is_simple oer_dump ≡ true
simple = refl

pub simple_and_free : is_simple_and_free oer_dump ≡ true
simple_and_free = refl

pub given_is : (words : List Text) (id : Text) (m : ArgMatches) (o : Option Text) → rows_of (found_of m) ≡ matches_of oer_dump words → o ≡ first_value (found_of m) id → given words id ≡ o
given_is words id m o e is = ap (first_of id) (sym e) ∙ sym (first_value-rows (found_of m) id) ∙ sym is

pub number_is : (words : List Text) (id : Text) (m : ArgMatches) → rows_of (found_of m) ≡ matches_of oer_dump words → given_number words id ≡ one_text (found_of m) id
number_is words id m e = ap (one_of id) (sym e) ∙ sym (one_text-rows (found_of m) id)

pub number_given : {E : Type 0} (words : List Text) (id : Text) (f : Option Text) (r : Option ℕ) (gives : List ℕ → Result ℕ E → Type 0)
    → ((t : Text) (n : ℕ) → gives t (Ok n) → (IsNumeral 10 (without_leading_plus t) × (digits_value 10 (without_leading_plus t) < 2 ^ 64)) × (n ≡ digits_value 10 (without_leading_plus t)))
    → given_number words id ≡ f → (f ≡ None → r ≡ None) → ((t : Text) → f ≡ Some t → ReadsOne gives t r)
    → IfSome r (λ n. (text : Text) × (given_number words id ≡ Some text) × NumberOf text n)
number_given words id f None gives means e none some = tt
number_given words id None (Some n) gives means e none some = absurd (true≢false (ap (λ x. is_some x) (none refl)))
number_given words id (Some t) (Some n) gives means e none some =
    let reads = means t n (some t refl) in
    (t, e, record { digits = reads.0.0; value = reads.1 })

-- the form
pub array_given : (f g : Option Text) (flag : Bool) → f ≡ g → (g ≡ None → flag ≡ false) → (g ≡ Some (codes "false") → flag ≡ false) → flag ≡ true → (f ≢ None) × (f ≢ Some (codes "false"))
array_given f g flag e none other is = (
  λ x. true≢false (sym is ∙ none (sym e ∙ x)),
  λ x. true≢false (sym is ∙ other (sym e ∙ x)),
)

-- How wide lines are, as it was read. f: the text of `--width`
pub width_read : {E : Type 0} (usual : ℕ) (f : Option Text) (r : Option ℕ) (gives : List ℕ → Result ℕ E → Type 0)
    → ((t : Text) (x : Result ℕ E) → gives t x → ParsesUnsigned 64 10 t x)
    → (f ≡ None → r ≡ None) → ((t : Text) → f ≡ Some t → ReadsOne gives t r) → IsWidth usual f (unwrap_or r usual)
width_read usual None None gives means none some = refl
width_read usual None (Some n) gives means none some = absurd (true≢false (ap (λ x. is_some x) (none refl)))
width_read usual (Some t) (Some n) gives means none some =
    let reads = means t (Ok n) (some t refl) in
    inl (record { digits = reads.0.0; value = reads.1 }, omega (arith, reads.0.1, reads.1))
width_read usual (Some t) None gives means none some = inr (refl, wide)
  where
    wide : (m : ℕ) → NumberOf t m → 2 ^ 64 ≤ m
    wide m is =
        let error = some t refl in
        elim (cases_lt m (2 ^ 64)) [
          | inl small ↦ absurd (means t (Err error.0) error.1 (is.digits, omega (arith, small, is.value)))
          | inr large ↦ large
        ]

pub lines_given : (f g : Option Text) (flag : Bool) → f ≡ g → (g ≡ Some (codes "true") → flag ≡ true) → flag ≡ false → f ≢ Some (codes "true")
lines_given f g flag e some is = λ x. true≢false (sym (some (sym e ∙ x)) ∙ is)
