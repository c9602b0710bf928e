-- The answer to the digits of a line.
use Rattle.std.proofs.Common.{Vec, option_map, Result, ◌≡◌, ◌∙◌, ℕ, zero, suc, ◌-◌, ◌<◌, Bool, true, false}
use Rattle.std.proofs.Common.{Option, None, Some, Ok, Err, List, [], ◌∷◌, cond, refl, sym, ap, subst, arith, String, Global}
use Rattle.std.specs.Prelude.{◌&&◌, is_some, nat_le}
use Rattle.std.proofs.lemmas.Bool.{leb-true}
use Rattle.std.specs.Str.{IsAscii, IsUtf8}
use Rattle.std.specs.List.{AllPass}
use Rattle.std.proofs.lemmas.Str.{IsUtf8-from_ascii}
use Rattle.std.proofs.lemmas.List.Elements.{All-head, All-tail}
use Rattle.hex.specs.Hex.{decode_of, is_hex_digit}
use Rattle.hex.specs.declared.error.FromHexError.{FromHexError}
use Rattle.hex.proofs.HexLemmas.{decode_of-ok}
use Rattle.oer_model.specs.AsnType.{AsnType}
use Rattle.oer_model.specs.Parts.{Step}
use Rattle.oer_cmd.specs.Answer.{IsPathOf, decoded_as, digits_octets, hex_octets}
use Rattle.oer_cmd.specs.Expected.{Expected, Meets, stop, value, ◌>>=◌}
use Rattle.oer_cmd.specs.declared.fault.Fault.{Fault}
use Rattle.oer_cmd.specs.declared.fault.Fault.TheVariants.{Hex}
use Rattle.oer_cmd.specs.Octets.{octets_of}
use Rattle.oer_cmd.proofs.Meeting.{bytes, fails}
use Rattle.oer_lines_cmd.specs.Answering.{IsKnown}
use Rattle.oer_lines_cmd.specs.Tasks.{answer_told, octets_told, path_of}
use Rattle.oer_lines_cmd.specs.declared.task.LineTask.{LineTask}
use Rattle.oer_lines_cmd.proofs.Knowing.{octets_known}

-- ---- digits are text

and_false : (a : Bool) → (a && false) ≡ false
and_false true = refl
and_false false = refl

digit_ascii : (x : ℕ) → is_hex_digit x ≡ true → x < 128
digit_ascii x h = at (nat_le x 70) (nat_le x 102) (nat_le x 57) refl refl refl h where
  at : (s t u : Bool) → nat_le x 70 ≡ s → nat_le x 102 ≡ t → nat_le x 57 ≡ u
      → is_some (cond (nat_le 65 x && s) (Some (x - 55)) (cond (nat_le 97 x && t) (Some (x - 87)) (cond (nat_le 48 x && u) (Some (x - 48)) None))) ≡ true → x < 128
  at true t u p q r k = let small = leb-true x 70 p in omega (arith, small)
  at false true u p q r k = let small = leb-true x 102 q in omega (arith, small)
  at false false true p q r k = let small = leb-true x 57 r in omega (arith, small)
  at false false false p q r k =
      let none : is_some (cond (nat_le 65 x && false) (Some (x - 55)) (cond (nat_le 97 x && false) (Some (x - 87)) (cond (nat_le 48 x && false) (Some (x - 48)) None))) ≡ false =
      ap (λ b. is_some (cond b (Some (x - 55)) (cond (nat_le 97 x && false) (Some (x - 87)) (cond (nat_le 48 x && false) (Some (x - 48)) None)))) (and_false (nat_le 65 x))
      ∙ ap (λ b. is_some (cond b (Some (x - 87)) (cond (nat_le 48 x && false) (Some (x - 48)) None))) (and_false (nat_le 97 x))
      ∙ ap (λ b. is_some (cond b (Some (x - 48)) None)) (and_false (nat_le 48 x)) in
      let differ : false ≡ true = sym none ∙ k in cc

ascii : (xs : List ℕ) → AllPass is_hex_digit xs → IsAscii xs
ascii [] h i = omega arith
ascii (x ∷ xs) h zero = digit_ascii x (All-head (λ y. is_hex_digit y ≡ true) x xs h)
ascii (x ∷ xs) h (suc i) = ascii xs (All-tail (λ y. is_hex_digit y ≡ true) x xs h) i

undecoded : (r : Result (List ℕ) FromHexError) → ((b : List ℕ) → r ≡ Ok b → ⊥) → decoded_as r ≡ stop Hex
undecoded (Ok b) none = absurd (none b refl)
undecoded (Err e) none = refl

no_digits : (xs : List ℕ) → (IsUtf8 xs → ⊥) → digits_octets xs ≡ stop Hex
no_digits xs none = undecoded (decode_of xs) (λ b is. none (IsUtf8-from_ascii xs (ascii xs (decode_of-ok xs b is).1)))

-- ---- the answer

-- A line that is no text has no digits.
pub no_text : (nests : Bool) (task : LineTask) (T : AsnType) (limit : ℕ) (path : Expected (List Step)) (xs : List ℕ) → (IsUtf8 xs → ⊥)
    → Meets {X = String Global} bytes (answer_told nests task T limit path xs) (Err Hex)
no_text nests task T limit path xs none = subst (λ o. Meets {X = String Global} bytes (o >>= octets_told nests task T limit path) (Err Hex))
    (sym (no_digits xs none)) (λ small. refl)

-- The answer to the message is known.
pub told_known : (nests : Bool) (task : LineTask) (T : AsnType) (limit : ℕ) (path : Expected (List Step)) (xs : List ℕ) → IsPathOf (path_of task) path
    → IsKnown (answer_told nests task T limit path xs)
told_known nests task T limit path xs of = by (decode_of xs) where
  by : (r : Result (List ℕ) FromHexError) → IsKnown (decoded_as r >>= octets_told nests task T limit path)
  by (Ok b) = octets_known nests task T limit path b of
  by (Err f) = tt

module _ (xs : List ℕ) (nests : Bool) (task : LineTask) (T : AsnType) (limit : ℕ) (path : Expected (List Step)) where
  -- The answer to the octets is that to the digits.
  pub by_octets : (octets : Vec ℕ Global) (b : List ℕ) (result : Result (String Global) Fault)
      → Meets (option_map octets_of) (hex_octets (Some xs)) (Ok (Some octets)) → b ≡ octets.items
      → Meets bytes (octets_told nests task T limit path b) result → Meets bytes (answer_told nests task T limit path xs) result
  by_octets octets b result h same meets = by (decode_of xs) h where
    by : (r : Result (List ℕ) FromHexError) → Meets (option_map octets_of) (decoded_as r >>= λ x. value (Some x)) (Ok (Some octets))
        → Meets bytes (decoded_as r >>= octets_told nests task T limit path) result
    by (Ok c) h =
        let e : Some octets.items ≡ Some c = h in
        let all : octets.items ≡ c = cc in subst (λ (l : List ℕ). Meets bytes (octets_told nests task T limit path l) result) (same ∙ all) meets
    by (Err f) h = absurd h

  -- So is the fault where they spell none.
  pub by_fault : (fault : Fault) → Meets {X = Option (Vec ℕ Global)} (option_map octets_of) (hex_octets (Some xs)) (Err fault)
      → Meets {X = String Global} bytes (answer_told nests task T limit path xs) (Err fault)
  by_fault fault h = by (decode_of xs) h where
    by : (r : Result (List ℕ) FromHexError) → Meets {X = Option (Vec ℕ Global)} (option_map octets_of) (decoded_as r >>= λ x. value (Some x)) (Err fault)
        → Meets {X = String Global} bytes (decoded_as r >>= octets_told nests task T limit path) (Err fault)
    by (Ok b) high = fails bytes (octets_told nests task T limit path b) fault high
    by (Err f) is = is

-- the answer to the same digits
pub same_digits : (nests : Bool) (task : LineTask) (T : AsnType) (limit : ℕ) (xs ys : List ℕ) (result : Result (String Global) Fault) → xs ≡ ys
    → ((path : Expected (List Step)) → IsPathOf (path_of task) path → Meets bytes (answer_told nests task T limit path xs) result)
    → (path : Expected (List Step)) → IsPathOf (path_of task) path → Meets bytes (answer_told nests task T limit path ys) result
same_digits nests task T limit xs ys result is h = subst
    (λ l. (path : Expected (List Step)) → IsPathOf (path_of task) path → Meets bytes (answer_told nests task T limit path l) result) is h
