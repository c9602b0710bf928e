-- The line in ASCII, which has nothing else.
use Rattle.std.proofs.Common.{◌≡◌, ◌<◌, ◌+◌, ◌/◌, ◌%◌, ℕ, Bool, true, false, List, [], ◌∷◌, ◌++◌, arith, refl, sym, subst, ap, ◌∙◌}
use Rattle.std.proofs.Math.Nat.{mod-lt}
use Rattle.std.proofs.lemmas.Bool.{ltb-true}
use Rattle.std.specs.Prelude.{cond, ltb, nat_lt, if◌then◌else◌}
use Rattle.std.specs.Char.Escape.{encode_utf16, hex_digit_at}
use Rattle.oer_units.proofs.ReadSteps.{All-append}
use Rattle.oer_cmd.specs.Ascii.{IsPlain, ascii_char, ascii_chars, unit_escape, unit_escapes}

digit_by : (b : Bool) (d : ℕ) → d < 16 → cond b (48 + d) (87 + d) < 127
digit_by true d few = omega (arith, few)
digit_by false d few = omega (arith, few)

digit : (p c : ℕ) → hex_digit_at p c < 127
digit p c = digit_by (nat_lt (c / p % 16) 10) (c / p % 16) (mod-lt (c / p) (omega arith))

unit_plain : (u : ℕ) → IsPlain (unit_escape u)
unit_plain u = (omega arith, (omega arith, (digit 4096 u, (digit 256 u, (digit 16 u, (digit 1 u, tt))))))

units_plain : (us : List ℕ) → IsPlain (unit_escapes us)
units_plain [] = tt
units_plain (u ∷ us) = All-append (λ b. b < 127) (unit_escape u) (unit_escapes us) (unit_plain u) (units_plain us)

char_by : (b : Bool) (c : ℕ) → ltb c 127 ≡ b → IsPlain (if b then c ∷ [] else unit_escapes (encode_utf16 c))
char_by true c is = (ltb-true c 127 is, tt)
char_by false c is = units_plain (encode_utf16 c)

chars_plain : (cs : List ℕ) → IsPlain (ascii_chars cs)
chars_plain [] = tt
chars_plain (c ∷ cs) = All-append (λ b. b < 127) (ascii_char c) (ascii_chars cs) (char_by (ltb c 127) c refl) (chars_plain cs)

pub plain : (none line text : List ℕ) → none ≡ [] → line ≡ none ++ ascii_chars text → IsPlain line
plain none line text empty is = subst IsPlain (sym (is ∙ ap (λ (l : List ℕ). l ++ ascii_chars text) empty)) (chars_plain text)
