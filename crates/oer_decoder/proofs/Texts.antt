-- Strings that are read after a length, and character strings.
use Rattle.std.proofs.Common.{◌≡◌, ℕ, zero, suc, ◌<◌, ◌≤◌, Bool, true, false, ◌&&◌, ◌||◌, leb, eqb, List, [], ◌∷◌, length, None, Result, Ok, Err, refl, arith, lit<}
use Rattle.std.proofs.lemmas.Bool.{eqb-true, false≢true, leb-true}
use Rattle.std.proofs.lemmas.Str.{IsUtf8-from_ascii, is_utf8-from_IsUtf8}
use Rattle.std.specs.Str.{chars, IsAscii, is_utf8}
use Rattle.oer_units.specs.declared.fault.Why.TheVariants.{Character, Size}
use Rattle.oer_units.specs.declared.fault.ReadFault.{ReadFault}
use Rattle.oer_units.specs.Reader.{give, group, guard, Reader}
use Rattle.oer_units.specs.Reading.{counted_length, counted_octets}
use Rattle.oer_units.specs.Reads.{Reads, State}
use Rattle.oer_units.proofs.ReadLengths.{with_stop, with_then}
use Rattle.oer_units.proofs.ReadSteps.{Reads-give, Reads-map, Reads-stop, Reads-then}
use Rattle.oer_model.specs.AsnType.{Alphabet, ia5, numeric, printable, restricted_string, utf8_string, visible}
use Rattle.oer_model.specs.AsnValue.{text}
use Rattle.oer_model.specs.Constraints.{all_characters, fixed, is_among, is_character, is_within, size_fits}
use Rattle.oer_model.specs.Reading.{read_octets, read_text, read_utf8, read_value}
use Rattle.oer_model.specs.declared.size.Size as constraint
use Rattle.oer_decoder.proofs.Joins.{character_plain, guard_no, guard_yes, size_plain}

-- ---- octets after a length

pub octets_stop : (s s' : State) (e : ReadFault) → Reads counted_length s (Err e) s' → Reads counted_octets s (Err e) s'
unfolding counted_octets
octets_stop s s' e h = with_stop group s s' e h

pub octets_then : (s s' s'' : State) (n : ℕ) (result : Result (List ℕ) ReadFault) → Reads counted_length s (Ok n) s' → Reads (group n) s' result s'' → Reads counted_octets s result s''
unfolding counted_octets
octets_then s s' s'' n result h k = with_then group s s' s'' n result h k

abbrev octets_of : constraint.Size → ℕ → Reader (List ℕ)
octets_of z n = guard (size_fits z n) Size (group n)

pub sized_stop : (z : constraint.Size) (s s' : State) (e : ReadFault) → Reads counted_length s (Err e) s' → Reads (read_octets None z) s (Err e) s'
sized_stop z s s' e h = with_stop (octets_of z) s s' e h

pub sized_misfit : (z : constraint.Size) (s s' : State) (n : ℕ) (e : ReadFault) → Reads counted_length s (Ok n) s' → size_fits z n ≡ false → e.why ≡ Size → e.taken ≡ s'.bound.taken → Reads (read_octets None z) s (Err e) s'
sized_misfit z s s' n e h out why taken = with_then (octets_of z) s s' s' n (Err e) h (guard_no (size_fits z n) Size (group n) s' e out size_plain why taken)

pub sized_then : (z : constraint.Size) (s s' s'' : State) (n : ℕ) (result : Result (List ℕ) ReadFault) → Reads counted_length s (Ok n) s' → size_fits z n ≡ true → Reads (group n) s' result s'' → Reads (read_octets None z) s result s''
sized_then z s s' s'' n result h fits k = with_then (octets_of z) s s' s'' n result h (guard_yes (size_fits z n) Size (group n) s' s'' result fits k)

-- ---- characters of one octet

both : (a b : Bool) → (a && b) ≡ true → (a ≡ true) × (b ≡ true)
both true b e = (refl, e)
both false b e = (e, cc)

within_most : (low high x : ℕ) → is_within low high x ≡ true → x ≤ high
within_most low high x e = leb-true x high (both (leb low x) (leb x high) e).1

either : (a b : Bool) (x : ℕ) → (a ≡ true → x < 128) → (b ≡ true → x < 128) → (a || b) ≡ true → x < 128
either true b x f g e = f refl
either false b x f g e = g e

abbrev AllSmall : List ℕ → Type 0
AllSmall [] = Unit {0}
AllSmall (y ∷ ys) = (y < 128) × AllSmall ys

among_small : (x : ℕ) (ys : List ℕ) → AllSmall ys → is_among ys x ≡ true → x < 128
among_small x [] all e = absurd (false≢true e)
among_small x (y ∷ ys) all e = either (eqb x y) (is_among ys x) x (λ f. let h : x ≡ y = eqb-true x y f in let k : y < 128 = all.0 in omega arith) (among_small x ys all.1) e

-- printable characters that are no letters, digits
signs : (x : ℕ) → is_among (32 ∷ 39 ∷ 40 ∷ 41 ∷ 43 ∷ 44 ∷ 45 ∷ 46 ∷ 47 ∷ 58 ∷ 61 ∷ 63 ∷ []) x ≡ true → x < 128
signs x e = among_small x (32 ∷ 39 ∷ 40 ∷ 41 ∷ 43 ∷ 44 ∷ 45 ∷ 46 ∷ 47 ∷ 58 ∷ 61 ∷ 63 ∷ []) (lit< tt, (lit< tt, (lit< tt, (lit< tt, (lit< tt, (lit< tt, (lit< tt, (lit< tt, (lit< tt, (lit< tt, (lit< tt, (lit< tt, tt)))))))))))) e

small : (kind : Alphabet) (x : ℕ) → is_character kind x ≡ true → x < 128
small ia5 x e = let h = within_most 0 127 x e in omega arith
small visible x e = let h = within_most 32 126 x e in omega arith
small numeric x e = either (is_within 48 57 x) (eqb x 32) x (λ f. let h = within_most 48 57 x f in omega arith) (λ f. let h : x ≡ 32 = eqb-true x 32 f in omega arith) e
small printable x e =
    either (is_within 65 90 x || is_within 97 122 x || is_within 48 57 x) (is_among (32 ∷ 39 ∷ 40 ∷ 41 ∷ 43 ∷ 44 ∷ 45 ∷ 46 ∷ 47 ∷ 58 ∷ 61 ∷ 63 ∷ []) x) x
    (either (is_within 65 90 x || is_within 97 122 x) (is_within 48 57 x) x
    (either (is_within 65 90 x) (is_within 97 122 x) x (λ f. let h = within_most 65 90 x f in omega arith) (λ f. let h = within_most 97 122 x f in omega arith))
    (λ f. let h = within_most 48 57 x f in omega arith))
    (signs x) e

ascii : (kind : Alphabet) (w : List ℕ) → all_characters kind w ≡ true → IsAscii w
ascii kind [] e i = omega arith
ascii kind (x ∷ w) e zero = small kind x (both (is_character kind x) (all_characters kind w) e).0
ascii kind (x ∷ w) e (suc i) = ascii kind w (both (is_character kind x) (all_characters kind w) e).1 i

-- characters of one octet are UTF-8
pub decodes : (kind : Alphabet) (w : List ℕ) → all_characters kind w ≡ true → is_utf8 w ≡ true
decodes kind w e = is_utf8-from_IsUtf8 w (IsUtf8-from_ascii w (ascii kind w e))

abbrev characters_only : Alphabet → List ℕ → Reader (List ℕ)
characters_only kind w = guard (all_characters kind w) Character (give w)

abbrev string_by : Alphabet → constraint.Size → Reader (List ℕ)
string_by kind z = read_text (all_characters kind) (fixed z) z

pub text_stop : (kind : Alphabet) (z : constraint.Size) (s s' : State) (e : ReadFault) → Reads (read_octets (fixed z) z) s (Err e) s' → Reads (read_value (restricted_string kind z)) s (Err e) s'
text_stop kind z s s' e h = Reads-stop (string_by kind z) (λ w. give (text w)) s s' e (Reads-stop (read_octets (fixed z) z) (characters_only kind) s s' e h)

pub text_out : (kind : Alphabet) (z : constraint.Size) (s s' : State) (w : List ℕ) (e : ReadFault) → Reads (read_octets (fixed z) z) s (Ok w) s' → all_characters kind w ≡ false → e.why ≡ Character → e.taken ≡ s'.bound.taken → Reads (read_value (restricted_string kind z)) s (Err e) s'
text_out kind z s s' w e h out why taken =
    Reads-stop (string_by kind z) (λ w. give (text w)) s s' e (Reads-then (read_octets (fixed z) z) (characters_only kind) s s' s' w (Err e) h (guard_no (all_characters kind w) Character (give w) s' e out character_plain why taken))

pub text_got : (kind : Alphabet) (z : constraint.Size) (s s' : State) (w : List ℕ) → Reads (read_octets (fixed z) z) s (Ok w) s' → all_characters kind w ≡ true → Reads (read_value (restricted_string kind z)) s (Ok (text w)) s'
text_got kind z s s' w h fits =
    Reads-map (string_by kind z) text s s' (Ok w) (Reads-then (read_octets (fixed z) z) (characters_only kind) s s' s' w (Ok w) h (guard_yes (all_characters kind w) Character (give w) s' s' (Ok w) fits (Reads-give w s')))

-- ---- UTF-8

abbrev counted_only : constraint.Size → List ℕ → Reader (List ℕ)
counted_only z w = guard (size_fits z (length (chars w))) Size (give w)

abbrev utf8_only : constraint.Size → List ℕ → Reader (List ℕ)
utf8_only z w = guard (is_utf8 w) Character (counted_only z w)

pub utf8_stop : (z : constraint.Size) (s s' : State) (e : ReadFault) → Reads counted_octets s (Err e) s' → Reads (read_value (utf8_string z)) s (Err e) s'
utf8_stop z s s' e h = Reads-stop (read_utf8 z) (λ w. give (text w)) s s' e (Reads-stop counted_octets (utf8_only z) s s' e h)

pub utf8_out : (z : constraint.Size) (s s' : State) (w : List ℕ) (e : ReadFault) → Reads counted_octets s (Ok w) s' → is_utf8 w ≡ false → e.why ≡ Character → e.taken ≡ s'.bound.taken → Reads (read_value (utf8_string z)) s (Err e) s'
utf8_out z s s' w e h out why taken = Reads-stop (read_utf8 z) (λ w. give (text w)) s s' e (Reads-then counted_octets (utf8_only z) s s' s' w (Err e) h (guard_no (is_utf8 w) Character (counted_only z w) s' e out character_plain why taken))

pub utf8_misfit : (z : constraint.Size) (s s' : State) (w : List ℕ) (e : ReadFault) → Reads counted_octets s (Ok w) s' → is_utf8 w ≡ true → size_fits z (length (chars w)) ≡ false → e.why ≡ Size → e.taken ≡ s'.bound.taken → Reads (read_value (utf8_string z)) s (Err e) s'
utf8_misfit z s s' w e h valid out why taken =
    Reads-stop (read_utf8 z) (λ w. give (text w)) s s' e (Reads-then counted_octets (utf8_only z) s s' s' w (Err e) h (guard_yes (is_utf8 w) Character (counted_only z w) s' s' (Err e) valid (guard_no (size_fits z (length (chars w))) Size (give w) s' e out size_plain why taken)))

pub utf8_got : (z : constraint.Size) (s s' : State) (w : List ℕ) → Reads counted_octets s (Ok w) s' → is_utf8 w ≡ true → size_fits z (length (chars w)) ≡ true → Reads (read_value (utf8_string z)) s (Ok (text w)) s'
utf8_got z s s' w h valid fits =
    Reads-map (read_utf8 z) text s s' (Ok w) (Reads-then counted_octets (utf8_only z) s s' s' w (Ok w) h (guard_yes (is_utf8 w) Character (counted_only z w) s' s' (Ok w) valid (guard_yes (size_fits z (length (chars w))) Size (give w) s' s' (Ok w) fits (Reads-give w s'))))
