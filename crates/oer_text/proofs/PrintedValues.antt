-- Values after DEFAULT as they are printed.
use Rattle.std.proofs.Common.{◌≡◌, ℕ, zero, suc, ◌+◌, ◌-◌, ◌/◌, ◌%◌, ◌^◌, ◌≤◌, ◌<◌, ℤ, List, [], ◌∷◌, ◌++◌, length, take, drop, map, Bool, true, false, cond, ◌==◌, ◌&&◌, ◌||◌, inl, inr, ⊎_elim, Option, Some, None, refl, sym, ap, subst, ◌∙◌, append_assoc, length-append, arith}
use Rattle.std.specs.Prelude.{codes, is_some, nat_le, nat_lt}
use Rattle.std.specs.Char.{encode_utf8, is_ascii_hexdigit}
use Rattle.std.specs.Int.{w128}
use Rattle.std.specs.List.{slice_index}
use Rattle.std.specs.Ordering.{int_eq}
use Rattle.std.specs.Str.{IsUtf8, chars, encode_utf8_all, all_scalars}
use Rattle.std.proofs.lemmas.Bool.{and_parts, eqb-true, ltb-false}
use Rattle.std.proofs.lemmas.Bool.Decides.{Decides-int_eq, nat_tests}
use Rattle.std.proofs.lemmas.Str.{chars-encodes, encodes-append, encodes-chars, scalars-chars, IsUtf8-from_ascii, IsUtf8-from_is_utf8}
use Rattle.hex.specs.Hex.{encode_upper, hex_digit_value}
use Rattle.hex.proofs.HexLemmas.{decode_of-encode_upper}
use Rattle.oer_lexer.specs.Characters.{is_bit}
use Rattle.oer_lexer.specs.FallsInto.{IsToken, bits_token, digits_token, text_token, IsRun, run_end, run_char, IsQuoted, quote_end, quote_char, quote_twice}
use Rattle.oer_lexer.specs.Token.{word, bits, text}
use Rattle.oer_units.specs.Octets.{IsOctets}
use Rattle.oer_model.specs.LeafType as kind
use Rattle.oer_model.specs.LeafType.{LeafType}
use Rattle.oer_model.specs.AsnType.{Alphabet, AsnType, NamedNumber, bit_string, boolean, choice, enumerated, extensible_sequence, ia5, integer, leaf, null, numeric, object_id, octet_string, printable, restricted_string, sequence, sequence_of, utf8_string, visible}
use Rattle.oer_model.specs.AsnValue.{AsnValue, bit_list, bool, enum, int, octets, oid, text as string}
use Rattle.oer_model.specs.Constraints.{in_range, is_character, all_characters}
use Rattle.oer_model.specs.Fits.{AllBelow, Fits, FitsLeaf}
use Rattle.oer_model.specs.WellFormed.{AnyOf, Repeats, item_names}
use Rattle.oer_model.specs.declared.size.Size.{Size}
use Rattle.oer_literals.specs.Bits.{is_one, bit_digit}
use Rattle.oer_literals.specs.Items.{items_of, name_of, leaf_items}
use Rattle.oer_literals.proofs.Numerals.{range_128}
use Rattle.oer_notation.specs.Grammar.{IsId, IsItemNamed, this_item, later_item, between_quotes, AreOctets, no_octets, an_octet, unquoted, text_of, AreArcs, no_arcs, an_arc, IsValue, true_value, false_value, null_value, number_value, item_value, octets_value, bits_value, text_value, utf8_value, arcs_value}
use Rattle.oer_printer.specs.Printing.{natural_token, inside_quotes, doubled, quoted_text, value_tokens, is_visible, value_has_notation}
use Rattle.oer_value_notation.specs.Values.{ok_part, octets_in}
use Rattle.oer_notation.proofs.Digits.{octets_in_sound}
use Rattle.oer_text.proofs.PrintedNumbers.{AllIds, id_given, integer_given, integer_spelt, natural_given, natural_spelt, short_128, worded}
use Rattle.oer_text.proofs.PrintedText.{AreTokens, no_tokens, plain, single, both}

-- ---- between quotes

take_all : (xs ys : List ℕ) → take (length xs) (xs ++ ys) ≡ xs
take_all [] ys = refl
take_all (x ∷ xs) ys = ap (λ zs. x ∷ zs) (take_all xs ys)

between : (xs : List ℕ) (c d : ℕ) → between_quotes (39 ∷ (xs ++ c ∷ d ∷ [])) ≡ xs
between xs c d =
    let m = length-append xs (c ∷ d ∷ []) in
    let n : suc (length (xs ++ c ∷ d ∷ [])) - 3 ≡ length xs = omega arith in
    ap (λ k. take k (xs ++ c ∷ d ∷ [])) n ∙ take_all xs (c ∷ d ∷ [])

-- ---- bits and octets

bit_run : (s : List Bool) → IsRun is_bit (map bit_digit s)
bit_run [] = run_end
bit_run (true ∷ s) = run_char refl (bit_run s)
bit_run (false ∷ s) = run_char refl (bit_run s)

bits_back : (s : List Bool) → map is_one (map bit_digit s) ≡ s
bits_back [] = refl
bits_back (true ∷ s) = ap (λ t. true ∷ t) (bits_back s)
bits_back (false ∷ s) = ap (λ t. false ∷ t) (bits_back s)

bytes_of : (xs : List ℕ) → IsOctets xs → (i : ℕ) → slice_index xs i < 256
bytes_of [] o i = omega arith
bytes_of (x ∷ xs) o zero = o.0
bytes_of (x ∷ xs) o (suc i) = bytes_of xs o.1 i

octets_back : (xs : List ℕ) → IsOctets xs → AreOctets (encode_upper xs) xs
unfolding octets_in
octets_back xs o = octets_in_sound (encode_upper xs) xs (ap ok_part (decode_of-encode_upper xs (bytes_of xs o)))

three : (a b d : Bool) (x y z n : ℕ) → cond a (Some x) (cond b (Some y) (cond d (Some z) None)) ≡ Some n → d || a || b ≡ true
three true b true x y z n h = refl
three true b false x y z n h = refl
three false true true x y z n h = refl
three false true false x y z n h = refl
three false false true x y z n h = refl
three false false false x y z n h = absurd (cc)

hex_digit : (c n : ℕ) → hex_digit_value c ≡ Some n → is_ascii_hexdigit c ≡ true
hex_digit c n h = three (nat_le 65 c && nat_le c 70) (nat_le 97 c && nat_le c 102) (nat_le 48 c && nat_le c 57) (c - 55) (c - 87) (c - 48) n h

hex_run : {w xs : List ℕ} → AreOctets w xs → IsRun is_ascii_hexdigit w
hex_run no_octets = run_end
hex_run (an_octet {c} {d} {high} {low} h l m) = run_char (hex_digit c high h) (run_char (hex_digit d low l) (hex_run m))

-- ---- texts

abbrev double_chars : List ℕ → List ℕ
double_chars [] = []
double_chars (c ∷ cs) = cond (c == 34) (34 ∷ 34 ∷ double_chars cs) (c ∷ double_chars cs)

encoded_by : (b : Bool) (c : ℕ) (ds vs : List ℕ) → encode_utf8_all ds ≡ vs → encode_utf8_all (cond b (34 ∷ 34 ∷ ds) (c ∷ ds)) ≡ cond b (codes "\"\"") (encode_utf8 c) ++ vs
unfolding encode_utf8
encoded_by true c ds vs e = ap (λ w. 34 ∷ 34 ∷ w) e
encoded_by false c ds vs e = ap (λ w. encode_utf8 c ++ w) e

encoded_doubled : (cs : List ℕ) → encode_utf8_all (double_chars cs) ≡ doubled cs
encoded_doubled [] = refl
encoded_doubled (c ∷ cs) = encoded_by (c == 34) c (double_chars cs) (doubled cs) (encoded_doubled cs)

scalars_by : (b : Bool) (c : ℕ) (ds : List ℕ) → all_scalars (c ∷ []) ≡ true → all_scalars (ds ++ 34 ∷ []) ≡ true → all_scalars (cond b (34 ∷ 34 ∷ ds) (c ∷ ds) ++ 34 ∷ []) ≡ true
scalars_by true c ds p e = e
scalars_by false c ds p e = rw ((and_parts _ true p).0, e) refl

scalars_doubled : (cs : List ℕ) → all_scalars cs ≡ true → all_scalars (double_chars cs ++ 34 ∷ []) ≡ true
scalars_doubled [] h = refl
scalars_doubled (c ∷ cs) h = let p = and_parts (all_scalars (c ∷ [])) (all_scalars cs) (first_one c cs h) in scalars_by (c == 34) c (double_chars cs) p.0 (scalars_doubled cs p.1)
  where
    split : (a b : Bool) → a && b ≡ true → (a && true) && b ≡ true
    split true b h = h
    split false b h = h

    first_one : (c : ℕ) (cs : List ℕ) → all_scalars (c ∷ cs) ≡ true → all_scalars (c ∷ []) && all_scalars cs ≡ true
    first_one c cs h = split _ (all_scalars cs) h

unquoted_plain : (c : ℕ) (ds : List ℕ) → c == 34 ≡ false → unquoted (c ∷ ds) ≡ c ∷ unquoted ds
unquoted_plain c [] e = rw e refl
unquoted_plain c (d ∷ ds) e = rw e refl

unquoted_by : (b : Bool) (c : ℕ) (ds vs : List ℕ) → c == 34 ≡ b → unquoted (ds ++ 34 ∷ []) ≡ vs → unquoted (cond b (34 ∷ 34 ∷ ds) (c ∷ ds) ++ 34 ∷ []) ≡ c ∷ vs
unquoted_by true c ds vs e h = subst (λ x. unquoted (34 ∷ 34 ∷ (ds ++ 34 ∷ [])) ≡ x ∷ vs) (sym (eqb-true c 34 e)) (ap (λ w. 34 ∷ w) h)
unquoted_by false c ds vs e h = unquoted_plain c (ds ++ 34 ∷ []) e ∙ ap (λ w. c ∷ w) h

unquoted_doubled : (cs : List ℕ) → unquoted (double_chars cs ++ 34 ∷ []) ≡ cs
unquoted_doubled [] = refl
unquoted_doubled (c ∷ cs) = unquoted_by (c == 34) c (double_chars cs) cs refl (unquoted_doubled cs)

encoded_quote : (v : List ℕ) → encode_utf8_all (34 ∷ v) ≡ 34 ∷ encode_utf8_all v
unfolding encode_utf8
encoded_quote v = refl

chars_quoted : (cs : List ℕ) → all_scalars cs ≡ true → chars (34 ∷ (doubled cs ++ 34 ∷ [])) ≡ 34 ∷ (double_chars cs ++ 34 ∷ [])
chars_quoted cs s =
    let v = double_chars cs ++ 34 ∷ [] in
    let e : encode_utf8_all (34 ∷ (double_chars cs ++ 34 ∷ [])) ≡ 34 ∷ (doubled cs ++ 34 ∷ []) =
    encoded_quote (double_chars cs ++ 34 ∷ []) ∙ ap (λ w. 34 ∷ w) (encodes-append (double_chars cs) (34 ∷ []) ∙ ap (λ w. encode_utf8_all (double_chars cs) ++ w) (encoded_quote []) ∙ ap (λ w. w ++ 34 ∷ []) (encoded_doubled cs)) in
    ap chars (sym e) ∙ chars-encodes (34 ∷ (double_chars cs ++ 34 ∷ [])) (scalars_doubled cs s)

text_back : (w : List ℕ) → IsUtf8 w → text_of (quoted_text w) ≡ w
text_back w u =
    ap (λ v. encode_utf8_all (unquoted (drop 1 v))) (chars_quoted (chars w) (scalars-chars w u))
    ∙ ap encode_utf8_all (unquoted_doubled (chars w))
    ∙ encodes-chars w u

long_byte : (b : ℕ) (rest : List ℕ) → 128 ≤ b → IsQuoted rest → IsQuoted (b ∷ rest)
long_byte b rest l q = quote_char (omega (arith, l)) (λ e. omega (arith, l, e)) q

encoded_quoted : (a b d : Bool) (c : ℕ) (rest : List ℕ) → 32 ≤ c → (c ≡ 34 → ⊥) → IsQuoted rest
    → IsQuoted (cond a (c ∷ []) (cond b ((192 + c / 64) ∷ (128 + c % 64) ∷ []) (cond d ((224 + c / 4096) ∷ (128 + c / 64 % 64) ∷ (128 + c % 64) ∷ []) ((240 + c / 262144) ∷ (128 + c / 4096 % 64) ∷ (128 + c / 64 % 64) ∷ (128 + c % 64) ∷ []))) ++ rest)
encoded_quoted true b d c rest l n q = quote_char l n q
encoded_quoted false true d c rest l n q = long_byte _ _ (omega arith) (long_byte _ _ (omega arith) q)
encoded_quoted false false true c rest l n q = long_byte _ _ (omega arith) (long_byte _ _ (omega arith) (long_byte _ _ (omega arith) q))
encoded_quoted false false false c rest l n q = long_byte _ _ (omega arith) (long_byte _ _ (omega arith) (long_byte _ _ (omega arith) (long_byte _ _ (omega arith) q)))

char_quoted : (c : ℕ) (rest : List ℕ) → 32 ≤ c → (c ≡ 34 → ⊥) → IsQuoted rest → IsQuoted (encode_utf8 c ++ rest)
unfolding encode_utf8
char_quoted c rest l n q = encoded_quoted (nat_lt c 128) (nat_lt c 2048) (nat_lt c 65536) c rest l n q

inside_quoted : (b : Bool) (c : ℕ) (rest : List ℕ) → c == 34 ≡ b → 32 ≤ c → IsQuoted rest → IsQuoted (cond b (codes "\"\"") (encode_utf8 c) ++ rest)
inside_quoted true c rest e l q = quote_twice q
inside_quoted false c rest e l q = char_quoted c rest l (λ h. let k : 34 == 34 ≡ false = subst (λ x. x == 34 ≡ false) h e in absurd (cc)) q

shown : (b v : Bool) → cond b false v ≡ true → (b ≡ false) × (v ≡ true)
shown true v h = absurd (cc)
shown false v h = (refl, h)

all_quoted : (cs : List ℕ) → is_visible cs ≡ true → IsQuoted (doubled cs ++ 34 ∷ [])
all_quoted [] h = quote_end
all_quoted (c ∷ cs) h =
    let p = shown (nat_lt c 32) (is_visible cs) h in
    subst IsQuoted (sym (append_assoc (inside_quotes c) (doubled cs) (34 ∷ []))) (inside_quoted (c == 34) c (doubled cs ++ 34 ∷ []) refl (ltb-false c 32 p.0) (all_quoted cs p.1))

text_spelt : (w : List ℕ) → is_visible (chars w) ≡ true → AreTokens (text (quoted_text w) ∷ [])
text_spelt w h = plain refl (text_token (all_quoted (chars w) h)) no_tokens

-- ---- the characters of strings

char_low : (letters : Alphabet) (x : ℕ) → is_character letters x ≡ true → x < 128
char_low ia5 x h = grind (arith, nat_tests)
char_low visible x h = grind (arith, nat_tests)
char_low numeric x h = grind (arith, nat_tests)
char_low printable x h = grind (arith, nat_tests)

chars_low : (letters : Alphabet) (w : List ℕ) → all_characters letters w ≡ true → (i : ℕ) → slice_index w i < 128
chars_low letters [] h i = omega arith
chars_low letters (x ∷ w) h zero = char_low letters x (and_parts (is_character letters x) (all_characters letters w) h).0
chars_low letters (x ∷ w) h (suc i) = chars_low letters w (and_parts (is_character letters x) (all_characters letters w) h).1 i

-- ---- names of items

stands : {v : List ℕ} {z : ℤ} {is : List NamedNumber} → IsItemNamed v z is → (w : List ℕ) → w ≡ v → AnyOf (λ y. w ≡ y) (item_names is)
stands (this_item e) w h = inl (h ∙ sym e)
stands (later_item n d) w h = inr (stands d w h)

-- a name, of the item that has the number
record Name (is : List NamedNumber) (z : ℤ) : Type 0 where
  name : List ℕ
  same : name_of is z ≡ Some name
  id : IsId name
  spelt : IsToken (word name) name
  item : IsItemNamed name z is

named : (is : List NamedNumber) (z : ℤ) → AllIds (item_names is) → (Repeats (item_names is) → ⊥) → is_some (name_of is z) ≡ true → Name is z
named [] z a n h = absurd (cc)
named (i ∷ is) z a n h = by_test (int_eq i.number z) refl (named is z a.1 (λ q. n (inr q)))
  where
    by_test : (b : Bool) → int_eq i.number z ≡ b → (is_some (name_of is z) ≡ true → Name is z) → Name (i ∷ is) z
    by_test true e next =
        let d = id_given i.name a.0 in
        let here : IsItemNamed i.name i.number (i ∷ is) = this_item refl in
        record { name = i.name; same = rw e refl; id = d.0; spelt = d.1; item = subst (λ y. IsItemNamed i.name y (i ∷ is)) ((Decides-int_eq i.number z).0 e) here }
    by_test false e next =
        let k : is_some (cond false (Some i.name) (name_of is z)) ≡ true = subst (λ b. is_some (cond b (Some i.name) (name_of is z)) ≡ true) e h in
        let r = next k in
        record { name = r.name; same = ap (λ b. cond b (Some i.name) (name_of is z)) e ∙ r.same; id = r.id; spelt = r.spelt; item = later_item (λ q. n (inl (stands r.item i.name q))) r.item }

-- ---- arcs

arcs_back : (arcs : List ℕ) → AllBelow (2 ^ 128) arcs → AreArcs arcs (map natural_token arcs) × AreTokens (map natural_token arcs)
arcs_back [] h = (no_arcs, no_tokens)
arcs_back (n ∷ arcs) h =
    let r = arcs_back arcs h.1 in
    let l = h.0 in
    let short : n < 10 ^ 64 = omega (arith, l) in
    (an_arc (natural_given (2 ^ 128) n h.0 short) r.0, plain refl (natural_spelt n short) r.1)

-- ---- values

-- what is printed of the value is the value
abbrev pub IsGiven : AsnType → AsnValue → Type 0
IsGiven T v = IsValue T v (value_tokens (items_of T) v) × AreTokens (value_tokens (items_of T) v)

given_bool : (b : Bool) → IsGiven boolean (bool b)
given_bool true = (true_value, worded (codes "TRUE") refl no_tokens)
given_bool false = (false_value, worded (codes "FALSE") refl no_tokens)

given_int : (low high : Option ℤ) (z : ℤ) → in_range low high z ≡ true → IsGiven (integer low high) (int z)
unfolding in_range
given_int low high z h =
    let f = range_128.tells z (and_parts _ _ (and_parts _ _ h).0).0 in
    let l = short_128 z f in
    (number_value (integer_given w128 z f l), plain refl (integer_spelt z l) no_tokens)

given_enum : (is : List NamedNumber) (marker : Bool) (z : ℤ) → Name is z → IsGiven (enumerated is marker) (enum z)
given_enum is marker z n = rw n.same (item_value n.id n.item, plain refl n.spelt no_tokens)

given_bits : (size : Size) (s : List Bool) → IsGiven (bit_string size) (bit_list s)
given_bits size s =
    let w = 39 ∷ (map bit_digit s ++ codes "'B") in
    let e : map is_one (between_quotes w) ≡ s = ap (map is_one) (between (map bit_digit s) 39 66) ∙ bits_back s in
    (subst (λ t. IsValue (bit_string size) (bit_list t) (bits w ∷ [])) e bits_value, plain refl (bits_token (bit_run s)) no_tokens)

given_octets : (size : Size) (xs : List ℕ) → IsOctets xs → IsGiven (octet_string size) (octets xs)
given_octets size xs o =
    let a = octets_back xs o in
    (octets_value (subst (λ w. AreOctets w xs) (sym (between (encode_upper xs) 39 72)) a), plain refl (digits_token (hex_run a)) no_tokens)

given_string : (letters : Alphabet) (size : Size) (w : List ℕ) → IsUtf8 w → is_visible (chars w) ≡ true → IsGiven (restricted_string letters size) (string w)
given_string letters size w u h = (subst (λ v. IsValue (restricted_string letters size) (string v) (text (quoted_text w) ∷ [])) (text_back w u) text_value, text_spelt w h)

given_utf8 : (size : Size) (w : List ℕ) → IsUtf8 w → is_visible (chars w) ≡ true → IsGiven (utf8_string size) (string w)
given_utf8 size w u h = (subst (λ v. IsValue (utf8_string size) (string v) (text (quoted_text w) ∷ [])) (text_back w u) utf8_value, text_spelt w h)

given_oid : (a b : ℕ) (rest : List ℕ) → AllBelow (2 ^ 128) (a ∷ b ∷ rest) → IsGiven object_id (oid (a ∷ b ∷ rest))
given_oid a b rest h =
    let r = arcs_back (a ∷ b ∷ rest) h in
    (arcs_value r.0, single refl (both r.1 (single refl no_tokens)))

none : {A : Type 0} (is : List NamedNumber) (v u : AsnValue) → v ≡ u → value_has_notation is u ≡ false → value_has_notation is v ≡ true → A
none is v u e n h = absurd (let k : value_has_notation is u ≡ true = subst (λ x. value_has_notation is x ≡ true) e h in cc)

leaf_value_given : (kind : LeafType) (v : AsnValue) → AllIds (item_names (leaf_items kind)) → (Repeats (item_names (leaf_items kind)) → ⊥) → FitsLeaf kind v → value_has_notation (leaf_items kind) v ≡ true → IsGiven (leaf kind) v
leaf_value_given kind.boolean v a n f h = subst (IsGiven boolean) (sym f.1) (given_bool f.0)
leaf_value_given kind.null v a n f h = subst (IsGiven null) (sym f) (null_value, worded (codes "NULL") refl no_tokens)
leaf_value_given (kind.integer low high) v a n f h = subst (IsGiven (integer low high)) (sym f.1) (given_int low high f.0 f.2)
leaf_value_given (kind.enumerated is marker) v a n f h =
    let k : is_some (name_of is f.0) ≡ true = subst (λ x. value_has_notation is x ≡ true) f.1 h in
    subst (IsGiven (enumerated is marker)) (sym f.1) (given_enum is marker f.0 (named is f.0 a n k))
leaf_value_given (kind.bit_string size) v a n f h = subst (IsGiven (bit_string size)) (sym f.1) (given_bits size f.0)
leaf_value_given (kind.octet_string size) v a n f h = subst (IsGiven (octet_string size)) (sym f.1) (given_octets size f.0 f.2.0)
leaf_value_given kind.object_id v a n f h =
    let p = f.2 in
    let first = p.4 in
    let second = p.6 in
    let e : v ≡ oid (p.0 ∷ p.1 ∷ p.2) = f.1 ∙ ap oid p.3 in
    subst (IsGiven object_id) (sym e) (given_oid p.0 p.1 p.2 (omega (arith, first), (omega (arith, first, second), p.7)))
leaf_value_given (kind.restricted_string letters size) v a n f h =
    let k : is_visible (chars f.0) ≡ true = subst (λ x. value_has_notation [] x ≡ true) f.1 h in
    subst (IsGiven (restricted_string letters size)) (sym f.1) (given_string letters size f.0 (IsUtf8-from_ascii f.0 (chars_low letters f.0 f.2.1)) k)
leaf_value_given (kind.utf8_string size) v a n f h =
    let k : is_visible (chars f.0) ≡ true = subst (λ x. value_has_notation [] x ≡ true) f.1 h in
    subst (IsGiven (utf8_string size)) (sym f.1) (given_utf8 size f.0 (IsUtf8-from_is_utf8 f.0 f.2.1) k)

pub value_given : (T : AsnType) (v : AsnValue) → AllIds (item_names (items_of T)) → (Repeats (item_names (items_of T)) → ⊥) → Fits T v → value_has_notation (items_of T) v ≡ true → IsGiven T v
value_given (leaf kind) v a n f h = leaf_value_given kind v a n f h
value_given (sequence fs) v a n f h = none [] v _ f.1 refl h
value_given (extensible_sequence fs more) v a n f h = none [] v _ f.3 refl h
value_given (sequence_of size T) v a n f h = none [] v _ f.1 refl h
value_given (choice marker more) v a n f h = ⊎_elim (λ p. none [] v _ p.2 refl h) (λ p. none [] v _ p.2 refl h) f
