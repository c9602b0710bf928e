-- Text as it is printed, character by character.
use Rattle.std.proofs.Common.{◌≡◌, ◌∙◌, ℕ, ◌+◌, ◌<◌, ◌≤◌, List, [], ◌∷◌, ◌++◌, length, get_or, take, sym, refl, ap, ap₂, append_assoc, append-nil, add-one, arith, IsUtf8, subst, take_all, false}
use Rattle.std.specs.Char.{encode_utf8}
use Rattle.std.specs.Prelude.{flat_map}
use Rattle.std.proofs.Math.Seq.{take-suc}
use Rattle.std.proofs.lemmas.Grind.{flat_map-append}
use Rattle.std.proofs.lemmas.Str.{chars-IsAscii, chars_past_char, chars-nil, encode_ascii}
use Rattle.std.proofs.lemmas.Str.Ascii.{IsAscii-more, IsAscii-nil}
use Rattle.std.specs.Str.{IsAscii}
use Rattle.std.proofs.lemmas.Bool.Decides.{nat_tests}
use Rattle.oer_places.specs.Visible.{is_hidden, visible, visible_character}

empty_of : (xs : List ℕ) → length xs ≡ 0 → xs ≡ []
empty_of [] h = refl
empty_of (x ∷ xs) h = absurd (omega arith)

pub one_more : (t new from rest : List ℕ) (c : ℕ) → IsUtf8 from → from ≡ encode_utf8 c ++ rest → new ≡ t ++ visible_character c → t ++ visible from ≡ new ++ visible rest
one_more t new from rest c utf8 steps is =
    ap (λ cs. t ++ flat_map visible_character cs) (chars_past_char from rest c utf8 steps)
    ∙ sym (append_assoc t (visible_character c) (visible rest))
    ∙ ap (λ xs. xs ++ visible rest) (sym is)

pub none_left : (t from : List ℕ) → length from ≡ 0 → t ++ visible from ≡ t
none_left t from none = ap (λ r. t ++ visible r) (empty_of from none) ∙ ap (λ cs. t ++ flat_map visible_character cs) chars-nil ∙ append-nil t

-- a text of plain octets so far
pub record IsPlain (text : List ℕ) : Type 0 where
  pub ascii : IsAscii text
  pub is : flat_map visible_character text ≡ text

shown : (c : ℕ) → 32 ≤ c → c ≤ 126 → is_hidden c ≡ false
shown c low high = grind (arith, nat_tests)

plain_character : (c : ℕ) → 32 ≤ c → c ≤ 126 → visible_character c ≡ c ∷ []
plain_character c low high = rw (shown c low high) (encode_ascii c (omega arith))

pub plain_begun : (xs : List ℕ) → IsPlain (take 0 xs)
plain_begun xs = record { ascii = IsAscii-nil; is = refl }

pub plain_more : (xs : List ℕ) (i : ℕ) → i < length xs → 32 ≤ get_or xs i 0 → get_or xs i 0 ≤ 126 → IsPlain (take i xs) → IsPlain (take (i + 1) xs)
plain_more xs i lt low high so = record {
  ascii = IsAscii-more xs i lt so.ascii (omega arith);
  is =
      let x = get_or xs i 0 in
      let split : take (i + 1) xs ≡ take i xs ++ x ∷ [] = rw add-one (take-suc xs i 0 lt) in
      ap (flat_map visible_character) split ∙ flat_map-append visible_character (take i xs) (x ∷ [])
      ∙ ap₂ (λ (a c : List ℕ). a ++ c) so.is (append-nil (visible_character x) ∙ plain_character x low high) ∙ sym split;
}

pub plain_whole : (xs : List ℕ) (i : ℕ) → length xs ≤ i → IsPlain (take i xs) → visible xs ≡ xs
plain_whole xs i over so =
    let all : take i xs ≡ xs = take_all i xs over in
    ap (flat_map visible_character) (chars-IsAscii xs (subst IsAscii all so.ascii)) ∙ subst (λ t. flat_map visible_character t ≡ t) all so.is
