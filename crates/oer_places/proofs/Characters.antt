-- Characters of a text, one after another.
use Rattle.std.proofs.Common.{◌≡◌, ◌∙◌, ℕ, List, [], ◌∷◌, ◌++◌, length, map, ap, sym, append_assoc, append-nil, map-id}
use Rattle.std.specs.Char.{encode_utf8}
use Rattle.std.specs.Str.{IsAscii, encode_utf8_all}
use Rattle.std.proofs.lemmas.Str.{chars-IsAscii, encodes-append}
use Rattle.oer_places.specs.Parts.{count_of}

-- one more was pushed
pub character_more : (t text new : List ℕ) (cs : List ℕ) (c : ℕ) → text ≡ t ++ encode_utf8_all cs → new ≡ text ++ encode_utf8 c → new ≡ t ++ encode_utf8_all (cs ++ c ∷ [])
character_more t text new cs c so is =
    is ∙ ap (λ x. x ++ encode_utf8 c) so ∙ append_assoc t (encode_utf8_all cs) (encode_utf8 c)
    ∙ ap (λ x. t ++ (encode_utf8_all cs ++ x)) (sym (append-nil (encode_utf8 c))) ∙ ap (λ x. t ++ x) (sym (encodes-append cs (c ∷ [])))

-- all were
pub characters_all : (t text : List ℕ) (cs all : List ℕ) → text ≡ t ++ encode_utf8_all cs → map (λ c. c) cs ≡ all → text ≡ t ++ encode_utf8_all all
characters_all t text cs all so is = so ∙ ap (λ xs. t ++ encode_utf8_all xs) (sym (map-id cs) ∙ is)

pub ascii_count : (text : List ℕ) → IsAscii text → length text ≡ count_of text
ascii_count text h = ap length (sym (chars-IsAscii text h))
