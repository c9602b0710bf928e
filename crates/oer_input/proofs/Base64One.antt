-- Octets have one spelling in base64.
use Rattle.std.proofs.Common.{◌≡◌, ℕ, ◌+◌, ◌*◌, ◌/◌, ◌%◌, ◌<◌, List, [], ◌∷◌, Bool, true, false, cond, inl, inr, refl, sym, ap, ◌∙◌, arith}
use Rattle.oer_input.specs.Base64.{MayBe, SpellsBase64, is_space, nothing_left, one_octet, sextet_of, three_octets, two_octets, without_space}
use Rattle.oer_input.specs.Laws.{before, sextets_in}
use Rattle.oer_input.proofs.Characters.{sextet_below, space_no_sextet}

-- the bits of octets, six at a time
sextets : List ℕ → List ℕ
sextets [] = []
sextets (a ∷ []) = (a / 4) ∷ (a % 4 * 16) ∷ []
sextets (a ∷ b ∷ []) = (a / 4) ∷ (a % 4 * 16 + b / 16) ∷ (b % 16 * 4) ∷ []
sextets (a ∷ b ∷ c ∷ os) = (a / 4) ∷ (a % 4 * 16 + b / 16) ∷ (b % 16 * 4 + c / 64) ∷ (c % 64) ∷ sextets os

padding_none : (cs : List ℕ) → MayBe (61 ∷ []) cs → sextets_in cs ≡ []
padding_none cs (inl e) = ap sextets_in e
padding_none cs (inr e) = ap sextets_in e

paddings_none : (cs : List ℕ) → MayBe (61 ∷ 61 ∷ []) cs → sextets_in cs ≡ []
paddings_none cs (inl e) = ap sextets_in e
paddings_none cs (inr e) = ap sextets_in e

one_bits : (k l a : ℕ) → k < 64 → l < 64 → a < 256 → k * 64 + l ≡ a * 16 → (k ≡ a / 4) × (l ≡ a % 4 * 16)
one_bits k l a x y z bits = (omega arith, omega arith)

two_bits : (k l m a b : ℕ) → k < 64 → l < 64 → m < 64 → a < 256 → b < 256 → (k * 64 + l) * 64 + m ≡ (a * 256 + b) * 4
    → (k ≡ a / 4) × (l ≡ a % 4 * 16 + b / 16) × (m ≡ b % 16 * 4)
two_bits k l m a b h1 h2 h3 h4 h5 bits = (omega arith, omega arith, omega arith)

three_bits : (k l m n a b c : ℕ) → k < 64 → l < 64 → m < 64 → n < 64 → a < 256 → b < 256 → c < 256
    → ((k * 64 + l) * 64 + m) * 64 + n ≡ (a * 256 + b) * 256 + c
    → (k ≡ a / 4) × (l ≡ a % 4 * 16 + b / 16) × (m ≡ b % 16 * 4 + c / 64) × (n ≡ c % 64)
three_bits k l m n a b c h1 h2 h3 h4 h5 h6 h7 bits = (omega arith, omega arith, omega arith, omega arith)

are : {xs os : List ℕ} → SpellsBase64 xs os → sextets_in xs ≡ sextets os
unfolding sextets
are nothing_left = refl
are (three_octets {p} {q} {r} {s} {k} {l} {m} {n = o} {a} {b} {c} {cs} {os} f g h i x y z bits d) =
    let e = three_bits k l m o a b c (sextet_below p k f) (sextet_below q l g) (sextet_below r m h) (sextet_below s o i) x y z bits in
    rw (f, g, h, i, e.0, e.1, e.2, e.3, are d) refl
are (two_octets {p} {q} {r} {k} {l} {m} {a} {b} {cs} f g h x y bits pad) =
    let e = two_bits k l m a b (sextet_below p k f) (sextet_below q l g) (sextet_below r m h) x y bits in
    rw (f, g, h, e.0, e.1, e.2, padding_none cs pad) refl
are (one_octet {p} {q} {k} {l} {a} {cs} f g x bits pad) =
    let e = one_bits k l a (sextet_below p k f) (sextet_below q l g) x bits in
    rw (f, g, e.0, e.1, paddings_none cs pad) refl

space_by : (b : Bool) (c : ℕ) (cs : List ℕ) → is_space c ≡ b → sextets_in (without_space cs) ≡ sextets_in cs
    → sextets_in (cond b (without_space cs) (c ∷ without_space cs)) ≡ sextets_in (c ∷ cs)
space_by true c cs e more = more ∙ ap (λ d. before d (sextets_in cs)) (sym (space_no_sextet c e))
space_by false c cs e more = ap (λ ns. before (sextet_of c) ns) more

spaces : (t : List ℕ) → sextets_in (without_space t) ≡ sextets_in t
spaces [] = refl
spaces (c ∷ cs) = space_by (is_space c) c cs refl (spaces cs)

pub one_spelling : (t u os : List ℕ) → SpellsBase64 (without_space t) os → SpellsBase64 (without_space u) os → sextets_in t ≡ sextets_in u
one_spelling t u os d f = sym (spaces t) ∙ are d ∙ sym (are f) ∙ spaces u
