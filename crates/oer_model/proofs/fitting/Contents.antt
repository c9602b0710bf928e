-- Contents: what holds of each kind, and what follows for all kinds alike.
use Rattle.std.proofs.Common.{◌≡◌, ⊎_elim, ℕ, ◌+◌, ◌*◌, ◌^◌, ◌<◌, ◌≤◌, List, [], ◌∷◌, length, Bool, true, false, ◌&&◌, ◌||◌, leb, ltb, Option, Some, None, refl, sym, ap, ◌∙◌, subst, arith, length-append}
use Rattle.std.proofs.lemmas.Bool.{lt-ltb, ltb-true, leb-true, le-leb, cases_lt}
use Rattle.std.specs.Str.{is_utf8, chars}
use Rattle.oer_units.specs.Lawful.{Lawful}
use Rattle.oer_units.specs.Least.{octets_needed}
use Rattle.oer_units.specs.Octets.{IsOctets, IsShortest}
use Rattle.oer_units.specs.Spelling.{IsCounted, IsJoined, IsSubidentifier}
use Rattle.oer_units.proofs.Closure.{same_spellings}
use Rattle.oer_units.proofs.Counted.{every_long}
use Rattle.oer_units.proofs.LeastDigits.{oid_only}
use Rattle.oer_units.proofs.ObjectIds.{object_identifier_lawful}
use Rattle.oer_units.proofs.OneSpelling.{octets_split}
use Rattle.oer_model.proofs.canonical.Bridge.{word_exists, word_only}
use Rattle.oer_model.proofs.bits.LeastBits.{oid_exists, oid_octets}
use Rattle.oer_model.proofs.reading.Parts.{OfSize, fixed_is, len_some, octets_lawful}
use Rattle.oer_model.proofs.fitting.Strings.{text_lawful, utf8_lawful}
use Rattle.oer_model.proofs.fitting.Tests.{all_are_below, and_true, below_all, below_octets, both, octets_below, or_cases, or_right}
use Rattle.oer_model.specs.LeafType as leaf_type
use Rattle.oer_model.specs.LeafValue.{LeafValue}
use Rattle.oer_model.specs.LeafValue as leaf_kind
use Rattle.oer_model.specs.AsnType.{leaf}
use Rattle.oer_model.specs.AsnValue.{AsnValue, leaf_value}
use Rattle.oer_model.specs.Canonical.{leaf_octets}
use Rattle.oer_model.specs.Constraints.{KeepsLimits, all_characters, fixed, is_zero, leaf_may_be_empty, size_fits}
use Rattle.oer_model.specs.ContentType.{ContentType, object_id, octet_string, restricted_string, utf8_string}
use Rattle.oer_model.specs.Contents.{AllBelow, AreArcs, FitsContent, IsContent, Sized, SpellsContent, all_below, arcs_fit, content_fits, content_octets, content_value, first_arcs, fixed_content, held, read_content, string_octets}
use Rattle.oer_model.specs.Encoding.{IsItself}
use Rattle.oer_model.specs.Nodes.{payload}
use Rattle.oer_model.specs.Strict.{IsStrictLeafSpelling}
use Rattle.oer_model.specs.declared.size.Size.{Size}

first_sound : (a b : ℕ) → first_arcs a b ≡ true → (a ≤ 2) × (a < 2 → b < 40) × (40 * a + b < 2 ^ 128)
first_sound a b h =
    let l = both (leb a 2 && (leb 2 a || ltb b 40)) (ltb (40 * a + b) (2 ^ 128)) h in
    let k = both (leb a 2) (leb 2 a || ltb b 40) l.0 in
    (leb-true a 2 k.0, λ small. ⊎_elim (λ e. absurd (let e2 = leb-true 2 a e in omega arith)) (λ e. ltb-true b 40 e) (or_cases (leb 2 a) (ltb b 40) k.1), ltb-true (40 * a + b) (2 ^ 128) l.1)

second_small : (a b : ℕ) → (a < 2 → b < 40) → (leb 2 a || ltb b 40) ≡ true
second_small a b h = ⊎_elim (λ l. or_right (leb 2 a) (ltb b 40) (lt-ltb b 40 (h l))) (λ g. ap (λ c. c || ltb b 40) (le-leb 2 a g)) (cases_lt a 2)

first_complete : (a b : ℕ) → a ≤ 2 → (a < 2 → b < 40) → 40 * a + b < 2 ^ 128 → first_arcs a b ≡ true
first_complete a b l k s = and_true (leb a 2 && (leb 2 a || ltb b 40)) (ltb (40 * a + b) (2 ^ 128)) (and_true (leb a 2) (leb 2 a || ltb b 40) (le-leb a 2 l) (second_small a b k)) (lt-ltb (40 * a + b) (2 ^ 128) s)

arcs_sound : (arcs : List ℕ) → arcs_fit arcs ≡ true → AreArcs arcs
arcs_sound [] h = cc
arcs_sound (a ∷ []) h = cc
arcs_sound (a ∷ b ∷ rest) h =
    let k = both (first_arcs a b) (all_below (2 ^ 128) rest) h in
    let f = first_sound a b k.0 in
    (a, b, rest, refl, f.0, f.1, f.2, below_all (2 ^ 128) rest k.1)

arcs_complete : (arcs : List ℕ) → AreArcs arcs → arcs_fit arcs ≡ true
arcs_complete arcs (a, b, rest, e, l, k, s, r) = ap arcs_fit e ∙ and_true (first_arcs a b) (all_below (2 ^ 128) rest) (first_complete a b l k s) (all_are_below (2 ^ 128) rest r)

-- what the value of a kind holds
pub holds : {A : Type 0} (kind : ContentType) (x : A) (f : List ℕ → A) (w : List ℕ) → held kind x f (content_value kind w) ≡ f w
holds (octet_string size) x f w = refl
holds object_id x f w = refl
holds (restricted_string letters size) x f w = refl
holds (utf8_string size) x f w = refl

pub held_true : (kind : ContentType) (f : List ℕ → Bool) (v : LeafValue) → held kind false f v ≡ true → (w : List ℕ) × (v ≡ content_value kind w) × (f w ≡ true)
held_true (octet_string size) f (leaf_kind.octets w) h = (w, refl, h)
held_true object_id f (leaf_kind.oid w) h = (w, refl, h)
held_true (restricted_string letters size) f (leaf_kind.text w) h = (w, refl, h)
held_true (utf8_string size) f (leaf_kind.text w) h = (w, refl, h)
held_true kind f v h = absurd (cc)

one_content : (kind : ContentType) (w x : List ℕ) → leaf_value (content_value kind w) ≡ leaf_value (content_value kind x) → w ≡ x
one_content (octet_string size) w x e = cc
one_content object_id w x e = cc
one_content (restricted_string letters size) w x e = cc
one_content (utf8_string size) w x e = cc

pub content_payload : (kind : ContentType) (w : List ℕ) → payload (leaf_value (content_value kind w)) ≡ length w
content_payload (octet_string size) w = refl
content_payload object_id w = refl
content_payload (restricted_string letters size) w = refl
content_payload (utf8_string size) w = refl

-- the test
pub content_sound : (kind : ContentType) (w : List ℕ) → content_fits kind w ≡ true → FitsContent kind w
content_sound (octet_string s) w h = let k = both (all_below 256 w) (size_fits s (length w)) h in (below_octets w k.0, k.1)
content_sound object_id w h = arcs_sound w h
content_sound (restricted_string letters s) w h =
    let k = both (all_below 256 w) (all_characters letters w && size_fits s (length w)) h in
    let l = both (all_characters letters w) (size_fits s (length w)) k.1 in
    (below_octets w k.0, l.0, l.1)
content_sound (utf8_string s) w h =
    let k = both (all_below 256 w) (is_utf8 w && size_fits s (length (chars w))) h in
    let l = both (is_utf8 w) (size_fits s (length (chars w))) k.1 in
    (below_octets w k.0, l.0, l.1)

pub content_complete : (kind : ContentType) (w : List ℕ) → FitsContent kind w → content_fits kind w ≡ true
content_complete (octet_string s) w (o, h) = and_true (all_below 256 w) (size_fits s (length w)) (octets_below w o) h
content_complete object_id w h = arcs_complete w h
content_complete (restricted_string letters s) w (o, h, k) =
    and_true (all_below 256 w) (all_characters letters w && size_fits s (length w)) (octets_below w o) (and_true (all_characters letters w) (size_fits s (length w)) h k)
content_complete (utf8_string s) w (o, h, k) =
    and_true (all_below 256 w) (is_utf8 w && size_fits s (length (chars w))) (octets_below w o) (and_true (is_utf8 w) (size_fits s (length (chars w))) h k)

-- what is held has one contents, which are octets
pub content_only : (kind : ContentType) (w c : List ℕ) → IsContent kind w c → c ≡ content_octets kind w
content_only (octet_string size) w c h = h.0
content_only object_id w c h = oid_only w c h
content_only (restricted_string letters size) w c h = h.0
content_only (utf8_string size) w c h = h.0

content_exists : (kind : ContentType) (w : List ℕ) → FitsContent kind w → IsContent kind w (content_octets kind w)
content_exists (octet_string size) w f = (refl, f.1)
content_exists object_id w f = oid_exists w f
content_exists (restricted_string letters size) w f = (refl, f.1, f.2)
content_exists (utf8_string size) w f = (refl, f.1, f.2)

content_are_octets : (kind : ContentType) (w : List ℕ) → FitsContent kind w → IsOctets (content_octets kind w)
content_are_octets (octet_string size) w f = f.0
content_are_octets object_id w f = oid_octets w f
content_are_octets (restricted_string letters size) w f = f.0
content_are_octets (utf8_string size) w f = f.0

all_under : (xs : List ℕ) (b : List ℕ) → IsJoined IsSubidentifier xs b → AllBelow 340282366920938463463374607431768211456 xs
all_under [] b e = tt
all_under (x ∷ xs) b (b1, b2, e, s, r) = (s.1, all_under xs b2 r)

-- what contents stand for fits
content_fit : (kind : ContentType) (w c : List ℕ) → IsOctets c → IsContent kind w c → FitsContent kind w
content_fit (octet_string size) w c o (is, t) = (subst IsOctets is o, ap (λ v. size_fits size (length v)) (sym is) ∙ t)
content_fit object_id w c o (x, y, rest, f, low, under, (b1, b2, g, s, r)) = (x, y, rest, f, low, under, s.1, all_under rest b2 r)
content_fit (restricted_string letters size) w c o (is, t, u) =
    (subst IsOctets is o, ap (all_characters letters) (sym is) ∙ t, ap (λ v. size_fits size (length v)) (sym is) ∙ u)
content_fit (utf8_string size) w c o (is, t, u) = (subst IsOctets is o, ap is_utf8 (sym is) ∙ t, ap (λ v. size_fits size (length (chars v))) (sym is) ∙ u)

sub_some : (n : ℕ) (w : List ℕ) → IsSubidentifier n w → 1 ≤ length w
sub_some n [] s = absurd s.0
sub_some n (x ∷ w) s = omega arith

sized_long : (fix : Option ℕ) (S : List ℕ → List ℕ → Type 0) → ((w c : List ℕ) → S w c → length w ≤ length c) → (w b : List ℕ) → Sized fix S w b → length w ≤ length b
sized_long (Some n) S f w b s = f w b s
sized_long None S f w b (l, c, e, len, s) = omega (arith, ap length e, length-append l c, f w c s)

-- the contents of an OBJECT IDENTIFIER may have an octet less than it has arcs
pub content_long : (kind : ContentType) (w b : List ℕ) → SpellsContent kind w b → length w ≤ length b
content_long (octet_string size) w b s = sized_long (fixed size) (IsContent (octet_string size)) (λ w c h. omega (arith, ap length h.0)) w b s
content_long object_id w b (l, c, e, len, (x, y, rest, is, low, under, s)) = omega (arith, ap length e, length-append l c, len_some (length c) l len, ap length is, every_long IsSubidentifier sub_some ((40 * x + y) ∷ rest) c s)
content_long (restricted_string letters size) w b s = sized_long (fixed size) (IsContent (restricted_string letters size)) (λ w c h. omega (arith, ap length h.0)) w b s
content_long (utf8_string size) w b s = sized_long None (IsContent (utf8_string size)) (λ w c h. omega (arith, ap length h.0)) w b s

-- contents without a length
pub content_fixed : (kind : ContentType) (n : ℕ) (w c : List ℕ) → fixed_content kind ≡ Some n → IsContent kind w c → length c ≡ n
content_fixed (octet_string size) n w c e h = fixed_is size.low size.high n (length c) e h.1
content_fixed object_id n w c e h = absurd (cc)
content_fixed (restricted_string letters size) n w c e h = fixed_is size.low size.high n (length c) e h.2
content_fixed (utf8_string size) n w c e h = absurd (cc)

pub may_be_nothing : (kind : ContentType) → leaf_may_be_empty (leaf_type.content kind) ≡ false → is_zero (fixed_content kind) ≡ false
may_be_nothing (octet_string size) e = e
may_be_nothing object_id e = refl
may_be_nothing (restricted_string letters size) e = e
may_be_nothing (utf8_string size) e = refl

-- what is read
pub with_test : (test : List ℕ → Bool) (fix : Option ℕ) (z : Size) (w b : List ℕ) → Sized fix (OfSize z) w b × (test w ≡ true) → Sized fix (λ w c. (c ≡ w) × (test c ≡ true) × (size_fits z (length c) ≡ true)) w b
with_test test (Some n) z w b ((is, s), t) = (is, ap test is ∙ t, s)
with_test test None z w b ((l, c, e, len, (is, s)), t) = (l, c, e, len, (is, ap test is ∙ t, s))

pub without_test : (test : List ℕ → Bool) (fix : Option ℕ) (z : Size) (w b : List ℕ) → Sized fix (λ w c. (c ≡ w) × (test c ≡ true) × (size_fits z (length c) ≡ true)) w b → Sized fix (OfSize z) w b × (test w ≡ true)
without_test test (Some n) z w b (is, t, s) = ((is, s), ap test (sym is) ∙ t)
without_test test None z w b (l, c, e, len, (is, t, s)) = ((l, c, e, len, (is, s)), ap test (sym is) ∙ t)

pub with_characters : (z : Size) (w b : List ℕ) → (is_utf8 w ≡ true) × (size_fits z (length (chars w)) ≡ true) × IsCounted IsItself w b → SpellsContent (utf8_string z) w b
with_characters z w b (t, u, (l, c, e, len, is)) = (l, c, e, len, (is, ap is_utf8 is ∙ t, ap (λ v. size_fits z (length (chars v))) is ∙ u))

pub without_characters : (z : Size) (w b : List ℕ) → SpellsContent (utf8_string z) w b → (is_utf8 w ≡ true) × (size_fits z (length (chars w)) ≡ true) × IsCounted IsItself w b
without_characters z w b (l, c, e, len, (is, t, u)) = (ap is_utf8 (sym is) ∙ t, ap (λ v. size_fits z (length (chars v))) (sym is) ∙ u, (l, c, e, len, is))

pub content_lawful : (kind : ContentType) → KeepsLimits (leaf (leaf_type.content kind)) → Lawful (read_content kind) (SpellsContent kind)
content_lawful (octet_string s) small = octets_lawful (fixed s) s refl small
content_lawful object_id small = object_identifier_lawful
content_lawful (restricted_string letters s) small = same_spellings (text_lawful (all_characters letters) (fixed s) s refl small)
    (with_test (all_characters letters) (fixed s) s) (without_test (all_characters letters) (fixed s) s)
content_lawful (utf8_string s) small = same_spellings (utf8_lawful s) (with_characters s) (without_characters s)

-- of all kinds alike
pub sized_fit : (fix : Option ℕ) (kind : ContentType) (w b : List ℕ) → IsOctets b → Sized fix (IsContent kind) w b → FitsContent kind w
sized_fit (Some n) kind w b o s = content_fit kind w b o s
sized_fit None kind w b o (l, c, e, len, s) = content_fit kind w c (octets_split l c (subst IsOctets e o)).1 s

module _ (S : List ℕ → List ℕ → Type 0) (w d : List ℕ) (only : (c : List ℕ) → S w c → c ≡ d) where
  sized_only : (fix : Option ℕ) (b : List ℕ) → IsShortest (Sized fix S w) b → b ≡ string_octets fix d
  sized_only (Some n) b (o, s, least) = only b s
  sized_only None b h = word_only S w d only b h

  sized_exists : (fix : Option ℕ) → IsOctets d → S w d → octets_needed (length d) ≤ 127 → IsShortest (Sized fix S w) (string_octets fix d)
  sized_exists (Some n) o s few = (o, s, λ c oc sc. omega (arith, ap length (only c sc)))
  sized_exists None o s few = word_exists S w d only o s few

pub content_plain : (kind : ContentType) (v : AsnValue) (b : List ℕ) → IsStrictLeafSpelling (leaf_type.content kind) v b → b ≡ leaf_octets (leaf_type.content kind) v
content_plain kind v b (o, (w, is, s), least) =
    sized_only (IsContent kind) w (content_octets kind w) (content_only kind w) (fixed_content kind) b (o, s, λ d od sd. least d od (w, is, sd))
    ∙ sym (ap (leaf_octets (leaf_type.content kind)) is ∙ holds kind [] (λ w. string_octets (fixed_content kind) (content_octets kind w)) w)

pub content_strict : (kind : ContentType) (w : List ℕ) → FitsContent kind w → octets_needed (length (content_octets kind w)) ≤ 127 → IsStrictLeafSpelling (leaf_type.content kind) (leaf_value (content_value kind w)) (string_octets (fixed_content kind) (content_octets kind w))
content_strict kind w f few =
    go (sized_exists (IsContent kind) w (content_octets kind w) (content_only kind w) (fixed_content kind) (content_are_octets kind w f) (content_exists kind w f) few)
  where
    go : IsShortest (SpellsContent kind w) (string_octets (fixed_content kind) (content_octets kind w)) → IsStrictLeafSpelling (leaf_type.content kind) (leaf_value (content_value kind w)) (string_octets (fixed_content kind) (content_octets kind w))
    go (o, s, least) = (o, (w, refl, s), λ d od (x, is, t). least d od (subst (λ x. SpellsContent kind x d) (sym (one_content kind w x is)) t))
