-- Tokens spell one type that holds no other, and one value of a type.
use Rattle.std.proofs.Common.{◌≡◌, ℕ, List, [], ◌∷◌, ◌++◌, map, Bool, true, false, Option, Some, ℤ, refl, sym, ap, ap₂, subst, ◌∙◌}
use Rattle.std.specs.Int.{Width}
use Rattle.hex.specs.Hex.{hex_digit_value}
use Rattle.oer_lexer.specs.Token.{Token, word, number, bits, digits, text, sign}
use Rattle.oer_lexer.specs.declared.token.Sign.TheVariants.{CloseBrace, CloseParenthesis, CloseBracket, Comma}
use Rattle.oer_literals.specs.Bits.{is_one}
use Rattle.oer_model.specs.AsnType.{AsnType, NamedNumber}
use Rattle.oer_model.specs.AsnValue.{AsnValue, int, enum, octets, bit_list, oid, text as string}
use Rattle.oer_model.specs.Bits.{bit}
use Rattle.oer_model.specs.LeafType.{LeafType}
use Rattle.oer_model.specs.declared.size.Size.{Size}
use Rattle.oer_units.specs.declared.tagging.Tag.{Tag}
use Rattle.oer_notation.specs.Grammar.{IsInteger, an_integer, IsNatural, a_natural, IsBound, no_bound, a_bound, AreBounds, no_bounds, one_number, range, IsSizeEnd, no_end, an_end, IsSize, one_size, sizes, IsBracketedSize, any_size, bracketed, IsItemNumber, own_number, number_by_place, AreItems, no_items, item, items_marker, IsClass, universal, application, private, context, IsTag, own_tag, tag_by_place, IsItemNamed, this_item, later_item, AreOctets, no_octets, an_octet, AreBits, no_bits, four_bits, between_quotes, text_of, AreArcs, no_arcs, an_arc, IsValue, true_value, false_value, null_value, number_value, item_value, octets_value, digit_bits_value, bits_value, text_value, utf8_value, arcs_value, IsDefined, this_definition, later_definition, IsLeaf, nothing_behind, bounds_behind, items_behind, size_behind}
use Rattle.oer_notation.specs.Reading.{Known}
use Rattle.oer_value_notation.specs.Leaves.{LeafForm}

-- ---- lists with the same last token

some_last : {A : Type 0} (a : List A) (x : A) → a ++ x ∷ [] ≡ [] → ⊥
some_last [] x h = absurd (cc)
some_last (y ∷ a) x h = absurd (cc)

pub same_front : {A : Type 0} (a b : List A) (x : A) → a ++ x ∷ [] ≡ b ++ x ∷ [] → a ≡ b
same_front [] [] x h = refl
same_front [] (y ∷ b) x h = absurd (let rest : b ++ x ∷ [] ≡ [] = cc in some_last b x rest)
same_front (y ∷ a) [] x h = absurd (let rest : a ++ x ∷ [] ≡ [] = cc in some_last a x rest)
same_front (y ∷ a) (z ∷ b) x h =
    let first : y ≡ z = cc in
    let rest : a ++ x ∷ [] ≡ b ++ x ∷ [] = cc in
    ap₂ (λ y a. y ∷ a) first (same_front a b x rest)

-- ---- numbers, bounds and sizes

one_integer : {width wider : Width} {z y : ℤ} {t : Token} → IsInteger width z t → IsInteger wider y t → z ≡ y
one_integer (an_integer n e f) (an_integer m d g) = sym e ∙ d

one_natural : {limit higher m n : ℕ} {t : Token} → IsNatural limit m t → IsNatural higher n t → m ≡ n
one_natural (a_natural n e l) (a_natural m d k) = sym e ∙ d

integer_at : {width wider : Width} {z y : ℤ} {s t : Token} → s ≡ t → IsInteger width z s → IsInteger wider y t → z ≡ y
integer_at {wider = wider} {y = y} e n m = one_integer n (subst (λ t. IsInteger wider y t) (sym e) m)

natural_at : {limit higher m n : ℕ} {s t : Token} → s ≡ t → IsNatural limit m s → IsNatural higher n t → m ≡ n
natural_at {higher = higher} {n = n} e k l = one_natural k (subst (λ t. IsNatural higher n t) (sym e) l)

one_bound : {unbounded : List ℕ} {o p : Option ℤ} {s t : Token} → s ≡ t → IsBound unbounded o s → IsBound unbounded p t → o ≡ p
one_bound e no_bound no_bound = refl
one_bound e no_bound (a_bound (an_integer n d f)) = absurd (cc)
one_bound e (a_bound (an_integer n d f)) no_bound = absurd (cc)
one_bound e (a_bound n) (a_bound m) = ap Some (integer_at e n m)

one_bounds : {low high low2 high2 : Option ℤ} {ts : List Token} → AreBounds low high ts → AreBounds low2 high2 ts → (low ≡ low2) × (high ≡ high2)
one_bounds no_bounds no_bounds = (refl, refl)
one_bounds (one_number n) (one_number m) = (ap Some (one_integer n m), ap Some (one_integer n m))
one_bounds (range b c) (range d e) = (one_bound refl b d, one_bound refl c e)

bounds_at : {low high low2 high2 : Option ℤ} {ts us : List Token} → ts ≡ us → AreBounds low high ts → AreBounds low2 high2 us → (low ≡ low2) × (high ≡ high2)
bounds_at {low2 = low2} {high2 = high2} e b c = one_bounds b (subst (λ ts. AreBounds low2 high2 ts) (sym e) c)

one_size_end : {o p : Option ℕ} {t : Token} → IsSizeEnd o t → IsSizeEnd p t → o ≡ p
one_size_end no_end no_end = refl
one_size_end no_end (an_end n) = elim n [ ]
one_size_end (an_end n) no_end = elim n [ ]
one_size_end (an_end n) (an_end m) = ap Some (one_natural n m)

abbrev size_from : ℕ → Option ℕ → Size
size_from low high = record { low = low; high = high }

pub one_size_said : {size other : Size} {ts : List Token} → IsSize size ts → IsSize other ts → size ≡ other
one_size_said (one_size n) (one_size m) = ap (λ n. size_from n (Some n)) (one_natural n m)
one_size_said (sizes n e) (sizes m f) = ap₂ size_from (one_natural n m) (one_size_end e f)

pub size_said_at : {size other : Size} {ts us : List Token} → ts ≡ us → IsSize size ts → IsSize other us → size ≡ other
size_said_at {other = other} e s z = one_size_said s (subst (λ ts. IsSize other ts) (sym e) z)

pub one_bracketed : {size other : Size} {ts us : List Token} → IsBracketedSize size ts → IsBracketedSize other us → ts ≡ us → size ≡ other
one_bracketed any_size any_size e = refl
one_bracketed any_size (bracketed s) e = absurd (cc)
one_bracketed (bracketed s) any_size e = absurd (cc)
one_bracketed (bracketed {ts} s) (bracketed {ts = us} z) e =
    let rest : ts ++ sign CloseParenthesis ∷ [] ≡ us ++ sign CloseParenthesis ∷ [] = cc in
    size_said_at (same_front ts us (sign CloseParenthesis) rest) s z

-- ---- items

-- A number and the items behind it are told apart.
numbered_apart : {numbered other both mode marker2 : Bool} {place place2 place3 : ℕ} {z y : ℤ} {items items2 : List NamedNumber} {marker : Bool} {ts us vs ws : List Token}
    → IsItemNumber numbered place z ts → IsItemNumber other place y vs → AreItems both place2 items marker us → AreItems mode place3 items2 marker2 ws
    → ts ++ us ≡ vs ++ ws → (z ≡ y) × (us ≡ ws)
numbered_apart (own_number {t} n) (own_number {t = u} m) i j e = let same : t ≡ u = cc in (integer_at same n m, cc)
numbered_apart (own_number n) number_by_place i no_items e = absurd (cc)
numbered_apart (own_number n) number_by_place i (item _ _ _) e = absurd (cc)
numbered_apart (own_number n) number_by_place i (items_marker _) e = absurd (cc)
numbered_apart number_by_place (own_number m) no_items j e = absurd (cc)
numbered_apart number_by_place (own_number m) (item _ _ _) j e = absurd (cc)
numbered_apart number_by_place (own_number m) (items_marker _) j e = absurd (cc)
numbered_apart number_by_place number_by_place i j e = (refl, e)

abbrev named_number : List ℕ → ℤ → List NamedNumber → List NamedNumber
named_number w z items = record { name = w; number = z } ∷ items

named_same : {w v : List ℕ} {z y : ℤ} {items items2 : List NamedNumber} → w ≡ v → z ≡ y → items ≡ items2 → named_number w z items ≡ named_number v y items2
named_same {v = v} {y = y} {items = items} a b c = ap₂ (λ w z. named_number w z items) a b ∙ ap (λ items. named_number v y items) c

one_items : {numbered other : Bool} {place : ℕ} {items items2 : List NamedNumber} {marker marker2 : Bool} {ts us : List Token}
    → AreItems numbered place items marker ts → AreItems other place items2 marker2 us → ts ≡ us → (items ≡ items2) × (marker ≡ marker2)
one_items no_items no_items e = (refl, refl)
one_items no_items (item _ _ _) e = absurd (cc)
one_items no_items (items_marker _) e = absurd (cc)
one_items (item _ _ _) no_items e = absurd (cc)
one_items (item _ _ _) (items_marker _) e = absurd (cc)
one_items (items_marker _) no_items e = absurd (cc)
one_items (items_marker _) (item _ _ _) e = absurd (cc)
one_items (items_marker {us} m) (items_marker {us = vs} k) e = let rest : us ≡ vs = cc in ((one_items m k rest).0, refl)
one_items (item {w} {z} {ts} {us} i n m) (item {w = v} {z = y} {ts = vs} {us = ws} j o k) e =
    let called : w ≡ v = cc in
    let rest : ts ++ us ≡ vs ++ ws = cc in
    let p = numbered_apart n o m k rest in
    let q = one_items m k p.1 in
    (named_same called p.0 q.0, q.1)

-- ---- leaves, tags and Names

word_of : Token → Bool
word_of (word w) = true
word_of (number w) = false
word_of (bits w) = false
word_of (digits w) = false
word_of (text w) = false
word_of (sign s) = false

pub one_leaf : {f : LeafForm} {L M : LeafType} {ts us : List Token} → IsLeaf f L ts → IsLeaf f M us → ts ≡ us → L ≡ M
one_leaf nothing_behind nothing_behind e = refl
one_leaf (bounds_behind {make} b) (bounds_behind c) e = let p = bounds_at e b c in ap₂ make p.0 p.1
one_leaf (items_behind {make} {w} {ts} i) (items_behind {w = v} {ts = us} j) e =
    let called : w ≡ v = cc in
    let rest : ts ++ sign CloseBrace ∷ [] ≡ us ++ sign CloseBrace ∷ [] = cc in
    let p = one_items i j (ap₂ (λ w ts. sign Comma ∷ word w ∷ ts) called (same_front ts us (sign CloseBrace) rest)) in
    ap₂ make p.0 p.1
one_leaf (size_behind {make} s) (size_behind z) e = ap make (one_bracketed s z e)

one_class : {c d : _} {ts us : List Token} {t u : Token} → IsClass c ts → IsClass d us → (word_of t ≡ false) → (word_of u ≡ false)
    → ts ++ t ∷ sign CloseBracket ∷ [] ≡ us ++ u ∷ sign CloseBracket ∷ [] → (c ≡ d) × (t ≡ u)
one_class universal universal a b e = (refl, cc)
one_class universal application a b e = absurd (cc)
one_class universal private a b e = absurd (cc)
one_class universal context a b e = absurd (cc)
one_class application universal a b e = absurd (cc)
one_class application application a b e = (refl, cc)
one_class application private a b e = absurd (cc)
one_class application context a b e = absurd (cc)
one_class private universal a b e = absurd (cc)
one_class private application a b e = absurd (cc)
one_class private private a b e = (refl, cc)
one_class private context a b e = absurd (cc)
one_class context universal a b e = absurd (cc)
one_class context application a b e = absurd (cc)
one_class context private a b e = absurd (cc)
one_class context context a b e = (refl, cc)

number_no_word : {limit n : ℕ} {t : Token} → IsNatural limit n t → word_of t ≡ false
unfolding word_of
number_no_word (a_natural n e l) = refl

pub one_tag : {by_tag : Bool} {place : ℕ} {t u : Tag} {ts us : List Token} → IsTag by_tag place t ts → IsTag by_tag place u us → ts ≡ us → t ≡ u
one_tag (own_tag {ts} {t} c n) (own_tag {ts = us} {t = u} d m) e =
    let rest : ts ++ t ∷ sign CloseBracket ∷ [] ≡ us ++ u ∷ sign CloseBracket ∷ [] = cc in
    let p = one_class c d (number_no_word n) (number_no_word m) rest in
    ap₂ (λ c n. record { class = c; number = n }) p.0 (natural_at p.1 n m)
one_tag tag_by_place tag_by_place e = refl

pub one_defined : {w : List ℕ} {T U : AsnType} {ks : List Known} → IsDefined w T ks → IsDefined w U ks → T ≡ U
one_defined (this_definition e) (this_definition d) = refl
one_defined (this_definition e) (later_definition n d) = absurd (n e)
one_defined (later_definition n d) (this_definition e) = absurd (n e)
one_defined (later_definition n d) (later_definition m e) = one_defined d e

-- ---- values

one_named : {w : List ℕ} {z y : ℤ} {items : List NamedNumber} → IsItemNamed w z items → IsItemNamed w y items → z ≡ y
one_named (this_item e) (this_item d) = refl
one_named (this_item e) (later_item n d) = absurd (n e)
one_named (later_item n d) (this_item e) = absurd (n e)
one_named (later_item n d) (later_item m e) = one_named d e

named_at : {w x : List ℕ} {z y : ℤ} {items : List NamedNumber} → w ≡ x → IsItemNamed w z items → IsItemNamed x y items → z ≡ y
named_at {y = y} {items = items} e n m = one_named n (subst (λ w. IsItemNamed w y items) (sym e) m)

one_digit : (c : ℕ) (m n : ℕ) → hex_digit_value c ≡ Some m → hex_digit_value c ≡ Some n → m ≡ n
one_digit c m n e d = cc

one_octets : {cs xs ys : List ℕ} → AreOctets cs xs → AreOctets cs ys → xs ≡ ys
one_octets no_octets no_octets = refl
one_octets (an_octet {c} {d} {high} {low} h l m) (an_octet {high = high2} {low = low2} i k n) =
    let p = one_digit c high high2 h i in
    let q = one_digit d low low2 l k in
    let r = one_octets m n in
    cc

one_bits : {cs : List ℕ} {s r : List Bool} → AreBits cs s → AreBits cs r → s ≡ r
one_bits no_bits no_bits = refl
one_bits (four_bits {c} {n} h m) (four_bits {n = o} i k) =
    let p = one_digit c n o h i in
    ap₂ (λ n s. bit n 3 ∷ bit n 2 ∷ bit n 1 ∷ bit n 0 ∷ s) p (one_bits m k)

one_arcs : {arcs more : List ℕ} {ts : List Token} → AreArcs arcs ts → AreArcs more ts → arcs ≡ more
one_arcs no_arcs no_arcs = refl
one_arcs (an_arc n m) (an_arc o k) = ap₂ (λ n arcs. n ∷ arcs) (one_natural n o) (one_arcs m k)

octets_at : {cs ds xs ys : List ℕ} → cs ≡ ds → AreOctets cs xs → AreOctets ds ys → xs ≡ ys
octets_at {ys = ys} e o p = one_octets o (subst (λ cs. AreOctets cs ys) (sym e) p)

bits_at : {cs ds : List ℕ} {s r : List Bool} → cs ≡ ds → AreBits cs s → AreBits ds r → s ≡ r
bits_at {r = r} e b c = one_bits b (subst (λ cs. AreBits cs r) (sym e) c)

arcs_at : {arcs more : List ℕ} {ts us : List Token} → ts ≡ us → AreArcs arcs ts → AreArcs more us → arcs ≡ more
arcs_at {more = more} e a b = one_arcs a (subst (λ ts. AreArcs more ts) (sym e) b)

pub one_value : {T : AsnType} {v u : AsnValue} {ts us : List Token} → IsValue T v ts → IsValue T u us → ts ≡ us → v ≡ u
one_value true_value true_value e = refl
one_value true_value false_value e = absurd (cc)
one_value false_value true_value e = absurd (cc)
one_value false_value false_value e = refl
one_value null_value null_value e = refl
one_value (number_value {t} n) (number_value {t = u} m) e = let same : t ≡ u = cc in ap int (integer_at same n m)
one_value (item_value {w} i n) (item_value {w = x} j m) e = let same : w ≡ x = cc in ap enum (named_at same n m)
one_value (octets_value {w} o) (octets_value {w = x} p) e =
    let same : w ≡ x = cc in ap octets (octets_at (ap (λ w. between_quotes w) same) o p)
one_value (digit_bits_value {w} b) (digit_bits_value {w = x} c) e =
    let same : w ≡ x = cc in ap bit_list (bits_at (ap (λ w. between_quotes w) same) b c)
one_value (digit_bits_value b) bits_value e = absurd (cc)
one_value bits_value (digit_bits_value b) e = absurd (cc)
one_value (bits_value {w}) (bits_value {w = x}) e = let same : w ≡ x = cc in ap (λ w. bit_list (map is_one (between_quotes w))) same
one_value (text_value {w}) (text_value {w = x}) e = let same : w ≡ x = cc in ap (λ w. string (text_of w)) same
one_value (utf8_value {w}) (utf8_value {w = x}) e = let same : w ≡ x = cc in ap (λ w. string (text_of w)) same
one_value (arcs_value {ts} a) (arcs_value {ts = us} b) e =
    let rest : ts ++ sign CloseBrace ∷ [] ≡ us ++ sign CloseBrace ∷ [] = cc in
    ap oid (arcs_at (same_front ts us (sign CloseBrace) rest) a b)
