-- Values that are one token, and arcs: what is found of them is what they are in the notation, or there is a limit.
use Rattle.std.proofs.Common.{◌≡◌, ◌≤◌, ◌<◌, ◌-◌, ◌^◌, ℕ, zero, suc, List, [], ◌∷◌, length, take, map, Bool, true, false, cond, leb, Option, Some, None, Ok, ℤ, refl, ap, ◌∙◌, arith}
use Rattle.std.specs.Prelude.{FitsSigned, codes, drop, nat_lt}
use Rattle.std.proofs.lemmas.Bool.{le-leb, ltb-true}
use Rattle.std.specs.Int.{w128}
use Rattle.oer_literals.specs.Bits.{is_one}
use Rattle.oer_literals.specs.Numbers.{arc_of}
use Rattle.oer_model.specs.Constraints.{size_fits}
use Rattle.oer_model.specs.AsnValue.{AsnValue, bit_list, int, octets, oid, text as string}
use Rattle.oer_module_defaults.specs.Arcs.{arc_at, arcs, some_arcs}
use Rattle.oer_module_defaults.specs.Atoms.{bit_token_at, digits_at, has_below, line_at, no_text, octet_string_at}
use Rattle.oer_module_defaults.specs.Leaves.{integer_at}
use Rattle.oer_module_lexer.specs.Token.{Spot}
use Rattle.oer_module_names.specs.declared.error.Place.{Place}
use Rattle.oer_module_syntax.specs.Tree.{Module}
use Rattle.oer_module_terms.specs.Trees.{Value, amount, atom, bits, braces, digits, member, no_members, number, parts_from}
use Rattle.oer_module_text.specs.Errors.{Read, ◌>>=◌}
use Rattle.oer_module_text.specs.Room.{Room, put, put_number}
use Rattle.oer_module_values.specs.Digits.{IsWritten, whole_of}
use Rattle.oer_module_values.specs.Errors as told
use Rattle.oer_module_values.specs.Numbers.{count, fitting, governor, number_at, numeral, step}
use Rattle.oer_module_values.specs.Types.{TypeIn}
use Rattle.oer_notation.specs.Grammar.{AreBits, no_bits, four_bits, AreOctets, between_quotes, text_of}
use Rattle.oer_notation.proofs.Digits.{digit_bits_sound, text_in_is}
use Rattle.oer_notation.proofs.DigitsGiven.{bits_count, digit_bits_given, octets_in_given}
use Rattle.oer_value_notation.specs.Values.{digit_bits, text_in}
use Rattle.oer_same_defaults.proofs.Tokens.{SayArcs, say_none, say_arc}
use Rattle.oer_same_defaults.specs.Tame.{AllFrom}
use Rattle.oer_same_items.proofs.Telling.{Gives, unless}
use Rattle.oer_same_items.proofs.Whole.{whole_found}

-- what is found is this value, if there is no limit
abbrev pub Finds : Bool → Read (AsnValue × Room) → AsnValue → Type 0
Finds o found v = Gives o (λ x. x.0 ≡ v) found

-- ---- digits and bits

pub finds_octets : (o : Bool) (p : Place) (w xs : List ℕ) (r : Room) → AreOctets (between_quotes w) xs → Finds o (octet_string_at p (Some (digits w)) r) (octets xs)
finds_octets o p w xs r a = rw (octets_in_given a) (record { given = refl })

bits_once : {w : List ℕ} {s t : List Bool} → AreBits w s → AreBits w t → s ≡ t
bits_once no_bits no_bits = refl
bits_once (four_bits {n = m} e a) (four_bits {n} f b) =
    let same : m ≡ n = cc in
    rw (same, bits_once a b) refl

bits_found : (o : Bool) (p : Place) (w : List ℕ) (bs : List Bool) (r : Room) (n : Option (List Bool)) → ((cs : List Bool) → n ≡ Some cs → cs ≡ bs)
    → (o ≡ true → n ≡ Some bs) → Finds o (digits_at bit_list p w n r) (bit_list bs)
bits_found o p w bs r None same there = record { given = unless o (λ on. let e = there on in absurd (cc)) }
bits_found o p w bs r (Some cs) same there = record { given = ap bit_list (same cs refl) }

take_short : (n : ℕ) (w : List ℕ) → length (take n w) ≤ n
take_short zero [] = omega arith
take_short zero (c ∷ cs) = omega arith
take_short (suc n) [] = omega arith
take_short (suc n) (c ∷ cs) = let short = take_short n cs in omega (arith, short)

-- so few digits are read
few_bits : (w : List ℕ) (bs : List Bool) → AreBits (between_quotes w) bs → length w < 2 ^ 62 → digit_bits (between_quotes w) ≡ Some bs
few_bits w bs a few =
    let short = take_short (length w - 3) (drop 1 w) in
    let count = bits_count a in
    let most : leb (length bs) 18446744073709551615 ≡ true = le-leb (length bs) 18446744073709551615 (omega (arith, short, count, few)) in
    let least : leb 0 (length bs) ≡ true = le-leb 0 (length bs) (omega arith) in
    let fits : size_fits (record { low = 0; high = None }) (length bs) ≡ true = rw (least, most) refl in
    digit_bits_given (record { low = 0; high = None }) (between_quotes w) bs a (λ misfit. misfit (bs, refl, fits))

pub finds_digit_bits : (o : Bool) (p : Place) (w : List ℕ) (bs : List Bool) (r : Room) → AreBits (between_quotes w) bs → (o ≡ true → length w < 2 ^ 62)
    → Finds o (bit_token_at p (Some (digits w)) r) (bit_list bs)
finds_digit_bits o p w bs r a few =
    bits_found o p w bs r (digit_bits (between_quotes w)) (λ cs h. bits_once (digit_bits_sound (between_quotes w) cs h) a) (λ on. few_bits w bs a (few on))

-- no octet is below the least
none_below : (least : ℕ) (w : List ℕ) → AllFrom least w → has_below least w ≡ false
none_below least [] h = refl
none_below least (c ∷ cs) h = rw (not_less (nat_lt c least) refl, none_below least cs h.1) refl
  where
    not_less : (b : Bool) → nat_lt c least ≡ b → b ≡ false
    not_less true e = let less = ltb-true c least e in let from = h.0 in absurd (omega (arith, less, from))
    not_less false e = refl

-- the value, unless its text is refused
or_no_text : (o b : Bool) (p : Place) (x : AsnValue × Room) (v : AsnValue) → x.0 ≡ v → (o ≡ true → b ≡ false) → Finds o (cond b (no_text p) (Ok x)) v
or_no_text o true p x v e h = record { given = unless o (λ on. let f = h on in absurd (cc)) }
or_no_text o false p x v e h = record { given = e }

pub finds_bits : (o : Bool) (p : Place) (w : List ℕ) (r : Room) → (o ≡ true → AllFrom 33 w)
    → Finds o (bit_token_at p (Some (bits w)) r) (bit_list (map is_one (between_quotes w)))
finds_bits o p w r h = or_no_text o (has_below 33 w) p (bit_list (map is_one (between_quotes w)), put w r) _ refl (λ on. none_below 33 w (h on))

-- ---- texts

pub finds_text : (o : Bool) (p : Place) (w : List ℕ) (r : Room) → (o ≡ true → AllFrom 32 w) → Finds o (line_at p w r) (string (text_of w))
finds_text o p w r h = or_no_text o (has_below 32 w) p (string (text_in w), put w r) _ (ap string (text_in_is w)) (λ on. none_below 32 w (h on))

-- ---- whole numbers

-- the digits of an INTEGER
digits_counted : (ms : List Module) (t : TypeIn) (items : List Spot) (p : Place) (negative : Bool) (w : List ℕ)
    → governor ms t ≡ Ok (record { «module» = 0; enumerated = false; items = items })
    → number_at ms t p (number negative w) ≡ fitting p (whole_of negative w)
unfolding number_at count numeral step
digits_counted ms t items p negative w h =
    ap (λ r. told.◌>>=◌ r (λ g. count ms (record { place = p; governor = g; amount = number negative w }))) h

pub number_is : (ms : List Module) (t : TypeIn) (items : List Spot) (p : Place) (negative : Bool) (w : List ℕ) (z : ℤ) (r : Room)
    → governor ms t ≡ Ok (record { «module» = 0; enumerated = false; items = items }) → IsWritten negative w z → FitsSigned w128 z
    → integer_at ms t p (Some (amount (number negative w))) r ≡ Ok (int z, put_number z r)
number_is ms t items p negative w z r h a fits = rw (digits_counted ms t items p negative w h, whole_found negative w z a fits) refl

pub finds_number : (o : Bool) (ms : List Module) (t : TypeIn) (items : List Spot) (p : Place) (negative : Bool) (w : List ℕ) (z : ℤ) (r : Room)
    → governor ms t ≡ Ok (record { «module» = 0; enumerated = false; items = items }) → IsWritten negative w z → FitsSigned w128 z
    → Finds o (integer_at ms t p (Some (amount (number negative w))) r) (int z)
finds_number o ms t items p negative w z r h a fits = rw (number_is ms t items p negative w z r h a fits) (record { given = refl })

-- ---- arcs

arc_given : (p : Place) (w : List ℕ) (n : ℕ) (at : ℕ) (r : Room) → arc_of w ≡ Some n → arc_at p (atom at (amount (number false w))) r ≡ Ok (n, put w (put (codes " ") r))
unfolding arc_at
arc_given p w n at r e = rw e refl

arcs_given : {ns : List ℕ} {vs : List Value} → SayArcs ns vs → (p : Place) (r : Room) → (s : Room) × (some_arcs p (parts_from vs) r ≡ Ok (ns, s))
arcs_given say_none p r = (r, refl)
arcs_given (say_arc {n} {arcs = ns} {vs} at w e more) p r =
    let m = arcs_given more p (put w (put (codes " ") r)) in
    (m.0, ap (λ a. a >>= λ a. some_arcs p (parts_from vs) a.1 >>= λ s. Ok (a.0 ∷ s.0, s.1)) (arc_given p w n at r e) ∙ ap (λ q. q >>= λ s. Ok (n ∷ s.0, s.1)) m.1)

pub finds_arcs : (o : Bool) (p : Place) (at a b : ℕ) (ns : List ℕ) (vs : List Value) (r : Room) → SayArcs (a ∷ b ∷ ns) vs
    → Finds o (arcs p (braces at (member (parts_from vs) no_members)) r) (oid (a ∷ b ∷ ns))
finds_arcs o p at a b ns _ r (say_arc i v d (say_arc j w e more)) =
    let m = arcs_given (say_arc i v d (say_arc j w e more)) p (put (codes "{") r) in
    rw m.1 (record { given = refl })
