-- Bit strings, preambles and bitmaps.
use Rattle.std.proofs.Common.{◌≡◌, ◌≢◌, ℕ, ◌+◌, ◌-◌, ◌*◌, Bool, true, false, ◌&&◌, leb, eqb, List, ◌∷◌, length, take, drop, Option, Some, None, refl, sym, ap, ap₂, ◌∙◌, arith, length-append, length-take, subst}
use Rattle.std.proofs.lemmas.Bool.{eq-eqb, eqb-true, le-leb}
use Rattle.oer_units.specs.declared.fault.Why.{Why}
use Rattle.oer_units.specs.declared.fault.Why.TheVariants.{BitUnused, PreamblePadding, UnknownAddition}
use Rattle.oer_units.specs.declared.fault.Why.TheVariants as reason
use Rattle.oer_units.specs.Least.{length_octets}
use Rattle.oer_units.specs.Reader.{Outcome, Place, Reader, bind, give, got, group, guard, refuse, refused}
use Rattle.oer_units.specs.Reading.{counted_length, octet}
use Rattle.oer_model.specs.Bits.{all_false, bits_of, octets_for, padded, spare_bits}
use Rattle.oer_model.specs.Canonical.{bit_octets, bitmap_octets}
use Rattle.oer_model.specs.Checking.{are_least_bits, check_bits, is_bitmap, judged}
use Rattle.oer_model.specs.Constraints.{any_size, size_fits}
use Rattle.oer_model.specs.Reading.{bitmap, preamble, read_bits}
use Rattle.oer_model.specs.declared.size.Size.{Size}
use Rattle.oer_model.proofs.bits.LeastBits.{length-padded}
use Rattle.oer_model.proofs.bits.Packing.{bits_counted}
use Rattle.oer_model.proofs.reading.Parts.{length-bits_of}
use Rattle.oer_model.specs.SharedSteps.{unused_fits}
use Rattle.oer_checker.specs.Steps.{got_both, addition_map, between, last_are_zero}
use Rattle.oer_checker.proofs.BitLists.{spare_last}
use Rattle.oer_checker.proofs.Joins.{bind_got, bind_stop, give_got, judged_got, judged_stop}
use Rattle.oer_checker.proofs.StringSteps.{group_between, group_size, with_got, with_stop}

-- ---- the least octets of so many bits

bitmap_size : (s : List Bool) (n : ℕ) → length s ≡ n → length (bitmap_octets s) ≡ length (length_octets (1 + octets_for n)) + (1 + octets_for n)
unfolding bitmap_octets
bitmap_size s n e =
    let size : length (spare_bits (length s) ∷ padded s) ≡ 1 + octets_for n = omega (arith, length-padded s ∙ ap octets_for e) in
    omega (arith, length-append (length_octets (length (spare_bits (length s) ∷ padded s))) (spare_bits (length s) ∷ padded s), ap (λ (k : ℕ). length (length_octets k)) size, size)

pub least_is : (n : ℕ) (b : List ℕ) (s : List Bool) → length s ≡ n → are_least_bits bitmap_octets s b ≡ (eqb (length b) (length (length_octets (1 + octets_for n)) + (1 + octets_for n)) && last_are_zero (spare_bits n) b)
least_is n b s e = ap₂ (λ (i j : ℕ). eqb (length b) i && last_are_zero (spare_bits j) b) (bitmap_size s n e) e

no_less : (x y : Bool) → (x ≡ true → ⊥) → x ≡ (x && y)
no_less true y none = absurd (none refl)
no_less false y none = refl

pub least_yes : (n k m z : ℕ) (b : List ℕ) (r : Bool) (s : List Bool) → length b ≡ m → m ≡ length (length_octets (1 + k)) + (1 + k) → k ≡ octets_for n → r ≡ last_are_zero z b → z ≡ spare_bits n → length s ≡ n → r ≡ are_least_bits bitmap_octets s b
least_yes n k m z b r s same size needed zeros spare e =
    let long : length b ≡ length (length_octets (1 + octets_for n)) + (1 + octets_for n) = same ∙ size ∙ ap (λ (i : ℕ). length (length_octets (1 + i)) + (1 + i)) needed in
    zeros ∙ ap (λ (j : ℕ). last_are_zero j b) spare
    ∙ ap (λ (f : Bool). f && last_are_zero (spare_bits n) b) (sym (eq-eqb (length b) (length (length_octets (1 + octets_for n)) + (1 + octets_for n)) long))
    ∙ sym (least_is n b s e)

pub least_no : (n k m : ℕ) (b : List ℕ) (s : List Bool) → (length b ≡ m → ⊥) → m ≡ length (length_octets (1 + k)) + (1 + k) → k ≡ octets_for n → length s ≡ n → eqb (length b) m ≡ are_least_bits bitmap_octets s b
least_no n k m b s other size needed e =
    let long : m ≡ length (length_octets (1 + octets_for n)) + (1 + octets_for n) = size ∙ ap (λ (i : ℕ). length (length_octets (1 + i)) + (1 + i)) needed in
    no_less (eqb (length b) m) (last_are_zero (spare_bits n) b) (λ t. other (eqb-true (length b) m t))
    ∙ ap (λ (i : ℕ). eqb (length b) i && last_are_zero (spare_bits n) b) long
    ∙ sym (least_is n b s e)

-- ---- a bit string of one size

abbrev fixed_read : ℕ → Reader (List Bool)
fixed_read n = bind (group (octets_for n)) (λ w. give (take n (bits_of w)))

fixed_least : (n : ℕ) (w : List ℕ) → length w ≡ octets_for n → are_least_bits padded (take n (bits_of w)) w ≡ last_are_zero (spare_bits n) w
fixed_least n w e =
    let s : List Bool = take n (bits_of w) in
    let size : length s ≡ n = bits_counted w n e in
    let all : eqb (length w) (length (padded s)) ≡ true = eq-eqb (length w) (length (padded s)) (e ∙ ap octets_for (sym size) ∙ sym (length-padded s)) in
    ap₂ (λ (f : Bool) (j : ℕ). f && last_are_zero (spare_bits j) w) all size

pub fixed_got : (fix : Option ℕ) (z : Size) (p q : Place) (n : ℕ) (w : List ℕ) → Some n ≡ fix → got w q ≡ group (octets_for n) p → got (last_are_zero (spare_bits n) w) q ≡ check_bits fix z p
unfolding check_bits
fixed_got fix z p q n w is e =
    let least = are_least_bits padded in
    let s : List Bool = take n (bits_of w) in
    let size : length w ≡ octets_for n = group_size (octets_for n) p q w e in
    let f : least s (between p q) ≡ last_are_zero (spare_bits n) w = ap (least s) (group_between (octets_for n) p q w e) ∙ fixed_least n w size in
    subst (λ (o : Option ℕ). got (last_are_zero (spare_bits n) w) q ≡ bind (judged (are_least_bits (bit_octets o)) (read_bits o z)) (λ y. give y.1) p) is
    (ap (λ (b : Bool). got b q) (sym f)
    ∙ bind_got (judged least (fixed_read n)) (λ y. give y.1) p q (s, least s (between p q)) (got (least s (between p q)) q)
    (judged_got least (fixed_read n) p q s (bind_got (group (octets_for n)) (λ w. give (take n (bits_of w))) p q w (got s q) e (give_got s q)))
    (give_got (least s (between p q)) q))

pub fixed_stop : (fix : Option ℕ) (z : Size) (p : Place) (n : ℕ) (why : Why) (rest : List ℕ) → Some n ≡ fix → refused why rest ≡ group (octets_for n) p → refused why rest ≡ check_bits fix z p
unfolding check_bits
fixed_stop fix z p n why rest is e =
    subst (λ (o : Option ℕ). refused why rest ≡ bind (judged (are_least_bits (bit_octets o)) (read_bits o z)) (λ y. give y.1) p) is
    (bind_stop (judged (are_least_bits padded) (fixed_read n)) (λ y. give y.1) p why rest (judged_stop (are_least_bits padded) (fixed_read n) p why rest (bind_stop (group (octets_for n)) (λ w. give (take n (bits_of w))) p why rest e)))

-- ---- a bit string after a length

pub counted_got : (fix : Option ℕ) (z : Size) (p q : Place) (s : List Bool) (f : Bool) → None ≡ fix → got s q ≡ read_bits None z p → f ≡ are_least_bits bitmap_octets s (between p q) → got f q ≡ check_bits fix z p
unfolding check_bits
counted_got fix z p q s f is e least =
    let test = are_least_bits bitmap_octets in
    subst (λ (o : Option ℕ). got f q ≡ bind (judged (are_least_bits (bit_octets o)) (read_bits o z)) (λ y. give y.1) p) is
    (ap (λ (b : Bool). got b q) least
    ∙ bind_got (judged test (read_bits None z)) (λ y. give y.1) p q (s, test s (between p q)) (got (test s (between p q)) q) (judged_got test (read_bits None z) p q s e) (give_got (test s (between p q)) q))

pub counted_stop : (fix : Option ℕ) (z : Size) (p : Place) (why : Why) (rest : List ℕ) → None ≡ fix → refused why rest ≡ read_bits None z p → refused why rest ≡ check_bits fix z p
unfolding check_bits
counted_stop fix z p why rest is e =
    subst (λ (o : Option ℕ). refused why rest ≡ bind (judged (are_least_bits (bit_octets o)) (read_bits o z)) (λ y. give y.1) p) is
    (bind_stop (judged (are_least_bits bitmap_octets) (read_bits None z)) (λ y. give y.1) p why rest (judged_stop (are_least_bits bitmap_octets) (read_bits None z) p why rest e))

-- the bits after an initial octet u, of a length of n
abbrev pub content : Size → ℕ → ℕ → Reader (List Bool)
content z n u = guard (size_fits z (8 * n - u)) reason.Size (bind (group n) (λ d. give (take (length (bits_of d) - u) (bits_of d))))

abbrev initial : Size → ℕ → ℕ → Reader (List Bool)
initial z n u = guard (unused_fits n u) BitUnused (content z (n - 1) u)

abbrev counted_bits : Size → ℕ → Reader (List Bool)
counted_bits z n = guard (leb 1 n) BitUnused (bind octet (initial z n))

pub bits_stop : (z : Size) (p : Place) (why : Why) (rest : List ℕ) → refused why rest ≡ counted_length p → refused why rest ≡ read_bits None z p
bits_stop z p why rest e = with_stop (counted_bits z) p why rest e

empty_is : (z : Size) (n : ℕ) (q : Place) → n ≡ 0 → refused BitUnused q.input ≡ counted_bits z n q
unfolding refuse
empty_is z n q is = rw is refl

pub bits_none : (z : Size) (p q : Place) (n : ℕ) → got n q ≡ counted_length p → n ≡ 0 → refused BitUnused q.input ≡ read_bits None z p
bits_none z p q n e is = with_got (counted_bits z) p q n (refused BitUnused q.input) e (empty_is z n q is)

some_is : (z : Size) (n : ℕ) (q : Place) (o : Outcome (List Bool)) → n ≢ 0 → o ≡ bind octet (initial z n) q → o ≡ counted_bits z n q
some_is z n q o some e = e ∙ ap (λ (b : Bool). guard b BitUnused (bind octet (initial z n)) q) (sym (le-leb 1 n (omega arith)))

pub bits_cut : (z : Size) (p q : Place) (n : ℕ) (why : Why) (rest : List ℕ) → got n q ≡ counted_length p → n ≢ 0 → refused why rest ≡ octet q → refused why rest ≡ read_bits None z p
bits_cut z p q n why rest e some h = with_got (counted_bits z) p q n (refused why rest) e (some_is z n q (refused why rest) some (bind_stop octet (initial z n) q why rest h))

unfit_is : (z : Size) (n u : ℕ) (q : Place) → unused_fits n u ≡ false → refused BitUnused q.input ≡ initial z n u q
unfolding refuse
unfit_is z n u q out = rw out refl

pub bits_unfit : (z : Size) (p q r : Place) (n u : ℕ) → got n q ≡ counted_length p → n ≢ 0 → got u r ≡ octet q → unused_fits n u ≡ false → refused BitUnused r.input ≡ read_bits None z p
bits_unfit z p q r n u e some h out = with_got (counted_bits z) p q n (refused BitUnused r.input) e (some_is z n q (refused BitUnused r.input) some (bind_got octet (initial z n) q r u (refused BitUnused r.input) h (unfit_is z n u r out)))

pub bits_then : (z : Size) (p q r : Place) (n u : ℕ) (o : Outcome (List Bool)) → got n q ≡ counted_length p → n ≢ 0 → got u r ≡ octet q → unused_fits n u ≡ true → o ≡ content z (n - 1) u r → o ≡ read_bits None z p
bits_then z p q r n u o e some h fits k =
    with_got (counted_bits z) p q n o e (some_is z n q o some (bind_got octet (initial z n) q r u o h (k ∙ ap (λ (b : Bool). guard b BitUnused (content z (n - 1) u) r) (sym fits))))

pub content_out : (z : Size) (n u : ℕ) (p : Place) → size_fits z (8 * n - u) ≡ false → refused reason.Size p.input ≡ content z n u p
unfolding refuse
content_out z n u p out = rw out refl

pub content_stop : (z : Size) (n u : ℕ) (p : Place) (why : Why) (rest : List ℕ) → size_fits z (8 * n - u) ≡ true → refused why rest ≡ group n p → refused why rest ≡ content z n u p
content_stop z n u p why rest fits e = bind_stop (group n) (λ d. give (take (length (bits_of d) - u) (bits_of d))) p why rest e ∙ ap (λ (b : Bool). guard b reason.Size (bind (group n) (λ d. give (take (length (bits_of d) - u) (bits_of d)))) p) (sym fits)

pub content_got : (z : Size) (n u m : ℕ) (p q : Place) (w : List ℕ) → size_fits z (8 * n - u) ≡ true → got w q ≡ group n p → m ≡ 8 * n - u → got (take m (bits_of w)) q ≡ content z n u p
content_got z n u m p q w fits e is =
    ap (λ (k : ℕ). got (take k (bits_of w)) q) (omega (arith, is, length-bits_of w, group_size n p q w e))
    ∙ bind_got (group n) (λ d. give (take (length (bits_of d) - u) (bits_of d))) p q w (got (take (length (bits_of w) - u) (bits_of w)) q) e (give_got (take (length (bits_of w) - u) (bits_of w)) q)
    ∙ ap (λ (b : Bool). guard b reason.Size (bind (group n) (λ d. give (take (length (bits_of d) - u) (bits_of d)))) p) (sym fits)

pub content_whole : (n u m : ℕ) (p q : Place) (w : List ℕ) → got w q ≡ group n p → m ≡ 8 * n - u → length (take m (bits_of w)) ≡ m
content_whole n u m p q w e is = omega (arith, is, length-bits_of w, group_size n p q w e, length-take m (bits_of w))

-- ---- a preamble

abbrev padding : ℕ → List ℕ → Reader (List Bool)
padding k w = guard (all_false (drop k (bits_of w))) PreamblePadding (give (take k (bits_of w)))

clear_is : (k : ℕ) (w : List ℕ) (q : Place) → all_false (drop k (bits_of w)) ≡ true → got (take k (bits_of w)) q ≡ padding k w q
unfolding give
clear_is k w q is = rw is refl

unclear_is : (k : ℕ) (w : List ℕ) (q : Place) → all_false (drop k (bits_of w)) ≡ false → refused PreamblePadding q.input ≡ padding k w q
unfolding refuse
unclear_is k w q is = rw is refl

pub preamble_got : (k : ℕ) (p q : Place) (w : List ℕ) → got w q ≡ group (octets_for k) p → last_are_zero (spare_bits k) w ≡ true → got (take k (bits_of w)) q ≡ preamble k p
unfolding preamble
preamble_got k p q w e is = bind_got (group (octets_for k)) (padding k) p q w (got (take k (bits_of w)) q) e (clear_is k w q (spare_last k w (group_size (octets_for k) p q w e) ∙ is))

pub preamble_out : (k : ℕ) (p q : Place) (w : List ℕ) → got w q ≡ group (octets_for k) p → last_are_zero (spare_bits k) w ≡ false → refused PreamblePadding q.input ≡ preamble k p
unfolding preamble
preamble_out k p q w e is = bind_got (group (octets_for k)) (padding k) p q w (refused PreamblePadding q.input) e (unclear_is k w q (spare_last k w (group_size (octets_for k) p q w e) ∙ is))

pub preamble_stop : (k : ℕ) (p : Place) (why : Why) (rest : List ℕ) → refused why rest ≡ group (octets_for k) p → refused why rest ≡ preamble k p
unfolding preamble
preamble_stop k p why rest e = bind_stop (group (octets_for k)) (padding k) p why rest e

-- ---- a bitmap

abbrev known : List Bool × Bool → Reader (List Bool × Bool)
known y = guard (all_false (drop 65536 y.0)) UnknownAddition (give y)

known_is : (s : List Bool) (f : Bool) (q : Place) → all_false (drop 65536 s) ≡ true → got_both s f q ≡ known (s, f) q
unfolding give
known_is s f q is = rw is refl

unknown_is : (s : List Bool) (f : Bool) (q : Place) → all_false (drop 65536 s) ≡ false → refused UnknownAddition q.input ≡ known (s, f) q
unfolding refuse
unknown_is s f q is = rw is refl

pub map_got : (n : ℕ) (z : Size) (p q : Place) (s : List Bool) (f : Bool) → z ≡ any_size → got s q ≡ read_bits None z p → all_false (drop 65536 s) ≡ true → f ≡ is_bitmap n s (between p q) → got_both s f q ≡ addition_map n p
unfolding addition_map bitmap
map_got n z p q s f any e is whole =
    ap (λ (g : Bool). got_both s g q) whole
    ∙ bind_got (judged (is_bitmap n) (read_bits None any_size)) known p q (s, is_bitmap n s (between p q)) (got_both s (is_bitmap n s (between p q)) q)
    (judged_got (is_bitmap n) (read_bits None any_size) p q s (e ∙ ap (λ (y : Size). read_bits None y p) any)) (known_is s (is_bitmap n s (between p q)) q is)

pub map_out : (n : ℕ) (z : Size) (p q : Place) (s : List Bool) → z ≡ any_size → got s q ≡ read_bits None z p → all_false (drop 65536 s) ≡ false → refused UnknownAddition q.input ≡ addition_map n p
unfolding addition_map bitmap
map_out n z p q s any e is =
    bind_got (judged (is_bitmap n) (read_bits None any_size)) known p q (s, is_bitmap n s (between p q)) (refused UnknownAddition q.input)
    (judged_got (is_bitmap n) (read_bits None any_size) p q s (e ∙ ap (λ (y : Size). read_bits None y p) any)) (unknown_is s (is_bitmap n s (between p q)) q is)

pub map_stop : (n : ℕ) (z : Size) (p : Place) (why : Why) (rest : List ℕ) → z ≡ any_size → refused why rest ≡ read_bits None z p → refused why rest ≡ addition_map n p
unfolding addition_map bitmap
map_stop n z p why rest any e = bind_stop (judged (is_bitmap n) (read_bits None any_size)) known p why rest (judged_stop (is_bitmap n) (read_bits None any_size) p why rest (e ∙ ap (λ (y : Size). read_bits None y p) any))

abbrev sized_by : ℕ → Option ℕ → Size
sized_by low high = record { low = low; high = high }

pub any_is : (z : Size) → z.low ≡ 0 → z.high ≡ None → z ≡ any_size
any_is z low high = ap₂ sized_by low high
