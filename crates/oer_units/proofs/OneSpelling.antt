-- A number has one shortest spelling.
use Rattle.std.proofs.Common.{◌≡◌, ℕ, zero, suc, ◌+◌, ◌*◌, ◌/◌, ◌%◌, ◌^◌, ◌<◌, ◌≤◌, ◌⊎◌, inl, inr, List, [], ◌∷◌, ◌++◌, length, Bool, true, false, leb, get_or, if◌then◌else◌, pos, ◌-ℤ◌, pow-suc, refl, ap, ap₂, sym, ◌∙◌, subst, arith, length-append}
use Rattle.std.proofs.lemmas.Bool.{cases_lt}
use Rattle.std.proofs.lemmas.Int.{ints}
use Rattle.oer_units.specs.Numbers.{unsigned, unsigned_after, signed}
use Rattle.oer_units.specs.Octets.{IsOctets, IsShortest}
use Rattle.oer_units.specs.Spelling.{IsLength, IsCounted}

pub unsigned_one : (g h : ℕ) (w z : List ℕ) → length w ≡ length z → IsOctets w → IsOctets z → unsigned_after g w ≡ unsigned_after h z → (g ≡ h) × (w ≡ z)
unsigned_one g h [] [] n o o' e = (e, refl)
unsigned_one g h [] (y ∷ z) n o o' e = absurd (omega arith)
unsigned_one g h (x ∷ w) [] n o o' e = absurd (omega arith)
unsigned_one g h (x ∷ w) (y ∷ z) n (l, o) (l', o') e =
    let rest = unsigned_one (256 * g + x) (256 * h + y) w z (omega arith) o o' e in
    let both : 256 * g + x ≡ 256 * h + y = rest.0 in
    (omega arith, ap₂ (λ x y. x ∷ y) (omega arith) rest.1)

pub len_one : (n : ℕ) (l m : List ℕ) → IsShortest (IsLength n) l → IsShortest (IsLength n) m → l ≡ m
unfolding unsigned
len_one n l m (o, inl s, least) (o', inl t, least') = s.0 ∙ sym t.0
len_one n l m (o, inl s, least) (o', inr (k, w, e, low, high, many, is), least') = absurd (let i = least' l o (inl s) in omega (arith, ap length e, ap length s.0))
len_one n l m (o, inr (k, w, e, low, high, many, is), least) (o', inl t, least') = absurd (let i = least m o' (inl t) in omega (arith, ap length e, ap length t.0))
len_one n l m (o, inr (k, w, e, low, high, many, is), least) (o', inr (k', w', e', low', high', many', is'), least') =
    let i = least m o' (inr (k', w', e', low', high', many', is')) in
    let j = least' l o (inr (k, w, e, low, high, many, is)) in
    let same : k ≡ k' = omega (arith, ap length e, ap length e') in
    let rest = unsigned_one 0 0 w w' (omega arith) (subst IsOctets e o).1 (subst IsOctets e' o').1 (is ∙ sym is') in
    e ∙ ap₂ (λ x y. x ∷ y) (ap (λ k. 128 + k) same) rest.1 ∙ sym e'

-- high after k more octets
abbrev pub raised : ℕ → ℕ → ℕ
raised zero high = high
raised (suc k) high = raised k (256 * high)

pub raised_mono : (k a b : ℕ) → a ≤ b → raised k a ≤ raised k b
raised_mono zero a b l = l
raised_mono (suc k) a b l = raised_mono k (256 * a) (256 * b) (omega arith)

pub raised-mul : (k a : ℕ) → raised k (256 * a) ≡ 256 * raised k a
raised-mul zero a = refl
raised-mul (suc k) a = raised-mul k (256 * a)

pub unsigned_lt : (g : ℕ) (w : List ℕ) → IsOctets w → unsigned_after g w < raised (length w) (suc g)
unsigned_lt g [] o = omega arith
unsigned_lt g (x ∷ w) (l, o) = let i = unsigned_lt (256 * g + x) w o in let j = raised_mono (length w) (suc (256 * g + x)) (256 * suc g) (omega arith) in omega arith

-- k octets that stand for n
pub octets_of : ℕ → ℕ → List ℕ
octets_of zero n = []
octets_of (suc k) n = octets_of k (n / 256) ++ (n % 256) ∷ []

pub unsigned-push : (g x : ℕ) (w : List ℕ) → unsigned_after g (w ++ x ∷ []) ≡ 256 * unsigned_after g w + x
unsigned-push g x [] = refl
unsigned-push g x (y ∷ w) = unsigned-push (256 * g + y) x w

pub octets-push : (w : List ℕ) (x : ℕ) → IsOctets w → x < 256 → IsOctets (w ++ x ∷ [])
octets-push [] x o l = (l, tt)
octets-push (y ∷ w) x (m, o) l = (m, octets-push w x o l)

pub octets_of-octets : (k n : ℕ) → IsOctets (octets_of k n)
unfolding octets_of
octets_of-octets zero n = tt
octets_of-octets (suc k) n = octets-push (octets_of k (n / 256)) (n % 256) (octets_of-octets k (n / 256)) (omega arith)

pub length-octets_of : (k n : ℕ) → length (octets_of k n) ≡ k
unfolding octets_of
length-octets_of zero n = refl
length-octets_of (suc k) n = omega (arith, length-append (octets_of k (n / 256)) ((n % 256) ∷ []), length-octets_of k (n / 256))

pub unsigned-octets_of : (k n : ℕ) → n < raised k 1 → unsigned_after 0 (octets_of k n) ≡ n
unfolding octets_of
unsigned-octets_of zero n l = omega arith
unsigned-octets_of (suc k) n l = unsigned-push 0 (n % 256) (octets_of k (n / 256)) ∙ omega (arith, unsigned-octets_of k (n / 256) (omega (arith, raised-mul k 1)))

-- a smaller number has a spelling that is no longer
pub smaller_len : (m n : ℕ) (l : List ℕ) → IsOctets l → m ≤ n → IsLength n l → (l' : List ℕ) × IsOctets l' × IsLength m l' × (length l' ≤ length l)
unfolding unsigned
smaller_len m n l o less (inl (e, short)) = (m ∷ [], (omega arith, tt), inl (refl, omega arith), omega (arith, ap length e))
smaller_len m n l o less (inr (k, w, e, low, high, many, is)) =
    let room = unsigned_lt 0 w (subst IsOctets e o).1 in
    ((128 + k) ∷ octets_of k m, (omega arith, octets_of-octets k m), inr (k, octets_of k m, refl, low, high, length-octets_of k m, unsigned-octets_of k m (let fits : m < raised (length w) 1 = omega arith in subst (λ j. m < raised j 1) many fits)), omega (arith, length-octets_of k m, ap length e))

-- two spellings of one length, of one number
pub len_same : (n : ℕ) (l m : List ℕ) → IsOctets l → IsOctets m → length l ≡ length m → IsLength n l → IsLength n m → l ≡ m
unfolding unsigned
len_same n l m o o' same (inl s) (inl t) = s.0 ∙ sym t.0
len_same n l m o o' same (inl s) (inr (k, w, e, low, high, many, is)) = absurd (omega (arith, ap length e, ap length s.0))
len_same n l m o o' same (inr (k, w, e, low, high, many, is)) (inl t) = absurd (omega (arith, ap length e, ap length t.0))
len_same n l m o o' same (inr (k, w, e, low, high, many, is)) (inr (k', w', e', low', high', many', is')) =
    let equal : k ≡ k' = omega (arith, ap length e, ap length e') in
    let rest = unsigned_one 0 0 w w' (omega arith) (subst IsOctets e o).1 (subst IsOctets e' o').1 (is ∙ sym is') in
    e ∙ ap₂ (λ x y. x ∷ y) (ap (λ k. 128 + k) equal) rest.1 ∙ sym e'

pub octets_split : (b c : List ℕ) → IsOctets (b ++ c) → IsOctets b × IsOctets c
octets_split [] c o = (tt, o)
octets_split (x ∷ b) c (l, o) = let both = octets_split b c o in ((l, both.0), both.1)

pub octets_join : (b c : List ℕ) → IsOctets b → IsOctets c → IsOctets (b ++ c)
octets_join [] c o o' = o'
octets_join (x ∷ b) c (l, o) o' = (l, octets_join b c o o')

-- Of two shortest spellings of x, the one's word isn't longer than the other's.
pub word_le : {A : Type 0} (R : A → List ℕ → Type 0) (x : A) (p q l c l' c' : List ℕ) → IsOctets p → IsOctets q → p ≡ l ++ c → q ≡ l' ++ c' → IsLength (length c) l → R x c → IsLength (length c') l'
    → ((b : List ℕ) → IsOctets b → IsCounted R x b → length q ≤ length b) → length c ≤ length c' → length c' ≤ length c
word_le R x p q l c l' c' o o' e e' len r len' least less =
    let parts = octets_split l' c' (subst IsOctets e' o') in
    let word = octets_split l c (subst IsOctets e o) in
    let s = smaller_len (length c) (length c') l' parts.0 less len' in
    let bound : length q ≤ length (s.0 ++ c) = least (s.0 ++ c) (octets_join s.0 c s.1 word.1) (s.0, c, refl, s.2, r) in
    let short = s.3 in
    omega (arith, length-append s.0 c, ap length e', length-append l' c')

pub counted_least : {A : Type 0} (R : A → List ℕ → Type 0) (x : A) → ((w z : List ℕ) → IsOctets w → IsOctets z → length w ≡ length z → R x w → R x z → w ≡ z)
    → (p q : List ℕ) → IsShortest (IsCounted R x) p → IsShortest (IsCounted R x) q → p ≡ q
counted_least R x one p q (o, (l, c, e, len, r), least) (o', (l', c', e', len', r'), least') =
    let parts = octets_split l c (subst IsOctets e o) in
    let parts' = octets_split l' c' (subst IsOctets e' o') in
    let up = word_le R x p q l c l' c' o o' e e' len r len' least' in
    let down = word_le R x q p l' c' l c o' o e' e len' r' len least in
    let words : length c ≡ length c' = both (length c) (length c') up down (cases_lt (length c) (length c')) in
    let same : c ≡ c' = one c c' parts.1 parts'.1 words r r' in
    let i = least q o' (l', c', e', len', r') in
    let j = least' p o (l, c, e, len, r) in
    let lens : l ≡ l' = len_same (length c) l l' parts.0 parts'.0 (omega (arith, ap length e, ap length e', length-append l c, length-append l' c')) len (subst (λ k. IsLength k l') (sym words) len') in
    e ∙ ap₂ (λ x y. x ++ y) lens same ∙ sym e'
  where
    both : (a b : ℕ) → (a ≤ b → b ≤ a) → (b ≤ a → a ≤ b) → (a < b) ⊎ (b ≤ a) → a ≡ b
    both a b f g (inl l) = let i : b ≤ a = f (omega arith) in omega arith
    both a b f g (inr l) = let i : a ≤ b = g l in omega arith

pub raised-pow : (k : ℕ) → raised k 1 ≡ 256 ^ k
raised-pow zero = refl
raised-pow (suc k) = raised-mul k 1 ∙ omega (arith, raised-pow k, pow-suc 256 k)

pub natural_apart : (a b n : ℕ) → a < n → pos a -ℤ pos n ≡ pos b → ⊥
natural_apart a b n l e = omega (arith, ints)

pub negative_same : (a b n : ℕ) → pos a -ℤ pos n ≡ pos b -ℤ pos n → a ≡ b
negative_same a b n e = omega (arith, ints)

pub positive_same : (a b : ℕ) → pos a ≡ pos b → a ≡ b
positive_same a b e = cc

pub signed_one : (w z : List ℕ) → IsOctets w → IsOctets z → length w ≡ length z → signed w ≡ signed z → w ≡ z
unfolding signed unsigned
signed_one w z o o' n e = by_sign (leb 128 (get_or w 0 0)) (leb 128 (get_or z 0 0)) e
  where
    equal : unsigned_after 0 w ≡ unsigned_after 0 z → w ≡ z
    equal i = (unsigned_one 0 0 w z n o o' i).1

    small : (w : List ℕ) → IsOctets w → unsigned_after 0 w < 256 ^ length w
    small w o = omega (arith, unsigned_lt 0 w o, raised-pow (length w))

    by_sign : (c d : Bool) → (if c then pos (unsigned_after 0 w) -ℤ pos (256 ^ length w) else pos (unsigned_after 0 w)) ≡ (if d then pos (unsigned_after 0 z) -ℤ pos (256 ^ length z) else pos (unsigned_after 0 z)) → w ≡ z
    by_sign true true e = equal (negative_same (unsigned_after 0 w) (unsigned_after 0 z) (256 ^ length z) (ap (λ k. pos (unsigned_after 0 w) -ℤ pos (256 ^ k)) (sym n) ∙ e))
    by_sign true false e = absurd (natural_apart (unsigned_after 0 w) (unsigned_after 0 z) (256 ^ length w) (small w o) e)
    by_sign false true e = absurd (natural_apart (unsigned_after 0 z) (unsigned_after 0 w) (256 ^ length z) (small z o') (sym e))
    by_sign false false e = equal (positive_same (unsigned_after 0 w) (unsigned_after 0 z) e)
