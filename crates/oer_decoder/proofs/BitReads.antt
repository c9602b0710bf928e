-- Bits that are read after an initial octet.
use Rattle.std.proofs.Common.{◌∙◌, ◌≡◌, ◌≢◌, ℕ, ◌-◌, ◌*◌, ◌≤◌, Bool, true, false, ◌&&◌, ◌||◌, leb, eqb, List, take, drop, Option, None, Result, Ok, Err, refl, sym, ap, ap₂, subst, arith, [], ◌∷◌, get_or, length}
use Rattle.std.proofs.lemmas.Bool.{eqb-true, le-leb, lt-leb, leb-true}
use Rattle.oer_units.specs.declared.fault.Why.TheVariants.{BitUnused, PreamblePadding, Size, UnknownAddition}
use Rattle.oer_units.specs.declared.fault.ReadFault.{ReadFault}
use Rattle.oer_units.specs.Reader.{bind, got, give, group, guard, Outcome, Place, Reader, refuse, refused, then_read}
use Rattle.oer_units.specs.Reading.{counted_length, octet}
use Rattle.oer_units.specs.Reads.{place, Reads, State}
use Rattle.oer_units.proofs.ReadGroups.{group_zero}
use Rattle.oer_units.proofs.ReadLengths.{with_stop, with_then}
use Rattle.oer_units.proofs.ReadSteps.{Reads-give, Reads-same, Reads-stop, Reads-then}
use Rattle.oer_model.specs.Bits.{all_false, bits_of, octets_for}
use Rattle.oer_model.specs.Constraints.{any_size, size_fits}
use Rattle.oer_model.specs.Reading.{preamble, read_bits}
use Rattle.oer_model.specs.declared.size.Size as constraint
use Rattle.oer_model.specs.SharedSteps.{unused_fits}
use Rattle.oer_decoder.specs.BitReading.{addition_map_at, initial_octet_at, kept_map, sized_octet_at, used}
use Rattle.oer_decoder.proofs.Joins.{addition_plain, bits_plain, guard_no, guard_yes, padding_plain, size_plain}

-- ---- the initial octet

abbrev checked_unused : ℕ → ℕ → Reader ℕ
checked_unused n u = guard (unused_fits n u) BitUnused (give u)

pub initial_none : (n : ℕ) (s : State) (e : ReadFault) → n ≡ 0 → e.why ≡ BitUnused → e.taken ≡ s.bound.taken → Reads (initial_octet_at n) s (Err e) s
unfolding initial_octet_at
initial_none n s e none why taken = guard_no (leb 1 n) BitUnused (bind octet (checked_unused n)) s e (lt-leb 1 n (omega arith)) bits_plain why taken

there : (n : ℕ) → n ≢ 0 → leb 1 n ≡ true
there n some = le-leb 1 n (omega arith)

pub initial_stop : (n : ℕ) (s s' : State) (e : ReadFault) → n ≢ 0 → Reads octet s (Err e) s' → Reads (initial_octet_at n) s (Err e) s'
unfolding initial_octet_at
initial_stop n s s' e some h = guard_yes (leb 1 n) BitUnused (bind octet (checked_unused n)) s s' (Err e) (there n some) (Reads-stop octet (checked_unused n) s s' e h)

pub initial_bad : (n : ℕ) (s s' : State) (u : ℕ) (e : ReadFault) → n ≢ 0 → Reads octet s (Ok u) s' → unused_fits n u ≡ false → e.why ≡ BitUnused → e.taken ≡ s'.bound.taken → Reads (initial_octet_at n) s (Err e) s'
unfolding initial_octet_at
initial_bad n s s' u e some h bad why taken = guard_yes (leb 1 n) BitUnused (bind octet (checked_unused n)) s s' (Err e) (there n some) (Reads-then octet (checked_unused n) s s' s' u (Err e) h (guard_no (unused_fits n u) BitUnused (give u) s' e bad bits_plain why taken))

pub initial_got : (n : ℕ) (s s' : State) (u : ℕ) → n ≢ 0 → Reads octet s (Ok u) s' → unused_fits n u ≡ true → Reads (initial_octet_at n) s (Ok u) s'
unfolding initial_octet_at
initial_got n s s' u some h fits = guard_yes (leb 1 n) BitUnused (bind octet (checked_unused n)) s s' (Ok u) (there n some) (Reads-then octet (checked_unused n) s s' s' u (Ok u) h (guard_yes (unused_fits n u) BitUnused (give u) s' s' (Ok u) fits (Reads-give u s')))

both : (a b : Bool) → (a && b) ≡ true → (a ≡ true) × (b ≡ true)
both true b e = (refl, e)
both false b e = (e, cc)

pub unused_room : (n u : ℕ) → n ≢ 0 → unused_fits n u ≡ true → (1 ≤ n) × (u ≤ 7) × (u ≤ 8 * (n - 1))
unused_room n u some e = (omega arith, seven, room (leb 2 n) refl) where
  parts : (leb u 7 ≡ true) × ((leb 2 n || eqb u 0) ≡ true)
  parts = both (leb u 7) (leb 2 n || eqb u 0) e

  seven : u ≤ 7
  seven = leb-true u 7 parts.0

  room : (b : Bool) → leb 2 n ≡ b → u ≤ 8 * (n - 1)
  room true f = let h : 2 ≤ n = leb-true 2 n f in let k = seven in omega arith
  room false f = let h : u ≡ 0 = eqb-true u 0 (subst (λ (b : Bool). (b || eqb u 0) ≡ true) f parts.1) in omega arith

-- what follows the initial octet
initial_is : {A : Type 0} (n : ℕ) (k : ℕ → Reader A) (p : Place) → bind (initial_octet_at n) k p ≡ guard (leb 1 n) BitUnused (bind octet (λ u. guard (unused_fits n u) BitUnused (k u))) p
unfolding initial_octet_at bind give refuse
initial_is {A} n k p = first (leb 1 n) where
  last : (c : Bool) (u : ℕ) (q : Place) → then_read k (guard c BitUnused (give u) q) ≡ guard c BitUnused (k u) q
  last true u q = refl
  last false u q = refl

  inner : (o : Outcome ℕ) → then_read k (then_read (λ u. guard (unused_fits n u) BitUnused (give u)) o) ≡ then_read (λ u. guard (unused_fits n u) BitUnused (k u)) o
  inner (got u q) = last (unused_fits n u) u q
  inner (refused why rest) = refl

  first : (c : Bool) → then_read k (guard c BitUnused (bind octet (λ u. guard (unused_fits n u) BitUnused (give u))) p) ≡ guard c BitUnused (bind octet (λ u. guard (unused_fits n u) BitUnused (k u))) p
  first true = inner (octet p)
  first false = refl

-- ---- the initial octet, where the size allows the bits

abbrev sized : constraint.Size → ℕ → ℕ → Reader ℕ
sized z n u = guard (size_fits z (8 * (n - 1) - u)) Size (give u)

pub sized_stop : (z : constraint.Size) (n : ℕ) (s s' : State) (e : ReadFault) → Reads (initial_octet_at n) s (Err e) s' → Reads (sized_octet_at z n) s (Err e) s'
unfolding sized_octet_at
sized_stop z n s s' e h = Reads-stop (initial_octet_at n) (sized z n) s s' e h

pub sized_misfit : (z : constraint.Size) (n u : ℕ) (s s' : State) (e : ReadFault) → Reads (initial_octet_at n) s (Ok u) s' → size_fits z (8 * (n - 1) - u) ≡ false → e.why ≡ Size → e.taken ≡ s'.bound.taken → Reads (sized_octet_at z n) s (Err e) s'
unfolding sized_octet_at
sized_misfit z n u s s' e h out why taken = Reads-then (initial_octet_at n) (sized z n) s s' s' u (Err e) h (guard_no (size_fits z (8 * (n - 1) - u)) Size (give u) s' e out size_plain why taken)

pub sized_got : (z : constraint.Size) (n u : ℕ) (s s' : State) → Reads (initial_octet_at n) s (Ok u) s' → size_fits z (8 * (n - 1) - u) ≡ true → Reads (sized_octet_at z n) s (Ok u) s'
unfolding sized_octet_at
sized_got z n u s s' h fits = Reads-then (initial_octet_at n) (sized z n) s s' s' u (Ok u) h (guard_yes (size_fits z (8 * (n - 1) - u)) Size (give u) s' s' (Ok u) fits (Reads-give u s'))

-- what follows that octet
sized_is : {A : Type 0} (z : constraint.Size) (n : ℕ) (k : ℕ → Reader A) (p : Place) → bind (sized_octet_at z n) k p ≡ guard (leb 1 n) BitUnused (bind octet (λ u. guard (unused_fits n u) BitUnused (guard (size_fits z (8 * (n - 1) - u)) Size (k u)))) p
unfolding sized_octet_at bind give refuse
sized_is z n k p = outer (initial_octet_at n p) ∙ initial_is n (λ u. guard (size_fits z (8 * (n - 1) - u)) Size (k u)) p where
  inner : (c : Bool) (u : ℕ) (q : Place) → then_read k (guard c Size (give u) q) ≡ guard c Size (k u) q
  inner true u q = refl
  inner false u q = refl

  outer : (o : Outcome ℕ) → then_read k (then_read (sized z n) o) ≡ then_read (λ u. guard (size_fits z (8 * (n - 1) - u)) Size (k u)) o
  outer (got u q) = inner (size_fits z (8 * (n - 1) - u)) u q
  outer (refused why rest) = refl

-- ---- a BIT STRING of no one size

-- after the initial octet u
abbrev bits_left : ℕ → ℕ → Reader (List Bool)
bits_left n u = bind (group (n - 1)) (λ d. give (used u d))

-- what follows the initial octet u
abbrev pub sized_after : constraint.Size → ℕ → ℕ → Reader (List Bool)
sized_after z n u = guard (size_fits z (8 * (n - 1) - u)) Size (bits_left n u)

abbrev after_length : constraint.Size → ℕ → Reader (List Bool)
after_length z n = bind (sized_octet_at z n) (bits_left n)

abbrev by_standard : constraint.Size → ℕ → Reader (List Bool)
by_standard z n = guard (leb 1 n) BitUnused (bind octet (λ u. guard (unused_fits n u) BitUnused (sized_after z n u)))

pub counted_stop : (z : constraint.Size) (s s' : State) (e : ReadFault) → Reads counted_length s (Err e) s' → Reads (read_bits None z) s (Err e) s'
counted_stop z s s' e h = with_stop (by_standard z) s s' e h

counted_then : (z : constraint.Size) (s s' s'' : State) (n : ℕ) (result : Result (List Bool) ReadFault) → Reads counted_length s (Ok n) s' → Reads (after_length z n) s' result s'' → Reads (read_bits None z) s result s''
counted_then z s s' s'' n result h k = with_then (by_standard z) s s' s'' n result h (Reads-same (after_length z n) (by_standard z n) s' s'' result (λ xs. sized_is z n (bits_left n) (place xs s'.bound)) k)

pub counted_unused : (z : constraint.Size) (s s' s'' : State) (n : ℕ) (e : ReadFault) → Reads counted_length s (Ok n) s' → Reads (sized_octet_at z n) s' (Err e) s'' → Reads (read_bits None z) s (Err e) s''
counted_unused z s s' s'' n e h k = counted_then z s s' s'' n (Err e) h (Reads-stop (sized_octet_at z n) (bits_left n) s' s'' e k)

pub counted_short : (z : constraint.Size) (s s' s'' s3 : State) (n u : ℕ) (e : ReadFault) → Reads counted_length s (Ok n) s' → Reads (sized_octet_at z n) s' (Ok u) s'' → Reads (group (n - 1)) s'' (Err e) s3 → Reads (read_bits None z) s (Err e) s3
counted_short z s s' s'' s3 n u e h k g = counted_then z s s' s3 n (Err e) h (Reads-then (sized_octet_at z n) (bits_left n) s' s'' s3 u (Err e) k (Reads-stop (group (n - 1)) (λ d. give (used u d)) s'' s3 e g))

pub counted_got : (z : constraint.Size) (s s' s'' s3 : State) (n u : ℕ) (d : List ℕ) (bits : List Bool) → Reads counted_length s (Ok n) s' → Reads (sized_octet_at z n) s' (Ok u) s'' → Reads (group (n - 1)) s'' (Ok d) s3 → bits ≡ used u d → Reads (read_bits None z) s (Ok bits) s3
counted_got z s s' s'' s3 n u d bits h k g is = rw is (counted_then z s s' s3 n (Ok (used u d)) h (Reads-then (sized_octet_at z n) (bits_left n) s' s'' s3 u (Ok (used u d)) k (Reads-then (group (n - 1)) (λ d. give (used u d)) s'' s3 s3 d (Ok (used u d)) g (Reads-give (used u d) s3))))

abbrev sized_by : ℕ → Option ℕ → constraint.Size
sized_by low high = record { low = low; high = high }

any_is : (z : constraint.Size) → z.low ≡ 0 → z.high ≡ None → z ≡ any_size
any_is z low high = ap₂ sized_by low high

pub any_read : (z : constraint.Size) (n : ℕ) (s s' : State) (result : Result ℕ ReadFault) → z.low ≡ 0 → z.high ≡ None → Reads (sized_octet_at z n) s result s' → Reads (sized_octet_at any_size n) s result s'
any_read z n s s' result low high = subst (λ z. Reads (sized_octet_at z n) s result s') (any_is z low high)

-- as many octets as hold the bits
pub octets_of_used : (n u : ℕ) → 1 ≤ n → u ≤ 7 → u ≤ 8 * (n - 1) → n - 1 ≡ octets_for (8 * (n - 1) - u)
unfolding octets_for
octets_of_used n u some most room = omega arith

-- ---- a preamble

abbrev padded_at : ℕ → List ℕ → Reader (List Bool)
padded_at k p = guard (all_false (drop k (bits_of p))) PreamblePadding (give (take k (bits_of p)))

pub preamble_stop : (k : ℕ) (s s' : State) (e : ReadFault) → Reads (group (octets_for k)) s (Err e) s' → Reads (preamble k) s (Err e) s'
unfolding preamble
preamble_stop k s s' e h = Reads-stop (group (octets_for k)) (padded_at k) s s' e h

pub preamble_padding : (k : ℕ) (s s' : State) (p : List ℕ) (e : ReadFault) → Reads (group (octets_for k)) s (Ok p) s' → all_false (drop k (bits_of p)) ≡ false → e.why ≡ PreamblePadding → e.taken ≡ s'.bound.taken → Reads (preamble k) s (Err e) s'
unfolding preamble
preamble_padding k s s' p e h some why taken = Reads-then (group (octets_for k)) (padded_at k) s s' s' p (Err e) h (guard_no (all_false (drop k (bits_of p))) PreamblePadding (give (take k (bits_of p))) s' e some padding_plain why taken)

pub preamble_got : (k : ℕ) (s s' : State) (p : List ℕ) (bits : List Bool) → Reads (group (octets_for k)) s (Ok p) s' → all_false (drop k (bits_of p)) ≡ true → bits ≡ take k (bits_of p) → Reads (preamble k) s (Ok bits) s'
unfolding preamble
preamble_got k s s' p bits h none is = rw is (Reads-then (group (octets_for k)) (padded_at k) s s' s' p (Ok (take k (bits_of p))) h (guard_yes (all_false (drop k (bits_of p))) PreamblePadding (give (take k (bits_of p))) s' s' (Ok (take k (bits_of p))) none (Reads-give (take k (bits_of p)) s')))

-- ---- the bitmap of the additions

abbrev map_after : ℕ → Reader (List Bool)
map_after n = bind (sized_octet_at any_size n) (λ u. bind (group (n - 1)) (kept_map u))

pub map_stop : (s s' : State) (e : ReadFault) → Reads counted_length s (Err e) s' → Reads addition_map_at s (Err e) s'
unfolding addition_map_at
map_stop s s' e h = with_stop map_after s s' e h

pub map_unused : (s s' s'' : State) (n : ℕ) (e : ReadFault) → Reads counted_length s (Ok n) s' → Reads (sized_octet_at any_size n) s' (Err e) s'' → Reads addition_map_at s (Err e) s''
unfolding addition_map_at
map_unused s s' s'' n e h k = with_then map_after s s' s'' n (Err e) h (Reads-stop (sized_octet_at any_size n) (λ u. bind (group (n - 1)) (kept_map u)) s' s'' e k)

pub map_then : (s s' s'' s3 : State) (n u : ℕ) (result : Result (List Bool) ReadFault) → Reads counted_length s (Ok n) s' → Reads (sized_octet_at any_size n) s' (Ok u) s'' → Reads (bind (group (n - 1)) (kept_map u)) s'' result s3 → Reads addition_map_at s result s3
unfolding addition_map_at
map_then s s' s'' s3 n u result h k g = with_then map_after s s' s3 n result h (Reads-then (sized_octet_at any_size n) (λ u. bind (group (n - 1)) (kept_map u)) s' s'' s3 u result k g)

pub map_unknown : (s s' s'' s3 : State) (n u : ℕ) (d : List ℕ) (e : ReadFault) → Reads counted_length s (Ok n) s' → Reads (sized_octet_at any_size n) s' (Ok u) s'' → Reads (group (n - 1)) s'' (Ok d) s3 → all_false (drop 65536 (used u d)) ≡ false → e.why ≡ UnknownAddition → e.taken ≡ s3.bound.taken → Reads addition_map_at s (Err e) s3
map_unknown s s' s'' s3 n u d e h k g some why taken = map_then s s' s'' s3 n u (Err e) h k (Reads-then (group (n - 1)) (kept_map u) s'' s3 s3 d (Err e) g (guard_no (all_false (drop 65536 (used u d))) UnknownAddition (give (take 65536 (used u d))) s3 e some addition_plain why taken))

pub map_got : (s s' s'' s3 : State) (n u : ℕ) (d : List ℕ) (bits : List Bool) → Reads counted_length s (Ok n) s' → Reads (sized_octet_at any_size n) s' (Ok u) s'' → Reads (group (n - 1)) s'' (Ok d) s3 → all_false (drop 65536 (used u d)) ≡ true → bits ≡ take 65536 (used u d) → Reads addition_map_at s (Ok bits) s3
map_got s s' s'' s3 n u d bits h k g none is = rw is (map_then s s' s'' s3 n u (Ok (take 65536 (used u d))) h k (Reads-then (group (n - 1)) (kept_map u) s'' s3 s3 d (Ok (take 65536 (used u d))) g (guard_yes (all_false (drop 65536 (used u d))) UnknownAddition (give (take 65536 (used u d))) s3 s3 (Ok (take 65536 (used u d))) none (Reads-give (take 65536 (used u d)) s3))))

-- a preamble of no bits
pub preamble_none : (k : ℕ) (s : State) (bits : List Bool) → k ≡ 0 → bits ≡ [] → Reads (preamble k) s (Ok bits) s
unfolding preamble octets_for
preamble_none k s bits none is = rw (none, is) (Reads-then (group 0) (padded_at 0) s s s [] (Ok []) (Reads-same (give []) (group 0) s s (Ok []) (λ xs. group_zero xs (s.bound.end - s.bound.taken)) (Reads-give [] s)) (Reads-give [] s))

-- ---- a preamble of one octet

pub one_is : (p : List ℕ) (d : ℕ) → length p ≡ 1 → p ≡ get_or p 0 d ∷ []
one_is [] d e = cc
one_is (x ∷ []) d e = refl
one_is (x ∷ y ∷ p) d e = absurd (omega arith)

one_octet : (k : ℕ) → 1 ≤ k → k ≤ 8 → 1 ≡ octets_for k
unfolding octets_for
one_octet k some most = omega arith

-- the padding of one octet, by its last bits
pub padding_is : (k : ℕ) (p : List ℕ) (b : Bool) → length p ≡ 1 → k ≤ 8 → b ≡ all_false (drop (8 - (8 - k)) (bits_of (get_or p 0 0 ∷ []))) → all_false (drop k (bits_of p)) ≡ b
padding_is k p b one most h =
    let same : 8 - (8 - k) ≡ k = omega arith in
    sym (h ∙ ap (λ (n : ℕ). all_false (drop n (bits_of (get_or p 0 0 ∷ [])))) same ∙ ap (λ (xs : List ℕ). all_false (drop k (bits_of xs))) (sym (one_is p 0 one)))

pub as_preamble : (k : ℕ) (s s' : State) (result : Result (List ℕ) ReadFault) → 1 ≤ k → k ≤ 8 → Reads (group 1) s result s' → Reads (group (octets_for k)) s result s'
as_preamble k s s' result some most h = subst (λ (n : ℕ). Reads (group n) s result s') (one_octet k some most) h
