-- What stands after DEFAULT takes no part, is rejected for other reasons alone, and is written with few octets where its tokens have few.
use Rattle.std.proofs.Common.{◌≡◌, ◌∙◌, ◌≤◌, ◌+◌, ℕ, suc, ℤ, List, [], ◌∷◌, length, Bool, true, false, if◌then◌else◌, Option, Some, None, Result, Ok, Err, refl, sym, subst, arith}
use Rattle.std.specs.Prelude.{codes, map}
use Rattle.std.specs.Fmt.{signed_decimal}
use Rattle.oer_lexer.specs.Token.{Token}
use Rattle.oer_literals.specs.Bits.{is_one}
use Rattle.oer_literals.specs.Numbers.{arc_of}
use Rattle.oer_model.specs.AsnType.{AsnType, leaf}
use Rattle.oer_model.specs.AsnType as model
use Rattle.oer_model.specs.AsnValue.{AsnValue, bit_list, octets, text as string}
use Rattle.oer_model.specs.LeafType.{LeafType}
use Rattle.oer_module_defaults.specs.Arcs.{arc_at, arcs, or_too_wide, some_arcs}
use Rattle.oer_module_defaults.specs.Atoms.{digits_at, has_below, no_text}
use Rattle.oer_module_defaults.specs.Defaults.{default_at, kind_at, value_at}
use Rattle.oer_module_defaults.specs.Governors.{Governor, governor_at}
use Rattle.oer_module_defaults.specs.Items.{number_in_both}
use Rattle.oer_module_lexer.specs.Token.{Spot}
use Rattle.oer_module_names.specs.declared.error.Place.{Place}
use Rattle.oer_module_syntax.specs.Tree.{Assignment, Module, Need, Tree}
use Rattle.oer_module_terms.specs.Trees.{Value, amount, atom, braces, member, no_members, number, parts_from}
use Rattle.oer_module_text.specs.Errors.{Read, ◌>>=◌}
use Rattle.oer_module_text.specs.Room.{Room, put, put_number}
use Rattle.oer_module_types.specs.Types.{needed_at}
use Rattle.oer_module_values.specs.Errors.{Error as ToldError}
use Rattle.oer_module_values.specs.Numbers.{place_of_first}
use Rattle.oer_module_values.specs.Types.{Meaning, meaning, type_in}
use Rattle.oer_notation.specs.Grammar.{IsValue}
use Rattle.oer_notation.specs.Reading.{Known}
use Rattle.oer_same_defaults.specs.Short.{tokens_len}
use Rattle.oer_same_defaults.proofs.Leaves.{Governs, leaf_kind, number_governed}
use Rattle.oer_same_defaults.proofs.Literals.{Settles, Stands, stands_arcs, stands_bits, stands_digit_bits, stands_false, stands_item, stands_null}
use Rattle.oer_same_defaults.proofs.Literals.{stands_number, stands_octets, stands_text, stands_true, stands_utf8, value_settles}
use Rattle.oer_same_defaults.proofs.Single.{number_is}
use Rattle.oer_same_defaults.proofs.Tokens.{SayArcs, say_arc, say_none, words_len}
use Rattle.oer_same_items.specs.Laws.{HasItem}
use Rattle.oer_same_names.specs.Home.{IsFront, IsHome}
use Rattle.oer_same_names.specs.Laws.{TypesAreMeant}
use Rattle.oer_same_names.specs.Meant.{IsMeant, IsMeantBy, LeadsToType}
use Rattle.oer_same_tokens.specs.Same.{same_tokens}
use Rattle.oer_same_trees.proofs.Placed.{placed_as}
use Rattle.oer_same_trees.specs.Says.{Keeps, Says, SaysNeed, needed, optional, with_default}
use Rattle.oer_value_notation.specs.Values.{digit_bits, inside, octets_in, text_in}
use Rattle.oer_same_limits.proofs.Digits.{wide_digits}
use Rattle.oer_same_limits.proofs.Items.{both_go}
use Rattle.oer_same_limits.proofs.Room.{Adds, Goes, Stays, adds_less, adds_then, put_adds}
use Rattle.oer_same_limits.proofs.Telling.{bind, choose}
use Rattle.oer_same_limits.specs.Short.{IsShortNeed}

-- it writes at most so many octets and takes no part
abbrev Writes : {A : Type 0} → Bool → ℕ → Room → Read (A × Room) → Type 0
Writes {A} s k r p = Stays s (λ (x : A × Room). Adds k r x.1) p

module _ (s : Bool) where
  -- ---- one token

  digits_write : {A : Type 0} (make : A → AsnValue) (p : Place) (w : List ℕ) (o : Option A) (r : Room) → Writes s (length w) r (digits_at make p w o r)
  digits_write make p w None r = record { given = tt }
  digits_write make p w (Some x) r = record { given = put_adds w r }

  -- the value, unless its text is refused
  line_writes : (b : Bool) (p : Place) (v : AsnValue) (w : List ℕ) (r : Room) → Writes {A = AsnValue} s (length w) r (if b then no_text p else Ok (v, put w r))
  line_writes true p v w r = record { given = tt }
  line_writes false p v w r = record { given = put_adds w r }

  writes_less : {A : Type 0} (j k : ℕ) (r : Room) (p : Read (A × Room)) → j ≤ k → Writes s j r p → Writes s k r p
  writes_less {A} j k r (Ok x) less h = record { given = adds_less j k r x.1 less h.given }
  writes_less {A} j k r (Err e) less h = record { given = h.given }

  -- ---- arcs

  arc_number : (p : Place) (o : Option ℕ) → Goes s (or_too_wide p o)
  arc_number p None = record { given = tt }
  arc_number p (Some n) = record { given = tt }

  arcs_write : {ns : List ℕ} {vs : List Value} → SayArcs ns vs → (p : Place) (r : Room) → Writes s (words_len vs) r (some_arcs p (parts_from vs) r)
  unfolding arc_at
  arcs_write say_none p r = record { given = (refl, omega arith) }
  arcs_write (say_arc {vs} at w e more) p r =
      let spaced : Room = put w (put (codes " ") r) in
      let both = adds_then 1 (length w) r (put (codes " ") r) spaced (put_adds (codes " ") r) (put_adds w (put (codes " ") r)) in
      let first : Adds (suc (length w)) r spaced = adds_less (1 + length w) (suc (length w)) r spaced (omega arith) both in
      bind (λ (a : ℕ × Room). a.1 ≡ spaced) _ _ _
      (bind (λ (n : ℕ). Unit {0}) (λ (a : ℕ × Room). a.1 ≡ spaced) (or_too_wide p (arc_of w)) _ (arc_number p (arc_of w)) (λ n u. record { given = refl })) (λ a is.
      bind (λ (x : List ℕ × Room). Adds (words_len vs) spaced x.1) _ (some_arcs p (parts_from vs) a.1) _
      (subst (λ (y : Room). Stays s (λ (x : List ℕ × Room). Adds (words_len vs) spaced x.1) (some_arcs p (parts_from vs) y)) (sym is) (arcs_write more p spaced)) (λ x now.
      record { given = adds_less (suc (length w) + words_len vs) _ r x.1 (omega arith) (adds_then (suc (length w)) (words_len vs) r spaced x.1 first now) }))

  object_writes : (p : Place) (at a b : ℕ) (ns : List ℕ) (vs : List Value) (r : Room) → SayArcs (a ∷ b ∷ ns) vs
      → Writes s (words_len vs + 3) r (arcs p (braces at (member (parts_from vs) no_members)) r)
  object_writes p at a b ns _ r (say_arc i v d (say_arc {vs = us} j w e more)) =
      let says = say_arc i v d (say_arc j w e more) in
      let n : ℕ = words_len (atom i (amount (number false v)) ∷ atom j (amount (number false w)) ∷ us) in
      let opened : Room = put (codes "{") r in
      bind (λ (x : List ℕ × Room). Adds n opened x.1) _ (some_arcs p (parts_from (atom i (amount (number false v)) ∷ atom j (amount (number false w)) ∷ us)) opened) _
      (arcs_write says p opened) (λ x now.
      let written = adds_then 1 n r opened x.1 (put_adds (codes "{") r) now in
      let closed = adds_then (1 + n) 2 r x.1 (put (codes " }") x.1) written (put_adds (codes " }") x.1) in
      record { given = adds_less (1 + n + 2) _ r (put (codes " }") x.1) (omega arith) closed })

  -- ---- each kind

  module _ (ms : List Module) (ks : List Known) (t : Tree) (m : Meaning) (means : meaning ms (type_in 0 t) ≡ Ok m) (k : ℕ) (number_fits : 40 ≤ k) where
    kind_writes : {L : LeafType} {v : AsnValue} {ss : List Spot} {value : Value} → Stands L v ss value → IsMeant ks (leaf L) m → (g : Governor) (p : Place) (r : Room)
        → tokens_len ss ≤ k
        → Writes s k r (kind_at (value_at ms 31) ms (leaf_kind L) (record { of = type_in 0 t; governor = g }) (record { place = p; governor = g; value = value }) r)
    kind_writes stands_true i g p r fits = record { given = adds_less 4 k r _ (omega (arith, number_fits)) (put_adds (codes "TRUE") r) }
    kind_writes stands_false i g p r fits = record { given = adds_less 5 k r _ (omega (arith, number_fits)) (put_adds (codes "FALSE") r) }
    kind_writes stands_null i g p r fits = record { given = adds_less 4 k r _ (omega (arith, number_fits)) (put_adds (codes "NULL") r) }
    kind_writes (stands_number {z} {minus} {w} n wide) i g p r fits =
        let q = number_governed ms ks t m means i in
        let few = wide_digits z wide in
        rw (number_is ms (type_in 0 t) q.0 p minus w z r q.1 n wide)
        (record { given = adds_less (length (signed_decimal z)) k r (put_number z r) (omega (arith, few, number_fits)) (put_adds (signed_decimal z) r) })
    kind_writes (stands_item {w} n) i g p r fits =
        bind (λ (z : ℤ). Unit {0}) _ (number_in_both ms g g p w) _ (both_go s ms g g p w) (λ z u.
        record { given = adds_less (length w) k r _ (omega (arith, fits)) (put_adds w r) })
    kind_writes (stands_octets {w} a) i g p r fits = writes_less (length w) k r _ (omega (arith, fits)) (digits_write octets p w (octets_in (inside w)) r)
    kind_writes (stands_digit_bits {w} a) i g p r fits = writes_less (length w) k r _ (omega (arith, fits)) (digits_write bit_list p w (digit_bits (inside w)) r)
    kind_writes (stands_bits {w}) i g p r fits =
        writes_less (length w) k r _ (omega (arith, fits)) (line_writes (has_below 33 w) p (bit_list (map is_one (inside w))) w r)
    kind_writes (stands_text {w}) i g p r fits = writes_less (length w) k r _ (omega (arith, fits)) (line_writes (has_below 32 w) p (string (text_in w)) w r)
    kind_writes (stands_utf8 {w}) i g p r fits = writes_less (length w) k r _ (omega (arith, fits)) (line_writes (has_below 32 w) p (string (text_in w)) w r)
    kind_writes (stands_arcs {a} {b} {arcs = ns} {vs} {at} says long) i g p r fits =
        writes_less (words_len vs + 3) k r _ (omega (arith, fits, long)) (object_writes p at a b ns vs r says)

    settled_writes : (L : LeafType) (v : AsnValue) (ss : List Spot) → Settles ms ks t m L v ss → (r : Room) → tokens_len ss ≤ k
        → Writes s k r (default_at ms (type_in 0 t) 0 ss r)
    settled_writes L v ss x r fits = rw (x.is r) (kind_writes x.stands x.meant x.governor (place_of_first 0 ss) r fits)

  -- whatever the type of the value stands for
  default_writes : HasItem → (ms : List Module) (ks known : List Known) (found : List Assignment) (T : AsnType) (t : Tree) (v : AsnValue) (ts : List Token)
      (ss : List Spot) (k : ℕ) (r : Room) → IsValue T v ts → Keeps ts ss → 40 ≤ k → tokens_len ss ≤ k → (f : Result Meaning ToldError)
      → LeadsToType found ks known T t f → meaning ms (type_in 0 t) ≡ f → Writes s k r (default_at ms (type_in 0 t) 0 ss r)
  unfolding default_at governor_at
  default_writes there ms ks known found T t v ts ss k r is keeps some fits (Ok m) meant e =
      let x = value_settles there ms ks t m e is meant.meant ss (placed_as (same_tokens ts) ss keeps) in
      settled_writes ms ks t m e k some x.0 v ss x.2 r fits
  default_writes there ms ks known found T t v ts ss k r is keeps some fits (Err f) long e = rw e (record { given = tt })

-- ---- what stands behind the type of a component

-- A bound for what is written, which is 60 where definitions are short.
bound : (s : Bool) (ss : List Spot) → (s ≡ true → tokens_len ss ≤ 60) → (k : ℕ) × (40 ≤ k) × (tokens_len ss ≤ k) × (s ≡ true → k ≤ 60)
bound true ss short = (60, omega arith, short refl, λ on. omega arith)
bound false ss short = (tokens_len ss + 40, omega arith, omega arith, λ on. absurd (cc))

-- no part is taken, and of short definitions at most so many octets are written
abbrev pub Behind : Bool → ℕ → Room → model.Need × Room → Type 0
Behind s k r y = (y.1.parts ≡ r.parts) × (s ≡ true → length y.1.text ≤ length r.text + k)

abbrev pub DefaultsKeep : Bool → List Module → List Known → Type 0
DefaultsKeep s ms ks = (known : List Known) (T : AsnType) (t : Tree) (need : model.Need) (n : Need) (r : Room) → IsFront known ks → Says known T t
    → SaysNeed T need n → (s ≡ true → IsShortNeed n) → Stays s (Behind s 69 r) (needed_at ms 0 t n r)

behind_put : (s : Bool) (k : ℕ) (need : model.Need) (r x : Room) → Adds k r x → (s ≡ true → k ≤ 69) → Behind s 69 r (need, x)
behind_put s k need r x h few = (h.0, λ on. let a = h.1 in let b = few on in omega (arith, a, b))

pub defaults_keep : (s : Bool) → HasItem → TypesAreMeant → (ms : List Module) (ks : List Known) → IsHome ms ks → DefaultsKeep s ms ks
defaults_keep s there means ms ks home known T t need n r front says needed short = record { given = (refl, λ on. omega arith) }
defaults_keep s there means ms ks home known T t need n r front says optional short =
    record { given = behind_put s 9 model.may r (put (codes " OPTIONAL") r) (put_adds (codes " OPTIONAL") r) (λ on. omega arith) }
defaults_keep s there means ms ks home known T t need n r front says (with_default {v} {ts} {ss} is keeps) short =
    let b = bound s ss short in
    let opened : Room = put (codes " DEFAULT ") r in
    bind (λ (x : AsnValue × Room). Adds b.0 opened x.1) _ (default_at ms (type_in 0 t) 0 ss opened) _
    (default_writes s there ms ks known home.home.assignments T t v ts ss b.0 opened is keeps b.1 b.2 (meaning ms (type_in 0 t)) (means ms ks known T t home front says) refl) (λ x now.
    record {
      given = behind_put s (9 + b.0) (model.default x.0) r x.1 (adds_then 9 b.0 r opened x.1 (put_adds (codes " DEFAULT ") r) now)
          (λ on. let few = b.3 on in omega (arith, few));
    })
