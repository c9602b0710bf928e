-- An ENUMERATED of the notation is rejected in a module for limits alone.
use Rattle.std.proofs.Common.{◌≡◌, ◌==◌, ◌&&◌, ℕ, suc, List, [], ◌∷◌, ◌++◌, map, Bool, true, false, Option, Some, None, Result, Ok, Err, ℤ, is_none, is_some, sym, subst, refl}
use Rattle.std.specs.Prelude.{FitsSigned, codes, length, nat_lt}
use Rattle.std.specs.Int.{w64}
use Rattle.oer_lexer.specs.Token as notation
use Rattle.oer_model.specs.AsnType.{AsnType, NamedNumber, leaf}
use Rattle.oer_model.specs.LeafType.{enumerated}
use Rattle.oer_model.specs.Widths.{HaveItemWidths}
use Rattle.oer_module_leaves.specs.Leaves.{enumerated_at, is_implied, lacks_marker, listed_at}
use Rattle.oer_module_leaves.specs.Numbered.{Numbered, NumberedItem, numbered_at, numbers_of, unless_misnumbered}
use Rattle.oer_module_leaves.specs.Shapes.{enumerated_type, in_64_bits, is_signed_long, named_at, named_items}
use Rattle.oer_module_leaves.specs.Texts.{before, item_text, items_at, items_from}
use Rattle.oer_module_lexer.specs.Token.{Spot}
use Rattle.oer_module_names.specs.declared.error.Place.{Place}
use Rattle.oer_module_parts.specs.Kept.{kept, last_place}
use Rattle.oer_module_parts.specs.Numbering.{number_items}
use Rattle.oer_module_parts.specs.declared.numbering.NumberFault.{NumberFault}
use Rattle.oer_module_syntax.specs.State.{State}
use Rattle.oer_module_syntax.specs.Tree.{Module}
use Rattle.oer_module_terms.specs.Items.{enumeration_at}
use Rattle.oer_module_terms.specs.Trees.{Amount, Enumeration, Item, number}
use Rattle.oer_module_text.specs.Errors.{place_in, told_by, unresolved}
use Rattle.oer_module_text.specs.Room.{Room, put, take_part}
use Rattle.oer_module_values.specs.Digits.{whole_of}
use Rattle.oer_module_values.specs.Errors as values
use Rattle.oer_module_values.specs.Numbers.{all_items, fitting, given_by, given_number, given_numbers, more_items}
use Rattle.oer_same_trees.specs.Says.{Keeps}
use Rattle.oer_same_items.proofs.Named.{all_given, digits_counted}
use Rattle.oer_same_items.proofs.Widths.{numbered_all, signed_long, wider}
use Rattle.oer_same_items.proofs.Same.{enumerated_same, items_same, numbered_by, numbers_by, read_in, told_ok}
use Rattle.oer_same_items.proofs.Taken.{SayItems, SaysNumber, say_item, say_none, says_none, says_own}
use Rattle.oer_same_items.proofs.Telling.{Gives, Passes, bind, choose, same_told, told, unless}
use Rattle.oer_same_items.proofs.Whole.{whole_found}
use Rattle.oer_same_items.specs.Laws.{IsEnumeration, SameEnumerated, SameItems, as_named}
use Rattle.oer_same_items.specs.Ordinary.{AreOrdinary}
use Rattle.oer_same_items.specs.Told.{IsLimit}

-- ---- the numbers that are given

-- digits, which of ordinary items are a number of 128 bits, or nothing
abbrev IsDigits : Bool → Option Amount → Type 0
IsDigits o None = Unit {0}
IsDigits o (Some (number minus w)) = o ≡ true → (z : ℤ) × (whole_of minus w ≡ Some z)
IsDigits o (Some a) = ⊥

abbrev AreDigits : Bool → List Item → Type 0
AreDigits o [] = Unit {0}
AreDigits o (i ∷ is) = IsDigits o i.number × AreDigits o is

number_digits : (o : Bool) {numbered : Bool} {place : ℕ} {z : ℤ} {n : Option Amount} → SaysNumber numbered place z n → (o ≡ true → FitsSigned w64 z) → IsDigits o n
number_digits o (says_own {z} minus w written) fits = λ on. (z, whole_found minus w z written (wider z (fits on)))
number_digits o says_none fits = tt

all_digits : (o : Bool) {numbered : Bool} {place : ℕ} {items : List NamedNumber} {is : List Item} → SayItems numbered place items is
    → (o ≡ true → HaveItemWidths items) → AreDigits o is
all_digits o say_none fit = tt
all_digits o (say_item at says more) fit = (number_digits o says (λ on. (fit on).0), all_digits o more (λ on. (fit on).1))

-- of two lists, one behind the other
both_digits : (o : Bool) (is js : List Item) → AreDigits o (is ++ js) → AreDigits o is × AreDigits o js
both_digits o [] js h = (tt, h)
both_digits o (i ∷ is) js h = let more = both_digits o is js h.1 in ((h.0, more.0), more.1)

-- what isn't found is too large, and that is so of no ordinary items
abbrev IsFound : {A : Type 0} → Bool → Result A values.Error → Type 0
IsFound o (Ok x) = Unit {0}
IsFound o (Err e) = (e.why ≡ values.too_large) × (o ≡ false)

found_next : {A B : Type 0} (o : Bool) (r : Result A values.Error) (f : A → Result B values.Error) → IsFound o r → ((x : A) → IsFound o (f x))
    → IsFound o (values.◌>>=◌ r f)
found_next o (Ok x) f h k = k x
found_next o (Err e) f h k = h

fitting_found : (o : Bool) (p : Place) (n : Option ℤ) → (o ≡ true → (z : ℤ) × (n ≡ Some z)) → IsFound o (fitting p n)
fitting_found o p None h = (refl, unless o (λ on. let e = (h on).1 in absurd (cc)))
fitting_found o p (Some z) h = tt

module _ (o : Bool) (ms : List Module) where
  given_found : (p : Place) (n : Option Amount) → IsDigits o n → IsFound o (given_by ms p n)
  given_found p None h = tt
  given_found p (Some (number minus w)) h =
      subst (λ r. IsFound o (values.◌>>=◌ r (λ z. Ok (Some z)))) (sym (digits_counted ms p minus w))
      (found_next o (fitting p (whole_of minus w)) (λ z. Ok (Some z)) (fitting_found o p (whole_of minus w) h) (λ z. tt))
  given_found p (Some a) h = absurd h

  numbers_found : (m : ℕ) (is : List Item) → AreDigits o is → IsFound o (given_numbers ms m is)
  numbers_found m [] h = tt
  numbers_found m (i ∷ is) h =
      found_next o (given_number ms m i) (λ n. values.◌>>=◌ (given_numbers ms m is) (λ ns. Ok (n ∷ ns))) (given_found (place_in m i.at) i.number h.0)
      (λ n. found_next o (given_numbers ms m is) (λ ns. Ok (n ∷ ns)) (numbers_found m is h.1) (λ ns. tt))

  told_passes : {A : Type 0} (r : Result A values.Error) → IsFound o r → Passes o (told_by r)
  told_passes (Ok x) h = record { given = tt }
  told_passes (Err e) h = record { given = subst (λ w. IsLimit o (unresolved w)) (sym h.0) h.1 }

  -- the numbers, and that these are they
  numbers_told : (m : ℕ) (is : List Item) → AreDigits o is → Gives o (λ ns. given_numbers ms m is ≡ Ok ns) (told_by (given_numbers ms m is))
  numbers_told m is h = told (λ ns. given_numbers ms m is ≡ Ok ns) (told_by (given_numbers ms m is)) (told_passes _ (numbers_found m is h)) (λ ns e.
      told_ok (given_numbers ms m is) ns e)

-- ---- the items

numbering_passes : (o : Bool) (m : ℕ) (is : List Item) (r : Result (List ℤ) NumberFault) → (o ≡ true → (ns : List ℤ) × (r ≡ Ok ns)) → Passes o (unless_misnumbered m is r)
numbering_passes o m is (Ok ns) h = record { given = tt }
numbering_passes o m is (Err f) h = record { given = unless o (λ on. let e = (h on).1 in absurd (cc)) }

module _ (o : Bool) (ms : List Module) (p : Place) (ss : List Spot) where
  items_pass : (numbered : Bool) (items : List NamedNumber) (e : Enumeration) (rest : State) → enumeration_at (kept ss p.at) ≡ Ok (e, rest)
      → SayItems numbered 0 items (all_items e) → (o ≡ true → AreOrdinary ms p ss items) → Passes o (numbers_by ms p e)
  unfolding numbers_by
  items_pass numbered items e rest read says h =
      let both = both_digits o e.root (more_items e.more) (all_digits o says (λ on. (h on).widths)) in
      bind _ _ (told_by (given_numbers ms p.«module» e.root)) _ (numbers_told o ms p.«module» e.root both.0) (λ root u.
      bind _ _ (told_by (given_numbers ms p.«module» (more_items e.more))) _ (numbers_told o ms p.«module» (more_items e.more) both.1) (λ more v.
      bind _ _ (numbers_of p.«module» (all_items e) root more) _ (numbering_passes o p.«module» (all_items e) (number_items root more) (λ on.
      let x = h on in (
        map (λ i. i.number) x.written.0,
        numbered_all ms p ss e rest numbered items root more read u v (all_given ms p.«module» numbered items e.root (more_items e.more) root more says u v)
            x.widths x.written.0 x.written.1 x.written.2,
      ))) (λ ns w.
      record { given = tt })))

  pub numbered_passes : {items : List NamedNumber} {marker : Bool} {ts : List notation.Token} → IsEnumeration items marker ts → Keeps ts ss
      → (o ≡ true → AreOrdinary ms p ss items) → Passes o (numbered_at ms p ss)
  numbered_passes {items} {marker} spelt keeps h =
      let r = read_in (last_place ss p.at) spelt ss keeps in
      let is : enumerated items marker ≡ enumerated r.items r.marker = r.is in
      let same : items ≡ r.items = cc in
      same_told _ _ _ (numbered_by ms p ss r.read.rest r.read.found r.read.is)
      (items_pass r.numbered r.items r.read.found r.read.rest r.read.is r.read.says (λ on. subst (AreOrdinary ms p ss) same (h on)))

pub same_items : SameItems
same_items o items marker ts ss spelt keeps ms p h =
    (told (λ e. (map as_named e.items ≡ items) × (is_some e.marker ≡ marker)) (numbered_at ms p ss) (numbered_passes o ms p ss spelt keeps h)
    (λ e is. items_same items marker ts ss spelt keeps ms p e is)).given

-- ---- the type

pub take_passes : (o : Bool) (p : Place) (r : Room) → Passes o (take_part p r)
unfolding take_part
take_passes o p r = choose _ (r.parts == 0) _ _ (λ full. record { given = tt }) (λ room.
    choose _ (nat_lt 1048576 (length r.text)) _ _ (λ long. record { given = tt }) (λ short. record { given = tt }))

from_passes : (o : Bool) (m : ℕ) (marker : Option ℕ) (i : ℕ) (is : List NumberedItem) (r : Room) → Passes o (items_from m marker i is r)
from_passes o m marker i [] r = record { given = tt }
from_passes o m marker i (x ∷ xs) r =
    bind _ _ (take_part (place_in m x.at) r) _ (take_passes o (place_in m x.at) r) (λ s u. from_passes o m marker (suc i) xs (put (item_text x) (put (before marker i) s)))

text_passes : (o : Bool) (m : ℕ) (e : Numbered) (r : Room) → Passes o (items_at m e r)
unfolding items_at
text_passes o m e r = bind _ _ (items_from m e.marker 0 e.items r) _ (from_passes o m e.marker 0 e.items r) (λ s u. record { given = tt })

pub long_passes : (o : Bool) (p : Place) (z : ℤ) → (o ≡ true → FitsSigned w64 z) → Gives o (λ y. y ≡ z) (in_64_bits p z)
long_passes o p z h = choose _ (is_signed_long z) _ _ (λ fits. record { given = refl }) (λ wide.
    record { given = unless o (λ on. let fits = signed_long z (h on) in absurd (cc)) })

-- with the numbers that the items have
named_pass : (o : Bool) (m : ℕ) (is : List NumberedItem) → (o ≡ true → HaveItemWidths (map as_named is)) → Passes o (named_items m is)
named_pass o m [] h = record { given = tt }
named_pass o m (i ∷ is) h =
    bind (λ (n : NamedNumber). Unit {0}) (λ (ns : List NamedNumber). Unit {0}) (named_at m i) _
    (bind (λ (z : ℤ). z ≡ i.number) (λ (n : NamedNumber). Unit {0}) (in_64_bits (place_in m i.at) i.number) _
    (long_passes o (place_in m i.at) i.number (λ on. (h on).0)) (λ z u. record { given = tt })) (λ n u.
    bind (λ (ns : List NamedNumber). Unit {0}) (λ (ns : List NamedNumber). Unit {0}) (named_items m is) _ (named_pass o m is (λ on. (h on).1)) (λ ns v.
    record { given = tt }))

listed_passes : (o : Bool) (m : ℕ) (e : Numbered) (r : Room) → (o ≡ true → HaveItemWidths (map as_named e.items)) → Passes o (listed_at m e r)
unfolding listed_at
listed_passes o m e r h =
    bind _ _ (items_at m e r) _ (text_passes o m e r) (λ s u.
    bind (λ (T : AsnType). Unit {0}) _ (enumerated_type m e) _
    (bind (λ (ns : List NamedNumber). Unit {0}) (λ (T : AsnType). Unit {0}) (named_items m e.items) _ (named_pass o m e.items h) (λ ns v. record { given = tt }))
    (λ t v. record { given = tt }))

pub not_both : (a b : Bool) → b ≡ false → (a && b) ≡ true → ⊥
not_both true false h e = absurd (cc)
not_both false b h e = absurd (cc)
not_both true true h e = absurd (cc)

pub same_enumerated : SameEnumerated
same_enumerated o items marker ts ss spelt keeps ms p h r none =
    (told (λ x. x.0 ≡ leaf (enumerated items marker)) (enumerated_at ms p ss r)
    (bind (λ e. (map as_named e.items ≡ items) × (is_some e.marker ≡ marker)) _ (numbered_at ms p ss) _
    (record { given = same_items o items marker ts ss spelt keeps ms p h }) (λ e same.
    choose _ (lacks_marker ms p.«module» e) _ _ (λ lacks. absurd (not_both (is_none e.marker) (is_implied ms p.«module») none lacks))
    (λ has. listed_passes o p.«module» e (put (codes "ENUMERATED {") r) (λ on. subst HaveItemWidths (sym same.0) (h on).widths))))
    (λ x given. enumerated_same (enumerated items marker) ts ss spelt keeps ms p r x.1 x.0 given)).given
