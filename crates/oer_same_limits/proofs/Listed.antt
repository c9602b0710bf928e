-- An ENUMERATED takes a part for each of its items, and of short definitions no more octets are held than before, but for its word and braces.
use Rattle.std.proofs.Common.{◌≡◌, ◌∙◌, ◌≤◌, ◌+◌, ◌==◌, ◌++◌, ℕ, suc, ℤ, List, [], ◌∷◌, map, Bool, true, false, if◌then◌else◌, Option, Some, None, Ok, Err, is_some, refl, sym, ap, subst, arith}
use Rattle.std.specs.Prelude.{FitsSigned, codes, length}
use Rattle.std.specs.Fmt.{signed_decimal}
use Rattle.std.specs.Int.{w64}
use Rattle.std.proofs.lemmas.Grind.{flat_map-append}
use Rattle.std.proofs.lemmas.List.{length-append, length-map}
use Rattle.oer_lexer.specs.Token as notation
use Rattle.oer_lexer.specs.declared.token.Sign.TheVariants as signs
use Rattle.oer_model.specs.AsnType.{AsnType, NamedNumber, leaf}
use Rattle.oer_model.specs.LeafType.{LeafType, enumerated}
use Rattle.oer_model.specs.Nodes.{leaf_nodes}
use Rattle.oer_model.specs.Widths.{HasWidths, HaveItemWidths}
use Rattle.oer_module_leaves.specs.Leaves.{enumerated_at, enumerated_by, lacks_marker, listed_at}
use Rattle.oer_module_leaves.specs.Numbered.{Numbered, NumberedItem, numbered_at}
use Rattle.oer_module_leaves.specs.Shapes.{enumerated_type, in_64_bits, named_at, named_items}
use Rattle.oer_module_leaves.specs.Texts.{before, closing, is_at, item_text, items_at, items_from}
use Rattle.oer_module_lexer.specs.Token.{Spot, Token}
use Rattle.oer_module_names.specs.declared.error.Place.{Place}
use Rattle.oer_module_syntax.specs.Tree.{Module}
use Rattle.oer_module_text.specs.Errors.{Read, place_in}
use Rattle.oer_module_text.specs.Room.{Room, put, take_part}
use Rattle.oer_notation.specs.Grammar.{AreItems, IsLeaf, item, items_behind, items_marker, no_items}
use Rattle.oer_same_defaults.specs.Short.{token_len}
use Rattle.oer_same_items.specs.Laws.{SameItems, as_named}
use Rattle.oer_same_items.specs.Told.{Tells}
use Rattle.oer_same_tokens.specs.Same.{same_token, same_tokens}
use Rattle.oer_same_trees.specs.Says.{Keeps, kept}
use Rattle.oer_value_notation.specs.Leaves.{listed}
use Rattle.oer_same_limits.proofs.Digits.{short_digits}
use Rattle.oer_same_limits.proofs.Items.{numbered_goes, wide_goes}
use Rattle.oer_same_limits.proofs.Room.{Adds, Fills, Goes, Stays, adds_held, adds_less, adds_then, held, part_taken, put_adds}
use Rattle.oer_same_limits.proofs.Telling.{bind, choose, weaken}
use Rattle.oer_same_limits.specs.Short.{AreShortTokens}

-- ---- names among tokens

abbrev AreFew : List Token → Type 0
AreFew [] = Unit {0}
AreFew (t ∷ ts) = (token_len t ≤ 60) × AreFew ts

few_kept : (ss : List Spot) → AreShortTokens ss → AreFew (kept ss)
few_kept [] h = tt
few_kept (s ∷ ss) h = (h.0, few_kept ss h.1)

few_front : (ts us : List Token) → AreFew (ts ++ us) → AreFew ts
few_front [] us h = tt
few_front (t ∷ ts) us h = (h.0, few_front ts us h.1)

few_behind : (ts us : List Token) → AreFew (ts ++ us) → AreFew us
few_behind [] us h = h
few_behind (t ∷ ts) us h = few_behind ts us h.1

-- of tokens of the notation, one behind the other
few_parts : (ts us : List notation.Token) → AreFew (same_tokens (ts ++ us)) → AreFew (same_tokens ts) × AreFew (same_tokens us)
few_parts ts us h =
    let both : AreFew (same_tokens ts ++ same_tokens us) = subst AreFew (flat_map-append same_token ts us) h in
    (few_front (same_tokens ts) (same_tokens us) both, few_behind (same_tokens ts) (same_tokens us) both)

-- names have at most 60 octets
abbrev HaveShortNames : List NamedNumber → Type 0
HaveShortNames [] = Unit {0}
HaveShortNames (i ∷ is) = (length i.name ≤ 60) × HaveShortNames is

names_short : {numbered marker : Bool} {place : ℕ} {items : List NamedNumber} {ts : List notation.Token} → AreItems numbered place items marker ts
    → AreFew (same_tokens ts) → HaveShortNames items
names_short no_items h = tt
names_short (item {ts} {us} id is more) h = (h.1.0, names_short more (few_parts ts us h.1.1).1)
names_short (items_marker more) h = names_short more h.1.1

-- such names, and numbers of 64 bits
abbrev AreFitting : List NamedNumber → Type 0
AreFitting items = HaveShortNames items × HaveItemWidths items

-- ---- the text of one item

before_len : (marker : Option ℕ) (i : ℕ) → length (before marker i) ≤ 7
before_len marker i = by (i == 0) (is_at marker i) where
  by : (b c : Bool) → length (if b then [] else if c then codes ", ..., " else codes ", ") ≤ 7
  by true c = omega arith
  by false true = omega arith
  by false false = omega arith

closing_len : (marker : Option ℕ) (n : ℕ) → length (closing marker n) ≤ 6
closing_len marker n = by (is_at marker n) where
  by : (b : Bool) → length (if b then codes ", ...}" else codes "}") ≤ 6
  by true = omega arith
  by false = omega arith

item_len : (i : NumberedItem) → length i.name ≤ 60 → FitsSigned w64 i.number → length (item_text i) ≤ 82
item_len i name fits =
    let few = short_digits i.number fits in
    let one = length-append (signed_decimal i.number) (codes ")") in
    let all = length-append i.name (codes "(" ++ (signed_decimal i.number ++ codes ")")) in
    omega (arith, name, few, one, all)

-- as many items are read as there are, and they are these
abbrev AreThese : List NamedNumber → Numbered → Type 0
AreThese items e = map as_named e.items ≡ items

module _ (s : Bool) where
  items_take : (m : ℕ) (marker : Option ℕ) (i : ℕ) (is : List NumberedItem) (r : Room) (n : ℕ) → r.parts ≡ n + length is → (s ≡ true → held r ≤ 1048832)
      → (s ≡ true → AreFitting (map as_named is)) → Stays s (λ (x : Room). (x.parts ≡ n) × (s ≡ true → held x ≤ held r)) (items_from m marker i is r)
  items_take m marker i [] r n e fits short = record { given = (omega (arith, e), λ on. omega arith) }
  items_take m marker i (x ∷ xs) r n e fits short =
      let some : r.parts ≡ suc (n + length xs) = omega (arith, e) in
      bind (λ (y : Room). (y.parts ≡ n + length xs) × (s ≡ true → held y + 256 ≤ held r)) _ (take_part (place_in m x.at) r) _
      (part_taken s (place_in m x.at) r (n + length xs) some fits) (λ y is.
      let z : Room = put (item_text x) (put (before marker i) y) in
      weaken (λ (u : Room). (u.parts ≡ n) × (s ≡ true → held u ≤ held z)) _ (items_from m marker (suc i) xs z)
      (items_take m marker (suc i) xs z n is.0 (λ on. let less = item_held on y z is.1 refl in let all = fits on in omega (arith, less, all)) (λ on. ((short on).0.1, (short on).1.1)))
      (λ u now. (now.0, λ on. let less = item_held on y z is.1 refl in let few = now.1 on in omega (arith, less, few)))) where
        item_held : s ≡ true → (y z : Room) → (s ≡ true → held y + 256 ≤ held r) → z ≡ put (item_text x) (put (before marker i) y) → held z ≤ held r
        item_held on y z few is =
            let f = short on in
            let less = few on in
            let first = before_len marker i in
            let second = item_len x f.0.0 f.1.0 in
            let both = adds_then (length (before marker i)) (length (item_text x)) y (put (before marker i) y) (put (item_text x) (put (before marker i) y))
            (put_adds (before marker i) y) (put_adds (item_text x) (put (before marker i) y)) in
            let all = adds_held (length (before marker i) + length (item_text x)) y (put (item_text x) (put (before marker i) y)) both in
            subst (λ (u : Room). held u ≤ held r) (sym is) (omega (arith, less, first, second, all))

  named_goes : (m : ℕ) (is : List NumberedItem) → Goes s (named_items m is)
  named_goes m [] = record { given = tt }
  named_goes m (i ∷ is) =
      bind (λ (n : NamedNumber). Unit {0}) (λ (ns : List NamedNumber). Unit {0}) (named_at m i) _
      (bind (λ (z : ℤ). Unit {0}) (λ (n : NamedNumber). Unit {0}) (in_64_bits (place_in m i.at) i.number) _ (wide_goes s (place_in m i.at) i.number)
      (λ z u. record { given = tt })) (λ n u.
      bind (λ (ns : List NamedNumber). Unit {0}) (λ (ns : List NamedNumber). Unit {0}) (named_items m is) _ (named_goes m is) (λ ns v. record { given = tt }))

  listed_takes : (m : ℕ) (e : Numbered) (r : Room) (n : ℕ) → r.parts ≡ n + length e.items → (s ≡ true → held r ≤ 1048832)
      → (s ≡ true → AreFitting (map as_named e.items)) → Fills s n 6 r (listed_at m e r)
  unfolding listed_at items_at
  listed_takes m e r n is fits short =
      bind (λ (x : Room). (x.parts ≡ n) × (s ≡ true → held x ≤ held r + 6)) _ _ _
      (bind (λ (x : Room). (x.parts ≡ n) × (s ≡ true → held x ≤ held r)) (λ (x : Room). (x.parts ≡ n) × (s ≡ true → held x ≤ held r + 6)) (items_from m e.marker 0 e.items r) _
      (items_take m e.marker 0 e.items r n is fits short) (λ x now.
      let few = closing_len e.marker (length e.items) in
      let adds = put_adds (closing e.marker (length e.items)) x in
      let all = adds_held (length (closing e.marker (length e.items))) x (put (closing e.marker (length e.items)) x) adds in
      record { given = (now.0, λ on. let less = now.1 on in omega (arith, few, all, less)) })) (λ x now.
      bind (λ (T : AsnType). Unit {0}) _ (enumerated_type m e) _
      (bind (λ (ns : List NamedNumber). Unit {0}) (λ (T : AsnType). Unit {0}) (named_items m e.items) _ (named_goes m e.items) (λ ns v. record { given = tt }))
      (λ T u. record { given = now }))

  these_by : (items : List NamedNumber) (marker : Bool) (p : Read Numbered) → Tells false (λ (e : Numbered). (map as_named e.items ≡ items) × (is_some e.marker ≡ marker)) p
      → Goes s p → Stays s (AreThese items) p
  these_by items marker (Ok e) h g = record { given = h.0 }
  these_by items marker (Err e) h g = record { given = g.given }

-- the items that tokens are
record ItemsOf (L : LeafType) (ts : List notation.Token) : Type 0 where
  items : List NamedNumber
  marker : Bool
  is : L ≡ enumerated items marker
  names : AreFew (same_tokens ts) → HaveShortNames items

items_of : {L : LeafType} {ts : List notation.Token} → IsLeaf (listed enumerated) L ts → ItemsOf L ts
items_of (items_behind {marker} {items} {w} {ts} i) = record {
  items = items;
  marker = marker;
  is = refl;
  names = λ few. names_short i (omega arith, (few.1.0, (few_parts ts (notation.sign signs.CloseBrace ∷ []) few.1.1).0));
}

module _ (s : Bool) (same_items : SameItems) (ms : List Module) where
  listed_by : (q : Place) (items : List NamedNumber) (r : Room) (n : ℕ) → r.parts ≡ n + length items → (s ≡ true → held r ≤ 1048700) → (s ≡ true → AreFitting items)
      → (e : Numbered) → AreThese items e → Fills s n 18 r (enumerated_by ms q r e)
  listed_by q items r n room fits short e these = choose _ (lacks_marker ms q.«module» e) _ _ (λ lacks. record { given = tt }) (λ has.
      let opened : Room = put (codes "ENUMERATED {") r in
      let all : held opened ≤ held r + 12 = adds_held 12 r opened (put_adds (codes "ENUMERATED {") r) in
      let count : length e.items ≡ length items = sym (length-map e.items as_named) ∙ ap length these in
      weaken (λ (x : AsnType × Room). (x.1.parts ≡ n) × (s ≡ true → held x.1 ≤ held opened + 6)) _ (listed_at q.«module» e opened)
      (listed_takes s q.«module» e opened n (omega (arith, room, count)) (λ on. let few = fits on in omega (arith, few, all))
      (λ on. subst AreFitting (sym these) (short on))) (λ x is. (is.0, λ on. let few = is.1 on in omega (arith, few, all))))

  pub enumerated_takes : {L : LeafType} {ts : List notation.Token} (ss : List Spot) → IsLeaf (listed enumerated) L ts → Keeps ts ss → (q : Place) (r : Room) (n : ℕ)
      → suc r.parts ≡ n + leaf_nodes L → (s ≡ true → held r ≤ 1048700) → (s ≡ true → AreShortTokens ss × HasWidths (leaf L))
      → Fills s n 18 r (enumerated_at ms q ss r)
  enumerated_takes {L} {ts} ss l keeps q r n e fits short =
      let x = items_of l in
      let spelt : IsLeaf (listed enumerated) (enumerated x.items x.marker) ts = subst (λ M. IsLeaf (listed enumerated) M ts) x.is l in
      let nodes : leaf_nodes L ≡ suc (length x.items) = ap leaf_nodes x.is in
      let room : r.parts ≡ n + length x.items = omega (arith, e, nodes) in
      let fitting : s ≡ true → AreFitting x.items =
      λ on. (x.names (subst AreFew keeps (few_kept ss (short on).0)), subst (λ M. HasWidths (leaf M)) x.is (short on).1) in
      bind (AreThese x.items) _ (numbered_at ms q ss) _
      (these_by s x.items x.marker (numbered_at ms q ss) (same_items false x.items x.marker ts ss spelt keeps ms q (λ on. absurd (cc))) (numbered_goes s ms q ss)) (λ y these.
      listed_by q x.items r n room fits fitting y these)
