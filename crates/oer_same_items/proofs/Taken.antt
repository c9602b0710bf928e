-- What the reader of modules reads of the tokens of an ENUMERATED.
use Rattle.std.proofs.Common.{◌≡◌, ℕ, suc, ◌+◌, List, [], ◌∷◌, ◌++◌, length, Bool, true, false, Option, Some, None, is_some, Ok, ℤ, pos, refl, sym, ap, subst, ◌∙◌, append_assoc, arith}
use Rattle.oer_lexer.specs.Token as notation
use Rattle.oer_lexer.specs.declared.token.Sign.TheVariants as signs
use Rattle.oer_model.specs.AsnType.{NamedNumber}
use Rattle.oer_module_lexer.specs.Token.{Token, Spot, word, sign}
use Rattle.oer_module_lexer.specs.declared.token.Sign.TheVariants.{OpenBrace, CloseBrace, OpenParenthesis, CloseParenthesis, Comma, Ellipsis, Exclamation}
use Rattle.oer_module_syntax.specs.Modules.{many}
use Rattle.oer_module_syntax.specs.Ranges.{starts_sign}
use Rattle.oer_module_syntax.specs.State.{State, Read, ◌>>=◌, bump, identifier_at, skip_sign}
use Rattle.oer_module_terms.specs.Items.{enumeration_at, item_at, items_end, later_items_at, more_at, number_at, some_items_at}
use Rattle.oer_module_terms.specs.Trees.{Amount, number, Item, More, Enumeration}
use Rattle.oer_module_terms.specs.Values.{amount_at, enclosed_at}
use Rattle.oer_module_terms.specs.declared.item.Numbering.TheVariants.{Optional}
use Rattle.oer_module_values.specs.Digits.{IsWritten}
use Rattle.oer_module_values.specs.Numbers.{all_items, more_items}
use Rattle.oer_notation.specs.Grammar.{AreItems, no_items, item, items_marker, IsId, IsItemNumber, own_number, number_by_place}
use Rattle.oer_same_tokens.specs.Same.{same_tokens}
use Rattle.oer_same_trees.proofs.Placed.{Placed, none_placed, placed, Parts, same_parts, before, spot}
use Rattle.oer_same_trees.proofs.Turns.{Runs, ran, run, all_run}
use Rattle.oer_same_trees.proofs.Words.{id_small}
use Rattle.oer_same_items.proofs.Whole.{IsWhole, from_zero, below_zero, integer_whole}

-- ---- what items of modules are

-- the number of the item at a place: where items are numbered its own, else none
pub data SaysNumber : Bool → ℕ → ℤ → Option Amount → Type 0 where
  says_own : {place : ℕ} {z : ℤ} (minus : Bool) (w : List ℕ) → IsWritten minus w z → SaysNumber true place z (Some (number minus w))
  says_none : {place : ℕ} → SaysNumber false place (pos place) None

-- Items of modules from a place on are those of the notation.
pub data SayItems (numbered : Bool) : ℕ → List NamedNumber → List Item → Type 0 where
  say_none : {place : ℕ} → SayItems numbered place [] []
  say_item : {place : ℕ} {w : List ℕ} {z : ℤ} {n : Option Amount} {items : List NamedNumber} {is : List Item} (at : ℕ)
      → SaysNumber numbered place z n → SayItems numbered (place + 1) items is
      → SayItems numbered place (record { name = w; number = z } ∷ items) (record { at = at; name = w; number = n } ∷ is)

module _ (end by : ℕ) where
  abbrev st : List Spot → State
  st ss = before end true ss

  -- the closing brace
  abbrev tail : List Spot
  tail = spot by (sign CloseBrace) ∷ []

  -- past the comma before it
  abbrev next_item : State → Read Item
  next_item s = item_at Optional (bump s)

  -- ---- one item

  -- What is read behind the name: the number in parentheses, or nothing where no parenthesis follows.
  record NumberRead (numbered : Bool) (place : ℕ) (z : ℤ) (ss : List Spot) : Type 0 where
    given : Option Amount
    is : (rest : List Spot) → starts_sign OpenParenthesis rest ≡ false → number_at Optional (st (ss ++ rest)) ≡ Ok (given, st rest)
    says : SaysNumber numbered place z given

  enclosed_read : {place : ℕ} {z : ℤ} (o : ℕ) (us : List Token) → IsWhole z us → (ss : List Spot) → Placed (us ++ sign CloseParenthesis ∷ []) ss
      → NumberRead true place z (spot o (sign OpenParenthesis) ∷ ss)
  unfolding enclosed_at amount_at skip_sign
  enclosed_read o _ (from_zero {w} n) _ (placed at (placed c none_placed)) =
      record { given = Some (number false w); is = λ rest h. refl; says = says_own false w n }
  enclosed_read o _ (below_zero {w} n) _ (placed at (placed by (placed c none_placed))) =
      record { given = Some (number true w); is = λ rest h. refl; says = says_own true w n }

  no_number : (rest : List Spot) → starts_sign OpenParenthesis rest ≡ false → number_at Optional (st rest) ≡ Ok (None, st rest)
  no_number rest h = rw h refl

  number_read : {numbered : Bool} {place : ℕ} {z : ℤ} {ts : List notation.Token} → IsItemNumber numbered place z ts → (ss : List Spot) → Placed (same_tokens ts) ss
      → NumberRead numbered place z ss
  number_read (own_number i) _ (placed {ss} o p) = enclosed_read o _ (integer_whole i) ss p
  number_read number_by_place _ none_placed = record { given = None; is = no_number; says = says_none }

  item_read : (w : List ℕ) → IsId w → (at : ℕ) (ss rest : List Spot) (n : Option Amount) → number_at Optional (st (ss ++ rest)) ≡ Ok (n, st rest)
      → item_at Optional (st (spot at (word w) ∷ (ss ++ rest))) ≡ Ok (record { at = at; name = w; number = n }, st rest)
  unfolding item_at identifier_at
  item_read w i at ss rest n h = rw (id_small i, h) refl

  -- ---- what follows an item

  no_parenthesis : {numbered marker : Bool} {place : ℕ} {items : List NamedNumber} {ts : List notation.Token} → AreItems numbered place items marker ts
      → (ss : List Spot) → Placed (same_tokens ts) ss → starts_sign OpenParenthesis (ss ++ tail) ≡ false
  no_parenthesis no_items _ none_placed = refl
  no_parenthesis (item i n more) _ (placed at p) = refl
  no_parenthesis (items_marker more) _ (placed at p) = refl

  no_exception : {numbered marker : Bool} {place : ℕ} {items : List NamedNumber} {ts : List notation.Token} → AreItems numbered place items marker ts
      → (ss : List Spot) → Placed (same_tokens ts) ss → starts_sign Exclamation (ss ++ tail) ≡ false
  no_exception no_items _ none_placed = refl
  no_exception (item i n more) _ (placed at p) = refl
  no_exception (items_marker more) _ (placed at p) = refl

  goes_on : (root : Bool) (at by : ℕ) (w : List ℕ) (ss : List Spot) → items_end root (st (spot at (sign Comma) ∷ spot by (word w) ∷ ss)) ≡ false
  goes_on true at by w ss = refl
  goes_on false at by w ss = refl

  -- ---- items behind commas, up to where those of the root end or all do

  item_turn : (root : Bool) (w : List ℕ) → IsId w → (c d : ℕ) (ns us rest : List Spot) (n : Option Amount) (found : List Item)
      → number_at Optional (st (ns ++ (us ++ rest))) ≡ Ok (n, st (us ++ rest)) → Runs Item end true (items_end root) next_item rest found us
      → Runs Item end true (items_end root) next_item rest (record { at = d; name = w; number = n } ∷ found) (spot c (sign Comma) ∷ spot d (word w) ∷ (ns ++ us))
  item_turn root w i c d ns us rest n found h more =
      run (spot c (sign Comma)) (spot d (word w) ∷ ns) (goes_on root c d w (ns ++ (us ++ rest))) (item_read w i d ns (us ++ rest) n h) more

  -- the first item, and more behind it
  series_read : (root : Bool) (w : List ℕ) → IsId w → (d : ℕ) (ns us rest : List Spot) (n : Option Amount) (found : List Item)
      → number_at Optional (st (ns ++ (us ++ rest))) ≡ Ok (n, st (us ++ rest)) → Runs Item end true (items_end root) next_item rest found us
      → items_end root (st rest) ≡ true
      → some_items_at Optional root (st (spot d (word w) ∷ (ns ++ (us ++ rest)))) ≡ Ok (record { at = d; name = w; number = n } ∷ found, st rest)
  series_read root w i d ns us rest n found h runs ends =
      ap (λ r. r >>= λ x. many (items_end root) next_item (suc (length x.1.left)) (x.0 ∷ []) x.1) (item_read w i d ns (us ++ rest) n h)
      ∙ all_run end true (items_end root) next_item rest ends (suc (length (us ++ rest))) (record { at = d; name = w; number = n } ∷ []) runs (omega arith)

  record ItemsRead (numbered root : Bool) (place : ℕ) (items : List NamedNumber) (ss : List Spot) : Type 0 where
    found : List Item
    runs : Runs Item end true (items_end root) next_item tail found ss
    says : SayItems numbered place items found

  one_more : (root : Bool) {numbered : Bool} {place : ℕ} {w : List ℕ} {z : ℤ} {items : List NamedNumber} {ts : List notation.Token} {vs : List Token} → IsId w
      → IsItemNumber numbered place z ts → (c d : ℕ) (ss : List Spot) (q : Parts (same_tokens ts) vs ss)
      → starts_sign OpenParenthesis (q.behind ++ tail) ≡ false → ItemsRead numbered root (place + 1) items q.behind
      → ItemsRead numbered root place (record { name = w; number = z } ∷ items) (spot c (sign Comma) ∷ spot d (word w) ∷ ss)
  one_more root {w} i n c d ss q none more =
      let r = number_read n q.front q.first in
      record {
        found = record { at = d; name = w; number = r.given } ∷ more.found;
        runs = subst (λ l. Runs Item end true (items_end root) next_item tail (record { at = d; name = w; number = r.given } ∷ more.found) (spot c
            (sign Comma) ∷ spot d (word w) ∷ l))
            (sym q.is) (item_turn root w i c d q.front q.behind tail r.given more.found (r.is (q.behind ++ tail) none) more.runs);
        says = say_item d r.says more.says;
      }

  items_read : (root : Bool) {numbered : Bool} {place : ℕ} {items : List NamedNumber} {ts : List notation.Token} → AreItems numbered place items false ts
      → (ss : List Spot) → Placed (same_tokens ts) ss → ItemsRead numbered root place items ss
  items_read root no_items _ none_placed = record { found = []; runs = ran; says = say_none }
  items_read root (item {ts} {us} i n more) _ (placed c (placed {ss} d p)) =
      let q = same_parts ts us ss p in
      one_more root i n c d ss q (no_parenthesis more q.behind q.second) (items_read root more q.behind q.second)

  -- ---- behind the marker

  record LaterRead (numbered : Bool) (place : ℕ) (items : List NamedNumber) (ss : List Spot) : Type 0 where
    found : List Item
    is : later_items_at (st (ss ++ tail)) ≡ Ok (found, st tail)
    says : SayItems numbered place items found

  first_later : {numbered : Bool} {place : ℕ} {w : List ℕ} {z : ℤ} {items : List NamedNumber} {ts : List notation.Token} {vs : List Token} → IsId w
      → IsItemNumber numbered place z ts → (c d : ℕ) (ss : List Spot) (q : Parts (same_tokens ts) vs ss)
      → starts_sign OpenParenthesis (q.behind ++ tail) ≡ false → ItemsRead numbered false (place + 1) items q.behind
      → LaterRead numbered place (record { name = w; number = z } ∷ items) (spot c (sign Comma) ∷ spot d (word w) ∷ ss)
  first_later {w} i n c d ss q none more =
      let r = number_read n q.front q.first in
      record {
        found = record { at = d; name = w; number = r.given } ∷ more.found;
        is = ap (λ l. some_items_at Optional false (st (spot d (word w) ∷ l))) (ap (λ l. l ++ tail) q.is ∙ append_assoc q.front q.behind tail)
            ∙ series_read false w i d q.front q.behind tail r.given more.found (r.is (q.behind ++ tail) none) more.runs refl;
        says = say_item d r.says more.says;
      }

  later_read : {numbered : Bool} {place : ℕ} {items : List NamedNumber} {ts : List notation.Token} → AreItems numbered place items false ts
      → (ss : List Spot) → Placed (same_tokens ts) ss → LaterRead numbered place items ss
  later_read no_items _ none_placed = record { found = []; is = refl; says = say_none }
  later_read (item {ts} {us} i n more) _ (placed c (placed {ss} d p)) =
      let q = same_parts ts us ss p in
      first_later i n c d ss q (no_parenthesis more q.behind q.second) (items_read false more q.behind q.second)

  -- ---- behind the first item

  record RootRead (numbered : Bool) (place : ℕ) (items : List NamedNumber) (marker : Bool) (ss : List Spot) : Type 0 where
    root : List Item
    more : Option More
    front : List Spot
    behind : List Spot
    is : ss ≡ front ++ behind
    runs : Runs Item end true (items_end true) next_item (behind ++ tail) root front
    ends : items_end true (st (behind ++ tail)) ≡ true
    marked : more_at (st (behind ++ tail)) ≡ Ok (more, st tail)
    says : SayItems numbered place items (root ++ more_items more)
    same : is_some more ≡ marker

  marker_read : (c d : ℕ) (ss : List Spot) (found : List Item) → starts_sign Exclamation (ss ++ tail) ≡ false → later_items_at (st (ss ++ tail)) ≡ Ok (found, st tail)
      → more_at (st (spot c (sign Comma) ∷ spot d (sign Ellipsis) ∷ (ss ++ tail))) ≡ Ok (Some (record { exception = []; items = found }), st tail)
  unfolding more_at skip_sign
  marker_read c d ss found h e = rw h (ap (λ r. r >>= λ items. Ok (Some (record { exception = []; items = items.0 }), items.1)) e)

  no_marker : more_at (st tail) ≡ Ok (None, st tail)
  unfolding more_at
  no_marker = refl

  marker_more : {numbered : Bool} {place : ℕ} {items : List NamedNumber} (c d : ℕ) (ss : List Spot) → starts_sign Exclamation (ss ++ tail) ≡ false
      → LaterRead numbered place items ss → RootRead numbered place items true (spot c (sign Comma) ∷ spot d (sign Ellipsis) ∷ ss)
  marker_more c d ss h later = record {
    root = [];
    more = Some (record { exception = []; items = later.found });
    front = [];
    behind = spot c (sign Comma) ∷ spot d (sign Ellipsis) ∷ ss;
    is = refl;
    runs = ran;
    ends = refl;
    marked = marker_read c d ss later.found h later.is;
    says = later.says;
    same = refl;
  }

  -- what stands behind does not begin with a parenthesis, in whichever parts
  still_none : (us front behind : List Spot) → us ≡ front ++ behind → starts_sign OpenParenthesis (us ++ tail) ≡ false
      → starts_sign OpenParenthesis (front ++ (behind ++ tail)) ≡ false
  still_none us front behind e h = ap (starts_sign OpenParenthesis) (sym (append_assoc front behind tail) ∙ ap (λ l. l ++ tail) (sym e)) ∙ h

  root_more : {numbered marker : Bool} {place : ℕ} {w : List ℕ} {z : ℤ} {items : List NamedNumber} {ts : List notation.Token} {vs : List Token} → IsId w
      → IsItemNumber numbered place z ts → (c d : ℕ) (ss : List Spot) (q : Parts (same_tokens ts) vs ss)
      → starts_sign OpenParenthesis (q.behind ++ tail) ≡ false → RootRead numbered (place + 1) items marker q.behind
      → RootRead numbered place (record { name = w; number = z } ∷ items) marker (spot c (sign Comma) ∷ spot d (word w) ∷ ss)
  root_more {w} i n c d ss q none more =
      let r = number_read n q.front q.first in
      record {
        root = record { at = d; name = w; number = r.given } ∷ more.root;
        more = more.more;
        front = spot c (sign Comma) ∷ spot d (word w) ∷ (q.front ++ more.front);
        behind = more.behind;
        is = ap (λ l. spot c (sign Comma) ∷ spot d (word w) ∷ l) (q.is ∙ ap (λ l. q.front ++ l) more.is ∙ sym (append_assoc q.front more.front more.behind));
        runs = item_turn true w i c d q.front more.front (more.behind ++ tail) r.given more.root
            (r.is (more.front ++ (more.behind ++ tail)) (still_none q.behind more.front more.behind more.is none)) more.runs;
        ends = more.ends;
        marked = more.marked;
        says = say_item d r.says more.says;
        same = more.same;
      }

  root_read : {numbered marker : Bool} {place : ℕ} {items : List NamedNumber} {ts : List notation.Token} → AreItems numbered place items marker ts
      → (ss : List Spot) → Placed (same_tokens ts) ss → RootRead numbered place items marker ss
  root_read no_items _ none_placed = record {
    root = [];
    more = None;
    front = [];
    behind = [];
    is = refl;
    runs = ran;
    ends = refl;
    marked = no_marker;
    says = say_none;
    same = refl;
  }
  root_read (item {ts} {us} i n more) _ (placed c (placed {ss} d p)) =
      let q = same_parts ts us ss p in
      root_more i n c d ss q (no_parenthesis more q.behind q.second) (root_read more q.behind q.second)
  root_read (items_marker more) _ (placed c (placed {ss} d p)) = marker_more c d ss (no_exception more ss p) (later_read more ss p)

  -- ---- all

  -- what is read of the tokens in braces
  pub record EnumerationRead (numbered : Bool) (items : List NamedNumber) (marker : Bool) (ss : List Spot) : Type 0 where
    pub found : Enumeration
    pub rest : State
    pub is : enumeration_at (st ss) ≡ Ok (found, rest)
    pub says : SayItems numbered 0 items (all_items found)
    pub same : is_some found.more ≡ marker

  braces_read : (a : ℕ) (ss rest : List Spot) (root : List Item) (more : Option More) → some_items_at Optional true (st ss) ≡ Ok (root, st rest)
      → more_at (st rest) ≡ Ok (more, st tail) → enumeration_at (st (spot a (sign OpenBrace) ∷ ss)) ≡ Ok (record { root = root; more = more }, st [])
  unfolding enumeration_at skip_sign
  braces_read a ss rest root more h e =
      ap (λ r. r >>= λ root. more_at root.1 >>= λ more. skip_sign CloseBrace more.1 >>= λ ended. Ok (record { root = root.0; more = more.0 }, ended.1)) h
      ∙ ap (λ r. r >>= λ more. skip_sign CloseBrace more.1 >>= λ ended. Ok (record { root = root; more = more.0 }, ended.1)) e

  first_item : {numbered marker : Bool} {w : List ℕ} {z : ℤ} {items : List NamedNumber} {ts : List notation.Token} {vs : List Token} → IsId w
      → IsItemNumber numbered 0 z ts → (a d : ℕ) (ss : List Spot) (q : Parts (same_tokens ts) vs ss)
      → starts_sign OpenParenthesis (q.behind ++ tail) ≡ false → RootRead numbered (0 + 1) items marker q.behind
      → EnumerationRead numbered (record { name = w; number = z } ∷ items) marker (spot a (sign OpenBrace) ∷ spot d (word w) ∷ (ss ++ tail))
  first_item {w} i n a d ss q none more =
      let r = number_read n q.front q.first in
      let parts : ss ++ tail ≡ q.front ++ (more.front ++ (more.behind ++ tail)) =
      ap (λ l. l ++ tail) (q.is ∙ ap (λ l. q.front ++ l) more.is) ∙ append_assoc q.front (more.front ++ more.behind) tail
      ∙ ap (λ l. q.front ++ l) (append_assoc more.front more.behind tail) in
      record {
        found = record { root = record { at = d; name = w; number = r.given } ∷ more.root; more = more.more };
        rest = st [];
        is = braces_read a (spot d (word w) ∷ (ss ++ tail)) (more.behind ++ tail) (record { at = d; name = w; number = r.given } ∷ more.root) more.more
            (ap (λ l. some_items_at Optional true (st (spot d (word w) ∷ l))) parts
            ∙ series_read true w i d q.front more.front (more.behind ++ tail) r.given more.root
            (r.is (more.front ++ (more.behind ++ tail)) (still_none q.behind more.front more.behind more.is none)) more.runs more.ends)
            more.marked;
        says = say_item d r.says more.says;
        same = more.same;
      }

  pub enumeration_read : {numbered marker : Bool} {items : List NamedNumber} (w : List ℕ) (us : List notation.Token)
      → AreItems numbered 0 items marker (notation.sign signs.Comma ∷ notation.word w ∷ us) → (a d : ℕ) (ss : List Spot) → Placed (same_tokens us) ss
      → EnumerationRead numbered items marker (spot a (sign OpenBrace) ∷ spot d (word w) ∷ (ss ++ tail))
  enumeration_read _ _ (item {ts} {us} i n more) a d ss p =
      let q = same_parts ts us ss p in
      first_item i n a d ss q (no_parenthesis more q.behind q.second) (root_read more q.behind q.second)
