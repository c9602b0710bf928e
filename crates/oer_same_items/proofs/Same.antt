-- What the reader of modules makes of the tokens of an ENUMERATED.
use Rattle.std.proofs.Common.{◌≡◌, ℕ, List, [], ◌∷◌, ◌++◌, length, map, Bool, true, false, cond, Option, Some, None, is_some, Result, Ok, Err, ℤ, refl, sym, ap, subst, ◌∙◌}
use Rattle.std.specs.Prelude.{option_map, codes}
use Rattle.oer_lexer.specs.Token as notation
use Rattle.oer_lexer.specs.declared.token.Sign.TheVariants as signs
use Rattle.oer_model.specs.AsnType.{AsnType, NamedNumber, leaf}
use Rattle.oer_model.specs.LeafType.{LeafType, enumerated}
use Rattle.oer_module_leaves.specs.Leaves.{enumerated_at, enumerated_by, lacks_marker, listed_at}
use Rattle.oer_module_leaves.specs.Numbered.{Numbered, NumberedItem, marker_of, numbered_at, numbers_of, unless_misnumbered, with_numbers}
use Rattle.oer_module_leaves.specs.Shapes.{enumerated_type, in_64_bits, is_signed_long, named_at, named_items}
use Rattle.oer_module_leaves.specs.Texts.{items_at}
use Rattle.oer_module_lexer.specs.Token.{Spot, sign, word}
use Rattle.oer_module_lexer.specs.declared.token.Sign.TheVariants.{OpenBrace}
use Rattle.oer_module_names.specs.declared.error.Place.{Place}
use Rattle.oer_module_parts.specs.Kept.{kept, last_place}
use Rattle.oer_module_parts.specs.declared.numbering.NumberFault.{NumberFault}
use Rattle.oer_module_syntax.specs.State.{State}
use Rattle.oer_module_syntax.specs.Tree.{Module}
use Rattle.oer_module_terms.specs.Items.{enumeration_at}
use Rattle.oer_module_terms.specs.Trees.{Item, Enumeration}
use Rattle.oer_module_text.specs.Errors.{Error, Read, error, in_module, place_in, told_by, too_wide, ◌>>=◌}
use Rattle.oer_module_text.specs.Room.{Room, put}
use Rattle.oer_module_values.specs.Errors.{Error as ToldError}
use Rattle.oer_module_values.specs.Numbers.{all_items, given_numbers, more_items}
use Rattle.oer_notation.specs.Grammar.{AreItems, IsLeaf, items_behind}
use Rattle.oer_same_tokens.specs.Same.{same_tokens}
use Rattle.oer_same_trees.specs.Says.{Keeps}
use Rattle.oer_same_trees.proofs.Placed.{Placed, closed, placed, placed_as, spot}
use Rattle.oer_same_items.specs.Laws.{IsEnumeration, as_named}
use Rattle.oer_same_items.proofs.Counted.{numbers_same}
use Rattle.oer_same_items.proofs.Named.{all_given, names_same}
use Rattle.oer_same_items.proofs.Taken.{EnumerationRead, SayItems, enumeration_read}
use Rattle.oer_value_notation.specs.Leaves.{listed}

pub bind_ok : {A B : Type 0} (r : Read A) (f : A → Read B) (b : B) → (r >>= f) ≡ Ok b → (a : A) × (r ≡ Ok a) × (f a ≡ Ok b)
bind_ok (Ok a) f b h = (a, refl, h)
bind_ok (Err e) f b h = absurd (cc)

pub same_ok : {A E : Type 0} {x y : A} → ◌≡◌ {A = Result A E} (Ok x) (Ok y) → x ≡ y
same_ok h = cc

pub told_ok : {A : Type 0} (r : Result A ToldError) (x : A) → told_by r ≡ Ok x → r ≡ Ok x
told_ok (Ok y) x h = ap Ok (same_ok h)
told_ok (Err e) x h = absurd (cc)

numbered_ok : (m : ℕ) (is : List Item) (r : Result (List ℤ) NumberFault) (ns : List ℤ) → unless_misnumbered m is r ≡ Ok ns → r ≡ Ok ns
numbered_ok m is (Ok xs) ns h = ap Ok (same_ok h)
numbered_ok m is (Err e) ns h = absurd (cc)

-- ---- the tokens

-- an ENUMERATED of the notation, taken apart
record Behind (L : LeafType) (ts : List notation.Token) : Type 0 where
  numbered : Bool
  marker : Bool
  items : List NamedNumber
  name : List ℕ
  more : List notation.Token
  is : L ≡ enumerated items marker
  spelt : ts ≡ notation.sign signs.OpenBrace ∷ notation.word name ∷ (more ++ notation.sign signs.CloseBrace ∷ [])
  holds : AreItems numbered 0 items marker (notation.sign signs.Comma ∷ notation.word name ∷ more)

behind : {L : LeafType} {ts : List notation.Token} → IsLeaf (listed enumerated) L ts → Behind L ts
behind (items_behind {numbered} {marker} {items} {w} {ts} a) =
    record { numbered = numbered; marker = marker; items = items; name = w; more = ts; is = refl; spelt = refl; holds = a }

-- what is read of the tokens that a tree keeps, wherever they end
pub record ReadIn (end : ℕ) (L : LeafType) (ss : List Spot) : Type 0 where
  pub numbered : Bool
  pub marker : Bool
  pub items : List NamedNumber
  pub closes : ℕ
  pub is : L ≡ enumerated items marker
  pub read : EnumerationRead end closes numbered items marker ss

braces_read : (end : ℕ) {L : LeafType} {ts : List notation.Token} (b : Behind L ts) (ss : List Spot)
    → Placed (same_tokens (notation.sign signs.OpenBrace ∷ notation.word b.name ∷ (b.more ++ notation.sign signs.CloseBrace ∷ []))) ss → ReadIn end L ss
braces_read end b _ (placed o (placed {ss} d p)) =
    let c = closed signs.CloseBrace b.more ss p in
    record {
      numbered = b.numbered;
      marker = b.marker;
      items = b.items;
      closes = c.at;
      is = b.is;
      read = subst (λ l. EnumerationRead end c.at b.numbered b.items b.marker (spot o (sign OpenBrace) ∷ spot d (word b.name) ∷ l)) (sym c.is)
          (enumeration_read end c.at b.name b.more b.holds o d c.inner c.holds);
    }

pub read_in : (end : ℕ) {L : LeafType} {ts : List notation.Token} → IsLeaf (listed enumerated) L ts → (ss : List Spot) → Keeps ts ss → ReadIn end L ss
read_in end {ts} spelt ss keeps =
    let b = behind spelt in
    braces_read end b ss (subst (λ ts. Placed (same_tokens ts) ss) b.spelt (placed_as (same_tokens ts) ss keeps))

-- ---- the items

marker_same : (o : Option _) (e : Enumeration) → o ≡ e.more → is_some (marker_of e) ≡ is_some o
marker_same None e h = ap (λ o. is_some (option_map (λ more. length e.root) o)) (sym h)
marker_same (Some m) e h = ap (λ o. is_some (option_map (λ more. length e.root) o)) (sym h)

module _ (ms : List Module) (p : Place) where
  unfoldable pub numbers_by : Enumeration → Read Numbered
  numbers_by e =
      told_by (given_numbers ms p.«module» e.root) >>= λ root. told_by (given_numbers ms p.«module» (more_items e.more)) >>= λ more.
      numbers_of p.«module» (all_items e) root more >>= λ ns. Ok (record { items = with_numbers (all_items e) ns; marker = marker_of e })

  pub numbered_by : (ss : List Spot) (rest : State) (e : Enumeration) → enumeration_at (kept ss p.at) ≡ Ok (e, rest) → numbered_at ms p ss ≡ numbers_by e
  unfolding numbered_at numbers_by
  numbered_by ss rest e h = ap (λ r. (in_module p.«module» r >>= λ e. Ok e.0) >>= numbers_by) h

  items_found : (numbered : Bool) (items : List NamedNumber) (e : Enumeration) (found : Numbered) → SayItems numbered 0 items (all_items e) → numbers_by e ≡ Ok found
      → (map as_named found.items ≡ items) × (is_some found.marker ≡ is_some e.more)
  unfolding numbers_by
  items_found numbered items e found says h =
      let root = bind_ok (told_by (given_numbers ms p.«module» e.root)) (λ root. told_by (given_numbers ms p.«module» (more_items e.more)) >>= λ more.
      numbers_of p.«module» (all_items e) root more >>= λ ns. Ok (record { items = with_numbers (all_items e) ns; marker = marker_of e })) found h in
      let more = bind_ok (told_by (given_numbers ms p.«module» (more_items e.more))) (λ more.
      numbers_of p.«module» (all_items e) root.0 more >>= λ ns. Ok (record { items = with_numbers (all_items e) ns; marker = marker_of e })) found root.2 in
      let ns = bind_ok (numbers_of p.«module» (all_items e) root.0 more.0) (λ ns. Ok (record { items = with_numbers (all_items e) ns; marker = marker_of e })) found more.2 in
      let is = same_ok ns.2 in
      let given = all_given ms p.«module» numbered items e.root (more_items e.more) root.0 more.0 says (told_ok _ root.0 root.1) (told_ok _ more.0 more.1) in
      let same = numbers_same numbered items root.0 more.0 ns.0 given (numbered_ok p.«module» (all_items e) _ ns.0 ns.1) in (
        ap (λ f. map as_named f.items) (sym is) ∙ ap (λ ns. map as_named (with_numbers (all_items e) ns)) same ∙ names_same says,
        ap (λ f. is_some f.marker) (sym is) ∙ marker_same e.more e refl,
      )

  -- What is found are the items of the notation.
  pub enumerated_found : {L : LeafType} {ts : List notation.Token} → IsLeaf (listed enumerated) L ts → (ss : List Spot) → Keeps ts ss → (found : Numbered)
      → numbered_at ms p ss ≡ Ok found → L ≡ enumerated (map as_named found.items) (is_some found.marker)
  enumerated_found spelt ss keeps found h =
      let r = read_in (last_place ss p.at) spelt ss keeps in
      let same = items_found r.numbered r.items r.read.found found r.read.says (sym (numbered_by ss r.read.rest r.read.found r.read.is) ∙ h) in
      r.is ∙ ap (λ is. enumerated is r.marker) (sym same.0) ∙ ap (λ m. enumerated (map as_named found.items) m) (sym (same.1 ∙ r.read.same))

pub items_same : (items : List NamedNumber) (marker : Bool) (ts : List notation.Token) (ss : List Spot) → IsEnumeration items marker ts → Keeps ts ss
    → (ms : List Module) (p : Place) (found : Numbered) → numbered_at ms p ss ≡ Ok found → (map as_named found.items ≡ items) × (is_some found.marker ≡ marker)
items_same items marker ts ss spelt keeps ms p found h =
    let same : enumerated items marker ≡ enumerated (map as_named found.items) (is_some found.marker) = enumerated_found ms p spelt ss keeps found h in
    (cc, cc)

-- ---- the type

-- what is given if something is
if_ok : {A : Type 0} (b : Bool) (r : Read A) (e : Error) (x : A) → cond b (Err e) r ≡ Ok x → r ≡ Ok x
if_ok true r e x h = absurd (cc)
if_ok false r e x h = h

pub long_same : (p : Place) (y z : ℤ) → in_64_bits p y ≡ Ok z → y ≡ z
long_same p y z h = by (is_signed_long y) h
  where
    by : (b : Bool) → cond b (Ok y) (error {A = ℤ} p too_wide) ≡ Ok z → y ≡ z
    by true h = same_ok h
    by false h = absurd (cc)

named_same : (m : ℕ) (is : List NumberedItem) (ns : List NamedNumber) → named_items m is ≡ Ok ns → ns ≡ map as_named is
named_same m [] ns h = sym (same_ok h)
named_same m (i ∷ is) ns h =
    let first = bind_ok (named_at m i) (λ n. named_items m is >>= λ ns. Ok (n ∷ ns)) ns h in
    let rest = bind_ok (named_items m is) (λ ns. Ok (first.0 ∷ ns)) ns first.2 in
    let number = bind_ok (in_64_bits (place_in m i.at) i.number) (λ z. Ok (record { name = i.name; number = z })) first.0 first.1 in
    sym (same_ok rest.2) ∙ ap (λ n. n ∷ rest.0) (sym (same_ok number.2) ∙ ap (λ z. record { name = i.name; number = z }) (sym (long_same
    (place_in m i.at) i.number number.0 number.1)))
    ∙ ap (λ ns. as_named i ∷ ns) (named_same m is rest.0 rest.1)

type_same : (m : ℕ) (e : Numbered) (T : AsnType) → enumerated_type m e ≡ Ok T → T ≡ leaf (enumerated (map as_named e.items) (is_some e.marker))
type_same m e T h =
    let names = bind_ok (named_items m e.items) (λ ns. Ok (leaf (enumerated ns (is_some e.marker)))) T h in
    sym (same_ok names.2) ∙ ap (λ ns. leaf (enumerated ns (is_some e.marker))) (named_same m e.items names.0 names.1)

listed_same : (m : ℕ) (e : Numbered) (r s : Room) (T : AsnType) → listed_at m e r ≡ Ok (T, s) → T ≡ leaf (enumerated (map as_named e.items) (is_some e.marker))
unfolding listed_at
listed_same m e r s T h =
    let text = bind_ok (items_at m e r) (λ s. enumerated_type m e >>= λ t. Ok (t, s)) (T, s) h in
    let type = bind_ok (enumerated_type m e) (λ t. Ok (t, text.0)) (T, s) text.2 in
    sym (ap (λ x. x.0) (same_ok type.2)) ∙ type_same m e type.0 type.1

pub enumerated_same : (L : LeafType) (ts : List notation.Token) (ss : List Spot) → IsLeaf (listed enumerated) L ts → Keeps ts ss
    → (ms : List Module) (p : Place) (r s : Room) (T : AsnType) → enumerated_at ms p ss r ≡ Ok (T, s) → T ≡ leaf L
enumerated_same L ts ss is keeps ms p r s T h =
    let found = bind_ok (numbered_at ms p ss) (enumerated_by ms p r) (T, s) h in
    let put_in = put (codes "ENUMERATED {") r in
    listed_same p.«module» found.0 put_in s T (if_ok (lacks_marker ms p.«module» found.0) (listed_at p.«module» found.0 put_in) _ (T, s) found.2)
    ∙ ap leaf (sym (enumerated_found ms p is ss keeps found.0 found.1))
