-- The items of an ENUMERATED and their numbers.
use Rattle.std.proofs.Common.{◌≡◌, ℕ, ◌+◌, ℤ, List, [], ◌∷◌, length, length-append, map, Option, Some, None, is_some, option_map, Result, Ok, Err}
use Rattle.std.proofs.Common.{refl, sym, ap, ap₂, subst, ◌∙◌, arith}
use Rattle.oer_model.specs.AsnType.{NamedNumber}
use Rattle.oer_module_leaves.proofs.Counted.{counted_ok}
use Rattle.oer_module_leaves.proofs.Lengths.{given_counted}
use Rattle.oer_module_leaves.specs.Numbered.{NumberedItem, enumeration_in, numbered_at, numbers_of, unless_misnumbered, with_numbers}
use Rattle.oer_module_lexer.specs.Token.{Spot}
use Rattle.oer_module_names.specs.declared.error.Place.{Place}
use Rattle.oer_module_parts.proofs.NumberLaws.{numbers_sound}
use Rattle.oer_module_parts.specs.Kept.{kept}
use Rattle.oer_module_parts.specs.Numbered.{AreNumbered}
use Rattle.oer_module_parts.specs.Numbering.{number_items}
use Rattle.oer_module_parts.specs.declared.numbering.NumberFault.{NumberFault}
use Rattle.oer_module_syntax.specs.State.{State}
use Rattle.oer_module_syntax.specs.Tree.{Module}
use Rattle.oer_module_terms.specs.Items.{enumeration_at}
use Rattle.oer_module_terms.specs.Trees.{Amount, Enumeration, Item, More}
use Rattle.oer_module_text.specs.Errors.{in_module, told_by}
use Rattle.oer_module_values.proofs.Denoted.{counted}
use Rattle.oer_module_values.specs.Errors.{place_in}
use Rattle.oer_module_values.specs.Numbers.{all_items, bare, given_by, given_number, given_numbers, integer_at, more_items}
use Rattle.oer_meant_leaves.specs.Laws.{EnumerationsAreSound}
use Rattle.oer_meant_leaves.specs.Leaves.{AreItems, HaveNumbers, no_items, with, without}
use Rattle.oer_meant_leaves.proofs.Results.{same_ok, text_read, text_step, text_told, value_step}

-- ---- the numbers that are given

module _ (ms : List Module) where
  one_has : (m : ℕ) (i : Item) (is : List Item) (n : Option Amount) (o : Option ℤ) (os : List (Option ℤ)) → i.number ≡ n
      → given_by ms (place_in m i.at) n ≡ Ok o → HaveNumbers ms m is os → HaveNumbers ms m (i ∷ is) (o ∷ os)
  one_has m i is None o os e h more = subst (λ x. HaveNumbers ms m (i ∷ is) (x ∷ os)) (same_ok h) (without i is os e more)
  one_has m i is (Some a) o os e h more =
      let s = value_step (integer_at ms (place_in m i.at) a) _ o h in
      let denoted = counted ms (record { place = place_in m i.at; governor = bare m; amount = a }) s.0 s.1 in
      subst (λ x. HaveNumbers ms m (i ∷ is) (x ∷ os)) (same_ok s.2) (with i a s.0 is os e denoted more)

  pub given_have : (m : ℕ) (is : List Item) (os : List (Option ℤ)) → given_numbers ms m is ≡ Ok os → HaveNumbers ms m is os
  given_have m [] os h = subst (HaveNumbers ms m []) (same_ok h) no_items
  given_have m (i ∷ is) os h =
      let a = value_step (given_number ms m i) _ os h in
      let b = value_step (given_numbers ms m is) _ os a.2 in
      subst (HaveNumbers ms m (i ∷ is)) (same_ok b.2) (one_has m i is i.number a.0 b.0 refl a.1 (given_have m is b.0 b.1))

-- ---- items with their numbers

abbrev pub as_named : NumberedItem → NamedNumber
as_named i = record { name = i.name; number = i.number }

numbers_stay : (is : List Item) (ns : List ℤ) → length ns ≡ length is → map (λ i. i.number) (map as_named (with_numbers is ns)) ≡ ns
numbers_stay [] [] e = refl
numbers_stay [] (n ∷ ns) e = absurd (omega arith)
numbers_stay (i ∷ is) [] e = absurd (omega arith)
numbers_stay (i ∷ is) (n ∷ ns) e = ap (λ l. n ∷ l) (numbers_stay is ns (omega arith))

names_stay : (is : List Item) (ns : List ℤ) → length ns ≡ length is
    → map (λ i. i.name) (map as_named (with_numbers is ns)) ≡ map (λ i. i.name) is
names_stay [] [] e = refl
names_stay [] (n ∷ ns) e = absurd (omega arith)
names_stay (i ∷ is) [] e = absurd (omega arith)
names_stay (i ∷ is) (n ∷ ns) e = ap (λ l. i.name ∷ l) (names_stay is ns (omega arith))

numbered_ok : (m : ℕ) (is : List Item) (r : Result (List ℤ) NumberFault) (ns : List ℤ) → unless_misnumbered m is r ≡ Ok ns → r ≡ Ok ns
numbered_ok m is (Ok xs) ns h = ap Ok (same_ok h)
numbered_ok m is (Err e) ns h = absurd (cc)

marked : (n : ℕ) (o : Option More) → is_some o ≡ is_some (option_map (λ more. n) o)
marked n None = refl
marked n (Some more) = refl

-- ---- all

read_is : (p : Place) (ts : List Spot) (e : Enumeration) → enumeration_in p ts ≡ Ok e
    → (rest : State) × (enumeration_at (kept ts p.at) ≡ Ok (e, rest))
read_is p ts e h =
    let a = text_step (in_module p.«module» (enumeration_at (kept ts p.at))) _ e h in
    let b = text_read p.«module» (enumeration_at (kept ts p.at)) a.0 a.1 in
    (a.0.1, b ∙ ap (λ x. Ok (x, a.0.1)) (same_ok a.2))

as_many : (ms : List Module) (m : ℕ) (e : Enumeration) (root more : List (Option ℤ)) (ns : List ℤ) → given_numbers ms m e.root ≡ Ok root
    → given_numbers ms m (more_items e.more) ≡ Ok more → number_items root more ≡ Ok ns → length ns ≡ length (all_items e)
as_many ms m e root more ns h g is =
    counted_ok root more ns is ∙ ap₂ (λ j k. j + k) (given_counted ms m e.root root h) (given_counted ms m (more_items e.more) more g)
    ∙ sym (length-append e.root (more_items e.more))

pub items_are : EnumerationsAreSound
unfolding numbered_at
items_are ms p ts e h =
    let a = text_step (enumeration_in p ts) _ e h in
    let b = text_step (told_by (given_numbers ms p.«module» a.0.root)) _ e a.2 in
    let c = text_step (told_by (given_numbers ms p.«module» (more_items a.0.more))) _ e b.2 in
    let d = text_step (numbers_of p.«module» (all_items a.0) b.0 c.0) _ e c.2 in
    let r = read_is p ts a.0 a.1 in
    let root = text_told (given_numbers ms p.«module» a.0.root) b.0 b.1 in
    let more = text_told (given_numbers ms p.«module» (more_items a.0.more)) c.0 c.1 in
    let numbers = numbered_ok p.«module» (all_items a.0) (number_items b.0 c.0) d.0 d.1 in
    let count = as_many ms p.«module» a.0 b.0 c.0 d.0 root more numbers in
    subst (λ x. AreItems ms p.«module» p.at ts (map as_named x.items) (is_some x.marker)) (same_ok d.2) (record {
      read = a.0;
      rest = r.0;
      root = b.0;
      more = c.0;
      is = r.1;
      root_have = given_have ms p.«module» a.0.root b.0 root;
      more_have = given_have ms p.«module» (more_items a.0.more) c.0 more;
      numbered = subst (AreNumbered b.0 c.0) (sym (numbers_stay (all_items a.0) d.0 count)) (numbers_sound b.0 c.0 d.0 numbers);
      named = names_stay (all_items a.0) d.0 count;
      marker = marked (length a.0.root) a.0.more;
    })
