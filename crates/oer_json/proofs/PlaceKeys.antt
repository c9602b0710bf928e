-- Keys of places and of tags, read and made.
use Rattle.std.proofs.Common.{◌≡◌, ℕ, ◌^◌, ◌<◌, ◌≤◌, ◌==◌, List, [], ◌∷◌, Bool, true, false, cond, ◌&&◌, Option, Some, None, is_some, option_and_then, refl, sym, ap, ap₂, subst, ◌∙◌, arith}
use Rattle.std.proofs.lemmas.Bool.{and_parts, eqb-true}
use Rattle.std.specs.Fmt.{decimal}
use Rattle.oer_units.specs.declared.tagging.Class.{Class}
use Rattle.oer_units.specs.declared.tagging.Class.TheVariants.{Universal, Application, Context, Private}
use Rattle.oer_units.specs.declared.tagging.Tag.{Tag}
use Rattle.oer_model.specs.WellFormed.{is_identifier}
use Rattle.oer_json.specs.Keys.{class_digits, class_in, class_letter, high_key, if_natural, low_place, place_digits, place_key, tag_digits, tag_key, unless_some, with_class}
use Rattle.oer_literals.specs.Numbers.{place_of, tag_number_of}
use Rattle.oer_json.specs.Texts.{is_natural}
use Rattle.oer_json.proofs.Answered.{if_some, some_is, then_some}
use Rattle.oer_json.proofs.Decimals.{below_complete, below_sound, decimal_natural}
use Rattle.oer_json.proofs.KeySteps.{no_place}

limit_16 : 2 ^ 16 ≤ 10 ^ 64
limit_16 = omega arith

limit_32 : 2 ^ 32 ≤ 10 ^ 64
limit_32 = omega arith

-- ---- names

-- a name doesn't begin with #
pub no_hash : (name rest : List ℕ) → is_identifier name ≡ true → name ≡ 35 ∷ rest → ⊥
no_hash name rest good e = let h : is_identifier (35 ∷ rest) ≡ true = subst (λ w. is_identifier w ≡ true) e good in cc

pub name_no_place : (name : List ℕ) → is_identifier name ≡ true → place_digits name ≡ None
name_no_place name good = no_place name (λ rest e. no_hash name rest good e)

-- ---- places

place_read : (key w : List ℕ) → place_digits key ≡ Some w → (key ≡ 35 ∷ w) × (is_natural w ≡ true)
place_read [] w h = absurd (cc)
place_read (c ∷ cs) w h =
    let p = if_some (c == 35 && is_natural cs) cs w h in
    let q = and_parts (c == 35) (is_natural cs) p.0 in
    (ap₂ (λ x xs. x ∷ xs) (eqb-true c 35 q.0) p.1, subst (λ w. is_natural w ≡ true) p.1 q.1)

-- a key of a low place is the one that is made of it
pub low_is : (key : List ℕ) (n : ℕ) → low_place key ≡ Some n → (key ≡ place_key n) × (n < 2 ^ 16)
unfolding low_place place_of
low_is key n h =
    let p = then_some place_of (place_digits key) n h in
    let q = place_read key p.0 p.1 in
    let r = below_sound (2 ^ 16) p.0 n limit_16 q.1 p.2 in
    (q.0 ∙ ap (λ w. 35 ∷ w) r.0, r.1)

unless_none : (key : List ℕ) (o : Option ℕ) → unless_some key o ≡ None → (n : ℕ) × (o ≡ Some n)
unless_none key None h = absurd (cc)
unless_none key (Some n) h = (n, refl)

-- a key of a place is that of a low one, or of a high one
pub low_or_high : (key : List ℕ) → is_some (place_digits key) ≡ true → high_key key ≡ None → (n : ℕ) × (low_place key ≡ Some n)
unfolding low_place high_key
low_or_high key is high = by (place_digits key) is high
  where
    by : (o : Option (List ℕ)) → is_some o ≡ true → option_and_then (λ w. unless_some key (place_of w)) o ≡ None → (n : ℕ) × (option_and_then place_of o ≡ Some n)
    by None is high = absurd (cc)
    by (Some w) is high = unless_none key (place_of w) high

digits_made : (n : ℕ) → n < 2 ^ 16 → place_digits (place_key n) ≡ Some (decimal n)
digits_made n small = let l = limit_16 in rw (decimal_natural n (omega arith)) refl

pub place_made : (n : ℕ) → n < 2 ^ 16 → is_some (place_digits (place_key n)) ≡ true
place_made n small = ap is_some (digits_made n small)

place_of_made : (n : ℕ) → n < 2 ^ 16 → place_of (decimal n) ≡ Some n
unfolding place_of
place_of_made n small = below_complete (2 ^ 16) n limit_16 small

pub low_made : (n : ℕ) → n < 2 ^ 16 → low_place (place_key n) ≡ Some n
unfolding low_place
low_made n small = ap (option_and_then place_of) (digits_made n small) ∙ place_of_made n small

pub high_made : (n : ℕ) → n < 2 ^ 16 → high_key (place_key n) ≡ None
unfolding high_key
high_made n small = ap (option_and_then (λ w. unless_some (place_key n) (place_of w))) (digits_made n small) ∙ ap (unless_some (place_key n)) (place_of_made n small)

pub low_nowhere : (key : List ℕ) → place_digits key ≡ None → low_place key ≡ None
unfolding low_place
low_nowhere key e = ap (option_and_then place_of) e

pub high_nowhere : (key : List ℕ) → place_digits key ≡ None → high_key key ≡ None
unfolding high_key
high_nowhere key e = ap (option_and_then (λ w. unless_some key (place_of w))) e

-- keys of two places differ
pub one_place : (n m : ℕ) → n < 2 ^ 16 → m < 2 ^ 16 → place_key n ≡ place_key m → n ≡ m
one_place n m l k e = some_is n m (sym (low_made n l) ∙ ap low_place e ∙ low_made m k)

-- ---- tags

class_read : (c : ℕ) (class : Class) → class_in c ≡ Some class → c ≡ class_letter class
class_read c class h = universal (c == 117) refl h
  where
    private : (b : Bool) → c == 112 ≡ b → cond b (Some Private) None ≡ Some class → c ≡ class_letter class
    private true e h = eqb-true c 112 e ∙ ap class_letter (some_is Private class h)
    private false e h = absurd (cc)

    context : (b : Bool) → c == 99 ≡ b → cond b (Some Context) (cond (c == 112) (Some Private) None) ≡ Some class → c ≡ class_letter class
    context true e h = eqb-true c 99 e ∙ ap class_letter (some_is Context class h)
    context false e h = private (c == 112) refl h

    application : (b : Bool) → c == 97 ≡ b → cond b (Some Application) (cond (c == 99) (Some Context) (cond (c == 112) (Some Private) None)) ≡ Some class → c ≡ class_letter class
    application true e h = eqb-true c 97 e ∙ ap class_letter (some_is Application class h)
    application false e h = context (c == 99) refl h

    universal : (b : Bool) → c == 117 ≡ b → cond b (Some Universal) (cond (c == 97) (Some Application) (cond (c == 99) (Some Context) (cond (c == 112) (Some Private) None))) ≡ Some class → c ≡ class_letter class
    universal true e h = eqb-true c 117 e ∙ ap class_letter (some_is Universal class h)
    universal false e h = application (c == 97) refl h

with_class_is : (w : List ℕ) (o : Option Class) (p : Class × List ℕ) → with_class w o ≡ Some p → (o ≡ Some p.0) × (w ≡ p.1)
with_class_is w None p h = absurd (cc)
with_class_is w (Some c) p h = let e = some_is (c, w) p h in (ap (λ p. Some p.0) e, ap (λ p. p.1) e)

class_digits_is : (w : List ℕ) (p : Class × List ℕ) → class_digits w ≡ Some p → w ≡ class_letter p.0 ∷ p.1
class_digits_is [] p h = absurd (cc)
class_digits_is (c ∷ cs) p h = let q = with_class_is cs (class_in c) p h in ap₂ (λ x xs. x ∷ xs) (class_read c p.0 q.0) q.1

if_natural_is : (o : Option (Class × List ℕ)) (p : Class × List ℕ) → if_natural o ≡ Some p → (o ≡ Some p) × (is_natural p.1 ≡ true)
if_natural_is None p h = absurd (cc)
if_natural_is (Some q) p h = let r = if_some (is_natural q.1) q p h in (ap Some r.1, subst (λ p. is_natural p.1 ≡ true) r.1 r.0)

-- the key of a tag is # and a letter for its class in front of its number's digits
pub tag_read : (key : List ℕ) (p : Class × List ℕ) → tag_digits key ≡ Some p → (key ≡ 35 ∷ class_letter p.0 ∷ p.1) × (is_natural p.1 ≡ true)
tag_read [] p h = absurd (cc)
tag_read (c ∷ cs) p h = by (c == 35) refl h
  where
    by : (b : Bool) → c == 35 ≡ b → cond b (if_natural (class_digits cs)) None ≡ Some p → (c ∷ cs ≡ 35 ∷ class_letter p.0 ∷ p.1) × (is_natural p.1 ≡ true)
    by true e h = let q = if_natural_is (class_digits cs) p h in (ap₂ (λ x xs. x ∷ xs) (eqb-true c 35 e) (class_digits_is cs p q.0), q.1)
    by false e h = absurd (cc)

pub tag_number_read : (w : List ℕ) (n : ℕ) → is_natural w ≡ true → tag_number_of w ≡ Some n → w ≡ decimal n
unfolding tag_number_of
tag_number_read w n h e = (below_sound (2 ^ 32) w n limit_32 h e).0

class_made : (class : Class) (w : List ℕ) → class_digits (class_letter class ∷ w) ≡ Some (class, w)
class_made Universal w = refl
class_made Application w = refl
class_made Context w = refl
class_made Private w = refl

pub tag_made : (t : Tag) → t.number < 2 ^ 32 → tag_digits (tag_key t) ≡ Some (t.class, decimal t.number)
tag_made t small = let l = limit_32 in ap if_natural (class_made t.class (decimal t.number)) ∙ ap (λ b. cond b (Some (t.class, decimal t.number)) None) (decimal_natural t.number (omega arith))

pub tag_number_made : (n : ℕ) → n < 2 ^ 32 → tag_number_of (decimal n) ≡ Some n
unfolding tag_number_of
tag_number_made n small = below_complete (2 ^ 32) n limit_32 small
