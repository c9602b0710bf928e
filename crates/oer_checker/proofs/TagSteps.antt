-- Alternatives of a CHOICE, one after another.
use Rattle.std.proofs.Common.{◌≡◌, ℕ, zero, suc, ◌<◌, Bool, true, false, ◌||◌, List, [], ◌∷◌, arith, if◌then◌else◌, Option, Some, None, length, take, get_or, refl, sym, ap, ap₂, ◌∙◌}
use Rattle.oer_units.specs.declared.fault.Why.{Why}
use Rattle.oer_units.specs.declared.fault.Why.TheVariants.{UnknownAlternative}
use Rattle.oer_units.specs.declared.tagging.Tag.{Tag}
use Rattle.oer_units.specs.Reader.{Outcome, Place, Reader, choose, got, guard, refuse, refused}
use Rattle.oer_units.specs.Reading.{tag}
use Rattle.oer_model.specs.AsnType.{Alternatives, choice, no_alternatives}
use Rattle.oer_model.specs.Checking.{check_alternative, check_by_tag, check_choice, check_chosen, check_octets, check_open, check_value}
use Rattle.oer_model.specs.Constraints.{AlternativesKeepLimits, KeepsLimits, has_tag, same_tag}
use Rattle.oer_model.specs.Fits.{AlternativeDefaultsFit, DefaultsFit}
use Rattle.oer_values.specs.Lookup.{first_with}
use Rattle.oer_values.specs.ShapeView.{later_of, root_of, type_of}
use Rattle.oer_values.specs.declared.shape.Alt.{Alt}
use Rattle.oer_values.proofs.TagSteps.{here}
use Rattle.oer_checker.specs.Steps.{check_later}
use Rattle.oer_checker.proofs.Joins.{bind_got, bind_stop, kept_at}

-- ---- a root, and what follows it

in_step : (b x y : Bool) → (true ≡ x → y ≡ true) → true ≡ (b || x) → (b || y) ≡ true
in_step true x y more e = refl
in_step false x y more e = more e

pub in_root : (xs : List Alt) (after : Alternatives) (t : Tag) → true ≡ has_tag t (root_of xs no_alternatives) → has_tag t (root_of xs after) ≡ true
in_root [] after t e = absurd (cc)
in_root (a ∷ xs) after t e = in_step (same_tag a.tag t) (has_tag t (root_of xs no_alternatives)) (has_tag t (root_of xs after)) (in_root xs after t) e

value_step : (b x : Bool) (c r s : Reader Bool) → (true ≡ x → r ≡ s) → true ≡ (b || x) → check_by_tag b c r ≡ check_by_tag b c s
value_step true x c r s more e = refl
value_step false x c r s more e = more e

pub root_value : (xs : List Alt) (after : Alternatives) (t : Tag) → true ≡ has_tag t (root_of xs no_alternatives) → check_alternative (root_of xs no_alternatives) t ≡ check_alternative (root_of xs after) t
root_value [] after t e = absurd (cc)
root_value (a ∷ xs) after t e = value_step (same_tag a.tag t) (has_tag t (root_of xs no_alternatives)) (check_value (type_of a.shape)) (check_alternative (root_of xs no_alternatives) t) (check_alternative (root_of xs after) t) (root_value xs after t) e

out_step : (b x y z : Bool) → (false ≡ x → y ≡ z) → false ≡ (b || x) → (b || y) ≡ z
out_step true x y z more e = absurd (cc)
out_step false x y z more e = more e

pub not_in_root : (xs : List Alt) (after : Alternatives) (t : Tag) → false ≡ has_tag t (root_of xs no_alternatives) → has_tag t (root_of xs after) ≡ has_tag t after
not_in_root [] after t e = refl
not_in_root (a ∷ xs) after t e = out_step (same_tag a.tag t) (has_tag t (root_of xs no_alternatives)) (has_tag t (root_of xs after)) (has_tag t after) (not_in_root xs after t) e

later_step : (b x : Bool) (c r s : Reader Bool) → (false ≡ x → r ≡ s) → false ≡ (b || x) → r ≡ check_by_tag b c s
later_step true x c r s more e = absurd (cc)
later_step false x c r s more e = more e

pub later_value : (xs : List Alt) (after : Alternatives) (t : Tag) → false ≡ has_tag t (root_of xs no_alternatives) → check_alternative after t ≡ check_alternative (root_of xs after) t
later_value [] after t e = refl
later_value (a ∷ xs) after t e = later_step (same_tag a.tag t) (has_tag t (root_of xs no_alternatives)) (check_value (type_of a.shape)) (check_alternative after t) (check_alternative (root_of xs after) t) (later_value xs after t) e

abbrev after_tag : Bool → Alternatives → Tag → Reader Bool
after_tag extensible more t = check_chosen extensible more (check_alternative more) t

pub choice_then : (extensible : Bool) (more : Alternatives) (p q : Place) (t : Tag) (o : Outcome Bool) → got t q ≡ tag p → o ≡ after_tag extensible more t q → o ≡ check_value (choice extensible more) p
unfolding check_choice
choice_then extensible more p q t o e h = bind_got tag (after_tag extensible more) p q t o e h

pub choice_stop : (extensible : Bool) (more : Alternatives) (p : Place) (why : Why) (rest : List ℕ) → refused why rest ≡ tag p → refused why rest ≡ check_value (choice extensible more) p
unfolding check_choice
choice_stop extensible more p why rest e = bind_stop tag (after_tag extensible more) p why rest e

pub choice_root : (extensible : Bool) (xs : List Alt) (after : Alternatives) (p q : Place) (t : Tag) (o : Outcome Bool) → got t q ≡ tag p → true ≡ has_tag t (root_of xs no_alternatives) → o ≡ check_alternative (root_of xs no_alternatives) t q → o ≡ check_value (choice extensible (root_of xs after)) p
choice_root extensible xs after p q t o e has h =
    choice_then extensible (root_of xs after) p q t o e
    (h ∙ ap (λ (r : Reader Bool). r q) (root_value xs after t has)
    ∙ ap (λ (b : Bool). choose b (check_alternative (root_of xs after) t) (guard extensible UnknownAlternative check_octets) q) (sym (in_root xs after t has)))

pub choice_later : (xs more : List Alt) (p q : Place) (t : Tag) (o : Outcome Bool) → got t q ≡ tag p → false ≡ has_tag t (root_of xs no_alternatives) → o ≡ check_later (later_of more) t q → o ≡ check_value (choice true (root_of xs (later_of more))) p
choice_later xs more p q t o e none h =
    choice_then true (root_of xs (later_of more)) p q t o e
    (h ∙ ap₂ (λ (b : Bool) (r : Reader Bool). choose b r check_octets q) (sym (not_in_root xs (later_of more) t none)) (later_value xs (later_of more) t none))

refused_is : (b : Bool) (r : Reader Bool) (q : Place) → false ≡ b → refused UnknownAlternative q.input ≡ choose b r (guard false UnknownAlternative check_octets) q
unfolding refuse
refused_is b r q e = rw (sym e) refl

pub choice_none : (xs : List Alt) (p q : Place) (t : Tag) → got t q ≡ tag p → false ≡ has_tag t (root_of xs no_alternatives) → refused UnknownAlternative q.input ≡ check_value (choice false (root_of xs no_alternatives)) p
choice_none xs p q t e none =
    choice_then false (root_of xs no_alternatives) p q t (refused UnknownAlternative q.input) e
    (refused_is (has_tag t (root_of xs no_alternatives)) (check_alternative (root_of xs no_alternatives) t) q none)

-- ---- the first one that has the tag is the one that is checked

or_left : (b r : Bool) → (b || r) ≡ false → b ≡ false
or_left true r e = absurd (cc)
or_left false r e = refl

or_right : (b r : Bool) → (b || r) ≡ false → r ≡ false
or_right true r e = absurd (cc)
or_right false r e = e

pub first_value : (xs : List Alt) (i : ℕ) (a : Alt) (t : Tag) → i < length xs → a ≡ get_or xs i a → same_tag a.tag t ≡ true → has_tag t (root_of (take i xs) no_alternatives) ≡ false
    → (true ≡ has_tag t (root_of xs no_alternatives)) × (check_value (type_of a.shape) ≡ check_alternative (root_of xs no_alternatives) t)
first_value [] i a t less is same before = absurd (omega arith)
first_value (x ∷ xs) zero a t less is same before =
    let has : true ≡ same_tag x.tag t = sym (ap (λ (y : Alt). same_tag y.tag t) (sym is) ∙ same) in (
      ap (λ (b : Bool). b || has_tag t (root_of xs no_alternatives)) has,
      ap (λ (y : Alt). check_value (type_of y.shape)) is ∙ ap (λ (b : Bool). check_by_tag b (check_value (type_of x.shape)) (check_alternative (root_of xs no_alternatives) t)) has,
    )
first_value (x ∷ xs) (suc i) a t less is same before =
    let other : false ≡ same_tag x.tag t = sym (or_left (same_tag x.tag t) (has_tag t (root_of (take i xs) no_alternatives)) before) in
    let rest = first_value xs i a t (omega arith) is same (or_right (same_tag x.tag t) (has_tag t (root_of (take i xs) no_alternatives)) before) in (
      rest.0 ∙ ap (λ (b : Bool). b || has_tag t (root_of xs no_alternatives)) other,
      rest.1 ∙ ap (λ (b : Bool). check_by_tag b (check_value (type_of x.shape)) (check_alternative (root_of xs no_alternatives) t)) other,
    )

-- ---- after the extension marker

abbrev later_or : Option Alt → Reader Bool
later_or None = check_octets
later_or (Some a) = check_open (check_value (type_of a.shape))

or_step : (b c : Bool) (a : Alt) (rest : Reader Bool) (p : Option Alt) → choose c rest check_octets ≡ later_or p → choose (b || c) (check_by_tag b (check_open (check_value (type_of a.shape))) rest) check_octets ≡ later_or (if b then Some a else p)
or_step true c a rest p e = refl
or_step false c a rest p e = e

later_first : (xs : List Alt) (t : Tag) → check_later (later_of xs) t ≡ later_or (first_with t xs)
later_first [] t = refl
later_first (a ∷ xs) t = or_step (same_tag a.tag t) (has_tag t (later_of xs)) a (check_alternative (later_of xs) t) (first_with t xs) (later_first xs t)

pub later_found : (xs : List Alt) (a : Alt) (t : Tag) → Some a ≡ first_with t xs → check_open (check_value (type_of a.shape)) ≡ check_later (later_of xs) t
later_found xs a t is = ap later_or is ∙ sym (later_first xs t)

pub later_none : (xs : List Alt) (t : Tag) → None ≡ first_with t xs → check_octets ≡ check_later (later_of xs) t
later_none xs t is = ap later_or is ∙ sym (later_first xs t)

-- ---- what is asked of the types

pub root_limits : (xs : List Alt) (i : ℕ) (a : Alt) → i < length xs → a ≡ get_or xs i a → AlternativesKeepLimits (root_of xs no_alternatives) → KeepsLimits (type_of a.shape)
root_limits xs i a less is k = (kept_at (λ (l : List Alt). AlternativesKeepLimits (root_of l no_alternatives)) (λ b l k. k.1) xs i (here xs i a less is) k).0

pub root_defaults : (xs : List Alt) (i : ℕ) (a : Alt) → i < length xs → a ≡ get_or xs i a → AlternativeDefaultsFit (root_of xs no_alternatives) → DefaultsFit (type_of a.shape)
root_defaults xs i a less is k = (kept_at (λ (l : List Alt). AlternativeDefaultsFit (root_of l no_alternatives)) (λ b l k. k.1) xs i (here xs i a less is) k).0

pub later_limits : (xs : List Alt) (i : ℕ) (a : Alt) → i < length xs → a ≡ get_or xs i a → AlternativesKeepLimits (later_of xs) → KeepsLimits (type_of a.shape)
later_limits xs i a less is k = (kept_at (λ (l : List Alt). AlternativesKeepLimits (later_of l)) (λ b l k. k.1) xs i (here xs i a less is) k).0

pub later_defaults : (xs : List Alt) (i : ℕ) (a : Alt) → i < length xs → a ≡ get_or xs i a → AlternativeDefaultsFit (later_of xs) → DefaultsFit (type_of a.shape)
later_defaults xs i a less is k = (kept_at (λ (l : List Alt). AlternativeDefaultsFit (later_of l)) (λ b l k. k.1) xs i (here xs i a less is) k).0

-- those of a root, and those after it
pub front_limits : (xs : List Alt) (after : Alternatives) → AlternativesKeepLimits (root_of xs after) → AlternativesKeepLimits (root_of xs no_alternatives)
front_limits [] after k = tt
front_limits (a ∷ xs) after k = (k.0, front_limits xs after k.1, k.2)

pub front_defaults : (xs : List Alt) (after : Alternatives) → AlternativeDefaultsFit (root_of xs after) → AlternativeDefaultsFit (root_of xs no_alternatives)
front_defaults [] after k = tt
front_defaults (a ∷ xs) after k = (k.0, front_defaults xs after k.1)

pub after_limits : (xs : List Alt) (after : Alternatives) → AlternativesKeepLimits (root_of xs after) → AlternativesKeepLimits after
after_limits [] after k = k
after_limits (a ∷ xs) after k = after_limits xs after k.1

pub after_defaults : (xs : List Alt) (after : Alternatives) → AlternativeDefaultsFit (root_of xs after) → AlternativeDefaultsFit after
after_defaults [] after k = k
after_defaults (a ∷ xs) after k = after_defaults xs after k.1
