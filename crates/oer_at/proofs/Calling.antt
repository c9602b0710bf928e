-- What names mean, and what is found for them.
use Rattle.std.proofs.Common.{◌≡◌, ◌≢◌, ◌⊎◌, inl, inr, ◌<◌, ◌^◌, ◌+◌, ℕ, zero, suc, List, [], ◌∷◌, ◌++◌, length, Bool, true, false, ◌&&◌, Option, Some, None, Result, Ok, Err, refl, sym, ap, ap₂, ◌∙◌, subst, arith, get_or, append-nil, ltb-true, ⊎_elim}
use Rattle.std.specs.Prelude.{nat_lt, if◌then◌else◌}
use Rattle.std.specs.Fmt.{decimal}
use Rattle.std.specs.Str.{bytes_eq, all_ascii_digits}
use Rattle.std.specs.Str.Parse.{IsNumeral, digits_value, without_leading_plus}
use Rattle.std.proofs.lemmas.Bool.{and_parts}
use Rattle.std.proofs.lemmas.Bool.Decides.{nat_tests}
use Rattle.std.proofs.lemmas.Fmt.{decimal_digit, decimal-digits_value, decimal_is_IsNumeral, first_decimal}
use Rattle.std.proofs.lemmas.Slice.Eq.{bytes_eq-Decides}
use Rattle.std.proofs.lemmas.Str.Parse.{without_leading_plus_none}
use Rattle.oer_literals.specs.Numbers.{is_numeral, size_of}
use Rattle.oer_literals.proofs.Numerals.{size_ok, tells_numerals}
use Rattle.oer_units.specs.declared.tagging.Tag.{Tag}
use Rattle.oer_model.specs.AsnType.{Additions, Alternatives, AsnType, Fields, addition, alternative, choice, extensible_sequence, field, later, leaf, no_additions, no_alternatives, no_fields, sequence, sequence_of}
use Rattle.oer_model.specs.WellFormed.{AnyOf, InAdditions, InAlternatives, InFields, Repeats, Somewhere, addition_names, alternative_names, field_names, names}
use Rattle.oer_parts.specs.declared.step.Step.TheVariants as step
use Rattle.oer_at.specs.Hops.{Lead, before_hops, find_addition, find_alternative, find_element, find_field, hops_by, hops_from, named, or_else, or_wanted}
use Rattle.oer_at.specs.Meaning.{HasAlternative, IsCalled, Means, addition_at, component_at}
use Rattle.oer_at.specs.Names.{element_of, is_led}
use Rattle.oer_at.specs.declared.hop.Hop.{Hop}
use Rattle.oer_at.specs.declared.hop.Hop.TheVariants.{Alternative, Part}
use Rattle.oer_at.specs.declared.hop.NameFault.{NameFault}
use Rattle.oer_at.specs.declared.hop.Wanted.{Wanted}
use Rattle.oer_at.specs.declared.hop.Wanted.TheVariants as wanted

is_same : (a b : List ℕ) → bytes_eq a b ≡ true → a ≡ b
is_same a b h = (bytes_eq-Decides a b).0 h

itself : (a : List ℕ) → bytes_eq a a ≡ true
itself a = (bytes_eq-Decides a a).1 refl

differs : (a b : List ℕ) → a ≢ b → bytes_eq a b ≡ false
differs a b ne = by (bytes_eq a b) refl where
  by : (t : Bool) → bytes_eq a b ≡ t → bytes_eq a b ≡ false
  by true e = absurd (ne (is_same a b e))
  by false e = e

-- ---- numbers of elements

not_led : (l : List ℕ) → 48 < get_or l 0 0 → is_led l ≡ false
not_led [] h = absurd (omega arith)
not_led (c ∷ []) h = grind (arith, nat_tests)
not_led (c ∷ d ∷ ds) h = grind (arith, nat_tests)

decimal_not_led : (i : ℕ) → i < 2 ^ 64 → is_led (decimal i) ≡ false
decimal_not_led zero h = ap is_led (decimal_digit 0 (omega arith))
decimal_not_led (suc i) h = not_led (decimal (suc i)) (first_decimal (suc i) (omega arith) h)

no_plus : (i : ℕ) → i < 2 ^ 64 → get_or (decimal i) 0 0 ≢ 43
no_plus zero h e = let first : get_or (decimal 0) 0 0 ≡ 48 = ap (λ (l : List ℕ). get_or l 0 0) (decimal_digit 0 (omega arith)) in omega (arith, first, e)
no_plus (suc i) h e = let above = first_decimal (suc i) (omega arith) h in omega (arith, above, e)

size_is : (i : ℕ) → i < 2 ^ 64 → Some i ≡ size_of (decimal i)
size_is i h =
    let plain = without_leading_plus_none (decimal i) (no_plus i h) in
    let is = decimal_is_IsNumeral i h in
    let value : digits_value 10 (decimal i) ≡ i = is.1 in
    let ok : Result ℕ ℕ = Ok i in
    size_ok (decimal i) ok i
    (subst (λ (d : List ℕ). ((IsNumeral 10 d) × (digits_value 10 d < 2 ^ 64)) × (i ≡ digits_value 10 d)) (sym plain)
    ((is.0, omega (arith, value, h)), sym value)) refl

number_found : (name : List ℕ) (i : ℕ) → name ≡ decimal i → i < 2 ^ 64 → element_of name ≡ Some i
number_found name i is h = ap element_of is ∙ rw (decimal_not_led i h) (sym (size_is i h))

led_facts : (w : List ℕ) → is_led w ≡ false → (get_or w 0 0 ≢ 43) × (get_or w 0 0 ≡ 48 → length w ≡ 1)
led_facts [] h = (λ e. omega (arith, e), λ e. absurd (omega (arith, e)))
led_facts (c ∷ []) h = (grind (arith, nat_tests), λ e. refl)
led_facts (c ∷ d ∷ ds) h = (grind (arith, nat_tests), λ e. absurd (let other : c ≢ 48 = grind (arith, nat_tests) in other e))

size_means : (w : List ℕ) (i : ℕ) → get_or w 0 0 ≢ 43 → (get_or w 0 0 ≡ 48 → length w ≡ 1) → size_of w ≡ Some i → (w ≡ decimal i) × (i < 2 ^ 64)
unfolding size_of
size_means w i plus lead h = by (is_numeral (without_leading_plus w) && nat_lt (digits_value 10 (without_leading_plus w)) (2 ^ 64)) refl h where
  plain : without_leading_plus w ≡ w
  plain = without_leading_plus_none w plus

  by : (b : Bool) → (is_numeral (without_leading_plus w) && nat_lt (digits_value 10 (without_leading_plus w)) (2 ^ 64)) ≡ b
      → (if b then Some (digits_value 10 (without_leading_plus w)) else None) ≡ Some i → (w ≡ decimal i) × (i < 2 ^ 64)
  by true e h =
      let both = and_parts (is_numeral (without_leading_plus w)) (nat_lt (digits_value 10 (without_leading_plus w)) (2 ^ 64)) e in
      let numeral : is_numeral w ≡ true = subst (λ (l : List ℕ). is_numeral l ≡ true) plain both.0 in
      let small : digits_value 10 w < 2 ^ 64 = subst (λ (l : List ℕ). digits_value 10 l < 2 ^ 64) plain (ltb-true _ _ both.1) in
      let value : digits_value 10 (without_leading_plus w) ≡ i = cc in
      let same : digits_value 10 w ≡ i = ap (digits_value 10) (sym plain) ∙ value in
      let parts = and_parts (nat_lt 0 (length w)) (all_ascii_digits w) numeral in (
        sym (ap decimal (sym same) ∙ decimal-digits_value tells_numerals w parts.1 (ltb-true _ _ parts.0) lead small),
        omega (arith, same, small),
      )
  by false e h = absurd (cc)

number_means : (name : List ℕ) (i : ℕ) → element_of name ≡ Some i → (name ≡ decimal i) × (i < 2 ^ 64)
number_means name i h = by (is_led name) refl h where
  by : (b : Bool) → is_led name ≡ b → (if b then None else size_of name) ≡ Some i → (name ≡ decimal i) × (i < 2 ^ 64)
  by true e h = absurd (cc)
  by false e h = let facts = led_facts name e in size_means name i facts.0 facts.1 h

-- ---- from what is found to what is meant

tested : (a b : List ℕ) → (bytes_eq a b ≡ true) ⊎ (bytes_eq a b ≡ false)
tested a b = by (bytes_eq a b) refl where
  by : (t : Bool) → bytes_eq a b ≡ t → (bytes_eq a b ≡ true) ⊎ (bytes_eq a b ≡ false)
  by true e = inl e
  by false e = inr e

abbrev FieldMeans : Fields → ℕ → List ℕ → Lead → Type 0
FieldMeans fs k name lead = (i : ℕ) × (lead.0 ≡ Part (step.Component (k + i))) × (component_at fs i ≡ Some (name, lead.1))

abbrev AdditionMeans : Additions → ℕ → List ℕ → Lead → Type 0
AdditionMeans more k name lead = (i : ℕ) × (lead.0 ≡ Part (step.Addition (k + i))) × (addition_at more i ≡ Some (name, lead.1))

abbrev AlternativeMeans : Alternatives → List ℕ → Lead → Type 0
AlternativeMeans more name lead = (t : Tag) × (lead.0 ≡ Alternative t) × HasAlternative more name t lead.1

same_lead : (a b : Lead) → Some a ≡ Some b → a ≡ b
same_lead a b h = cc

none_leads : {A : Type 0} (b : Lead) → None ≡ Some b → A
none_leads b h = absurd (cc)

at_first : (k : ℕ) → k ≡ k + 0
at_first k = omega arith

at_next : (k i : ℕ) → suc k + i ≡ k + suc i
at_next k i = omega arith

-- a name and a type
abbrev Named : Type 0
Named = List ℕ × AsnType

abbrev some_named : List ℕ → AsnType → Option Named
some_named name T = Some (name, T)

named_type : (n name : List ℕ) (T : AsnType) (lead : Lead) → bytes_eq n name ≡ true → T ≡ lead.1 → some_named n T ≡ some_named name lead.1
named_type n name T lead same is = ap₂ some_named (is_same n name same) is

one_named : (a b : Named) → Some a ≡ Some b → a ≡ b
one_named a b h = cc

pub both_named : (n name : List ℕ) (T U : AsnType) → some_named n T ≡ some_named name U → (n ≡ name) × (T ≡ U)
both_named n name T U h = let same = one_named (n, T) (name, U) h in (ap (λ (x : Named). x.0) same, ap (λ (x : Named). x.1) same)

field_means : (fs : Fields) (k : ℕ) (name : List ℕ) (lead : Lead) → find_field k fs name ≡ Some lead → FieldMeans fs k name lead
field_means no_fields k name lead h = none_leads lead h
field_means (field n need T fs) k name lead h = ⊎_elim
    (λ same. (let is = same_lead (Part (step.Component k), T) lead (rw same at h) in
    (0, ap (λ (l : Lead). l.0) (sym is) ∙ ap (λ (j : ℕ). Part (step.Component j)) (at_first k), named_type n name T lead same (ap (λ (l : Lead). l.1) is))))
    (λ other. (let m = field_means fs (suc k) name lead (rw other at h) in (suc m.0, m.1 ∙ ap (λ (j : ℕ). Part (step.Component j)) (at_next k m.0), m.2)))
    (tested n name)

addition_means : (more : Additions) (k : ℕ) (name : List ℕ) (lead : Lead) → find_addition k more name ≡ Some lead → AdditionMeans more k name lead
addition_means no_additions k name lead h = none_leads lead h
addition_means (addition n T more) k name lead h = ⊎_elim
    (λ same. (let is = same_lead (Part (step.Addition k), T) lead (rw same at h) in
    (0, ap (λ (l : Lead). l.0) (sym is) ∙ ap (λ (j : ℕ). Part (step.Addition j)) (at_first k), named_type n name T lead same (ap (λ (l : Lead). l.1) is))))
    (λ other. (let m = addition_means more (suc k) name lead (rw other at h) in (suc m.0, m.1 ∙ ap (λ (j : ℕ). Part (step.Addition j)) (at_next k m.0), m.2)))
    (tested n name)

alternative_means : (more : Alternatives) (name : List ℕ) (lead : Lead) → find_alternative more name ≡ Some lead → AlternativeMeans more name lead
alternative_means no_alternatives name lead h = none_leads lead h
alternative_means (alternative n t T more) name lead h = ⊎_elim
    (λ same. (let is = same_lead (Alternative t, T) lead (rw same at h) in (t, ap (λ (l : Lead). l.0) (sym is), inl (is_same n name same, refl, ap (λ (l : Lead). l.1) is))))
    (λ other. (let m = alternative_means more name lead (rw other at h) in (m.0, m.1, inr m.2)))
    (tested n name)
alternative_means (later n t T more) name lead h = ⊎_elim
    (λ same. (let is = same_lead (Alternative t, T) lead (rw same at h) in (t, ap (λ (l : Lead). l.0) (sym is), inl (is_same n name same, refl, ap (λ (l : Lead). l.1) is))))
    (λ other. (let m = alternative_means more name lead (rw other at h) in (m.0, m.1, inr m.2)))
    (tested n name)

wanted_some : (w : Wanted) (o : Option Lead) (lead : Lead) → or_wanted w o ≡ Ok lead → o ≡ Some lead
wanted_some w None lead h = absurd (cc)
wanted_some w (Some x) lead h = let same : x ≡ lead = cc in ap (λ (l : Lead). Some l) same

either : (a b : Option Lead) (lead : Lead) → or_else a b ≡ Some lead → (a ≡ Some lead) ⊎ (b ≡ Some lead)
either None b lead h = inr h
either (Some x) b lead h = inl h

element_means : (T : AsnType) (name : List ℕ) (lead : Lead) → find_element T (element_of name) ≡ Some lead
    → (i : ℕ) × (lead.0 ≡ Part (step.Item i)) × ((name ≡ decimal i) × (i < 2 ^ 64) × (T ≡ lead.1))
element_means T name lead h = by (element_of name) refl h where
  by : (o : Option ℕ) → element_of name ≡ o → find_element T o ≡ Some lead → (i : ℕ) × (lead.0 ≡ Part (step.Item i)) × ((name ≡ decimal i) × (i < 2 ^ 64) × (T ≡ lead.1))
  by None e h = none_leads lead h
  by (Some i) e h =
      let is = same_lead (Part (step.Item i), T) lead h in
      let m = number_means name i e in
      (i, ap (λ (l : Lead). l.0) (sym is), (m.0, m.1, ap (λ (l : Lead). l.1) is))

from_zero : (P : ℕ → Type 0) (i : ℕ) → P i → P (0 + i)
from_zero P i h = let same : i ≡ 0 + i = omega arith in subst P same h

called : (T : AsnType) (name : List ℕ) (lead : Lead) → named T name ≡ Ok lead → IsCalled T name lead.0 lead.1
called (sequence fs) name lead h =
    let m = field_means fs 0 name lead (wanted_some wanted.Component (find_field 0 fs name) lead h) in
    subst (λ (hop : Hop). IsCalled (sequence fs) name hop lead.1) (sym m.1) (from_zero (λ j. component_at fs j ≡ Some (name, lead.1)) m.0 m.2)
called (extensible_sequence fs more) name lead h = ⊎_elim
    (λ f. (let m = field_means fs 0 name lead f in
    subst (λ (hop : Hop). IsCalled (extensible_sequence fs more) name hop lead.1) (sym m.1) (from_zero (λ j. component_at fs j ≡ Some (name, lead.1)) m.0 m.2)))
    (λ f. (let m = addition_means more 0 name lead f in
    subst (λ (hop : Hop). IsCalled (extensible_sequence fs more) name hop lead.1) (sym m.1) (from_zero (λ j. addition_at more j ≡ Some (name, lead.1)) m.0 m.2)))
    (either (find_field 0 fs name) (find_addition 0 more name) lead (wanted_some wanted.Component (or_else (find_field 0 fs name) (find_addition 0 more name)) lead h))
called (sequence_of size T) name lead h =
    let m = element_means T name lead (wanted_some wanted.Element (find_element T (element_of name)) lead h) in
    subst (λ (hop : Hop). IsCalled (sequence_of size T) name hop lead.1) (sym m.1) m.2
called (choice extensible more) name lead h =
    let m = alternative_means more name lead (wanted_some wanted.Alternative (find_alternative more name) lead h) in
    subst (λ (hop : Hop). IsCalled (choice extensible more) name hop lead.1) (sym m.1) m.2
called (leaf kind) name lead h = absurd (cc)

abbrev SplitsHops : Result Lead Wanted → (AsnType → Result (List Hop) NameFault) → List Hop → Type 0
SplitsHops r next hops = (lead : Lead) × (rest : List Hop) × (r ≡ Ok lead) × (hops ≡ lead.0 ∷ rest) × (next lead.1 ≡ Ok rest)

split_found : (lead : Lead) (next : AsnType → Result (List Hop) NameFault) (hops : List Hop) (s : Result (List Hop) NameFault) → next lead.1 ≡ s → before_hops lead.0 s ≡ Ok hops
    → SplitsHops (Ok lead) next hops
split_found lead next hops (Ok rest) e h = let same : lead.0 ∷ rest ≡ hops = cc in (lead, rest, refl, sym same, e)
split_found lead next hops (Err f) e h = absurd (cc)

split_hops : (i : ℕ) (r : Result Lead Wanted) (next : AsnType → Result (List Hop) NameFault) (hops : List Hop) → hops_by i r next ≡ Ok hops → SplitsHops r next hops
split_hops i (Err w) next hops h = absurd (cc)
split_hops i (Ok lead) next hops h = split_found lead next hops (next lead.1) refl h

pub means : (names : List (List ℕ)) (i : ℕ) (T : AsnType) (hops : List Hop) → hops_from i T names ≡ Ok hops → (U : AsnType) × Means T names hops U
means [] i T [] h = (T, refl)
means [] i T (hop ∷ hops) h = absurd (cc)
means (name ∷ names) i T hops h =
    let (lead, rest, is, all, more) = split_hops i (named T name) (λ U. hops_from (suc i) U names) hops h in
    let m = means names (suc i) lead.1 rest more in
    (m.0, subst (λ l. Means T (name ∷ names) l m.0) (sym all) (lead.1, called T name lead is, m.1))

-- ---- from what is meant to what is found

abbrev Among : List ℕ → List (List ℕ) → Type 0
Among name xs = AnyOf (λ y. name ≡ y) xs

among_left : (name : List ℕ) (xs ys : List (List ℕ)) → Among name xs → Among name (xs ++ ys)
among_left name [] ys h = absurd h
among_left name (x ∷ xs) ys (inl e) = inl e
among_left name (x ∷ xs) ys (inr h) = inr (among_left name xs ys h)

among_right : (name : List ℕ) (xs ys : List (List ℕ)) → Among name ys → Among name (xs ++ ys)
among_right name [] ys h = h
among_right name (x ∷ xs) ys h = inr (among_right name xs ys h)

component_named : (fs : Fields) (i : ℕ) (name : List ℕ) (U : AsnType) → component_at fs i ≡ Some (name, U) → Among name (field_names fs)
component_named no_fields i name U h = absurd (cc)
component_named (field n need T fs) zero name U h = inl (sym (both_named n name T U h).0)
component_named (field n need T fs) (suc i) name U h = inr (component_named fs i name U h)

addition_named : (more : Additions) (i : ℕ) (name : List ℕ) (U : AsnType) → addition_at more i ≡ Some (name, U) → Among name (addition_names more)
addition_named no_additions i name U h = absurd (cc)
addition_named (addition n T more) zero name U h = inl (sym (both_named n name T U h).0)
addition_named (addition n T more) (suc i) name U h = inr (addition_named more i name U h)

alternative_named : (more : Alternatives) (name : List ℕ) (t : Tag) (U : AsnType) → HasAlternative more name t U → Among name (alternative_names more)
alternative_named no_alternatives name t U h = absurd h
alternative_named (alternative n u T more) name t U (inl same) = inl (sym same.0)
alternative_named (alternative n u T more) name t U (inr h) = inr (alternative_named more name t U h)
alternative_named (later n u T more) name t U (inl same) = inl (sym same.0)
alternative_named (later n u T more) name t U (inr h) = inr (alternative_named more name t U h)

-- a name that stands further on is another one
other : (n name : List ℕ) (xs : List (List ℕ)) → (Repeats (n ∷ xs) → ⊥) → Among name xs → bytes_eq n name ≡ false
other n name xs none among = differs n name (λ e. none (inl (subst (λ (l : List ℕ). Among l xs) (sym e) among)))

-- the root component that the name calls is the first with it
pub field_found : (fs : Fields) (rest : List (List ℕ)) (i k : ℕ) (name : List ℕ) (U : AsnType) → (Repeats (field_names fs ++ rest) → ⊥) → component_at fs i ≡ Some (name, U)
    → find_field k fs name ≡ Some (Part (step.Component (k + i)), U)
field_found no_fields rest i k name U none h = absurd (cc)
field_found (field n need T fs) rest zero k name U none h =
    let (same, is) = both_named n name T U h in
    rw (subst (λ (l : List ℕ). bytes_eq n l ≡ true) same (itself n)) (ap₂ (λ (j : ℕ) (V : AsnType). Some (Part (step.Component j), V)) (at_first k) is)
field_found (field n need T fs) rest (suc i) k name U none h =
    rw (other n name (field_names fs ++ rest) none (among_left name (field_names fs) rest (component_named fs i name U h)))
    (field_found fs rest i (suc k) name U (λ r. none (inr r)) h ∙ ap (λ (j : ℕ). Some (Part (step.Component j), U)) (at_next k i))

-- the name of an addition is that of no root component
field_missed : (fs : Fields) (rest : List (List ℕ)) (k : ℕ) (name : List ℕ) → (Repeats (field_names fs ++ rest) → ⊥) → Among name rest → find_field k fs name ≡ None
field_missed no_fields rest k name none among = refl
field_missed (field n need T fs) rest k name none among =
    rw (other n name (field_names fs ++ rest) none (among_right name (field_names fs) rest among)) (field_missed fs rest (suc k) name (λ r. none (inr r)) among)

addition_found : (more : Additions) (i k : ℕ) (name : List ℕ) (U : AsnType) → (Repeats (addition_names more) → ⊥) → addition_at more i ≡ Some (name, U)
    → find_addition k more name ≡ Some (Part (step.Addition (k + i)), U)
addition_found no_additions i k name U none h = absurd (cc)
addition_found (addition n T more) zero k name U none h =
    let (same, is) = both_named n name T U h in
    rw (subst (λ (l : List ℕ). bytes_eq n l ≡ true) same (itself n)) (ap₂ (λ (j : ℕ) (V : AsnType). Some (Part (step.Addition j), V)) (at_first k) is)
addition_found (addition n T more) (suc i) k name U none h =
    rw (other n name (addition_names more) none (addition_named more i name U h))
    (addition_found more i (suc k) name U (λ r. none (inr r)) h ∙ ap (λ (j : ℕ). Some (Part (step.Addition j), U)) (at_next k i))

alternative_found : (more : Alternatives) (name : List ℕ) (t : Tag) (U : AsnType) → (Repeats (alternative_names more) → ⊥) → HasAlternative more name t U
    → find_alternative more name ≡ Some (Alternative t, U)
alternative_found no_alternatives name t U none h = absurd h
alternative_found (alternative n u T more) name t U none (inl (same, tag, is)) =
    rw (subst (λ (l : List ℕ). bytes_eq n l ≡ true) same (itself n)) (ap₂ (λ (x : Tag) (V : AsnType). Some (Alternative x, V)) tag is)
alternative_found (alternative n u T more) name t U none (inr h) =
    rw (other n name (alternative_names more) none (alternative_named more name t U h)) (alternative_found more name t U (λ r. none (inr r)) h)
alternative_found (later n u T more) name t U none (inl (same, tag, is)) =
    rw (subst (λ (l : List ℕ). bytes_eq n l ≡ true) same (itself n)) (ap₂ (λ (x : Tag) (V : AsnType). Some (Alternative x, V)) tag is)
alternative_found (later n u T more) name t U none (inr h) =
    rw (other n name (alternative_names more) none (alternative_named more name t U h)) (alternative_found more name t U (λ r. none (inr r)) h)

repeats_right : (xs ys : List (List ℕ)) → Repeats ys → Repeats (xs ++ ys)
repeats_right [] ys r = r
repeats_right (x ∷ xs) ys r = inr (repeats_right xs ys r)

abbrev ok_lead : Hop → AsnType → Result Lead Wanted
ok_lead hop V = Ok (hop, V)

nothing_before : (i : ℕ) → 0 + i ≡ i
nothing_before i = omega arith

pub named_found : (T : AsnType) (name : List ℕ) (hop : Hop) (V : AsnType) → (Repeats (names T) → ⊥) → IsCalled T name hop V → named T name ≡ Ok (hop, V)
named_found (sequence fs) name (Part (step.Component i)) V none h =
    let found = field_found fs [] i 0 name V (λ r. none (subst Repeats (append-nil (field_names fs)) r)) h in
    ap (or_wanted wanted.Component) found ∙ ap (λ (j : ℕ). ok_lead (Part (step.Component j)) V) (nothing_before i)
named_found (extensible_sequence fs more) name (Part (step.Component i)) V none h =
    let found = field_found fs (addition_names more) i 0 name V none h in
    ap (λ o. or_wanted wanted.Component (or_else o (find_addition 0 more name))) found ∙ ap (λ (j : ℕ). ok_lead (Part (step.Component j)) V) (nothing_before i)
named_found (extensible_sequence fs more) name (Part (step.Addition i)) V none h =
    let missed = field_missed fs (addition_names more) 0 name none (addition_named more i name V h) in
    let found = addition_found more i 0 name V (λ r. none (repeats_right (field_names fs) (addition_names more) r)) h in
    ap (λ o. or_wanted wanted.Component (or_else o (find_addition 0 more name))) missed ∙ ap (or_wanted wanted.Component) found ∙ ap (λ (j : ℕ). ok_lead (Part (step.Addition j)) V) (nothing_before i)
named_found (sequence_of size T) name (Part (step.Item i)) V none (is, low, same) =
    ap (λ o. or_wanted wanted.Element (find_element T o)) (number_found name i is low) ∙ ap (ok_lead (Part (step.Item i))) same
named_found (choice extensible more) name (Alternative t) V none h = ap (or_wanted wanted.Alternative) (alternative_found more name t V none h)
named_found _ name hop V none h = absurd h

-- ---- the types inside

in_fields : (Q : AsnType → Type 0) (fs : Fields) (i : ℕ) (name : List ℕ) (U : AsnType) → component_at fs i ≡ Some (name, U) → Somewhere Q U → InFields Q fs
in_fields Q no_fields i name U h s = absurd (cc)
in_fields Q (field n need T fs) zero name U h s = inl (subst (Somewhere Q) (sym (both_named n name T U h).1) s)
in_fields Q (field n need T fs) (suc i) name U h s = inr (in_fields Q fs i name U h s)

in_additions : (Q : AsnType → Type 0) (more : Additions) (i : ℕ) (name : List ℕ) (U : AsnType) → addition_at more i ≡ Some (name, U) → Somewhere Q U → InAdditions Q more
in_additions Q no_additions i name U h s = absurd (cc)
in_additions Q (addition n T more) zero name U h s = inl (subst (Somewhere Q) (sym (both_named n name T U h).1) s)
in_additions Q (addition n T more) (suc i) name U h s = inr (in_additions Q more i name U h s)

in_alternatives : (Q : AsnType → Type 0) (more : Alternatives) (name : List ℕ) (t : Tag) (U : AsnType) → HasAlternative more name t U → Somewhere Q U → InAlternatives Q more
in_alternatives Q no_alternatives name t U h s = absurd h
in_alternatives Q (alternative n u T more) name t U (inl same) s = inl (subst (Somewhere Q) (sym same.2) s)
in_alternatives Q (alternative n u T more) name t U (inr h) s = inr (in_alternatives Q more name t U h s)
in_alternatives Q (later n u T more) name t U (inl same) s = inl (subst (Somewhere Q) (sym same.2) s)
in_alternatives Q (later n u T more) name t U (inr h) s = inr (in_alternatives Q more name t U h s)

pub inside : (Q : AsnType → Type 0) (T : AsnType) (name : List ℕ) (hop : Hop) (V : AsnType) → IsCalled T name hop V → Somewhere Q V → Somewhere Q T
inside Q (sequence fs) name (Part (step.Component i)) V h s = inr (in_fields Q fs i name V h s)
inside Q (extensible_sequence fs more) name (Part (step.Component i)) V h s = inr (inl (in_fields Q fs i name V h s))
inside Q (extensible_sequence fs more) name (Part (step.Addition i)) V h s = inr (inr (in_additions Q more i name V h s))
inside Q (sequence_of size T) name (Part (step.Item i)) V h s = inr (subst (Somewhere Q) (sym h.2) s)
inside Q (choice extensible more) name (Alternative t) V h s = inr (in_alternatives Q more name t V h s)
inside Q _ name hop V h s = absurd h

pub at_top : (Q : AsnType → Type 0) (T : AsnType) → Q T → Somewhere Q T
at_top Q (leaf kind) q = q
at_top Q (sequence fs) q = inl q
at_top Q (extensible_sequence fs more) q = inl q
at_top Q (sequence_of size T) q = inl q
at_top Q (choice extensible more) q = inl q

abbrev HasRepeats : AsnType → Type 0
HasRepeats U = Repeats (names U)

pub meant : (words : List (List ℕ)) (i : ℕ) (T : AsnType) (hops : List Hop) (U : AsnType) → (Somewhere HasRepeats T → ⊥) → Means T words hops U → hops_from i T words ≡ Ok hops
meant [] i T [] U none m = refl
meant [] i T (hop ∷ hops) U none m = absurd m
meant (name ∷ words) i T [] U none m = absurd m
meant (name ∷ words) i T (hop ∷ hops) U none (V, h, m) =
    ap (λ r. hops_by i r (λ W. hops_from (suc i) W words)) (named_found T name hop V (λ r. none (at_top HasRepeats T r)) h)
    ∙ ap (before_hops hop) (meant words (suc i) V hops U (λ s. none (inside HasRepeats T name hop V h s)) m)
