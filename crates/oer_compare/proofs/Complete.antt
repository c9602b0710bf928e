-- No difference is found exactly where the second type only adds to the first.
use Rattle.std.proofs.Common.{◌≡◌, ℕ, suc, List, [], ◌∷◌, ◌++◌, Bool, true, false, ◌&&◌, if◌then◌else◌, Option, Some, None, refl, sym, ap, ap₂, subst, ◌∙◌}
use Rattle.std.proofs.lemmas.Bool.{false≢true}
use Rattle.oer_units.specs.declared.tagging.Tag.{Tag}
use Rattle.oer_model.proofs.filling.Same.{same_list-refl, same_list-true, same_tag-refl, same_tag-true}
use Rattle.oer_model.specs.ContentType.{Alphabet, ContentType, object_id, octet_string, restricted_string, utf8_string}
use Rattle.oer_model.specs.LeafType.{LeafType, NamedNumber, bit_string, boolean, content, enumerated, integer, null}
use Rattle.oer_model.specs.AsnType.{Additions, Alternatives, AsnType, Fields, Need, addition, alternative, choice, extensible_sequence, field, later, leaf, no_additions, no_alternatives, no_fields, sequence, sequence_of}
use Rattle.oer_model.specs.Canonical.{same_bool, same_list}
use Rattle.oer_model.specs.Constraints.{same_tag}
use Rattle.oer_model.specs.declared.size.Size as sizes
use Rattle.oer_compare.specs.declared.difference.Aspect.{Aspect}
use Rattle.oer_compare.specs.declared.difference.Aspect.TheVariants.{Bounds, Items, Kind, Marker, Name, Presence, Size, Tagging}
use Rattle.oer_compare.specs.Difference.{Difference, Part, at_addition, at_alternative, at_component, at_element, additions_differ, after_alternatives, alternative_differs, alternatives_differ, component_differs, differ, fields_differ, here, inside, items_extend, leaf_aspect, content_aspect, named_differs, or_else, same_alphabet, same_bound, same_item, same_need, same_size, unless}
use Rattle.oer_compare.specs.Extends.{AdditionsExtend, AlternativesExtend, AreFurther, Extends, ExtendsLeaf, FieldsExtend}
use Rattle.oer_compare.specs.Laws.{NoDifferenceExtends}
use Rattle.oer_compare.proofs.Sames.{and_both, and_parts, same_alphabet-refl, same_alphabet-true, same_bool-refl, same_bool-true, same_bound-refl, same_bound-true, same_item-refl, same_item-true, same_need-refl, same_need-true, same_size-refl, same_size-true}

pub some_none : {A : Type 0} (x : A) → Some x ≡ None → ⊥
some_none x e = absurd (cc)

pub or_none : {A : Type 0} (a b : Option A) → or_else a b ≡ None → (a ≡ None) × (b ≡ None)
or_none None b e = (refl, e)
or_none (Some x) b e = absurd (some_none x e)

none_or : {A : Type 0} (a b : Option A) → a ≡ None → b ≡ None → or_else a b ≡ None
none_or a b p q = ap (λ x. or_else x b) p ∙ q

pub here_none : (a : Option Aspect) → here a ≡ None → a ≡ None
here_none None e = refl
here_none (Some x) e = absurd (some_none _ e)

pub inside_none : (part : Part) (d : Option Difference) → inside part d ≡ None → d ≡ None
inside_none part None e = refl
inside_none part (Some x) e = absurd (some_none _ e)

pub unless_none : (b : Bool) (a : Aspect) → unless b a ≡ None → b ≡ true
unless_none true a e = refl
unless_none false a e = absurd (some_none a e)

-- what is told by a test and then by d
pub then_none : (b : Bool) (d : Option Difference) (a : Aspect) → (if b then d else here (Some a)) ≡ None → (b ≡ true) × (d ≡ None)
then_none true d a e = (refl, e)
then_none false d a e = absurd (some_none _ e)

none_then : (b : Bool) (d : Option Difference) (a : Aspect) → b ≡ true → d ≡ None → (if b then d else here (Some a)) ≡ None
none_then true d a p q = q
none_then false d a p q = absurd (false≢true p)

-- ---- leaves

items_to : (marker : Bool) (xs ys : List NamedNumber) → items_extend marker xs ys ≡ true → (further : List NamedNumber) × (ys ≡ xs ++ further)
items_to marker [] ys e = (ys, refl)
items_to marker (x ∷ xs) [] e = absurd (false≢true e)
items_to marker (x ∷ xs) (y ∷ ys) e =
    let p = and_parts (same_item x y) (items_extend marker xs ys) e in
    let o = items_to marker xs ys p.1 in
    (o.0, ap₂ (λ i is. i ∷ is) (sym (same_item-true x y p.0)) o.1)

items_closed : (xs ys : List NamedNumber) → items_extend false xs ys ≡ true → ys ≡ xs
items_closed [] [] e = refl
items_closed [] (y ∷ ys) e = absurd (false≢true e)
items_closed (x ∷ xs) [] e = absurd (false≢true e)
items_closed (x ∷ xs) (y ∷ ys) e =
    let p = and_parts (same_item x y) (items_extend false xs ys) e in
    ap₂ (λ i is. i ∷ is) (sym (same_item-true x y p.0)) (items_closed xs ys p.1)

items_from : (xs further : List NamedNumber) → items_extend true xs (xs ++ further) ≡ true
items_from [] [] = refl
items_from [] (y ∷ ys) = refl
items_from (x ∷ xs) further = and_both (same_item x x) (items_extend true xs (xs ++ further)) (same_item-refl x) (items_from xs further)

items_same : (xs : List NamedNumber) → items_extend false xs xs ≡ true
items_same [] = refl
items_same (x ∷ xs) = and_both (same_item x x) (items_extend false xs xs) (same_item-refl x) (items_same xs)

pub sized : (s t : sizes.Size) → unless (same_size s t) Size ≡ None → t ≡ s
sized s t e = sym (same_size-true s t (unless_none (same_size s t) Size e))

strings_to : (a b : Alphabet) (s t : sizes.Size) (same : Bool) → same_alphabet a b ≡ same
    → (if same then unless (same_size s t) Size else Some Kind) ≡ None → restricted_string b t ≡ restricted_string a s
strings_to a b s t true is e = ap₂ restricted_string (sym (same_alphabet-true a b is)) (sized s t e)
strings_to a b s t false is e = absurd (some_none _ e)

content_to : (k l : ContentType) → content_aspect k l ≡ None → l ≡ k
content_to (octet_string s) (octet_string t) e = ap octet_string (sized s t e)
content_to object_id object_id e = refl
content_to (restricted_string a s) (restricted_string b t) e = strings_to a b s t (same_alphabet a b) refl e
content_to (utf8_string s) (utf8_string t) e = ap utf8_string (sized s t e)
content_to k l e = absurd (some_none _ e)

sized_refl : (s : sizes.Size) → unless (same_size s s) Size ≡ None
sized_refl s = ap (λ b. unless b Size) (same_size-refl s)

content_from : (k : ContentType) → content_aspect k k ≡ None
content_from (octet_string s) = sized_refl s
content_from object_id = refl
content_from (restricted_string a s) =
    ap (λ b. if b then unless (same_size s s) Size else Some Kind) (same_alphabet-refl a) ∙ sized_refl s
content_from (utf8_string s) = sized_refl s

pub leaf_to : (k l : LeafType) → leaf_aspect k l ≡ None → ExtendsLeaf k l
leaf_to boolean boolean e = refl
leaf_to null null e = refl
leaf_to (integer low high) (integer l h) e =
    let p = and_parts (same_bound low l) (same_bound high h) (unless_none (same_bound low l && same_bound high h) Bounds e) in
    ap₂ integer (sym (same_bound-true low l p.0)) (sym (same_bound-true high h p.1))
leaf_to (enumerated xs true) (enumerated ys true) e =
    let o = items_to true xs ys (unless_none (items_extend true xs ys) Items e) in
    (o.0, ap (λ is. enumerated is true) o.1)
leaf_to (enumerated xs false) (enumerated ys false) e =
    ap (λ is. enumerated is false) (items_closed xs ys (unless_none (items_extend false xs ys) Items e))
leaf_to (bit_string s) (bit_string t) e = ap bit_string (sized s t e)
leaf_to (content k) (content l) e = ap content (content_to k l e)
leaf_to k l e = absurd (some_none _ e)

leaf_from : (k l : LeafType) → ExtendsLeaf k l → leaf_aspect k l ≡ None
leaf_from boolean l e = ap (leaf_aspect boolean) e
leaf_from null l e = ap (leaf_aspect null) e
leaf_from (integer low high) l e =
    ap (leaf_aspect (integer low high)) e ∙ ap (λ b. unless b Bounds) (and_both (same_bound low low) (same_bound high high) (same_bound-refl low) (same_bound-refl high))
leaf_from (enumerated xs true) l (further, e) =
    ap (leaf_aspect (enumerated xs true)) e ∙ ap (λ b. unless b Items) (items_from xs further)
leaf_from (enumerated xs false) l e = ap (leaf_aspect (enumerated xs false)) e ∙ ap (λ b. unless b Items) (items_same xs)
leaf_from (bit_string s) l e = ap (leaf_aspect (bit_string s)) e ∙ sized_refl s
leaf_from (content k) l e = ap (leaf_aspect (content k)) e ∙ content_from k

-- ---- parts

further_to : (marker : Bool) (others : Alternatives) → after_alternatives marker others ≡ None → AreFurther marker others
further_to true no_alternatives e = tt
further_to false no_alternatives e = refl
further_to true (later n u X others) e = further_to true others e
further_to marker others e = absurd (some_none _ e)

further_from : (marker : Bool) (others : Alternatives) → AreFurther marker others → after_alternatives marker others ≡ None
further_from true no_alternatives f = refl
further_from true (alternative n u X others) f = absurd f
further_from true (later n u X others) f = further_from true others f
further_from false others f = ap (after_alternatives false) f

pub alternative_to : (name n : List ℕ) (t u : Tag) (d : Option Difference) → alternative_differs name n t u d ≡ None
    → (n ≡ name) × (u ≡ t) × (d ≡ None)
alternative_to name n t u d e =
    let named = then_none (same_list name n) _ Name e in
    let tagged = then_none (same_tag t u) d Tagging named.1 in
    (sym (same_list-true name n named.0), sym (same_tag-true t u tagged.0), tagged.1)

mutual
  pub to_extends : (T U : AsnType) → differ T U ≡ None → Extends T U
  to_extends (leaf k) (leaf l) e = (l, refl, leaf_to k l (here_none (leaf_aspect k l) e))
  to_extends (sequence fs) (sequence gs) e = (gs, refl, fields_to 0 fs gs (or_none (fields_differ 0 fs gs) None e).0)
  to_extends (extensible_sequence fs more) (extensible_sequence gs others) e =
      let p = or_none (fields_differ 0 fs gs) (additions_differ 0 more others) e in
      (gs, others, refl, fields_to 0 fs gs p.0, additions_to 0 more others p.1)
  to_extends (sequence_of s T) (sequence_of t X) e =
      let p = or_none (here (unless (same_size s t) Size)) (inside at_element (differ T X)) e in
      (X, ap (λ size. sequence_of size X) (sized s t (here_none (unless (same_size s t) Size) p.0)), to_extends T X (inside_none at_element (differ T X) p.1))
  to_extends (choice marker more) (choice other others) e =
      let p = or_none (here (unless (same_bool marker other) Marker)) (alternatives_differ more other others) e in
      let is = same_bool-true marker other (unless_none (same_bool marker other) Marker (here_none (unless (same_bool marker other) Marker) p.0)) in
      (others, ap (λ m. choice m others) (sym is), alternatives_to marker more others (subst (λ m. alternatives_differ more m others ≡ None) (sym is) p.1))
  to_extends T U e = absurd (some_none _ e)

  fields_to : (i : ℕ) (fs gs : Fields) → fields_differ i fs gs ≡ None → FieldsExtend fs gs
  fields_to i no_fields no_fields e = refl
  fields_to i (field name need T fs) (field n m X gs) e =
      let p = or_none (inside (at_component i name) (component_differs name n need m (differ T X))) (fields_differ (suc i) fs gs) e in
      let named = then_none (same_list name n) _ Name (inside_none (at_component i name) _ p.0) in
      let q = or_none (differ T X) (here (unless (same_need need m) Presence)) named.1 in
      let needs = same_need-true need m (unless_none (same_need need m) Presence (here_none _ q.1)) in
      (X, gs, ap₂ (λ a b. field a b X gs) (sym (same_list-true name n named.0)) (sym needs), to_extends T X q.0, fields_to (suc i) fs gs p.1)
  fields_to i fs gs e = absurd (some_none _ e)

  additions_to : (i : ℕ) (more others : Additions) → additions_differ i more others ≡ None → AdditionsExtend more others
  additions_to i no_additions others e = tt
  additions_to i (addition name T more) (addition n X others) e =
      let p = or_none (inside (at_addition i name) (named_differs name n (differ T X))) (additions_differ (suc i) more others) e in
      let named = then_none (same_list name n) _ Name (inside_none (at_addition i name) _ p.0) in
      (X, others, ap (λ a. addition a X others) (sym (same_list-true name n named.0)), to_extends T X named.1, additions_to (suc i) more others p.1)
  additions_to i more others e = absurd (some_none _ e)

  alternatives_to : (marker : Bool) (more others : Alternatives) → alternatives_differ more marker others ≡ None → AlternativesExtend marker more others
  alternatives_to marker no_alternatives others e = further_to marker others e
  alternatives_to marker (alternative name t T more) (alternative n u X others) e =
      let p = or_none (inside (at_alternative name) (alternative_differs name n t u (differ T X))) (alternatives_differ more marker others) e in
      let q = alternative_to name n t u (differ T X) (inside_none (at_alternative name) _ p.0) in
      (X, others, ap₂ (λ a b. alternative a b X others) q.0 q.1, to_extends T X q.2, alternatives_to marker more others p.1)
  alternatives_to marker (later name t T more) (later n u X others) e =
      let p = or_none (inside (at_alternative name) (alternative_differs name n t u (differ T X))) (alternatives_differ more marker others) e in
      let q = alternative_to name n t u (differ T X) (inside_none (at_alternative name) _ p.0) in
      (X, others, ap₂ (λ a b. later a b X others) q.0 q.1, to_extends T X q.2, alternatives_to marker more others p.1)
  alternatives_to marker more others e = absurd (some_none _ e)

none_inside : (part : Part) (d : Option Difference) → d ≡ None → inside part d ≡ None
none_inside part d e = ap (inside part) e

named_from : (name : List ℕ) (d : Option Difference) → d ≡ None → named_differs name name d ≡ None
named_from name d e = none_then (same_list name name) d Name (same_list-refl name) e

component_from : (name : List ℕ) (need : Need) (d : Option Difference) → d ≡ None → component_differs name name need need d ≡ None
component_from name need d e =
    named_from name _ (none_or d (here (unless (same_need need need) Presence)) e (ap (λ b. here (unless b Presence)) (same_need-refl need)))

alternative_from : (name : List ℕ) (t : Tag) (d : Option Difference) → d ≡ None → alternative_differs name name t t d ≡ None
alternative_from name t d e = named_from name _ (none_then (same_tag t t) d Tagging (same_tag-refl t) e)

mutual
  pub from_extends : (T U : AsnType) → Extends T U → differ T U ≡ None
  from_extends (leaf k) U (l, is, x) = ap (differ (leaf k)) is ∙ ap here (leaf_from k l x)
  from_extends (sequence fs) U (gs, is, x) = ap (differ (sequence fs)) is ∙ none_or (fields_differ 0 fs gs) None (fields_from 0 fs gs x) refl
  from_extends (extensible_sequence fs more) U (gs, others, is, x, y) =
      ap (differ (extensible_sequence fs more)) is ∙ none_or (fields_differ 0 fs gs) (additions_differ 0 more others) (fields_from 0 fs gs x) (additions_from 0 more others y)
  from_extends (sequence_of s T) U (X, is, x) =
      ap (differ (sequence_of s T)) is ∙ none_or (here (unless (same_size s s) Size)) (inside at_element (differ T X)) (ap here (sized_refl s)) (none_inside at_element (differ T X)
      (from_extends T X x))
  from_extends (choice marker more) U (others, is, x) =
      ap (differ (choice marker more)) is ∙ none_or (here (unless (same_bool marker marker) Marker)) (alternatives_differ more marker others) (ap (λ b. here (unless b Marker))
      (same_bool-refl marker)) (alternatives_from marker more others x)

  fields_from : (i : ℕ) (fs gs : Fields) → FieldsExtend fs gs → fields_differ i fs gs ≡ None
  fields_from i no_fields gs is = ap (fields_differ i no_fields) is
  fields_from i (field name need T fs) gs (X, rest, is, x, y) =
      ap (fields_differ i (field name need T fs)) is ∙ none_or (inside (at_component i name) (component_differs name name need need (differ T X))) (fields_differ (suc i) fs rest)
      (none_inside (at_component i name) _ (component_from name need (differ T X) (from_extends T X x))) (fields_from (suc i) fs rest y)

  additions_from : (i : ℕ) (more others : Additions) → AdditionsExtend more others → additions_differ i more others ≡ None
  additions_from i no_additions others x = refl
  additions_from i (addition name T more) others (X, rest, is, x, y) =
      ap (additions_differ i (addition name T more)) is ∙ none_or (inside (at_addition i name) (named_differs name name (differ T X))) (additions_differ (suc i) more rest) (none_inside
      (at_addition i name) _ (named_from name (differ T X) (from_extends T X x))) (additions_from (suc i) more rest y)

  alternatives_from : (marker : Bool) (more others : Alternatives) → AlternativesExtend marker more others → alternatives_differ more marker others ≡ None
  alternatives_from marker no_alternatives others x = further_from marker others x
  alternatives_from marker (alternative name t T more) others (X, rest, is, x, y) =
      ap (alternatives_differ (alternative name t T more) marker) is ∙ none_or (inside (at_alternative name) (alternative_differs name name t t (differ T X)))
      (alternatives_differ more marker rest) (none_inside (at_alternative name) _ (alternative_from name t (differ T X) (from_extends T X x))) (alternatives_from marker more rest y)
  alternatives_from marker (later name t T more) others (X, rest, is, x, y) =
      ap (alternatives_differ (later name t T more) marker) is ∙ none_or (inside (at_alternative name) (alternative_differs name name t t (differ T X)))
      (alternatives_differ more marker rest) (none_inside (at_alternative name) _ (alternative_from name t (differ T X) (from_extends T X x))) (alternatives_from marker more rest y)

pub complete : NoDifferenceExtends
complete T U = (to_extends T U, from_extends T U)
