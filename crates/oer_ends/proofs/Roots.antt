-- Lists of parts, and the parts of a type.
use Rattle.std.proofs.Common.{◌≡◌, ◌∙◌, Bool, true, false, List, [], ◌∷◌, map, Option, Some, None, Vec, Global, refl, sym, ap, ap₂}
use Rattle.std.specs.Prelude.{◌||◌}
use Rattle.oer_model.specs.AsnType.{Additions, Alternatives, Fields, addition, alternative, field, later, no_additions, no_alternatives, no_fields}
use Rattle.oer_model.specs.AsnType.{AsnType, choice, extensible_sequence, sequence}
use Rattle.oer_values.specs.ShapeView.{SeenAddition, SeenAlternative, SeenField, additions_from, choice_with, fields_from, later_from, root_from, root_of, seen_addition, seen_alternative, seen_field, sequence_with, type_of}
use Rattle.oer_values.specs.declared.shape.Addition.{Addition}
use Rattle.oer_values.specs.declared.shape.Alt.{Alt}
use Rattle.oer_values.specs.declared.shape.Field.{Field}
use Rattle.oer_values.specs.declared.shape.Shape.{Shape, Choice, Sequence}
use Rattle.oer_values.proofs.Shapes.{type_of-Choice, type_of-Sequence}
use Rattle.oer_ends.specs.Ends.{alternatives_have_end, are_of_end, has_end, is_end_alternative}
use Rattle.oer_ends.specs.Opened.{opened, opened_addition, opened_additions, opened_alternative, opened_alternatives, opened_field, opened_fields, IsMarker}

pub fields_open : (xs : List SeenField) → opened_fields (fields_from xs) ≡ fields_from (map opened_field xs)
fields_open [] = refl
fields_open (x ∷ xs) = ap (λ (fs : Fields). field x.name x.need (opened x.type) fs) (fields_open xs)

pub additions_open : (xs : List SeenAddition) → opened_additions (additions_from xs) ≡ additions_from (map opened_addition xs)
additions_open [] = refl
additions_open (x ∷ xs) = ap (λ (more : Additions). addition x.name (opened x.type) more) (additions_open xs)

pub later_open : (xs : List SeenAlternative) → opened_alternatives (later_from xs) ≡ later_from (map opened_alternative xs)
later_open [] = refl
later_open (x ∷ xs) = ap (λ (more : Alternatives). later x.name x.tag (opened x.type) more) (later_open xs)

pub root_open : (xs : List SeenAlternative) (after : Alternatives) → opened_alternatives (root_from xs after) ≡ root_from (map opened_alternative xs) (opened_alternatives after)
root_open [] after = refl
root_open (x ∷ xs) after = ap (λ (more : Alternatives). alternative x.name x.tag (opened x.type) more) (root_open xs after)

or_assoc : (a b c : Bool) → (a || (b || c)) ≡ ((a || b) || c)
or_assoc true b c = refl
or_assoc false b c = refl

-- the alternatives of the root and those after the marker
pub later_ends : (xs : List SeenAlternative) → alternatives_have_end (later_from xs) ≡ alternatives_have_end (root_from xs no_alternatives)
later_ends [] = refl
later_ends (x ∷ xs) = ap (λ (b : Bool). has_end x.type || b) (later_ends xs)

pub root_ends : (xs : List SeenAlternative) (after : Alternatives)
    → alternatives_have_end (root_from xs after) ≡ (alternatives_have_end (root_from xs no_alternatives) || alternatives_have_end after)
root_ends [] after = refl
root_ends (x ∷ xs) after = ap (λ (b : Bool). has_end x.type || b) (root_ends xs after)
    ∙ or_assoc (has_end x.type) (alternatives_have_end (root_from xs no_alternatives)) (alternatives_have_end after)

or_true : (a b : Bool) → a ≡ true → (a || b) ≡ true
or_true true b is = refl
or_true false b is = absurd (cc)

or_false : (a b : Bool) → a ≡ false → (a || b) ≡ b
or_false true b is = absurd (cc)
or_false false b is = refl

or_none : (a : Bool) → (a || false) ≡ a
or_none true = refl
or_none false = refl

-- an end in the root is one of the CHOICE
pub ends_in_root : (root : List Alt) (additions : Option (Vec Alt Global)) → alternatives_have_end (root_of root no_alternatives) ≡ true
    → has_end (choice_with root additions) ≡ true
ends_in_root root None is = or_true (alternatives_have_end (root_of root no_alternatives)) (are_of_end (root_of root no_alternatives)) is
ends_in_root root (Some known) is = let after = later_from (map seen_alternative known.items) in
    or_true (alternatives_have_end (root_of root after)) false
    (root_ends (map seen_alternative root) after ∙ or_true (alternatives_have_end (root_of root no_alternatives)) (alternatives_have_end after) is)

-- where the root has none, those behind the marker decide
pub ends_behind : (root : List Alt) (known : Vec Alt Global) → alternatives_have_end (root_of root no_alternatives) ≡ false
    → has_end (choice_with root (Some known)) ≡ alternatives_have_end (root_of known.items no_alternatives)
ends_behind root known none = let after = later_from (map seen_alternative known.items) in
    or_none (alternatives_have_end (root_of root after)) ∙ root_ends (map seen_alternative root) after
    ∙ or_false (alternatives_have_end (root_of root no_alternatives)) (alternatives_have_end after) none ∙ later_ends (map seen_alternative known.items)

-- what is made, level by level
pub sequence_open : (fs gs : List Field) → map seen_field gs ≡ map opened_field (map seen_field fs) → sequence_with gs None ≡ opened (sequence_with fs None)
sequence_open fs gs is = ap (λ xs. sequence (fields_from xs)) is ∙ ap sequence (sym (fields_open (map seen_field fs)))

pub extensible_open : (fs gs : List Field) (xs ys : Vec Addition Global) → map seen_field gs ≡ map opened_field (map seen_field fs)
    → map seen_addition ys.items ≡ map opened_addition (map seen_addition xs.items) → sequence_with gs (Some ys) ≡ opened (sequence_with fs (Some xs))
extensible_open fs gs xs ys is are = ap₂ (λ a b. extensible_sequence (fields_from a) (additions_from b)) is are
    ∙ ap₂ extensible_sequence (sym (fields_open (map seen_field fs))) (sym (additions_open (map seen_addition xs.items)))

pub choice_open : (xs ys : List Alt) (known others : Vec Alt Global) → map seen_alternative ys ≡ map opened_alternative (map seen_alternative xs)
    → map seen_alternative others.items ≡ map opened_alternative (map seen_alternative known.items) → choice_with ys (Some others) ≡ opened (choice_with xs (Some known))
choice_open xs ys known others is are = ap₂ (λ a b. choice true (root_from a (later_from b))) is are
    ∙ ap (λ more. choice true (root_from (map opened_alternative (map seen_alternative xs)) more)) (sym (later_open (map seen_alternative known.items)))
    ∙ ap (choice true) (sym (root_open (map seen_alternative xs) (later_from (map seen_alternative known.items))))

marked : (xs ys : List Alt) (ends : Bool) (after : Option (Vec Alt Global)) → IsMarker ends after → map seen_alternative ys ≡ map opened_alternative (map seen_alternative xs)
    → choice_with ys after ≡ choice ends (opened_alternatives (root_of xs no_alternatives))
marked xs ys true (Some known) none is = ap₂ (λ a b. choice true (root_from a (later_from (map seen_alternative b)))) is none
    ∙ ap (choice true) (sym (root_open (map seen_alternative xs) no_alternatives))
marked xs ys true None none is = absurd none
marked xs ys false (Some known) none is = absurd none
marked xs ys false None none is = ap (λ a. choice false (root_from a no_alternatives)) is ∙ ap (choice false) (sym (root_open (map seen_alternative xs) no_alternatives))

pub end_open : (xs ys : List Alt) (after : Option (Vec Alt Global)) → IsMarker (are_of_end (root_of xs no_alternatives)) after
    → map seen_alternative ys ≡ map opened_alternative (map seen_alternative xs) → choice_with ys after ≡ opened (choice_with xs None)
end_open xs ys after is are = marked xs ys (are_of_end (root_of xs no_alternatives)) after is are

-- ---- of a shape

-- what was made is what stands for the opened shape, where it is so of what the shape is made of
by_sequence : (shape : Shape) (root : Vec Field Global) (own additions : Option (Vec Addition Global)) (T : AsnType) → shape ≡ Sequence root own → own ≡ additions
    → T ≡ opened (sequence_with root.items additions) → T ≡ opened (type_of shape)
by_sequence shape root own additions T is same made = made ∙ ap (λ a. opened (sequence_with root.items a)) (sym same)
    ∙ ap opened (sym (type_of-Sequence root own)) ∙ ap (λ s. opened (type_of s)) (sym is)

by_choice : (shape : Shape) (root : Vec Alt Global) (own additions : Option (Vec Alt Global)) (T : AsnType) → shape ≡ Choice root own → own ≡ additions
    → T ≡ opened (choice_with root.items additions) → T ≡ opened (type_of shape)
by_choice shape root own additions T is same made = made ∙ ap (λ a. opened (choice_with root.items a)) (sym same)
    ∙ ap opened (sym (type_of-Choice root own)) ∙ ap (λ s. opened (type_of s)) (sym is)

pub sequence_made : (shape : Shape) (root made : Vec Field Global) (own : Option (Vec Addition Global)) → shape ≡ Sequence root own → own ≡ None
    → map seen_field made.items ≡ map opened_field (map seen_field root.items) → type_of (Sequence made None) ≡ opened (type_of shape)
sequence_made shape root made own is none are = by_sequence shape root own None (type_of (Sequence made None)) is none
    (type_of-Sequence made None ∙ sequence_open root.items made.items are)

pub extensible_made : (shape : Shape) (root made : Vec Field Global) (own : Option (Vec Addition Global)) (xs ys : Vec Addition Global)
    → shape ≡ Sequence root own → own ≡ Some xs → map seen_field made.items ≡ map opened_field (map seen_field root.items)
    → map seen_addition ys.items ≡ map opened_addition (map seen_addition xs.items) → type_of (Sequence made (Some ys)) ≡ opened (type_of shape)
extensible_made shape root made own xs ys is some are others = by_sequence shape root own (Some xs) (type_of (Sequence made (Some ys))) is some
    (type_of-Sequence made (Some ys) ∙ extensible_open root.items made.items xs ys are others)

pub end_made : (shape : Shape) (root made : Vec Alt Global) (own after : Option (Vec Alt Global)) → shape ≡ Choice root own → own ≡ None
    → IsMarker (are_of_end (root_of root.items no_alternatives)) after → map seen_alternative made.items ≡ map opened_alternative (map seen_alternative root.items)
    → type_of (Choice made after) ≡ opened (type_of shape)
end_made shape root made own after is none marks are = by_choice shape root own None (type_of (Choice made after)) is none
    (type_of-Choice made after ∙ end_open root.items made.items after marks are)

pub choice_made : (shape : Shape) (root made : Vec Alt Global) (own : Option (Vec Alt Global)) (known others : Vec Alt Global) → shape ≡ Choice root own → own ≡ Some known
    → map seen_alternative made.items ≡ map opened_alternative (map seen_alternative root.items)
    → map seen_alternative others.items ≡ map opened_alternative (map seen_alternative known.items) → type_of (Choice made (Some others)) ≡ opened (type_of shape)
choice_made shape root made own known others is some are behind = by_choice shape root own (Some known) (type_of (Choice made (Some others))) is some
    (type_of-Choice made (Some others) ∙ choice_open root.items made.items known others are behind)
