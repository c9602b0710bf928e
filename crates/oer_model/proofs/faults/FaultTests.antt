-- The tests say which faults hold.
use Rattle.std.proofs.Common.{◌≡◌, ℕ, zero, suc, List, [], ◌∷◌, Bool, true, false, not, ◌&&◌, ◌||◌, eqb, ℤ, pos, negsuc, ◌<ℤ◌, ◌≤ℤ◌, int_lt, int_le, T, Option, Some, None, refl, sym, ap, ap₂, ◌∙◌, subst, arith}
use Rattle.std.specs.Prelude.{IsSomeAnd}
use Rattle.std.specs.Bool.{Decides}
use Rattle.std.specs.Str.{bytes_eq}
use Rattle.std.proofs.lemmas.Bool.Decides.{Decides-or, Decides-not, Decides-ltb, Decides-like}
use Rattle.std.proofs.lemmas.Slice.Eq.{bytes_eq-Decides}
use Rattle.std.specs.Int.Signed.{lt_z_yes, le_z_yes}
use Rattle.std.proofs.lemmas.Int.{ints}
use Rattle.std.proofs.lemmas.Bool.{le-leb, eqb-true, eq-eqb}
use Rattle.oer_units.specs.Spelling.{class_number}
use Rattle.oer_units.specs.declared.tagging.Class.{Class}
use Rattle.oer_units.specs.declared.tagging.Class.TheVariants.{Universal, Application, Context, Private}
use Rattle.oer_units.specs.declared.tagging.Tag.{Tag}
use Rattle.oer_model.specs.LeafType.{string_size}
use Rattle.oer_model.specs.AsnType.{Additions, Alternatives, AsnType, Fields, NamedNumber, Need, addition, alternative, choice, default, enumerated, extensible_sequence, field, integer, later, leaf, may, must, no_additions, no_alternatives, no_fields, sequence, sequence_of}
use Rattle.oer_model.specs.Constraints.{has_number, has_tag, may_be_empty, same_tag}
use Rattle.oer_model.specs.FitTest.{is_fit}
use Rattle.oer_model.specs.FaultTest.{any_bad_name, any_misfit, contains_name, has_crossed_bounds, has_crossed_size, has_crossed_string_size, has_empty_element, has_fault, has_misfit, has_no_items, has_repeated_number, has_repeated_tag, in_additions, in_alternatives, in_fields, is_below, is_misfit, names_repeat, numbers_repeat, somewhere, tags_repeat}
use Rattle.oer_model.specs.Nodes.{type_nodes}
use Rattle.oer_model.specs.WellFormed.{AnyMisfit, AnyOf, HasCrossedBounds, HasCrossedSize, HasEmptyElement, HasFault, HasMisfit, HasNoItems, HasRepeatedNumber, HasRepeatedTag, IsCrossed, InAdditions, InAlternatives, InFields, IsBelow, IsMisfit, Repeats, Somewhere, alternative_tags, depth, is_identifier, item_numbers, names}
use Rattle.oer_model.specs.declared.size.Size.{Size}
use Rattle.oer_model.specs.declared.fault.SchemaFault.{SchemaFault}
use Rattle.oer_model.specs.declared.fault.SchemaFault.TheVariants.{TooDeep, TooManyParts, BoundOrder, SizeOrder, BadName, RepeatedName, NoItems, RepeatedNumber, RepeatedTag, DefaultMisfit, EmptyElement}
use Rattle.oer_model.proofs.fitting.FitTests.{fit_sound, fit_complete}
use Rattle.oer_model.proofs.fitting.Tests.{and_true, both}

never : Decides false ⊥
never = (λ e. cc, λ h. absurd h)

always : Decides true (Unit {0})
always = (λ e. tt, λ h. refl)

module _ (q : AsnType → Bool) (Q : AsnType → Type 0) (each : (T : AsnType) → Decides (q T) (Q T)) where
  mutual
    pub somewhere_decides : (T : AsnType) → Decides (somewhere q T) (Somewhere Q T)
    somewhere_decides (sequence fs) = Decides-or (q (sequence fs)) (in_fields q fs) (each (sequence fs)) (fields_decide fs)
    somewhere_decides (extensible_sequence fs more) =
        Decides-or (q (extensible_sequence fs more)) (in_fields q fs || in_additions q more) (each (extensible_sequence fs more)) (Decides-or (in_fields q fs) (in_additions q more) (fields_decide fs) (additions_decide more))
    somewhere_decides (sequence_of s T) = Decides-or (q (sequence_of s T)) (somewhere q T) (each (sequence_of s T)) (somewhere_decides T)
    somewhere_decides (choice e more) = Decides-or (q (choice e more)) (in_alternatives q more) (each (choice e more)) (alternatives_decide more)
    somewhere_decides T = each T

    fields_decide : (fs : Fields) → Decides (in_fields q fs) (InFields Q fs)
    fields_decide no_fields = never
    fields_decide (field name need T fs) = Decides-or (somewhere q T) (in_fields q fs) (somewhere_decides T) (fields_decide fs)

    additions_decide : (more : Additions) → Decides (in_additions q more) (InAdditions Q more)
    additions_decide no_additions = never
    additions_decide (addition name T more) = Decides-or (somewhere q T) (in_additions q more) (somewhere_decides T) (additions_decide more)

    alternatives_decide : (more : Alternatives) → Decides (in_alternatives q more) (InAlternatives Q more)
    alternatives_decide no_alternatives = never
    alternatives_decide (alternative name t T more) = Decides-or (somewhere q T) (in_alternatives q more) (somewhere_decides T) (alternatives_decide more)
    alternatives_decide (later name t T more) = Decides-or (somewhere q T) (in_alternatives q more) (somewhere_decides T) (alternatives_decide more)

is_true : (b : Bool) → T b → b ≡ true
is_true true h = refl
is_true false h = absurd h

less_decides : (x y : ℤ) → Decides (int_lt x y) (x <ℤ y)
less_decides x y = (λ e. lt_z_yes (subst T (sym e) tt), λ h. is_true (int_lt x y) h.lt)

bounds_decide : (T : AsnType) → Decides (has_crossed_bounds T) (HasCrossedBounds T)
bounds_decide (integer (Some low) (Some high)) = less_decides high low
bounds_decide (integer (Some low) None) = never
bounds_decide (integer None high) = never
bounds_decide T = never

below_decides : (high : Option ℕ) (n : ℕ) → Decides (is_below high n) (IsBelow high n)
below_decides None n = never
below_decides (Some h) n = Decides-ltb h n

string_size_decides : (size : Option Size) → Decides (has_crossed_string_size size) (IsSomeAnd size IsCrossed)
string_size_decides None = never
string_size_decides (Some s) = below_decides s.high s.low

size_decides : (T : AsnType) → Decides (has_crossed_size T) (HasCrossedSize T)
size_decides (leaf kind) = string_size_decides (string_size kind)
size_decides (sequence_of s T) = below_decides s.high s.low
size_decides T = never

not_identifier : (b : Bool) → Decides (not b) (b ≡ false)
not_identifier true = (λ e. cc, λ e. cc)
not_identifier false = (λ e. refl, λ e. refl)

bad_names_decide : (xs : List (List ℕ)) → Decides (any_bad_name xs) (AnyOf (λ name. is_identifier name ≡ false) xs)
bad_names_decide [] = never
bad_names_decide (x ∷ xs) = Decides-or (not (is_identifier x)) (any_bad_name xs) (not_identifier (is_identifier x)) (bad_names_decide xs)

contains_decides : (n : List ℕ) (xs : List (List ℕ)) → Decides (contains_name n xs) (AnyOf (λ y. n ≡ y) xs)
contains_decides n [] = never
contains_decides n (x ∷ xs) =
    Decides-or (bytes_eq x n) (contains_name n xs) (Decides-like {P = x ≡ n} {Q = n ≡ x} (bytes_eq x n) (λ e. sym e) (λ e. sym e) (bytes_eq-Decides x n)) (contains_decides n xs)

names_decide : (xs : List (List ℕ)) → Decides (names_repeat xs) (Repeats xs)
names_decide [] = never
names_decide (x ∷ xs) = Decides-or (contains_name x xs) (names_repeat xs) (contains_decides x xs) (names_decide xs)

int_le-refl : (x : ℤ) → int_le x x ≡ true
int_le-refl (pos n) = le-leb n n (omega arith)
int_le-refl (negsuc n) = le-leb n n (omega arith)

same_number : (x z : ℤ) → Decides (int_le x z && int_le z x) (z ≡ x)
same_number x z = (
  λ e. let k = both (int_le x z) (int_le z x) e in order x z (le_z_yes (subst T (sym k.0) tt)) (le_z_yes (subst T (sym k.1) tt)),
  λ e. subst (λ y. (int_le x y && int_le y x) ≡ true) (sym e) (and_true (int_le x x) (int_le x x) (int_le-refl x) (int_le-refl x)),
)
  where
    order : (x z : ℤ) → x ≤ℤ z → z ≤ℤ x → z ≡ x
    order (pos a) (pos b) h k = ap pos (omega (arith, ints))
    order (pos a) (negsuc b) h k = absurd (omega (arith, ints))
    order (negsuc a) (pos b) h k = absurd (omega (arith, ints))
    order (negsuc a) (negsuc b) h k = ap negsuc (omega (arith, ints))

number_decides : (z : ℤ) (xs : List NamedNumber) → Decides (has_number xs z) (AnyOf (λ y. z ≡ y) (item_numbers xs))
number_decides z [] = never
number_decides z (x ∷ xs) = Decides-or (int_le x.number z && int_le z x.number) (has_number xs z) (same_number x.number z) (number_decides z xs)

numbers_decide : (xs : List NamedNumber) → Decides (numbers_repeat xs) (Repeats (item_numbers xs))
numbers_decide [] = never
numbers_decide (x ∷ xs) = Decides-or (has_number xs x.number) (numbers_repeat xs) (number_decides x.number xs) (numbers_decide xs)

class_from : ℕ → Class
class_from (suc zero) = Application
class_from (suc (suc zero)) = Context
class_from (suc (suc (suc n))) = Private
class_from zero = Universal

class_back : (c : Class) → class_from (class_number c) ≡ c
unfolding class_from
class_back Universal = refl
class_back Application = refl
class_back Context = refl
class_back Private = refl

same_class : (c d : Class) → class_number c ≡ class_number d → c ≡ d
same_class c d e = sym (class_back c) ∙ ap class_from e ∙ class_back d

tag_decides : (u t : Tag) → Decides (same_tag u t) (t ≡ u)
tag_decides u t = (
  λ e. let k = both (eqb (class_number u.class) (class_number t.class)) (eqb u.number t.number) e in
      let c = same_class t.class u.class (sym (eqb-true (class_number u.class) (class_number t.class) k.0)) in
      let n = sym (eqb-true u.number t.number k.1) in
      ap₂ (λ (c : Class) (n : ℕ). the_tag c n) c n,
  λ e. and_true (eqb (class_number u.class) (class_number t.class)) (eqb u.number t.number) (eq-eqb (class_number u.class) (class_number t.class) (ap (λ t. class_number t.class) (sym e))) (eq-eqb u.number t.number (ap (λ t. t.number) (sym e))),
)
  where
    the_tag : Class → ℕ → Tag
    the_tag c n = record { class = c; number = n }

has_tag_decides : (t : Tag) (more : Alternatives) → Decides (has_tag t more) (AnyOf (λ y. t ≡ y) (alternative_tags more))
has_tag_decides t no_alternatives = never
has_tag_decides t (alternative name u T more) = Decides-or (same_tag u t) (has_tag t more) (tag_decides u t) (has_tag_decides t more)
has_tag_decides t (later name u T more) = Decides-or (same_tag u t) (has_tag t more) (tag_decides u t) (has_tag_decides t more)

tags_decide : (more : Alternatives) → Decides (tags_repeat more) (Repeats (alternative_tags more))
tags_decide no_alternatives = never
tags_decide (alternative name t T more) = Decides-or (has_tag t more) (tags_repeat more) (has_tag_decides t more) (tags_decide more)
tags_decide (later name t T more) = Decides-or (has_tag t more) (tags_repeat more) (has_tag_decides t more) (tags_decide more)

items_decide : (T : AsnType) → Decides (has_no_items T) (HasNoItems T)
items_decide (enumerated [] e) = always
items_decide (enumerated (x ∷ xs) e) = never
items_decide (choice e no_alternatives) = always
items_decide (choice e (later name t T more)) = always
items_decide (choice e (alternative name t T more)) = never
items_decide T = never

repeated_number_decides : (T : AsnType) → Decides (has_repeated_number T) (HasRepeatedNumber T)
repeated_number_decides (enumerated xs e) = numbers_decide xs
repeated_number_decides T = never

repeated_tag_decides : (T : AsnType) → Decides (has_repeated_tag T) (HasRepeatedTag T)
repeated_tag_decides (choice e more) = tags_decide more
repeated_tag_decides T = never

misfit_decides : (T : AsnType) (need : Need) → Decides (is_misfit T need) (IsMisfit T need)
misfit_decides T must = never
misfit_decides T may = never
misfit_decides T (default d) = Decides-not (is_fit T d) (fit_sound T d, fit_complete T d)

misfits_decide : (fs : Fields) → Decides (any_misfit fs) (AnyMisfit fs)
misfits_decide no_fields = never
misfits_decide (field name need T fs) = Decides-or (is_misfit T need) (any_misfit fs) (misfit_decides T need) (misfits_decide fs)

has_misfit_decides : (T : AsnType) → Decides (has_misfit T) (HasMisfit T)
has_misfit_decides (sequence fs) = misfits_decide fs
has_misfit_decides (extensible_sequence fs more) = misfits_decide fs
has_misfit_decides T = never

itself : (b : Bool) → Decides b (b ≡ true)
itself b = (λ e. e, λ e. e)

empty_decides : (T : AsnType) → Decides (has_empty_element T) (HasEmptyElement T)
empty_decides (sequence_of s T) = itself (may_be_empty T)
empty_decides T = never

pub fault_decides : (T : AsnType) (fault : SchemaFault) → Decides (has_fault fault T) (HasFault T fault)
fault_decides T TooDeep = Decides-ltb 32 (depth T)
fault_decides T TooManyParts = Decides-ltb 4096 (type_nodes T)
fault_decides T BoundOrder = somewhere_decides has_crossed_bounds HasCrossedBounds bounds_decide T
fault_decides T SizeOrder = somewhere_decides has_crossed_size HasCrossedSize size_decides T
fault_decides T BadName = somewhere_decides (λ U. any_bad_name (names U)) (λ U. AnyOf (λ name. is_identifier name ≡ false) (names U)) (λ U. bad_names_decide (names U)) T
fault_decides T RepeatedName = somewhere_decides (λ U. names_repeat (names U)) (λ U. Repeats (names U)) (λ U. names_decide (names U)) T
fault_decides T NoItems = somewhere_decides has_no_items HasNoItems items_decide T
fault_decides T RepeatedNumber = somewhere_decides has_repeated_number HasRepeatedNumber repeated_number_decides T
fault_decides T RepeatedTag = somewhere_decides has_repeated_tag HasRepeatedTag repeated_tag_decides T
fault_decides T DefaultMisfit = somewhere_decides has_misfit HasMisfit has_misfit_decides T
fault_decides T EmptyElement = somewhere_decides has_empty_element HasEmptyElement empty_decides T
