-- Types of which no part has a fault.
use Rattle.std.proofs.Common.{◌≡◌, List, [], ◌∷◌, ◌++◌, Bool, true, false, ◌||◌, IfOk, Result, Ok, Err, refl, subst, true≢false}
use Rattle.oer_lexer.specs.declared.leaf.LeafWord.{LeafWord}
use Rattle.oer_lexer.specs.LeafWords.{words_of}
use Rattle.oer_model.specs.AsnType.{AsnType, Alternatives, leaf, no_alternatives}
use Rattle.oer_model.specs.FaultTest.{in_additions, in_alternatives, in_fields}
use Rattle.oer_values.specs.ShapeView.{SeenAddition, SeenAlternative, SeenField, additions_from, fields_from, later_from, root_from}
use Rattle.oer_types.specs.AnyFault.{any_fault, any_fault_here, inside}
use Rattle.oer_model.specs.WellFormed.{IsWellFormed}
use Rattle.oer_types.proofs.AnyFault.{here_or_inside, sound}
use Rattle.oer_model.specs.LeafType.{LeafType}
use Rattle.oer_values.specs.ShapeView.{type_of}
use Rattle.oer_values.specs.declared.shape.Shape.{Shape}
use Rattle.oer_value_notation.specs.Numbers.{bounds_at, bracketed_size_at}
use Rattle.oer_value_notation.specs.State.{IsReading, State, Read}
use Rattle.oer_value_notation.specs.declared.fault.TextFault.{TextFault}
use Rattle.oer_notation.proofs.Took.{bind_ok, same_ok}
use Rattle.oer_notation.specs.Reading.{Choices, Components, choice_of_choices, items_at, leaf_at, leaf_type_at, sequence_of_components, skip_second, with_alternative}
use Rattle.oer_value_notation.specs.Leaves.{LeafForm, bounded, leaf_form, listed, plain, sized}
use Rattle.oer_notation.specs.Soundness.{Tells, TellsMore, choices_have_fault, components_have_fault}

left : (a b : Bool) → (a || b) ≡ false → a ≡ false
left true b e = e
left false b e = refl

right : (a b : Bool) → (a || b) ≡ false → b ≡ false
right true b e = absurd (true≢false e)
right false b e = e

neither : (a b : Bool) → a ≡ false → b ≡ false → (a || b) ≡ false
neither true b d e = d
neither false b d e = e

-- of parts in a row, the last one among them
fields_and : (fs : List SeenField) (f : SeenField) → in_fields any_fault_here (fields_from fs) ≡ false → any_fault f.type ≡ false → in_fields any_fault_here (fields_from (fs ++ f ∷ [])) ≡ false
fields_and [] f d e = neither (any_fault f.type) false e refl
fields_and (g ∷ fs) f d e =
    let rest = in_fields any_fault_here (fields_from fs) in
    neither (any_fault g.type) (in_fields any_fault_here (fields_from (fs ++ f ∷ []))) (left (any_fault g.type) rest d) (fields_and fs f (right (any_fault g.type) rest d) e)

additions_and : (xs : List SeenAddition) (a : SeenAddition) → in_additions any_fault_here (additions_from xs) ≡ false → any_fault a.type ≡ false → in_additions any_fault_here (additions_from (xs ++ a ∷ [])) ≡ false
additions_and [] a d e = neither (any_fault a.type) false e refl
additions_and (x ∷ xs) a d e =
    let rest = in_additions any_fault_here (additions_from xs) in
    neither (any_fault x.type) (in_additions any_fault_here (additions_from (xs ++ a ∷ []))) (left (any_fault x.type) rest d) (additions_and xs a (right (any_fault x.type) rest d) e)

later_and : (xs : List SeenAlternative) (a : SeenAlternative) → in_alternatives any_fault_here (later_from xs) ≡ false → any_fault a.type ≡ false → in_alternatives any_fault_here (later_from (xs ++ a ∷ [])) ≡ false
later_and [] a d e = neither (any_fault a.type) false e refl
later_and (x ∷ xs) a d e =
    let rest = in_alternatives any_fault_here (later_from xs) in
    neither (any_fault x.type) (in_alternatives any_fault_here (later_from (xs ++ a ∷ []))) (left (any_fault x.type) rest d) (later_and xs a (right (any_fault x.type) rest d) e)

after_root : (xs : List SeenAlternative) (after : Alternatives) → in_alternatives any_fault_here (root_from xs after) ≡ false → in_alternatives any_fault_here after ≡ false
after_root [] after d = d
after_root (x ∷ xs) after d = after_root xs after (right (any_fault x.type) (in_alternatives any_fault_here (root_from xs after)) d)

other_after : (xs : List SeenAlternative) (before after : Alternatives) → in_alternatives any_fault_here (root_from xs before) ≡ false → in_alternatives any_fault_here after ≡ false → in_alternatives any_fault_here (root_from xs after) ≡ false
other_after [] before after d e = e
other_after (x ∷ xs) before after d e =
    let rest = in_alternatives any_fault_here (root_from xs before) in
    neither (any_fault x.type) (in_alternatives any_fault_here (root_from xs after)) (left (any_fault x.type) rest d) (other_after xs before after (right (any_fault x.type) rest d) e)

root_and : (xs : List SeenAlternative) (a : SeenAlternative) (after : Alternatives) → in_alternatives any_fault_here (root_from xs after) ≡ false → any_fault a.type ≡ false → in_alternatives any_fault_here (root_from (xs ++ a ∷ []) after) ≡ false
root_and [] a after d e = neither (any_fault a.type) (in_alternatives any_fault_here after) e d
root_and (x ∷ xs) a after d e =
    let rest = in_alternatives any_fault_here (root_from xs after) in
    neither (any_fault x.type) (in_alternatives any_fault_here (root_from (xs ++ a ∷ []) after)) (left (any_fault x.type) rest d) (root_and xs a after (right (any_fault x.type) rest d) e)

-- ---- what the flag tells

-- of a type whose parts were read, and which then was asked itself
pub whole : (T : AsnType) (a b c : Bool) → Tells a b (inside any_fault_here T) → Tells b c (any_fault_here T) → Tells a c (any_fault T)
whole T a b c parts own = record {
  kept = λ e. parts.kept (own.kept e);
  none = λ e. here_or_inside T (own.none e) (parts.none (own.kept e));
}

-- of a type with no fault, for which nothing was asked
pub known : (b f : Bool) → f ≡ false → Tells b b f
known b f h = record { kept = λ e. e; none = λ e. h }

pub with_one_field : (a b : Bool) (c d : Components) (f : SeenField) → Tells a b (any_fault f.type) → d.root ≡ c.root ++ f ∷ [] → d.added ≡ c.added → TellsMore a b (components_have_fault c) (components_have_fault d)
with_one_field a b c d f t one same = record {
  kept = t.kept;
  none = λ e h.
      let fs = in_fields any_fault_here (fields_from c.root) in
      let more = in_additions any_fault_here (additions_from c.added) in
      rw (one, same) (neither (in_fields any_fault_here (fields_from (c.root ++ f ∷ []))) more (fields_and c.root f (left fs more h) (t.none e)) (right fs more h));
}

pub with_one_addition : (a b : Bool) (c d : Components) (x : SeenAddition) → Tells a b (any_fault x.type) → d.root ≡ c.root → d.added ≡ c.added ++ x ∷ [] → TellsMore a b (components_have_fault c) (components_have_fault d)
with_one_addition a b c d x t same one = record {
  kept = t.kept;
  none = λ e h.
      let fs = in_fields any_fault_here (fields_from c.root) in
      let more = in_additions any_fault_here (additions_from c.added) in
      rw (same, one) (neither fs (in_additions any_fault_here (additions_from (c.added ++ x ∷ []))) (left fs more h) (additions_and c.added x (right fs more h) (t.none e)));
}

extended : (b : Bool) (c : Choices) (x : SeenAlternative) → c.extensible ≡ b → choices_have_fault c ≡ false → any_fault x.type ≡ false → choices_have_fault (with_alternative x c) ≡ false
extended true c x h d e = rw h (other_after c.root (later_from c.added) (later_from (c.added ++ x ∷ [])) d (later_and c.added x (after_root c.root (later_from c.added) d) e))
extended false c x h d e = rw h (root_and c.root x (later_from c.added) d e)

-- of one alternative more
pub with_one_alternative : (a b f : Bool) (c : Choices) (x : SeenAlternative) → Tells a b (choices_have_fault c) → Tells b f (any_fault x.type) → Tells a f (choices_have_fault (with_alternative x c))
with_one_alternative a b f c x t u = record {
  kept = λ e. t.kept (u.kept e);
  none = λ e. extended c.extensible c x refl (t.none (u.kept e)) (u.none e);
}

-- one component after the other
pub then_more : (a b c f g h : Bool) → TellsMore a b f g → TellsMore b c g h → TellsMore a c f h
then_more a b c f g h t u = record { kept = λ e. t.kept (u.kept e); none = λ e d. u.none e (t.none (u.kept e) d) }

pub none_more : (a f : Bool) → TellsMore a a f f
none_more a f = record { kept = λ e. e; none = λ e d. d }

in_sequence : (b : Bool) (c : Components) → c.extensible ≡ b → components_have_fault c ≡ false → inside any_fault_here (sequence_of_components c) ≡ false
in_sequence true c h d = rw h d
in_sequence false c h d = rw h (left (in_fields any_fault_here (fields_from c.root)) (in_additions any_fault_here (additions_from c.added)) d)

-- of what stands in braces
pub sequence_tells : (a b f : Bool) (c : Components) → f ≡ false → TellsMore a b f (components_have_fault c) → Tells a b (inside any_fault_here (sequence_of_components c))
sequence_tells a b f c none t = record { kept = t.kept; none = λ e. in_sequence c.extensible c refl (t.none e none) }

in_choice : (b : Bool) (c : Choices) → c.extensible ≡ b → choices_have_fault c ≡ false → inside any_fault_here (choice_of_choices c) ≡ false
in_choice true c h d = rw h d
in_choice false c h d = rw h (other_after c.root (later_from c.added) no_alternatives d refl)

pub choice_tells : (a b : Bool) (c : Choices) → Tells a b (choices_have_fault c) → Tells a b (inside any_fault_here (choice_of_choices c))
choice_tells a b c t = record { kept = t.kept; none = λ e. in_choice c.extensible c refl (t.none e) }

-- ---- types that hold no other

inside_leaf : (L : LeafType) (s : State) (r : AsnType × State) → ◌≡◌ {A = Read AsnType} (Ok (leaf L, s)) (Ok r) → inside any_fault_here r.0 ≡ false
inside_leaf L s r h = subst (λ (x : AsnType × State). inside any_fault_here x.0 ≡ false) (same_ok (leaf L, s) r h) refl

form_inside : (n : LeafForm) (s : State) (r : AsnType × State) → leaf_at n s ≡ Ok r → inside any_fault_here r.0 ≡ false
unfolding leaf_at
form_inside (plain L) s r h = inside_leaf L s r h
form_inside (bounded make) s r h = let b = bind_ok (bounds_at s) _ r h in inside_leaf (make b.0.0.0 b.0.0.1) b.0.1 r b.2
form_inside (listed make) s r h = let i = bind_ok (items_at s) _ r h in inside_leaf (make i.0.0.0 i.0.0.1) i.0.1 r i.2
form_inside (sized make) s r h = let z = bind_ok (bracketed_size_at s) _ r h in inside_leaf (make z.0.0) z.0.1 r z.2

leaf_inside : (k : LeafWord) (s : State) (r : AsnType × State) → leaf_type_at k s ≡ Ok r → inside any_fault_here r.0 ≡ false
unfolding leaf_type_at
leaf_inside k s r h = let w = bind_ok (skip_second (words_of k).1 s) _ r h in form_inside (leaf_form k) w.0.1 r w.2

pub leaf_tells : (b : Bool) (k : LeafWord) (s u : State) (x : Result Shape TextFault) → IsReading (λ v. (type_of v, u)) x (leaf_type_at k s) → IfOk x (λ v. Tells b b (inside any_fault_here (type_of v)))
leaf_tells b k s u (Ok v) h = known b (inside any_fault_here (type_of v)) (leaf_inside k s (type_of v, u) h)
leaf_tells b k s u (Err e) h = tt

-- a copy of a well-formed type
pub copy_sound : (T : AsnType) (x : Result Shape TextFault) → IsWellFormed T → IfOk x (λ v. type_of v ≡ T) → IfOk x (λ v. any_fault (type_of v) ≡ false)
copy_sound T (Ok v) w h = rw h (sound T w)
copy_sound T (Err e) w h = tt

pub named_tells : (b : Bool) (x : Result Shape TextFault) → IfOk x (λ v. any_fault (type_of v) ≡ false) → IfOk x (λ v. Tells b b (any_fault (type_of v)))
named_tells b (Ok v) h = known b (any_fault (type_of v)) h
named_tells b (Err e) h = tt
