-- With an extension marker in each end a type is the same with its ends replaced.
use Rattle.std.proofs.Common.{◌≡◌, ◌∙◌, Bool, true, false, List, inl, inr, refl, sym, ap, ap₂, subst}
use Rattle.std.specs.Prelude.{◌||◌, ◌&&◌, not}
use Rattle.oer_units.proofs.Ranges.{and_left, and_right}
use Rattle.oer_units.specs.declared.tagging.Tag.{Tag}
use Rattle.oer_model.proofs.filling.Same.{same_tag-true}
use Rattle.oer_model.specs.AsnType.{Additions, Alternatives, AsnType, Fields, addition, alternative, choice, extensible_sequence, field, later, leaf, no_additions, no_alternatives, no_fields, null, sequence, sequence_of}
use Rattle.oer_model.specs.Constraints.{same_tag}
use Rattle.oer_model.specs.LeafType.{LeafType}
use Rattle.oer_model.specs.LeafType as kind
use Rattle.oer_nesting.specs.Deeper.{Deeper, DeeperAdditions, DeeperAlternatives, DeeperFields, IsEnd, end_tag}
use Rattle.oer_ends.specs.Ends.{additions_have_end, alternatives_have_end, are_of_end, fields_have_end, has_end, is_end_alternative, is_last, is_null, is_null_kind}
use Rattle.oer_ends.specs.Opened.{opened, opened_additions, opened_alternatives, opened_fields}

null_kind : (k : LeafType) → is_null_kind k ≡ true → k ≡ kind.null
null_kind kind.null is = refl
null_kind _ is = absurd (cc)

null_is : (T : AsnType) → is_null T ≡ true → T ≡ null
null_is (leaf k) is = ap leaf (null_kind k is)
null_is (sequence fs) is = absurd (cc)
null_is (extensible_sequence fs more) is = absurd (cc)
null_is (sequence_of size T) is = absurd (cc)
null_is (choice extensible more) is = absurd (cc)

last_is : (more : Alternatives) → is_last more ≡ true → more ≡ no_alternatives
last_is no_alternatives is = refl
last_is (alternative name t T more) is = absurd (cc)
last_is (later name t T more) is = absurd (cc)

end_is : (more : Alternatives) → are_of_end more ≡ true → IsEnd (choice false more)
end_is no_alternatives is = absurd (cc)
end_is (alternative name t T more) is =
    let both = and_right (is_last more) (is_null T && same_tag end_tag t) is in
    let none = last_is more (and_left (is_last more) (is_null T && same_tag end_tag t) is) in
    let kind_is = null_is T (and_left (is_null T) (same_tag end_tag t) both) in
    let tag_is = sym (same_tag-true end_tag t (and_right (is_null T) (same_tag end_tag t) both)) in
    (name, rw (none, kind_is, tag_is) refl)
end_is (later name t T more) is = absurd (cc)

choice_deeper : (more others : Alternatives) → DeeperAlternatives more others → (ends : Bool) → are_of_end more ≡ ends
    → Deeper (choice false more) (choice ends others)
choice_deeper more others are true is = inl (end_is more is)
choice_deeper more others are false is = inr (others, refl, are)

mutual
  pub deeper : (T : AsnType) → Deeper T (opened T)
  deeper (leaf k) = refl
  deeper (sequence fs) = (opened_fields fs, refl, fields_deeper fs)
  deeper (extensible_sequence fs more) = (opened_fields fs, opened_additions more, refl, fields_deeper fs, additions_deeper more)
  deeper (sequence_of size T) = (opened T, refl, deeper T)
  deeper (choice true more) = inr (opened_alternatives more, refl, alternatives_deeper more)
  deeper (choice false more) = choice_deeper more (opened_alternatives more) (alternatives_deeper more) (are_of_end more) refl

  fields_deeper : (fs : Fields) → DeeperFields fs (opened_fields fs)
  fields_deeper no_fields = refl
  fields_deeper (field name need T fs) = (opened T, opened_fields fs, refl, deeper T, fields_deeper fs)

  additions_deeper : (more : Additions) → DeeperAdditions more (opened_additions more)
  additions_deeper no_additions = refl
  additions_deeper (addition name T more) = (opened T, opened_additions more, refl, deeper T, additions_deeper more)

  alternatives_deeper : (more : Alternatives) → DeeperAlternatives more (opened_alternatives more)
  alternatives_deeper no_alternatives = refl
  alternatives_deeper (alternative name t T more) = (opened T, opened_alternatives more, refl, deeper T, alternatives_deeper more)
  alternatives_deeper (later name t T more) = (opened T, opened_alternatives more, refl, deeper T, alternatives_deeper more)

or_left : (a b : Bool) → (a || b) ≡ false → a ≡ false
or_left true b is = is
or_left false b is = refl

or_right : (a b : Bool) → (a || b) ≡ false → b ≡ false
or_right true b is = absurd (cc)
or_right false b is = is

mutual
  pub endless : (T : AsnType) → has_end T ≡ false → opened T ≡ T
  endless (leaf k) none = refl
  endless (sequence fs) none = ap sequence (endless_fields fs none)
  endless (extensible_sequence fs more) none = ap₂ extensible_sequence
      (endless_fields fs (or_left (fields_have_end fs) (additions_have_end more) none))
      (endless_additions more (or_right (fields_have_end fs) (additions_have_end more) none))
  endless (sequence_of size T) none = ap (λ U. sequence_of size U) (endless T none)
  endless (choice true more) none = ap (λ others. choice true others) (endless_alternatives more (or_left (alternatives_have_end more) false none))
  endless (choice false more) none = ap₂ choice (or_right (alternatives_have_end more) (are_of_end more) none)
      (endless_alternatives more (or_left (alternatives_have_end more) (are_of_end more) none))

  endless_fields : (fs : Fields) → fields_have_end fs ≡ false → opened_fields fs ≡ fs
  endless_fields no_fields none = refl
  endless_fields (field name need T fs) none = ap₂ (λ U gs. field name need U gs)
      (endless T (or_left (has_end T) (fields_have_end fs) none)) (endless_fields fs (or_right (has_end T) (fields_have_end fs) none))

  endless_additions : (more : Additions) → additions_have_end more ≡ false → opened_additions more ≡ more
  endless_additions no_additions none = refl
  endless_additions (addition name T more) none = ap₂ (λ U others. addition name U others)
      (endless T (or_left (has_end T) (additions_have_end more) none)) (endless_additions more (or_right (has_end T) (additions_have_end more) none))

  endless_alternatives : (more : Alternatives) → alternatives_have_end more ≡ false → opened_alternatives more ≡ more
  endless_alternatives no_alternatives none = refl
  endless_alternatives (alternative name t T more) none = ap₂ (λ U others. alternative name t U others)
      (endless T (or_left (has_end T) (alternatives_have_end more) none)) (endless_alternatives more (or_right (has_end T) (alternatives_have_end more) none))
  endless_alternatives (later name t T more) none = ap₂ (λ U others. later name t U others)
      (endless T (or_left (has_end T) (alternatives_have_end more) none)) (endless_alternatives more (or_right (has_end T) (alternatives_have_end more) none))
