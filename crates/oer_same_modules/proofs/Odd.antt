-- Nothing odd is in a type, if nothing of each kind is; and what is left of the reasons for ordinary types.
use Rattle.std.proofs.Common.{◌≡◌, ◌⊎◌, Bool, true, false, inl, inr, refl}
use Rattle.oer_model.specs.AsnType.{Additions, Alternatives, AsnType, Fields, addition, alternative, choice, extensible_sequence}
use Rattle.oer_model.specs.AsnType.{field, later, leaf, no_additions, no_alternatives, no_fields, sequence, sequence_of}
use Rattle.oer_model.specs.WellFormed.{HasCrossedBounds, HasCrossedSize, InAdditions, InAlternatives, InFields, Somewhere}
use Rattle.oer_module_limits.specs.Errors as limits
use Rattle.oer_module_text.specs.Errors.{Why, unresolved, unlimited, not_taken, misnumbered, tag_number, too_deep, too_many_parts, too_long, too_wide}
use Rattle.oer_module_text.specs.declared.error.Part.TheVariants.{Value}
use Rattle.oer_module_values.specs.Errors as values
use Rattle.oer_same_items.specs.Told.{IsLimit}
use Rattle.oer_same_limits.specs.Takes.{IsOther}
use Rattle.oer_same_types.specs.Ordinary.{HasLastEnd, IsOdd}

-- no other reason is left, and of short definitions none
pub only_long : (short : Bool) (why : Why) → IsLimit true why → IsOther short why → (why ≡ too_long) × (short ≡ false)
only_long short too_long h k = (refl, k)
only_long short too_deep h k = absurd k
only_long short too_many_parts h k = absurd k
only_long short tag_number h k = absurd k
only_long short too_wide h k = absurd (cc)
only_long short misnumbered h k = absurd (cc)
only_long short (not_taken Value) h k = absurd (cc)
only_long short (unlimited limits.too_large) h k = absurd (cc)
only_long short (unlimited limits.empty) h k = absurd (cc)
only_long short (unresolved values.circular) h k = absurd (cc)
only_long short (unresolved values.too_large) h k = absurd (cc)
only_long short why h k = absurd h

-- what is one of two things is somewhere as one of them
module _ (P Q : AsnType → Type 0) where
  abbrev Either : AsnType → Type 0
  Either U = P U ⊎ Q U

  split : {A B C D : Type 0} → (A ⊎ B) ⊎ (C ⊎ D) → (A ⊎ C) ⊎ (B ⊎ D)
  split (inl (inl a)) = inl (inl a)
  split (inl (inr b)) = inr (inl b)
  split (inr (inl c)) = inl (inr c)
  split (inr (inr d)) = inr (inr d)

  under : {A B C D : Type 0} → (C → A ⊎ B) → D ⊎ C → D ⊎ (A ⊎ B)
  under f (inl d) = inl d
  under f (inr c) = inr (f c)

  over : {A B C D : Type 0} → (C → A ⊎ B) → C ⊎ D → (A ⊎ B) ⊎ D
  over f (inl c) = inl (f c)
  over f (inr d) = inr d

  mutual
    pub one_of : (T : AsnType) → Somewhere Either T → Somewhere P T ⊎ Somewhere Q T
    one_of (leaf L) x = x
    one_of (sequence fs) x = split (under (field_of fs) x)
    one_of (extensible_sequence fs more) x = split (under (λ y. split (under (addition_of more) (over (field_of fs) y))) x)
    one_of (sequence_of size T) x = split (under (one_of T) x)
    one_of (choice marker more) x = split (under (alternative_of more) x)

    field_of : (fs : Fields) → InFields Either fs → InFields P fs ⊎ InFields Q fs
    field_of no_fields x = absurd x
    field_of (field w need T fs) x = split (under (field_of fs) (over (one_of T) x))

    addition_of : (more : Additions) → InAdditions Either more → InAdditions P more ⊎ InAdditions Q more
    addition_of no_additions x = absurd x
    addition_of (addition w T more) x = split (under (addition_of more) (over (one_of T) x))

    alternative_of : (more : Alternatives) → InAlternatives Either more → InAlternatives P more ⊎ InAlternatives Q more
    alternative_of no_alternatives x = absurd x
    alternative_of (alternative w t T more) x = split (under (alternative_of more) (over (one_of T) x))
    alternative_of (later w t T more) x = split (under (alternative_of more) (over (one_of T) x))

-- neither is anywhere
neither : (P Q : AsnType → Type 0) (T : AsnType) → ¬ Somewhere P T → ¬ Somewhere Q T → ¬ Somewhere (λ U. P U ⊎ Q U) T
neither P Q T h k x = by (one_of P Q T x) where
  by : Somewhere P T ⊎ Somewhere Q T → ⊥
  by (inl y) = h y
  by (inr y) = k y

pub nothing_odd : (T : AsnType) → ¬ Somewhere HasCrossedBounds T → ¬ Somewhere HasCrossedSize T → ¬ Somewhere HasLastEnd T → ¬ Somewhere IsOdd T
nothing_odd T bounds sizes ends =
    neither HasCrossedBounds (λ U. HasCrossedSize U ⊎ HasLastEnd U) T bounds (neither HasCrossedSize HasLastEnd T sizes ends)
