-- What is known of the names and tags in a well-formed type, level by level.
use Rattle.std.proofs.Common.{◌≡◌, inl, inr, ℕ, List, [], ◌∷◌, ◌++◌, Bool, true, false, refl, sym, subst}
use Rattle.oer_model.specs.AsnType.{Additions, Alternatives, AsnType, Fields, NamedNumber, choice, enumerated, extensible_sequence, sequence, sequence_of}
use Rattle.oer_model.specs.WellFormed.{AnyOf, HasRepeatedTag, InAdditions, InAlternatives, InFields, IsWellFormed, Repeats, Somewhere, addition_names, alternative_names, alternative_tags, field_names, is_identifier, item_names, names}
use Rattle.oer_model.specs.declared.fault.SchemaFault.TheVariants.{BadName, RepeatedName, RepeatedTag}
use Rattle.oer_model.specs.declared.size.Size.{Size}
use Rattle.oer_json.specs.Denotes.{IsOneOf}

-- the faults of names and tags
pub data Slip : Type 0 where
  bad_name repeated_name repeated_tag : Slip

abbrev pub HasSlip : Slip → AsnType → Type 0
HasSlip bad_name U = AnyOf (λ name. is_identifier name ≡ false) (names U)
HasSlip repeated_name U = Repeats (names U)
HasSlip repeated_tag U = HasRepeatedTag U

-- none of them is in the type
abbrev pub IsNamed : AsnType → Type 0
IsNamed T = (s : Slip) → Somewhere (HasSlip s) T → ⊥

abbrev pub AreNamedFields : Fields → Type 0
AreNamedFields fs = (s : Slip) → InFields (HasSlip s) fs → ⊥

abbrev pub AreNamedAdditions : Additions → Type 0
AreNamedAdditions more = (s : Slip) → InAdditions (HasSlip s) more → ⊥

abbrev pub AreNamedAlternatives : Alternatives → Type 0
AreNamedAlternatives more = (s : Slip) → InAlternatives (HasSlip s) more → ⊥

pub well_named : (T : AsnType) → IsWellFormed T → IsNamed T
well_named T w bad_name h = w.faultless BadName h
well_named T w repeated_name h = w.faultless RepeatedName h
well_named T w repeated_tag h = w.faultless RepeatedTag h

pub in_sequence : (fs : Fields) → IsNamed (sequence fs) → AreNamedFields fs
in_sequence fs n s h = n s (inr h)

pub in_root : (fs : Fields) (more : Additions) → IsNamed (extensible_sequence fs more) → AreNamedFields fs
in_root fs more n s h = n s (inr (inl h))

pub in_additions : (fs : Fields) (more : Additions) → IsNamed (extensible_sequence fs more) → AreNamedAdditions more
in_additions fs more n s h = n s (inr (inr h))

pub in_list : (size : Size) (T : AsnType) → IsNamed (sequence_of size T) → IsNamed T
in_list size T n s h = n s (inr h)

pub in_choice : (e : Bool) (more : Alternatives) → IsNamed (choice e more) → AreNamedAlternatives more
in_choice e more n s h = n s (inr h)

-- ---- lists

pub any_by : {A : Type 0} (P Q : A → Type 0) → ((x : A) → P x → Q x) → (xs : List A) → AnyOf P xs → AnyOf Q xs
any_by P Q f [] h = absurd h
any_by P Q f (x ∷ xs) (inl h) = inl (f x h)
any_by P Q f (x ∷ xs) (inr h) = inr (any_by P Q f xs h)

any_left : {A : Type 0} (P : A → Type 0) (xs ys : List A) → AnyOf P xs → AnyOf P (xs ++ ys)
any_left P [] ys h = absurd h
any_left P (x ∷ xs) ys (inl h) = inl h
any_left P (x ∷ xs) ys (inr h) = inr (any_left P xs ys h)

any_right : {A : Type 0} (P : A → Type 0) (xs ys : List A) → AnyOf P ys → AnyOf P (xs ++ ys)
any_right P [] ys h = h
any_right P (x ∷ xs) ys h = inr (any_right P xs ys h)

repeats_left : {A : Type 0} (xs ys : List A) → Repeats xs → Repeats (xs ++ ys)
repeats_left [] ys h = absurd h
repeats_left (x ∷ xs) ys (inl h) = inl (any_left (λ y. x ≡ y) xs ys h)
repeats_left (x ∷ xs) ys (inr h) = inr (repeats_left xs ys h)

repeats_right : {A : Type 0} (xs ys : List A) → Repeats ys → Repeats (xs ++ ys)
repeats_right [] ys h = h
repeats_right (x ∷ xs) ys h = inr (repeats_right xs ys h)

-- the first stands again
pub stands_again : {A : Type 0} (x : A) (xs : List A) → AnyOf (λ y. y ≡ x) xs → Repeats (x ∷ xs)
stands_again x xs h = inl (any_by (λ y. y ≡ x) (λ y. x ≡ y) (λ y e. sym e) xs h)

in_both : (xs ys : List (List ℕ)) (key : List ℕ) → IsOneOf xs key → IsOneOf ys key → Repeats (xs ++ ys)
in_both [] ys key h k = absurd h
in_both (x ∷ xs) ys key (inl e) k = stands_again x (xs ++ ys) (any_right (λ y. y ≡ x) xs ys (subst (λ z. IsOneOf ys z) (sym e) k))
in_both (x ∷ xs) ys key (inr h) k = inr (in_both xs ys key h k)

identifier : (ns : List (List ℕ)) (key : List ℕ) → (AnyOf (λ name. is_identifier name ≡ false) ns → ⊥) → IsOneOf ns key → is_identifier key ≡ true
identifier ns key good h = by (is_identifier key) refl
  where
    by : (b : Bool) → is_identifier key ≡ b → is_identifier key ≡ true
    by true e = e
    by false e = absurd (good (any_by (λ name. name ≡ key) (λ name. is_identifier name ≡ false) (λ name i. subst (λ k. is_identifier k ≡ false) (sym i) e) ns h))

-- ---- the names of one level

pub sequence_names : (fs : Fields) → IsNamed (sequence fs) → (key : List ℕ) → IsOneOf (field_names fs) key → is_identifier key ≡ true
sequence_names fs n key h = identifier (field_names fs) key (λ b. n bad_name (inl b)) h

pub sequence_apart : (fs : Fields) → IsNamed (sequence fs) → Repeats (field_names fs) → ⊥
sequence_apart fs n h = n repeated_name (inl h)

module _ (fs : Fields) (more : Additions) (n : IsNamed (extensible_sequence fs more)) where
  pub root_names : (key : List ℕ) → IsOneOf (field_names fs) key → is_identifier key ≡ true
  root_names key h = identifier (field_names fs) key (λ b. n bad_name (inl (any_left (λ name. is_identifier name ≡ false) (field_names fs) (addition_names more) b))) h

  pub added_names : (key : List ℕ) → IsOneOf (addition_names more) key → is_identifier key ≡ true
  added_names key h = identifier (addition_names more) key (λ b. n bad_name (inl (any_right (λ name. is_identifier name ≡ false) (field_names fs) (addition_names more) b))) h

  pub root_apart : Repeats (field_names fs) → ⊥
  root_apart h = n repeated_name (inl (repeats_left (field_names fs) (addition_names more) h))

  pub added_apart : Repeats (addition_names more) → ⊥
  added_apart h = n repeated_name (inl (repeats_right (field_names fs) (addition_names more) h))

  pub both_apart : (key : List ℕ) → IsOneOf (field_names fs) key → IsOneOf (addition_names more) key → ⊥
  both_apart key h k = n repeated_name (inl (in_both (field_names fs) (addition_names more) key h k))

pub choice_names : (e : Bool) (more : Alternatives) → IsNamed (choice e more) → (key : List ℕ) → IsOneOf (alternative_names more) key → is_identifier key ≡ true
choice_names e more n key h = identifier (alternative_names more) key (λ b. n bad_name (inl b)) h

pub choice_apart : (e : Bool) (more : Alternatives) → IsNamed (choice e more) → Repeats (alternative_names more) → ⊥
choice_apart e more n h = n repeated_name (inl h)

pub choice_tags : (e : Bool) (more : Alternatives) → IsNamed (choice e more) → Repeats (alternative_tags more) → ⊥
choice_tags e more n h = n repeated_tag (inl h)

pub items_apart : (xs : List NamedNumber) (e : Bool) → IsNamed (enumerated xs e) → Repeats (item_names xs) → ⊥
items_apart xs e n h = n repeated_name h
