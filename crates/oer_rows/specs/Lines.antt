-- The rows of an encoding, in the terms of the encoding rules.
use Rattle.std.specs.Prelude.{◌≡◌, ℕ, zero, suc, ◌+◌, List, [], ◌∷◌, ◌++◌, length, drop, Bool, true, false}
use Rattle.oer_units.specs.Numbers.{unsigned}
use Rattle.oer_units.specs.Spelling.{IsCounted, IsLength, IsTag, StandsFor}
use Rattle.oer_units.specs.declared.tagging.Tag.{Tag}
use Rattle.oer_model.specs.AsnType.{Additions, Alternatives, AsnType, Fields, addition, alternative, choice, extensible_sequence, field, later, leaf, no_additions, no_alternatives, no_fields, sequence, sequence_of}
use Rattle.oer_model.specs.AsnValue.{AsnValue}
use Rattle.oer_model.specs.Bits.{IsPreamble, all_false, first_bit, later_bits}
use Rattle.oer_model.specs.Constraints.{addition_count, has_tag, optional, same_tag, size_fits}
use Rattle.oer_model.specs.Encoding.{IsSpelling, SpellsBitmap}
use Rattle.oer_model.specs.Parts.{Step, to_addition, to_chosen, to_component, to_item}
use Rattle.oer_rows.specs.Rows.{Line, line}
use Rattle.oer_model.specs.SharedSteps.{bits_left, is_there}
use Rattle.oer_rows.specs.declared.row.Role.{Role}
use Rattle.oer_rows.specs.declared.row.Role.TheVariants.{Preamble, Bitmap, Quantity, Tag as TagRole, Length, Contents, Unknown}

-- Which lines are those of the octets b, where n octets are before them.
abbrev pub AreNone : ℕ → List Line → List ℕ → Type 0
AreNone n ls b = (ls ≡ []) × (b ≡ [])

abbrev pub IsOne : List Step → Role → ℕ → List Line → List ℕ → Type 0
IsOne path role n ls b = ls ≡ line n path role b ∷ []

-- the lines of some octets by S, and of those after them by R
abbrev pub AreBoth : (ℕ → List Line → List ℕ → Type 0) → (ℕ → List Line → List ℕ → Type 0) → ℕ → List Line → List ℕ → Type 0
AreBoth S R n ls b = (c : List ℕ) × (d : List ℕ) × (ks : List Line) × (ms : List Line) × (b ≡ c ++ d) × (ls ≡ ks ++ ms)
    × S n ks c × R (n + length c) ms d

-- a line of the octets by which x is spelt, and the lines of those after them
abbrev pub StartWith : {A : Type 0} → List Step → Role → (A → List ℕ → Type 0) → (A → ℕ → List Line → List ℕ → Type 0) → ℕ → List Line
    → List ℕ → Type 0
StartWith {A} path role Spells R n ls b = (x : A) × (c : List ℕ) × (d : List ℕ) × (ms : List Line) × (b ≡ c ++ d)
    × (ls ≡ line n path role c ∷ ms) × Spells x c × R x (n + length c) ms d

abbrev pub AreIf : Bool → (ℕ → List Line → List ℕ → Type 0) → ℕ → List Line → List ℕ → Type 0
AreIf true S = S
AreIf false S = AreNone

-- an open type (X.696, 30): its length, and the lines of as many octets
abbrev pub AreOpen : List Step → (ℕ → List Line → List ℕ → Type 0) → ℕ → List Line → List ℕ → Type 0
AreOpen path S = StartWith path Length (λ k c. IsLength k c) (λ k n ls b. (length b ≡ k) × S n ls b)

-- an open type of which the type isn't known
abbrev pub AreUnknown : List Step → ℕ → List Line → List ℕ → Type 0
AreUnknown path = AreOpen path (IsOne path Unknown)

-- the additions that the type doesn't know, from the one with the number i on, by the bits of the bitmap
abbrev pub AreRest : List Step → ℕ → List Bool → ℕ → List Line → List ℕ → Type 0
AreRest path i [] = AreNone
AreRest path i (x ∷ s) =
    AreBoth (AreIf x (AreUnknown (path ++ (to_addition i ∷ [])))) (AreRest path (suc i) s)

-- k elements from the one with the number i on; S: the lines of one
abbrev pub AreTimes : (ℕ → ℕ → List Line → List ℕ → Type 0) → ℕ → ℕ → ℕ → List Line → List ℕ → Type 0
AreTimes S i zero = AreNone
AreTimes S i (suc k) = AreBoth (S i) (AreTimes S (suc i) k)

-- the bitmap (X.696, 16.4), no bit of it set past place 65,535, and the additions whose bits are set
abbrev pub AreExtension : Bool → Additions → List Step → (List Bool → ℕ → List Line → List ℕ → Type 0) → ℕ → List Line → List ℕ → Type 0
AreExtension false more path S = AreNone
AreExtension true more path S = StartWith path Bitmap (λ s m. SpellsBitmap s m × (all_false (drop 65536 s) ≡ true))
    (λ s. AreBoth (S s) (AreRest path (addition_count more) (drop (addition_count more) s)))

abbrev pub AreNever : ℕ → List Line → List ℕ → Type 0
AreNever n ls b = ⊥

-- by S where the test holds, else by R
abbrev pub AreEither : Bool → (ℕ → List Line → List ℕ → Type 0) → (ℕ → List Line → List ℕ → Type 0) → ℕ → List Line → List ℕ → Type 0
AreEither true S R = S
AreEither false S R = R

abbrev mutual
  -- the lines of the encoding b of a value of the type, which is the part to which the path leads
  pub AreLines : AsnType → List Step → ℕ → List Line → List ℕ → Type 0
  -- SEQUENCE (X.696, 16): the preamble, and the components
  AreLines (sequence fs) path = StartWith path Preamble (λ s p. (length s ≡ optional fs) × IsPreamble s p) (AreFields fs path 0)
  AreLines (extensible_sequence fs more) path = StartWith path Preamble (λ s p. (length s ≡ suc (optional fs)) × IsPreamble s p)
      (λ s. AreBoth (AreFields fs path 0 (later_bits s)) (AreExtension (first_bit s) more path (AreAdditions more path 0)))
  -- SEQUENCE OF (17): the quantity, and the elements
  AreLines (sequence_of size T) path = StartWith path Quantity (λ k q. IsCounted (StandsFor unsigned) k q × (size_fits size k ≡ true))
      (AreTimes (λ i. AreLines T (path ++ (to_item i ∷ []))) 0)
  -- CHOICE (20): the tag, and the alternative; one that the type doesn't know only where there is an extension marker
  AreLines (choice extensible more) path = StartWith path TagRole IsTag
      (λ t. AreEither (has_tag t more) (AreAlternative more (path ++ (to_chosen ∷ [])) t)
      (AreEither extensible (AreUnknown (path ++ (to_chosen ∷ []))) AreNever))
  -- a type without parts
  AreLines (leaf kind) path = λ n ls b. IsOne path Contents n ls b × ((v : AsnValue) × IsSpelling (leaf kind) v b)

  -- components of a root, from the one with the number i on, by their presence bits
  pub AreFields : Fields → List Step → ℕ → List Bool → ℕ → List Line → List ℕ → Type 0
  AreFields no_fields path i s = AreNone
  AreFields (field name need T fs) path i s =
      AreBoth (AreIf (is_there need s) (AreLines T (path ++ (to_component i ∷ [])))) (AreFields fs path (suc i) (bits_left need s))

  -- additions, from the one with the number i on, by the bits of the bitmap
  pub AreAdditions : Additions → List Step → ℕ → List Bool → ℕ → List Line → List ℕ → Type 0
  AreAdditions no_additions path i s = AreNone
  AreAdditions (addition name T more) path i s =
      AreBoth (AreIf (first_bit s) (AreOpen (path ++ (to_addition i ∷ [])) (AreLines T (path ++ (to_addition i ∷ [])))))
      (AreAdditions more path (suc i) (later_bits s))

  -- the first alternative that has the tag
  pub AreAlternative : Alternatives → List Step → Tag → ℕ → List Line → List ℕ → Type 0
  AreAlternative no_alternatives path t = AreNever
  AreAlternative (alternative name u T more) path t = AreEither (same_tag u t) (AreLines T path) (AreAlternative more path t)
  AreAlternative (later name u T more) path t = AreEither (same_tag u t) (AreOpen path (AreLines T path)) (AreAlternative more path t)
