-- The lines of an encoding, by its parts.
use Rattle.std.proofs.Common.{◌≡◌, ℕ, zero, suc, ◌+◌, Bool, true, false, List, [], ◌∷◌, ◌++◌, length, drop, Option, Some, None, refl, sym, ap, ap₂, ◌∙◌, subst, append-nil}
use Rattle.oer_units.specs.Spelling.{IsLength, IsTag}
use Rattle.oer_units.specs.declared.tagging.Tag.{Tag}
use Rattle.oer_model.specs.AsnType.{Additions, Alternatives, AsnType, Fields, addition, alternative, choice, extensible_sequence, field, later, leaf, no_additions, no_alternatives, no_fields, sequence, sequence_of}
use Rattle.oer_model.specs.AsnValue.{AsnValue}
use Rattle.oer_model.specs.Bits.{all_false, first_bit, later_bits}
use Rattle.oer_model.specs.Constraints.{addition_count, has_tag, same_tag}
use Rattle.oer_model.specs.Encoding.{IsSpelling, SpellsBitmap}
use Rattle.oer_model.specs.Parts.{Step, to_addition, to_chosen, to_component, to_item}
use Rattle.oer_model.specs.SharedSteps.{bits_left, is_there}
use Rattle.oer_rows.specs.Lines.{AreAdditions, AreAlternative, AreBoth, AreEither, AreExtension, AreFields, AreIf, AreLines, AreNever, AreNone, AreOpen, AreRest, AreTimes, AreUnknown, IsOne, StartWith}
use Rattle.oer_rows.specs.Naming.{ArePart, is_length, octets_of_lines}
use Rattle.oer_rows.specs.Rows.{Line, line}
use Rattle.oer_rows.specs.declared.row.Role.{Role}
use Rattle.oer_rows.specs.declared.row.Role.TheVariants.{Bitmap, Contents, Length, Preamble, Quantity, Tag as TagRole, Unknown as Unread}
use Rattle.oer_rows.proofs.LinePaths.{Every, IsIn, below_in, every_both, every_map, inner_in, octets_both, own_in}

-- ---- the lines are those of the octets, and of the part

abbrev pub Fine : List Step → (ℕ → List Line → List ℕ → Type 0) → Type 0
Fine path S = (n : ℕ) (ls : List Line) (b : List ℕ) → S n ls b → (octets_of_lines ls ≡ b) × Every (IsIn path) ls

fine_none : (path : List Step) → Fine path AreNone
fine_none path n ls b (e, f) = (ap octets_of_lines e ∙ sym f, subst (Every (IsIn path)) (sym e) tt)

fine_one : (path : List Step) (role : Role) → is_length role ≡ false → Fine path (IsOne path role)
fine_one path role r n ls b e = (ap octets_of_lines e ∙ append-nil b, subst (Every (IsIn path)) (sym e) (own_in path (line n path role b) (refl, r), tt))

fine_both : (path : List Step) (S R : ℕ → List Line → List ℕ → Type 0) → Fine path S → Fine path R → Fine path (AreBoth S R)
fine_both path S R f g n ls b (c, d, ks, ms, e, is, s, r) =
    let h = f n ks c s in
    let k = g (n + length c) ms d r in
    (ap octets_of_lines is ∙ octets_both ks ms ∙ ap₂ (λ (x y : List ℕ). x ++ y) h.0 k.0 ∙ sym e, subst (Every (IsIn path)) (sym is) (every_both (IsIn path) ks ms h.1 k.1))

-- after a line that is in the part
fine_after : {A : Type 0} (path at : List Step) (role : Role) (Spells : A → List ℕ → Type 0) (R : A → ℕ → List Line → List ℕ → Type 0) → ((n : ℕ) (c : List ℕ) → IsIn path (line n at role c)) → ((x : A) → Fine path (R x)) → Fine path (StartWith at role Spells R)
fine_after path at role Spells R i f n ls b (x, c, d, ms, e, is, s, r) =
    let h = f x (n + length c) ms d r in
    (ap octets_of_lines is ∙ ap (λ (w : List ℕ). c ++ w) h.0 ∙ sym e, subst (Every (IsIn path)) (sym is) (i n c, h.1))

fine_start : {A : Type 0} (path : List Step) (role : Role) (Spells : A → List ℕ → Type 0) (R : A → ℕ → List Line → List ℕ → Type 0) → is_length role ≡ false → ((x : A) → Fine path (R x)) → Fine path (StartWith path role Spells R)
fine_start path role Spells R r f = fine_after path path role Spells R (λ n c. own_in path (line n path role c) (refl, r)) f

fine_inner : (path : List Step) (step : Step) (S : ℕ → List Line → List ℕ → Type 0) → Fine (path ++ (step ∷ [])) S → Fine path S
fine_inner path step S f n ls b s = let h = f n ls b s in (h.0, every_map (IsIn (path ++ (step ∷ []))) (IsIn path) ls (inner_in path step) h.1)

fine_open : (path : List Step) (step : Step) (S : ℕ → List Line → List ℕ → Type 0) → Fine (path ++ (step ∷ [])) S → Fine path (AreOpen (path ++ (step ∷ [])) S)
fine_open path step S f = fine_after path (path ++ (step ∷ [])) Length (λ k c. IsLength k c) (λ k n ls b. (length b ≡ k) × S n ls b) (λ n c. below_in path step [] (line n (path ++ (step ∷ [])) Length c) refl)
    (λ k n ls b s. fine_inner path step S f n ls b s.1)

fine_if : (path : List Step) (x : Bool) (S : ℕ → List Line → List ℕ → Type 0) → Fine path S → Fine path (AreIf x S)
fine_if path true S f = f
fine_if path false S f = fine_none path

fine_either : (path : List Step) (x : Bool) (S R : ℕ → List Line → List ℕ → Type 0) → Fine path S → Fine path R → Fine path (AreEither x S R)
fine_either path true S R f g = f
fine_either path false S R f g = g

fine_never : (path : List Step) → Fine path AreNever
fine_never path n ls b s = absurd s

fine_unknown : (path : List Step) (step : Step) → Fine path (AreUnknown (path ++ (step ∷ [])))
fine_unknown path step = fine_open path step (IsOne (path ++ (step ∷ [])) Unread) (fine_one (path ++ (step ∷ [])) Unread refl)

fine_times : (path : List Step) (S : ℕ → ℕ → List Line → List ℕ → Type 0) → ((i : ℕ) → Fine path (S i)) → (i k : ℕ) → Fine path (AreTimes S i k)
fine_times path S f i zero = fine_none path
fine_times path S f i (suc k) = fine_both path (S i) (AreTimes S (suc i) k) (f i) (fine_times path S f (suc i) k)

fine_rest : (path : List Step) (i : ℕ) (s : List Bool) → Fine path (AreRest path i s)
fine_rest path i [] = fine_none path
fine_rest path i (x ∷ s) = fine_both path (AreIf x (AreUnknown (path ++ (to_addition i ∷ [])))) (AreRest path (suc i) s) (fine_if path x (AreUnknown (path ++ (to_addition i ∷ []))) (fine_unknown path (to_addition i))) (fine_rest path (suc i) s)

fine_extension : (path : List Step) (x : Bool) (more : Additions) (S : List Bool → ℕ → List Line → List ℕ → Type 0) → ((s : List Bool) → Fine path (S s)) → Fine path (AreExtension x more path S)
fine_extension path false more S f = fine_none path
fine_extension path true more S f = fine_start path Bitmap (λ s m. SpellsBitmap s m × (all_false (drop 65536 s) ≡ true)) (λ s. AreBoth (S s) (AreRest path (addition_count more) (drop (addition_count more) s))) refl
    (λ s. fine_both path (S s) (AreRest path (addition_count more) (drop (addition_count more) s)) (f s) (fine_rest path (addition_count more) (drop (addition_count more) s)))

fine_leaf : (T : AsnType) (path : List Step) → Fine path (λ n ls b. IsOne path Contents n ls b × ((v : AsnValue) × IsSpelling T v b))
fine_leaf T path n ls b s = fine_one path Contents refl n ls b s.0

mutual
  pub value_fine : (T : AsnType) (path : List Step) → Fine path (AreLines T path)
  value_fine (sequence fs) path = fine_start path Preamble _ (AreFields fs path 0) refl (λ s. fields_fine fs path 0 s)
  value_fine (extensible_sequence fs more) path = fine_start path Preamble _ (λ s. AreBoth (AreFields fs path 0 (later_bits s)) (AreExtension (first_bit s) more path (AreAdditions more path 0))) refl
      (λ s. fine_both path (AreFields fs path 0 (later_bits s)) (AreExtension (first_bit s) more path (AreAdditions more path 0)) (fields_fine fs path 0 (later_bits s)) (fine_extension path (first_bit s) more (AreAdditions more path 0) (λ t. additions_fine more path 0 t)))
  value_fine (sequence_of size T) path = fine_start path Quantity _ (AreTimes (λ i. AreLines T (path ++ (to_item i ∷ []))) 0) refl
      (λ k. fine_times path (λ i. AreLines T (path ++ (to_item i ∷ []))) (λ i. fine_inner path (to_item i) (AreLines T (path ++ (to_item i ∷ []))) (value_fine T (path ++ (to_item i ∷ [])))) 0 k)
  value_fine (choice extensible more) path = fine_start path TagRole IsTag _ refl
      (λ t. fine_either path (has_tag t more) (AreAlternative more (path ++ (to_chosen ∷ [])) t) (AreEither extensible (AreUnknown (path ++ (to_chosen ∷ []))) AreNever) (alternative_fine more path t)
      (fine_either path extensible (AreUnknown (path ++ (to_chosen ∷ []))) AreNever (fine_unknown path to_chosen) (fine_never path)))
  value_fine (leaf kind) path = fine_leaf (leaf kind) path

  pub fields_fine : (fs : Fields) (path : List Step) (i : ℕ) (s : List Bool) → Fine path (AreFields fs path i s)
  fields_fine no_fields path i s = fine_none path
  fields_fine (field name need T fs) path i s = fine_both path (AreIf (is_there need s) (AreLines T (path ++ (to_component i ∷ [])))) (AreFields fs path (suc i) (bits_left need s))
      (fine_if path (is_there need s) (AreLines T (path ++ (to_component i ∷ []))) (fine_inner path (to_component i) (AreLines T (path ++ (to_component i ∷ []))) (value_fine T (path ++ (to_component i ∷ []))))) (fields_fine fs path (suc i) (bits_left need s))

  pub additions_fine : (more : Additions) (path : List Step) (i : ℕ) (s : List Bool) → Fine path (AreAdditions more path i s)
  additions_fine no_additions path i s = fine_none path
  additions_fine (addition name T more) path i s = fine_both path (AreIf (first_bit s) (AreOpen (path ++ (to_addition i ∷ [])) (AreLines T (path ++ (to_addition i ∷ []))))) (AreAdditions more path (suc i) (later_bits s))
      (fine_if path (first_bit s) (AreOpen (path ++ (to_addition i ∷ [])) (AreLines T (path ++ (to_addition i ∷ [])))) (fine_open path (to_addition i) (AreLines T (path ++ (to_addition i ∷ []))) (value_fine T (path ++ (to_addition i ∷ []))))) (additions_fine more path (suc i) (later_bits s))

  alternative_fine : (more : Alternatives) (path : List Step) (t : Tag) → Fine path (AreAlternative more (path ++ (to_chosen ∷ [])) t)
  alternative_fine no_alternatives path t = fine_never path
  alternative_fine (alternative name u T more) path t = fine_either path (same_tag u t) (AreLines T (path ++ (to_chosen ∷ []))) (AreAlternative more (path ++ (to_chosen ∷ [])) t) (fine_inner path to_chosen (AreLines T (path ++ (to_chosen ∷ []))) (value_fine T (path ++ (to_chosen ∷ [])))) (alternative_fine more path t)
  alternative_fine (later name u T more) path t = fine_either path (same_tag u t) (AreOpen (path ++ (to_chosen ∷ [])) (AreLines T (path ++ (to_chosen ∷ [])))) (AreAlternative more (path ++ (to_chosen ∷ [])) t) (fine_open path to_chosen (AreLines T (path ++ (to_chosen ∷ []))) (value_fine T (path ++ (to_chosen ∷ [])))) (alternative_fine more path t)

pub part_fine : (V : Option AsnType) (path : List Step) (n : ℕ) (ls : List Line) (b : List ℕ) → ArePart V path n ls b → (octets_of_lines ls ≡ b) × Every (IsIn path) ls
part_fine None path = fine_one path Unread refl
part_fine (Some T) path = value_fine T path
