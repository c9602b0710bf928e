-- Lines spell a value, and go with the parts into which its encoding splits.
use Rattle.std.proofs.Common.{◌≡◌, ◌⊎◌, inl, inr, ℕ, zero, suc, ◌+◌, Bool, true, false, List, [], ◌∷◌, ◌++◌, length, drop, Option, Some, None, arith, refl, sym, ap, ◌∙◌, subst, append_assoc, append-nil, length-append}
use Rattle.oer_units.specs.Numbers.{unsigned}
use Rattle.oer_units.specs.Spelling.{IsCounted, IsJoined, IsLength, StandsFor}
use Rattle.oer_units.specs.declared.tagging.Tag.{Tag}
use Rattle.oer_model.specs.AsnType.{Additions, Alternatives, AsnType, Fields, addition, alternative, choice, default, extensible_sequence, field, later, leaf, may, must, no_additions, no_alternatives, no_fields, sequence, sequence_of}
use Rattle.oer_model.specs.AsnValue.{AsnValue, Places, Unknown, absent, chosen, foreign, items, no_places, present, seq, unknown}
use Rattle.oer_model.specs.Bits.{first_bit, later_bits}
use Rattle.oer_model.specs.Constraints.{AdditionsKeepLimits, AlternativesKeepLimits, FieldsKeepLimits, KeepsLimits, addition_count, has_tag, optional, same_tag, size_fits}
use Rattle.oer_model.specs.Encoding.{ByBit, ByTag, IsItself, IsSpelling, SpellsAdditions, SpellsAlternative, SpellsChosen, SpellsExtension, SpellsFields, SpellsUnknown}
use Rattle.oer_model.specs.Fits.{AdditionDefaultsFit, AlternativeDefaultsFit, DefaultsFit, FieldDefaultsFit, all_absent, listed}
use Rattle.oer_model.specs.Parts.{AloneByTag, Holds, IsAlone, IsSplit, Part, SplitsAdditions, SplitsAlternative, SplitsExtension, SplitsFields, SplitsItems, SplitsUnknown, StartsByBit, Step, part, to_addition, to_chosen, to_component, to_item}
use Rattle.oer_model.specs.declared.size.Size.{Size}
use Rattle.oer_rows.specs.Lines.{AreAdditions, AreAlternative, AreBoth, AreEither, AreExtension, AreFields, AreIf, AreLines, AreNever, AreNone, AreOpen, AreRest, AreTimes, AreUnknown, IsOne}
use Rattle.oer_rows.specs.Naming.{ArePart, is_length, octets_of_lines}
use Rattle.oer_rows.specs.Rows.{Line, line}
use Rattle.oer_rows.specs.declared.row.Role.{Role}
use Rattle.oer_rows.specs.declared.row.Role.TheVariants.{Bitmap, Contents, Length, Preamble, Quantity, Tag as TagRole}
use Rattle.oer_rows.proofs.LineParts.{additions_fine, fields_fine, part_fine}
use Rattle.oer_rows.proofs.LinePaths.{Every, IsFront, IsOwn, counted_both, every_both, every_map}

abbrev pub Kept : Option AsnType → Type 0
Kept None = Unit {0}
Kept (Some T) = KeepsLimits T × DefaultsFit T

-- a line of the octets in front of a part
abbrev pub IsOutside : List Step → Step → Line → Type 0
IsOutside path step l = IsOwn path l ⊎ IsFront (path ++ (step ∷ [])) l

-- the lines, from n on, of the parts, one after another
abbrev pub Groups : List Step → ℕ → List Part → List Line → Type 0
Groups path n [] ls = Every (IsOwn path) ls
Groups path n (part step V c ∷ parts) ls = (front : List Line) × (mine : List Line) × (after : List Line) × (m : ℕ)
    × (ls ≡ front ++ (mine ++ after)) × Every (IsOutside path step) front × (m ≡ n + length (octets_of_lines front)) × Kept V
    × ArePart V (path ++ (step ∷ [])) m mine c × Groups path (m + length c) parts after

-- the same of one part w, in the octets c
abbrev Piece : List Step → Step → Option AsnType → ℕ → List Line → List ℕ → List ℕ → Type 0
Piece path step V n ks c w = (front : List Line) × (mine : List Line) × (m : ℕ) × (ks ≡ front ++ mine) × Every (IsOutside path step) front
    × (m ≡ n + length (octets_of_lines front)) × (m + length w ≡ n + length c) × Kept V × ArePart V (path ++ (step ∷ [])) m mine w

groups_front : (path : List Step) (n : ℕ) (parts : List Part) (os ls : List Line) → Every (IsOwn path) os → Groups path (n + length (octets_of_lines os)) parts ls → Groups path n parts (os ++ ls)
groups_front path n [] os ls o g = every_both (IsOwn path) os ls o g
groups_front path n (part step V c ∷ parts) os ls o (front, mine, after, m, e, f, is, k, a, g) = (
  os ++ front,
  mine,
  after,
  m,
  ap (λ (l : List Line). os ++ l) e ∙ sym (append_assoc os front (mine ++ after)),
  every_both (IsOutside path step) os front (every_map (IsOwn path) (IsOutside path step) os (λ l x. inl x) o) f,
  omega (arith, is, counted_both os front),
  k,
  a,
  g,
)

groups_join : (path : List Step) (n j : ℕ) (p q : List Part) (ls ms : List Line) → Groups path n p ls → j ≡ n + length (octets_of_lines ls) → Groups path j q ms → Groups path n (p ++ q) (ls ++ ms)
groups_join path n j [] q ls ms o e g = groups_front path n q ls ms o (subst (λ (i : ℕ). Groups path i q ms) e g)
groups_join path n j (part step V c ∷ p) q ls ms (front, mine, after, m, e, f, is, k, a, g) at h = (
  front,
  mine,
  after ++ ms,
  m,
  ap (λ (l : List Line). l ++ ms) e ∙ append_assoc front (mine ++ after) ms ∙ ap (λ (l : List Line). front ++ l) (append_assoc mine after ms),
  f,
  is,
  k,
  a,
  groups_join path (m + length c) j p q after ms g
      (omega (arith, at, is, ap (λ (l : List Line). length (octets_of_lines l)) e, counted_both front (mine ++ after), counted_both mine after, ap length (part_fine V (path ++ (step ∷ [])) m mine c a).0)) h,
)

piece_then : (path : List Step) (step : Step) (V : Option AsnType) (n : ℕ) (ks ms : List Line) (c w : List ℕ) (parts : List Part) → Piece path step V n ks c w → Groups path (n + length c) parts ms → Groups path n (part step V w ∷ parts) (ks ++ ms)
piece_then path step V n ks ms c w parts (front, mine, m, e, f, is, many, k, a) g =
    (front, mine, ms, m, ap (λ (l : List Line). l ++ ms) e ∙ append_assoc front mine ms, f, is, k, a, subst (λ (i : ℕ). Groups path i parts ms) (sym many) g)

piece_alone : (path : List Step) (step : Step) (V : Option AsnType) (n : ℕ) (ks : List Line) (c w : List ℕ) → Piece path step V n ks c w → Groups path n (part step V w ∷ []) ks
piece_alone path step V n ks c w (front, mine, m, e, f, is, many, k, a) =
    (front, mine, [], m, e ∙ ap (λ (l : List Line). front ++ l) (sym (append-nil mine)), f, is, k, a, tt)

-- after a line of the value's own
own_then : (path : List Step) (role : Role) (n : ℕ) (ls ms : List Line) (c : List ℕ) (parts : List Part) → is_length role ≡ false → ls ≡ line n path role c ∷ ms → Groups path (n + length c) parts ms → Groups path n parts ls
own_then path role n ls ms c parts r e g =
    subst (Groups path n parts) (sym e)
    (groups_front path n parts (line n path role c ∷ []) ms ((refl, r), tt) (subst (λ (i : ℕ). Groups path i parts ms) (ap (λ (w : List ℕ). n + length w) (sym (append-nil c))) g))

-- ---- a part

-- the lines ks of the octets c are those of a value spelt by Sp, whose part, by H, is of the type T
abbrev Child : AsnType → (AsnValue → List ℕ → Type 0) → (List ℕ → List ℕ → Type 0) → List Step → Step → ℕ → List Line → List ℕ → Type 0
Child T Sp H path step n ks c = (v : AsnValue) × (w : List ℕ) × Sp v c × H w c × Piece path step (Some T) n ks c w

abbrev Reads : AsnType → List Step → Type 0
Reads T path = (n : ℕ) (ls : List Line) (b : List ℕ) → AreLines T path n ls b → (v : AsnValue) × IsSpelling T v b

plain_child : (T : AsnType) (path : List Step) (step : Step) → Kept (Some T) → Reads T (path ++ (step ∷ [])) → (n : ℕ) (ks : List Line) (c : List ℕ) → AreLines T (path ++ (step ∷ [])) n ks c → Child T (IsSpelling T) (Holds T) path step n ks c
plain_child T path step k f n ks c a =
    let v = f n ks c a in
    (v.0, c, v.1, (refl, v), ([], ks, n, refl, tt, omega arith, refl, k, a))

-- an open type: its length, and the lines of as many octets
abbrev Opened : Option AsnType → List Step → Step → ℕ → List Line → List ℕ → Type 0
Opened V path step n ks c = (l : List ℕ) × (w : List ℕ) × (m : ℕ) × (ms : List Line) × (c ≡ l ++ w) × IsLength (length w) l
    × ArePart V (path ++ (step ∷ [])) m ms w × Piece path step V n ks c w

opened : (V : Option AsnType) (path : List Step) (step : Step) → Kept V → (n : ℕ) (ks : List Line) (c : List ℕ) → AreOpen (path ++ (step ∷ [])) (ArePart V (path ++ (step ∷ []))) n ks c → Opened V path step n ks c
opened V path step k n ks c (j, l, w, ms, e, is, len, (many, a)) = (
  l,
  w,
  n + length l,
  ms,
  e,
  subst (λ (i : ℕ). IsLength i l) (sym many) len,
  a,
  (line n (path ++ (step ∷ [])) Length l ∷ [], ms, n + length l, is, (inr (refl, refl), tt), ap (λ (x : List ℕ). n + length x) (sym (append-nil l)), omega (arith, ap length e, length-append l w), k, a),
)

open_child : (T : AsnType) (path : List Step) (step : Step) → Kept (Some T) → Reads T (path ++ (step ∷ [])) → (n : ℕ) (ks : List Line) (c : List ℕ) → AreOpen (path ++ (step ∷ [])) (AreLines T (path ++ (step ∷ []))) n ks c
    → Child T (IsCounted (IsSpelling T)) (IsCounted (Holds T)) path step n ks c
open_child T path step k f n ks c s =
    let (l, w, m, ms, e, len, a, piece) = opened (Some T) path step k n ks c s in
    let v = f m ms w a in
    (v.0, w, (l, w, e, len, v.1), (l, w, e, len, (refl, v)), piece)

-- ---- components

abbrev Sorted : {A : Type 0} → (A → List ℕ → Type 0) → (List Part → List ℕ → Type 0) → List Step → ℕ → List Line → List ℕ → Type 0
Sorted {A} S Q path n ls b = (x : A) × (parts : List Part) × S x b × Q parts b × Groups path n parts ls

abbrev Sorts : {A : Type 0} → (ℕ → List Line → List ℕ → Type 0) → (A → List ℕ → Type 0) → (List Part → List ℕ → Type 0) → List Step → Type 0
Sorts L S Q path = (n : ℕ) (ls : List Line) (b : List ℕ) → L n ls b → Sorted S Q path n ls b

-- nothing, and then the others
sorted_after : {A : Type 0} (S : A → List ℕ → Type 0) (Q : List Part → List ℕ → Type 0) (path : List Step) (n : ℕ) (ks ms ls : List Line) (c d b : List ℕ) → AreNone n ks c → ls ≡ ks ++ ms → b ≡ c ++ d → Sorted S Q path (n + length c) ms d → Sorted S Q path n ls b
sorted_after S Q path n ks ms ls c d b (none, nil) is e (x, parts, s, q, g) =
    let here : d ≡ b = sym (e ∙ ap (λ (w : List ℕ). w ++ d) nil) in
    let same : ms ≡ ls = sym (is ∙ ap (λ (l : List Line). l ++ ms) none) in
    let zero_more : n + length c ≡ n = omega (arith, ap length nil) in
    (x, parts, subst (S x) here s, subst (Q parts) here q, subst (Groups path n parts) same (subst (λ (i : ℕ). Groups path i parts ms) zero_more g))

sorted_bit : (x : Bool) (T : AsnType) (Sp : AsnValue → List ℕ → Type 0) (H : List ℕ → List ℕ → Type 0) (path : List Step) (step : Step) (L R : ℕ → List Line → List ℕ → Type 0) (S : Places → List ℕ → Type 0) (Q : List Part → List ℕ → Type 0)
    → ((n : ℕ) (ks : List Line) (c : List ℕ) → L n ks c → Child T Sp H path step n ks c) → Sorts R S Q path → Sorts (AreBoth (AreIf x L) R) (ByBit x Sp S) (StartsByBit x step (Some T) H Q) path
sorted_bit true T Sp H path step L R S Q f g n ls b (c, d, ks, ms, e, is, l, r) =
    let (v, w, s, h, piece) = f n ks c l in
    let (ps, parts, s2, q, more) = g (n + length c) ms d r in (
      present v ps,
      part step (Some T) w ∷ parts,
      (v, ps, c, d, refl, e, s, s2),
      (w, parts, c, d, refl, e, h, q),
      subst (Groups path n (part step (Some T) w ∷ parts)) (sym is) (piece_then path step (Some T) n ks ms c w parts piece more),
    )
sorted_bit false T Sp H path step L R S Q f g n ls b (c, d, ks, ms, e, is, l, r) =
    let (ps, parts, s, q, more) = sorted_after S Q path n ks ms ls c d b l is e (g (n + length c) ms d r) in
    (absent ps, parts, (ps, refl, s), q, more)

none_sorted : (path : List Step) (n : ℕ) (ls : List Line) → ls ≡ [] → Groups path n [] ls
none_sorted path n ls e = subst (Every (IsOwn path)) (sym e) tt

unknown_sorted : (path : List Step) (i : ℕ) (s : List Bool) → Sorts (AreRest path i s) (SpellsUnknown (IsCounted IsItself) i s) (SplitsUnknown i s) path
unknown_sorted path i [] n ls b (none, nil) = ([], [], (refl, nil), (refl, nil), none_sorted path n ls none)
unknown_sorted path i (true ∷ s) n ls b (c, d, ks, ms, e, is, o, r) =
    let (l, w, m, ns, e2, len, a, piece) = opened None path (to_addition i) tt n ks c o in
    let (us, parts, s2, q, more) = unknown_sorted path (suc i) s (n + length c) ms d r in (
      unknown i w ∷ us,
      part (to_addition i) None w ∷ parts,
      (w, us, c, d, refl, e, (l, w, e2, len, refl), s2),
      (w, parts, c, d, refl, e, (l, w, e2, len, refl), q),
      subst (Groups path n (part (to_addition i) None w ∷ parts)) (sym is) (piece_then path (to_addition i) None n ks ms c w parts piece more),
    )
unknown_sorted path i (false ∷ s) n ls b (c, d, ks, ms, e, is, o, r) =
    sorted_after (SpellsUnknown (IsCounted IsItself) (suc i) s) (SplitsUnknown (suc i) s) path n ks ms ls c d b o is e (unknown_sorted path (suc i) s (n + length c) ms d r)

items_sorted : (T : AsnType) (path : List Step) → Kept (Some T) → ((i : ℕ) → Reads T (path ++ (to_item i ∷ []))) → (k i : ℕ) → Sorts (AreTimes (λ i. AreLines T (path ++ (to_item i ∷ []))) i k) (λ vs b. (length vs ≡ k) × IsJoined (IsSpelling T) vs b) (SplitsItems T i k) path
items_sorted T path wf f zero i n ls b (none, nil) = ([], [], (refl, nil), (refl, nil), none_sorted path n ls none)
items_sorted T path wf f (suc k) i n ls b (c, d, ks, ms, e, is, a, r) =
    let (v, w, s, h, piece) = plain_child T path (to_item i) wf (f i) n ks c a in
    let (vs, parts, (many, s2), q, more) = items_sorted T path wf f k (suc i) (n + length c) ms d r in (
      v ∷ vs,
      part (to_item i) (Some T) w ∷ parts,
      (ap suc many, (c, d, e, s, s2)),
      (w, parts, c, d, refl, e, h, q),
      subst (Groups path n (part (to_item i) (Some T) w ∷ parts)) (sym is) (piece_then path (to_item i) (Some T) n ks ms c w parts piece more),
    )

-- ---- an alternative

sorted_tag : (same : Bool) (T : AsnType) (Sp : AsnValue → List ℕ → Type 0) (H : List ℕ → List ℕ → Type 0) (path : List Step) (L R : ℕ → List Line → List ℕ → Type 0) (S : AsnValue → List ℕ → Type 0) (Q : List Part → List ℕ → Type 0)
    → ((n : ℕ) (ks : List Line) (c : List ℕ) → L n ks c → Child T Sp H path to_chosen n ks c) → Sorts R S Q path → Sorts (AreEither same L R) (ByTag same Sp S) (AloneByTag same (IsAlone (Some T) H) Q) path
sorted_tag true T Sp H path L R S Q f g n ls b l =
    let (v, w, s, h, piece) = f n ls b l in
    (v, part to_chosen (Some T) w ∷ [], s, (w, refl, h), piece_alone path to_chosen (Some T) n ls b w piece)
sorted_tag false T Sp H path L R S Q f g n ls b r = g n ls b r

abbrev SplitsChosen : Alternatives → Tag → List Part → List ℕ → Type 0
SplitsChosen more t parts c = SplitsAlternative more t parts c ⊎ ((has_tag t more ≡ false) × IsAlone None (IsCounted IsItself) parts c)

chosen_sorted : (extensible : Bool) (more : Alternatives) (path : List Step) (t : Tag) → Sorts (AreAlternative more (path ++ (to_chosen ∷ [])) t) (SpellsAlternative more t) (SplitsAlternative more t) path
    → Sorts (AreEither (has_tag t more) (AreAlternative more (path ++ (to_chosen ∷ [])) t) (AreEither extensible (AreUnknown (path ++ (to_chosen ∷ []))) AreNever)) (SpellsChosen extensible more (SpellsAlternative more t) t) (SplitsChosen more t) path
chosen_sorted extensible more path t f n ls b r = by (has_tag t more) extensible refl refl r
  where
    by : (h x : Bool) → has_tag t more ≡ h → extensible ≡ x → AreEither h (AreAlternative more (path ++ (to_chosen ∷ [])) t) (AreEither x (AreUnknown (path ++ (to_chosen ∷ []))) AreNever) n ls b
        → Sorted (SpellsChosen extensible more (SpellsAlternative more t) t) (SplitsChosen more t) path n ls b
    by true x is ext a = let (v, parts, s, q, g) = f n ls b a in (chosen t v, parts, inl (v, refl, s), inl q, g)
    by false true is ext o =
        let (l, w, m, ns, e, len, a, piece) = opened None path to_chosen tt n ls b o in
        (foreign t w, part to_chosen None w ∷ [], inr (w, refl, ext, is, (l, w, e, len, refl)), inr (is, (w, refl, (l, w, e, len, refl))), piece_alone path to_chosen None n ls b w piece)
    by false false is ext o = absurd o

-- ---- additions

extension_sorted : (x : Bool) (more : Additions) (path : List Step) → ((s : List Bool) → Sorts (AreAdditions more path 0 s) (SpellsAdditions more s) (SplitsAdditions more 0 s) path)
    → Sorts (AreExtension x more path (AreAdditions more path 0)) (λ (y : Places × List Unknown) e. SpellsExtension x more (SpellsAdditions more) y.0 y.1 e) (SplitsExtension x more) path
extension_sorted false more path f n ls b (none, nil) = ((all_absent more, []), [], (refl, refl, nil), (refl, nil), none_sorted path n ls none)
extension_sorted true more path f n ls b (s, m, d, ms, e, is, (map, low), (a, u, ks, ns, e2, is2, r, t)) =
    let (added, p, s2, q, g) = f s (n + length m) ks a r in
    let (us, p2, s3, q2, g2) = unknown_sorted path (addition_count more) (drop (addition_count more) s) ((n + length m) + length a) ns u t in
    let whole : b ≡ m ++ (a ++ u) = e ∙ ap (λ (w : List ℕ). m ++ w) e2 in (
      (added, us),
      p ++ p2,
      (s, m, a, u, whole, map, low, s2, s3),
      (s, m, p, p2, a, u, refl, whole, map, q, q2),
      own_then path Bitmap n ls ms m (p ++ p2) refl is
          (subst (Groups path (n + length m) (p ++ p2)) (sym is2)
          (groups_join path (n + length m) ((n + length m) + length a) p p2 ks ns g (ap (λ (w : List ℕ). (n + length m) + length w) (sym (additions_fine more path 0 s (n + length m) ks a r).0)) g2)),
    )

-- ---- a value

extensible_sorted : (fs : Fields) (more : Additions) (path : List Step) → ((s : List Bool) → Sorts (AreFields fs path 0 s) (SpellsFields fs s) (SplitsFields fs 0 s) path)
    → ((x : Bool) → Sorts (AreExtension x more path (AreAdditions more path 0)) (λ (y : Places × List Unknown) e. SpellsExtension x more (SpellsAdditions more) y.0 y.1 e) (SplitsExtension x more) path)
    → Sorts (AreLines (extensible_sequence fs more) path) (IsSpelling (extensible_sequence fs more)) (IsSplit (extensible_sequence fs more)) path
extensible_sorted fs more path f g n ls b ([], p, d, ms, e, is, (len, pre), more_lines) = absurd (cc)
extensible_sorted fs more path f g n ls b (x ∷ s, p, d, ms, e, is, (len, pre), (r, a, ks, ns, e2, is2, root_lines, added_lines)) =
    let (root, parts, s2, q, h) = f s (n + length p) ks r root_lines in
    let (added, parts2, s3, q2, h2) = g x ((n + length p) + length r) ns a added_lines in
    let whole : b ≡ p ++ (r ++ a) = e ∙ ap (λ (w : List ℕ). p ++ w) e2 in
    let many : length s ≡ optional fs = omega (arith, len) in (
      seq root added.0 added.1,
      parts ++ parts2,
      (root, added.0, added.1, x, s, p, r, a, refl, whole, many, pre, s2, s3),
      (x, s, p, r, a, parts, parts2, refl, whole, many, pre, q, q2),
      own_then path Preamble n ls ms p (parts ++ parts2) refl is
          (subst (Groups path (n + length p) (parts ++ parts2)) (sym is2)
          (groups_join path (n + length p) ((n + length p) + length r) parts parts2 ks ns h (ap (λ (w : List ℕ). (n + length p) + length w) (sym (fields_fine fs path 0 s (n + length p) ks r root_lines).0)) h2)),
    )

sequence_sorted : (fs : Fields) (path : List Step) → ((s : List Bool) → Sorts (AreFields fs path 0 s) (SpellsFields fs s) (SplitsFields fs 0 s) path) → Sorts (AreLines (sequence fs) path) (IsSpelling (sequence fs)) (IsSplit (sequence fs)) path
sequence_sorted fs path f n ls b (s, p, r, ms, e, is, (len, pre), lines) =
    let (root, parts, s2, q, g) = f s (n + length p) ms r lines in
    (seq root no_places [], parts, (root, s, p, r, refl, e, len, pre, s2), (s, p, r, e, len, pre, q), own_then path Preamble n ls ms p parts refl is g)

list_sorted : (size : Size) (T : AsnType) (path : List Step) → Kept (Some T) → ((i : ℕ) → Reads T (path ++ (to_item i ∷ []))) → Sorts (AreLines (sequence_of size T) path) (IsSpelling (sequence_of size T)) (IsSplit (sequence_of size T)) path
list_sorted size T path wf f n ls b (k, q, es, ms, e, is, (counted, fits), lines) =
    let (vs, parts, (many, s), sp, g) = items_sorted T path wf f k 0 (n + length q) ms es lines in (
      items (listed vs),
      parts,
      (vs, q, es, refl, e, subst (λ (i : ℕ). IsCounted (StandsFor unsigned) i q) (sym many) counted, ap (size_fits size) many ∙ fits, s),
      (k, q, es, e, counted, fits, sp),
      own_then path Quantity n ls ms q parts refl is g,
    )

choice_sorted : (extensible : Bool) (more : Alternatives) (path : List Step) → ((t : Tag) → Sorts (AreAlternative more (path ++ (to_chosen ∷ [])) t) (SpellsAlternative more t) (SplitsAlternative more t) path)
    → Sorts (AreLines (choice extensible more) path) (IsSpelling (choice extensible more)) (IsSplit (choice extensible more)) path
choice_sorted extensible more path f n ls b (t, p, c, ms, e, is, tagged, lines) =
    let (v, parts, s, q, g) = chosen_sorted extensible more path t (f t) (n + length p) ms c lines in
    (v, parts, (t, p, c, e, tagged, s), (t, p, c, e, tagged, q), own_then path TagRole n ls ms p parts refl is g)

leaf_sorted : (T : AsnType) (path : List Step) (n : ℕ) (ls : List Line) (b : List ℕ) → IsSplit T [] b → IsOne path Contents n ls b × ((v : AsnValue) × IsSpelling T v b) → Sorted (IsSpelling T) (IsSplit T) path n ls b
leaf_sorted T path n ls b q (e, (v, s)) = (v, [], s, q, subst (Every (IsOwn path)) (sym e) ((refl, refl), tt))

abbrev ValueSorts : AsnType → List Step → Type 0
ValueSorts T path = Sorts (AreLines T path) (IsSpelling T) (IsSplit T) path

reads : (T : AsnType) (path : List Step) → ValueSorts T path → Reads T path
reads T path f n ls b a = let h = f n ls b a in (h.0, h.2)

mutual
  pub value_sorted : (T : AsnType) → KeepsLimits T → DefaultsFit T → (path : List Step) → ValueSorts T path
  value_sorted (sequence fs) wf d path = sequence_sorted fs path (λ s. fields_sorted fs wf d path 0 s)
  value_sorted (extensible_sequence fs more) wf d path = extensible_sorted fs more path (λ s. fields_sorted fs wf.0 d.0 path 0 s) (λ x. extension_sorted x more path (λ s. additions_sorted more wf.1 d.1 path 0 s))
  value_sorted (sequence_of size T) wf d path = list_sorted size T path (wf.1, d) (λ i. reads T (path ++ (to_item i ∷ [])) (value_sorted T wf.1 d (path ++ (to_item i ∷ []))))
  value_sorted (choice extensible more) wf d path = choice_sorted extensible more path (λ t. alternative_sorted more wf d path t)
  value_sorted (leaf kind) wf d path = λ n ls b a. leaf_sorted (leaf kind) path n ls b refl a

  fields_sorted : (fs : Fields) → FieldsKeepLimits fs → FieldDefaultsFit fs → (path : List Step) (i : ℕ) (s : List Bool) → Sorts (AreFields fs path i s) (SpellsFields fs s) (SplitsFields fs i s) path
  fields_sorted no_fields wf d path i s = λ n ls b a. (no_places, [], (refl, a.1), (refl, a.1), none_sorted path n ls a.0)
  fields_sorted (field name must T fs) wf d path i s = sorted_bit true T (IsSpelling T) (Holds T) path (to_component i) (AreLines T (path ++ (to_component i ∷ []))) (AreFields fs path (suc i) s) (SpellsFields fs s) (SplitsFields fs (suc i) s)
      (plain_child T path (to_component i) (wf.0, d.0) (reads T (path ++ (to_component i ∷ [])) (value_sorted T wf.0 d.0 (path ++ (to_component i ∷ []))))) (fields_sorted fs wf.1 d.2 path (suc i) s)
  fields_sorted (field name may T fs) wf d path i s = sorted_bit (first_bit s) T (IsSpelling T) (Holds T) path (to_component i) (AreLines T (path ++ (to_component i ∷ []))) (AreFields fs path (suc i) (later_bits s)) (SpellsFields fs (later_bits s)) (SplitsFields fs (suc i) (later_bits s))
      (plain_child T path (to_component i) (wf.0, d.0) (reads T (path ++ (to_component i ∷ [])) (value_sorted T wf.0 d.0 (path ++ (to_component i ∷ []))))) (fields_sorted fs wf.1 d.2 path (suc i) (later_bits s))
  fields_sorted (field name (default x) T fs) wf d path i s = sorted_bit (first_bit s) T (IsSpelling T) (Holds T) path (to_component i) (AreLines T (path ++ (to_component i ∷ []))) (AreFields fs path (suc i) (later_bits s)) (SpellsFields fs (later_bits s)) (SplitsFields fs (suc i) (later_bits s))
      (plain_child T path (to_component i) (wf.0, d.0) (reads T (path ++ (to_component i ∷ [])) (value_sorted T wf.0 d.0 (path ++ (to_component i ∷ []))))) (fields_sorted fs wf.1 d.2 path (suc i) (later_bits s))

  additions_sorted : (more : Additions) → AdditionsKeepLimits more → AdditionDefaultsFit more → (path : List Step) (i : ℕ) (s : List Bool) → Sorts (AreAdditions more path i s) (SpellsAdditions more s) (SplitsAdditions more i s) path
  additions_sorted no_additions wf d path i s = λ n ls b a. (no_places, [], (refl, a.1), (refl, a.1), none_sorted path n ls a.0)
  additions_sorted (addition name T more) wf d path i s = sorted_bit (first_bit s) T (IsCounted (IsSpelling T)) (IsCounted (Holds T)) path (to_addition i) (AreOpen (path ++ (to_addition i ∷ [])) (AreLines T (path ++ (to_addition i ∷ [])))) (AreAdditions more path (suc i) (later_bits s)) (SpellsAdditions more (later_bits s)) (SplitsAdditions more (suc i) (later_bits s))
      (open_child T path (to_addition i) (wf.0, d.0) (reads T (path ++ (to_addition i ∷ [])) (value_sorted T wf.0 d.0 (path ++ (to_addition i ∷ []))))) (additions_sorted more wf.1 d.1 path (suc i) (later_bits s))

  alternative_sorted : (more : Alternatives) → AlternativesKeepLimits more → AlternativeDefaultsFit more → (path : List Step) (t : Tag) → Sorts (AreAlternative more (path ++ (to_chosen ∷ [])) t) (SpellsAlternative more t) (SplitsAlternative more t) path
  alternative_sorted no_alternatives wf d path t = λ n ls b a. absurd a
  alternative_sorted (alternative name u T more) wf d path t = sorted_tag (same_tag u t) T (IsSpelling T) (Holds T) path (AreLines T (path ++ (to_chosen ∷ []))) (AreAlternative more (path ++ (to_chosen ∷ [])) t) (SpellsAlternative more t) (SplitsAlternative more t)
      (plain_child T path to_chosen (wf.0, d.0) (reads T (path ++ (to_chosen ∷ [])) (value_sorted T wf.0 d.0 (path ++ (to_chosen ∷ []))))) (alternative_sorted more wf.1 d.1 path t)
  alternative_sorted (later name u T more) wf d path t = sorted_tag (same_tag u t) T (IsCounted (IsSpelling T)) (IsCounted (Holds T)) path (AreOpen (path ++ (to_chosen ∷ [])) (AreLines T (path ++ (to_chosen ∷ [])))) (AreAlternative more (path ++ (to_chosen ∷ [])) t) (SpellsAlternative more t) (SplitsAlternative more t)
      (open_child T path to_chosen (wf.0, d.0) (reads T (path ++ (to_chosen ∷ [])) (value_sorted T wf.0 d.0 (path ++ (to_chosen ∷ []))))) (alternative_sorted more wf.1 d.1 path t)
