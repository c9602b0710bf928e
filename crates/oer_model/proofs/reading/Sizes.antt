-- A value has no more parts than its type's, times the octets of its encoding.
use Rattle.std.proofs.Common.{◌≡◌, ℕ, suc, inl, inr, drop, ◌+◌, ◌*◌, ◌≤◌, max, List, [], ◌∷◌, ◌++◌, length, Bool, true, false, ap, ◌∙◌, arith, length-append, mul-le-mul_left, mul-pos}
use Rattle.oer_units.specs.Spelling.{IsCounted, IsJoined}
use Rattle.oer_units.specs.declared.tagging.Tag.{Tag}
use Rattle.oer_model.proofs.fitting.Leaves.{leaf_is, leaf_some}
use Rattle.oer_model.proofs.reading.Main.{takes_some, preamble_some, tag_some}
use Rattle.oer_model.proofs.reading.Parts.{len_some}
use Rattle.oer_model.specs.LeafType.{LeafType}
use Rattle.oer_model.specs.AsnType.{Additions, Alternatives, AsnType, Fields, Need, addition, alternative, boolean, choice, default, extensible_sequence, field, later, leaf, may, must, no_additions, no_alternatives, no_fields, sequence, sequence_of}
use Rattle.oer_model.specs.AsnValue.{AsnValue, Places, Unknown}
use Rattle.oer_model.specs.Bits.{first_bit, later_bits}
use Rattle.oer_model.specs.Constraints.{addition_count, same_tag, KeepsLimits, FieldsKeepLimits, AdditionsKeepLimits, AlternativesKeepLimits}
use Rattle.oer_model.specs.Encoding.{ByBit, ByNeed, ByTag, IsAbsent, IsItself, IsLeafSpelling, IsPresent, IsSpelling, SpellsAdditions, SpellsAlternative, SpellsExtension, SpellsFields, SpellsUnknown}
use Rattle.oer_model.specs.Fits.{listed, all_absent}
use Rattle.oer_model.specs.Nodes.{additions_nodes, alternatives_nodes, contents, fields_nodes, leaf_nodes, nodes, places_nodes, type_nodes, values_nodes}

some_nodes : (T : AsnType) → 1 ≤ type_nodes T
some_nodes boolean = omega arith
some_nodes _ = omega arith

-- at most n parts for each of m octets
abbrev Bounded : {A : Type 0} → (A → ℕ) → ℕ → (A → List ℕ → Type 0) → Type 0
Bounded {A} count n S = (v : A) (b : List ℕ) (m : ℕ) → 1 ≤ m → length b ≤ m → S v b → count v ≤ n * m

one_node : (n m : ℕ) → 1 ≤ n → 1 ≤ m → 1 ≤ n * m
one_node n m l k = mul-pos l k

counted_bounded : (n : ℕ) (S : AsnValue → List ℕ → Type 0) → Bounded nodes n S → Bounded nodes n (IsCounted S)
counted_bounded n S f v b m some fits (l, c, e, len, s) = f v c m some (omega (arith, ap length e, length-append l c)) s

present_bounded : (n k : ℕ) (S : AsnValue → List ℕ → Type 0) (Rest : Places → List ℕ → Type 0) → Bounded nodes n S → Bounded places_nodes k Rest → Bounded places_nodes (n + k) (IsPresent S Rest)
present_bounded n k S Rest f g ps b m some fits (v, rest, b1, b2, is, e, s, r) =
    let i = f v b1 m some (omega (arith, ap length e, length-append b1 b2)) s in
    let j = g rest b2 m some (omega (arith, ap length e, length-append b1 b2)) r in
    omega (arith, ap places_nodes is)

absent_bounded : (n k : ℕ) (Rest : Places → List ℕ → Type 0) → 1 ≤ n → Bounded places_nodes k Rest → Bounded places_nodes (n + k) (IsAbsent Rest)
absent_bounded n k Rest l g ps b m some fits (rest, is, r) =
    let i = one_node n m l some in
    let j = g rest b m some fits r in
    omega (arith, ap places_nodes is)

bit_bounded : (x : Bool) (n k : ℕ) (S : AsnValue → List ℕ → Type 0) (Rest : Places → List ℕ → Type 0) → 1 ≤ n → Bounded nodes n S → Bounded places_nodes k Rest → Bounded places_nodes (n + k) (ByBit x S Rest)
bit_bounded true n k S Rest l f g = present_bounded n k S Rest f g
bit_bounded false n k S Rest l f g = absent_bounded n k Rest l g

need_bounded : (need : Need) (n k : ℕ) (S : AsnValue → List ℕ → Type 0) (Rest : List Bool → Places → List ℕ → Type 0) → 1 ≤ n → Bounded nodes n S → ((s : List Bool) → Bounded places_nodes k (Rest s)) → (s : List Bool) → Bounded places_nodes (n + k) (ByNeed need S Rest s)
need_bounded must n k S Rest l f g s = present_bounded n k S (Rest s) f (g s)
need_bounded may n k S Rest l f g s = bit_bounded (first_bit s) n k S (Rest (later_bits s)) l f (g (later_bits s))
need_bounded (default d) n k S Rest l f g s = bit_bounded (first_bit s) n k S (Rest (later_bits s)) l f (g (later_bits s))

tag_bounded : (same : Bool) (n k : ℕ) (S Rest : AsnValue → List ℕ → Type 0) → Bounded nodes n S → Bounded nodes k Rest → Bounded nodes (n + k) (ByTag same S Rest)
tag_bounded true n k S Rest f g v b m some fits s = let i = f v b m some fits s in omega arith
tag_bounded false n k S Rest f g v b m some fits s = let i = g v b m some fits s in omega arith

every_bounded : (n : ℕ) (S : AsnValue → List ℕ → Type 0) → Bounded nodes n S → ((v : AsnValue) (b : List ℕ) → S v b → 1 ≤ length b) → (vs : List AsnValue) (b : List ℕ) → IsJoined S vs b → values_nodes (listed vs) ≤ n * length b
every_bounded n S f some [] b e = omega arith
every_bounded n S f some (v ∷ vs) b (b1, b2, e, s, r) =
    let i = f v b1 (length b1) (some v b1 s) (omega arith) s in
    let j = every_bounded n S f some vs b2 r in
    let whole : length b ≡ length b1 + length b2 = ap length e ∙ length-append b1 b2 in
    let k : n * length b ≡ n * (length b1 + length b2) = ap (λ j. n * j) whole in
    omega arith

absent_count : (more : Additions) (m : ℕ) → 1 ≤ m → places_nodes (all_absent more) ≤ additions_nodes more * m
absent_count no_additions m some = omega arith
absent_count (addition name T more) m some = let i = one_node (type_nodes T) m (some_nodes T) some in let j = absent_count more m some in omega arith

pub counted_octets_long : (w b : List ℕ) → IsCounted IsItself w b → 1 + length w ≤ length b
counted_octets_long w b (l, c, e, len, is) = omega (arith, ap length e, length-append l c, len_some (length c) l len, ap length is)

-- each unknown addition takes an octet besides its content
pub unknown_long : (n : ℕ) (s : List Bool) (us : List Unknown) (b : List ℕ) → SpellsUnknown (IsCounted IsItself) n s us b → length us + contents us ≤ length b
unknown_long n [] us b (is, e) = omega (arith, ap length is, ap contents is)
unknown_long n (true ∷ s) us b (w, rest, b1, b2, is, e, k, r) = omega (arith, ap length is, ap contents is, ap length e, length-append b1 b2, counted_octets_long w b1 k, unknown_long (suc n) s rest b2 r)
unknown_long n (false ∷ s) us b p = unknown_long (suc n) s us b p

extension_bounded : (x : Bool) (more : Additions) (S : List Bool → Places → List ℕ → Type 0) → ((s : List Bool) → Bounded places_nodes (additions_nodes more) (S s)) → (ps : Places) (us : List Unknown) (b : List ℕ) (m : ℕ) → 1 ≤ m → length b ≤ m → SpellsExtension x more S ps us b → (places_nodes ps ≤ additions_nodes more * m) × (length us ≤ length b)
extension_bounded false more S f ps us b m some fits (is, none, e) = let i = absent_count more m some in (omega (arith, ap places_nodes is), omega (arith, ap length none))
extension_bounded true more S f ps us b m some fits (s, k, a, u, e, j, zeros, x, r) =
    let whole : length b ≡ length k + (length a + length u) = omega (arith, ap length e, length-append k (a ++ u), length-append a u) in
    (f s ps a m some (omega arith) x, omega (arith, unknown_long (addition_count more) (drop (addition_count more) s) us u r))

leaf_bounded : (n m k : ℕ) → k ≡ 1 → 1 ≤ n → 1 ≤ m → k ≤ n * m
leaf_bounded n m k e l some = let i = one_node n m l some in omega arith

leaf_is_bounded : (kind : LeafType) → Bounded nodes (leaf_nodes kind) (IsLeafSpelling kind)
leaf_is_bounded kind v b m some fits s = leaf_bounded (leaf_nodes kind) m (nodes v) (ap nodes (leaf_is kind v b s).1) (leaf_some kind) some

mutual
  pub value_bounded : (T : AsnType) → KeepsLimits T → Bounded nodes (type_nodes T) (IsSpelling T)
  value_bounded (leaf kind) w v b m some fits s = leaf_is_bounded kind v b m some fits s
  value_bounded (sequence fs) w v b m some fits (root, s, p, r, is, e, i, pre, x) =
      let j = fields_bounded fs w s root r m some (omega (arith, ap length e, length-append p r)) x in omega (arith, ap nodes is)
  value_bounded (extensible_sequence fs more) w v b m some fits (root, added, us, x, s, p, r, a, is, e, i, pre, f, ext) =
      let whole : length b ≡ length p + (length r + length a) = omega (arith, ap length e, length-append p (r ++ a), length-append r a) in
      let j = fields_bounded fs w.0 s root r m some (omega arith) f in
      let k = extension_bounded x more (SpellsAdditions more) (adds_bounded more w.1) added us a m some (omega arith) ext in
      let h = preamble_some (x ∷ s) p (omega arith) pre in
      omega (arith, ap nodes is)
  value_bounded (sequence_of size T) w v b m some fits (vs, q, es, is, e, k, ok, x) =
      let j = every_bounded (type_nodes T) (IsSpelling T) (value_bounded T w.1) (takes_some T w.0) vs es x in
      let h : type_nodes T * length es ≤ type_nodes T * m = mul-le-mul_left (type_nodes T) (omega (arith, ap length e, length-append q es)) in
      omega (arith, ap nodes is)
  value_bounded (choice extensible more) w v b m some fits (t, p, c, e, tag, inr (x, is, o, none, k)) =
      let two : 2 ≤ m = omega (arith, ap length e, length-append p c, tag_some t p tag, counted_octets_long x c k) in
      omega (arith, ap nodes is)
  value_bounded (choice extensible more) w v b m some fits (t, p, c, e, tag, inl (x, is, k)) =
      let j = alts_bounded more w t x c m some (omega (arith, ap length e, length-append p c)) k in omega (arith, ap nodes is)

  fields_bounded : (fs : Fields) → FieldsKeepLimits fs → (s : List Bool) → Bounded places_nodes (fields_nodes fs) (SpellsFields fs s)
  fields_bounded no_fields w s ps b m some fits (is, e) = omega (arith, ap places_nodes is)
  fields_bounded (field name need T fs) w s ps b m some fits x = need_bounded need (type_nodes T) (fields_nodes fs) (IsSpelling T) (SpellsFields fs) (some_nodes T) (value_bounded T w.0) (fields_bounded fs w.1) s ps b m some fits x

  adds_bounded : (more : Additions) → AdditionsKeepLimits more → (s : List Bool) → Bounded places_nodes (additions_nodes more) (SpellsAdditions more s)
  adds_bounded no_additions w s ps b m some fits (is, e) = omega (arith, ap places_nodes is)
  adds_bounded (addition name T more) w s ps b m some fits x = bit_bounded (first_bit s) (type_nodes T) (additions_nodes more) (IsCounted (IsSpelling T)) (SpellsAdditions more (later_bits s)) (some_nodes T) (counted_bounded (type_nodes T) (IsSpelling T) (value_bounded T w.0)) (adds_bounded more w.1 (later_bits s)) ps b m some fits x

  alts_bounded : (more : Alternatives) → AlternativesKeepLimits more → (t : Tag) → Bounded nodes (alternatives_nodes more) (SpellsAlternative more t)
  alts_bounded no_alternatives w t v b m some fits x = absurd x
  alts_bounded (alternative name u T more) w t v b m some fits x = tag_bounded (same_tag u t) (type_nodes T) (alternatives_nodes more) (IsSpelling T) (SpellsAlternative more t) (value_bounded T w.0) (alts_bounded more w.1 t) v b m some fits x
  alts_bounded (later name u T more) w t v b m some fits x = tag_bounded (same_tag u t) (type_nodes T) (alternatives_nodes more) (IsCounted (IsSpelling T)) (SpellsAlternative more t) (counted_bounded (type_nodes T) (IsSpelling T) (value_bounded T w.0)) (alts_bounded more w.1 t) v b m some fits x

pub nodes_bounded : (T : AsnType) → KeepsLimits T → (v : AsnValue) (b : List ℕ) → IsSpelling T v b → nodes v ≤ type_nodes T * max 1 (length b)
nodes_bounded T w v b s = value_bounded T w v b (max 1 (length b)) (omega arith) (omega arith) s
