-- The strict spelling of what fits is a list of octets.
use Rattle.std.proofs.Common.{◌≡◌, ℕ, suc, inl, inr, List, [], ◌∷◌, ◌++◌, Bool, true, false, Option, Some, None, sym, ◌∙◌, subst, arith}
use Rattle.oer_units.specs.Octets.{IsOctets}
use Rattle.oer_units.specs.Spelling.{IsTag, IsJoined}
use Rattle.oer_units.specs.declared.tagging.Tag.{Tag}
use Rattle.oer_units.proofs.LeastDigits.{base128_octet}
use Rattle.oer_units.proofs.OneSpelling.{octets_join}
use Rattle.oer_units.proofs.TagReaders.{class_below}
use Rattle.oer_model.specs.LeafType as kind
use Rattle.oer_model.specs.LeafType.{LeafType}
use Rattle.oer_model.specs.AsnType.{Additions, Alternatives, AsnType, Fields, Need, addition, alternative, choice, default, extensible_sequence, field, later, leaf, may, must, no_additions, no_alternatives, no_fields, sequence, sequence_of}
use Rattle.oer_model.specs.AsnValue.{Unknown, AsnValue, seq, items, chosen, foreign, Places, no_places, absent, present}
use Rattle.oer_model.specs.Bits.{first_bit, later_bits}
use Rattle.oer_model.specs.Constraints.{addition_count, same_tag, fixed}
use Rattle.oer_model.specs.Encoding.{IsPresent, ByBit, ByTag, IsItself, SpellsUnknown}
use Rattle.oer_model.specs.Filling.{filled}
use Rattle.oer_model.specs.Fits.{AllFit, Fits, FitsAdditions, FitsAlternative, FitsByTag, FitsFields, FitsLeaf, FitsPlace, FitsUnknown, IsMissing, IsThere, listed}
use Rattle.oer_model.specs.Strict.{IsStrictLeafSpelling, IsStrictSpelling, SpellsAdditionsStrictly, SpellsAlternativeStrictly, SpellsFieldsStrictly, StrictBitString, StrictChosen, StrictCounted, StrictExtension, StrictNeed}
use Rattle.oer_model.specs.declared.size.Size.{Size}

-- what has P is spelt by octets
abbrev AreOctets : {A : Type 0} → (A → Type 0) → (A → List ℕ → Type 0) → Type 0
AreOctets {A} P S = (x : A) (b : List ℕ) → P x → S x b → IsOctets b

tag_octets_are : (t : Tag) (p : List ℕ) → IsTag t p → IsOctets p
tag_octets_are t p (inl (e, small)) = let c = class_below t.class in subst IsOctets (sym e) (omega arith, tt)
tag_octets_are t p (inr (w, e, big, small, digits)) = let c = class_below t.class in subst IsOctets (sym e) (omega arith, base128_octet t.number w digits)

counted_are : {A : Type 0} (P : A → Type 0) (S : A → List ℕ → Type 0) → AreOctets P S → AreOctets P (StrictCounted S)
counted_are P S f x b p (l, c, e, short, s) = subst IsOctets (sym e) (octets_join l c short.0 (f x c p s))

bit_string_are : (fix : Option ℕ) (size : Size) (s : List Bool) (b : List ℕ) → StrictBitString fix size s b → IsOctets b
bit_string_are (Some n) size s b (many, (o, pre)) = o
bit_string_are None size s b (fits, (l, c, e, short, (o, x))) = subst IsOctets (sym e) (octets_join l c short.0 o)

module _ (P : AsnValue → Type 0) (S : AsnValue → List ℕ → Type 0) (f : AreOctets P S) (Q : Places → Type 0) where
  there_are : (R : Places → List ℕ → Type 0) → AreOctets Q R → (ps : Places) (b : List ℕ) → IsThere P Q ps → IsPresent S R ps b → IsOctets b
  there_are R g ps b (v', rest', is', p, q) (v, rest, b1, b2, is, e, s, r) =
      let same : present v' rest' ≡ present v rest = sym is' ∙ is in
      let one : v' ≡ v = cc in
      let others : rest' ≡ rest = cc in
      subst IsOctets (sym e) (octets_join b1 b2 (f v b1 (subst P one p) s) (g rest b2 (subst Q others q) r))

  missing_are : (R : Places → List ℕ → Type 0) → AreOctets Q R → (ps : Places) (b : List ℕ) → IsMissing Q ps → (rest : Places) → ps ≡ absent rest → R rest b → IsOctets b
  missing_are R g ps b (rest', is', q) rest is r =
      let same : absent rest' ≡ absent rest = sym is' ∙ is in
      let others : rest' ≡ rest = cc in
      g rest b (subst Q others q) r

  bit_are : (x : Bool) (R : Places → List ℕ → Type 0) → AreOctets Q R → AreOctets (FitsPlace may P Q) (ByBit x S R)
  bit_are true R g ps b (inl there) s = there_are R g ps b there s
  bit_are true R g ps b (inr (rest', is', q)) (v, rest, b1, b2, is, e, s, r) = let same : absent rest' ≡ present v rest = sym is' ∙ is in absurd (cc)
  bit_are false R g ps b (inl (v', rest', is', p, q)) (rest, is, r) = let same : present v' rest' ≡ absent rest = sym is' ∙ is in absurd (cc)
  bit_are false R g ps b (inr missing) (rest, is, r) = missing_are R g ps b missing rest is r

need_are : (need : Need) (h : AsnValue → AsnValue) (P : AsnValue → Type 0) (S : AsnValue → List ℕ → Type 0) (Q : Places → Type 0) (R : List Bool → Places → List ℕ → Type 0) → AreOctets P S → ((s : List Bool) → AreOctets Q (R s))
    → (s : List Bool) → AreOctets (FitsPlace need P Q) (StrictNeed need h S R s)
need_are must h P S Q R f g s = there_are P S f Q (R s) (g s)
need_are may h P S Q R f g s = bit_are P S f Q (first_bit s) (R (later_bits s)) (g (later_bits s))
need_are (default d) h P S Q R f g s = bit_are P (λ v c. S v c × (h v ≡ h d → ⊥)) (λ v c p t. f v c p t.0) Q (first_bit s) (R (later_bits s)) (g (later_bits s))

tag_are : (same : Bool) (P Q : AsnValue → Type 0) (S R : AsnValue → List ℕ → Type 0) → AreOctets P S → AreOctets Q R → AreOctets (FitsByTag same P Q) (ByTag same S R)
tag_are true P Q S R f g = f
tag_are false P Q S R f g = g

every_are : (P : AsnValue → Type 0) (S : AsnValue → List ℕ → Type 0) → AreOctets P S → (vs ws : List AsnValue) (b : List ℕ) → listed vs ≡ listed ws → AllFit P vs → IsJoined S ws b → IsOctets b
every_are P S f vs [] b same a e = subst IsOctets (sym e) tt
every_are P S f [] (w ∷ ws) b same a (b1, b2, e, s, r) = absurd (cc)
every_are P S f (v ∷ vs) (w ∷ ws) b same (p, a) (b1, b2, e, s, r) =
    let one : v ≡ w = cc in
    let others : listed vs ≡ listed ws = cc in
    subst IsOctets (sym e) (octets_join b1 b2 (f w b1 (subst P one p) s) (every_are P S f vs ws b2 others a r))

itself_are : AreOctets IsOctets (StrictCounted IsItself)
itself_are = counted_are IsOctets IsItself (λ w c o e. subst IsOctets (sym e) o)

unknown_are : (lowest place : ℕ) (s : List Bool) → AreOctets (FitsUnknown lowest) (SpellsUnknown (StrictCounted IsItself) place s)
unknown_are lowest place [] us b f (is, e) = subst IsOctets (sym e) tt
unknown_are lowest place (true ∷ s) us b f (w, rest, b1, b2, is, e, x, r) =
    let both = subst (FitsUnknown lowest) is f in
    subst IsOctets (sym e) (octets_join b1 b2 (itself_are w b1 both.2 x) (unknown_are (suc place) (suc place) s rest b2 both.3 r))
unknown_are lowest place (false ∷ s) us b f r = unknown_are lowest (suc place) s us b f r

extension_are : (x : Bool) (more : Additions) → ((s : List Bool) → AreOctets (FitsAdditions more) (SpellsAdditionsStrictly more s)) → (ps : Places) (us : List Unknown) (b : List ℕ) → FitsAdditions more ps → FitsUnknown (addition_count more) us → StrictExtension x more (SpellsAdditionsStrictly more) ps us b → IsOctets b
extension_are false more f ps us b p q (is, none, e) = subst IsOctets (sym e) tt
extension_are true more f ps us b p q (s, z, m, a, u, e, (fits, (l, c, e', short, (o, k))), n, i, some, zeros, x, r) =
    subst IsOctets (sym e) (octets_join m (a ++ u) (subst IsOctets (sym e') (octets_join l c short.0 o)) (octets_join a u (f s ps a p x) (unknown_are (addition_count more) (addition_count more) z us u q r)))

same_root : (r r' a a' : Places) (us us' : List Unknown) → seq r a us ≡ seq r' a' us' → (r ≡ r') × (a ≡ a') × (us ≡ us')
same_root r r' a a' us us' e = (cc, cc, cc)

chosen_are : (extensible : Bool) (more : Alternatives) → ((t : Tag) → AreOctets (FitsAlternative more t) (SpellsAlternativeStrictly more t)) → (t : Tag) (v : AsnValue) (c : List ℕ) → Fits (choice extensible more) v → StrictChosen extensible more (SpellsAlternativeStrictly more t) t v c → IsOctets c
chosen_are extensible more f t v c (inl (u, y, is', p)) (inl (x, is, k)) =
    let same : chosen u y ≡ chosen t x = sym is' ∙ is in
    let tags : u ≡ t = cc in
    let values : y ≡ x = cc in
    f t x c (subst (FitsAlternative more t) values (subst (λ u. FitsAlternative more u y) tags p)) k
chosen_are extensible more f t v c (inl (u, y, is', p)) (inr (w, is, o, none, k)) = let same : chosen u y ≡ foreign t w = sym is' ∙ is in absurd (cc)
chosen_are extensible more f t v c (inr (u, z, is', o', none', tag, os)) (inl (x, is, k)) = let same : foreign u z ≡ chosen t x = sym is' ∙ is in absurd (cc)
chosen_are extensible more f t v c (inr (u, z, is', o', none', tag, os)) (inr (w, is, o, none, k)) =
    let same : foreign u z ≡ foreign t w = sym is' ∙ is in
    let words : z ≡ w = cc in
    itself_are w c (subst IsOctets words os) k

leaf_are_octets : (kind : LeafType) → AreOctets (FitsLeaf kind) (IsStrictLeafSpelling kind)
leaf_are_octets kind.boolean v b f (true, is, e) = subst IsOctets (sym e) (omega arith, tt)
leaf_are_octets kind.boolean v b f (false, is, e) = subst IsOctets (sym e) (omega arith, tt)
leaf_are_octets kind.null v b f (is, e) = subst IsOctets (sym e) tt
leaf_are_octets (kind.bit_string size) v b f (s, is, x) = bit_string_are (fixed size) size s b x
leaf_are_octets kind v b f s = s.0

mutual
  pub strict_octets : (T : AsnType) → AreOctets (Fits T) (IsStrictSpelling T)
  strict_octets (leaf kind) v b f s = leaf_are_octets kind v b f s
  strict_octets (sequence fs) v b (root', is', p') (root, s, p, r, is, e, i, (o, pre), x) =
      let same = same_root root' root no_places no_places [] [] (sym is' ∙ is) in
      subst IsOctets (sym e) (octets_join p r o (fields_octets fs s root r (subst (FitsFields fs) same.0 p') x))
  strict_octets (extensible_sequence fs more) v b (root', added', us', is', p', q', u') (root, added, us, x, s, p, r, a, is, e, i, (o, pre), f, ext) =
      let same = same_root root' root added' added us' us (sym is' ∙ is) in
      subst IsOctets (sym e) (octets_join p (r ++ a) o (octets_join r a (fields_octets fs s root r (subst (FitsFields fs) same.0 p') f)
      (extension_are x more (adds_octets more) added us a (subst (FitsAdditions more) same.1 q') (subst (FitsUnknown (addition_count more)) same.2 u') ext)))
  strict_octets (sequence_of size T) v b (vs', is', n, a) (vs, q, es, is, e, k, fits, x) =
      let same : items (listed vs') ≡ items (listed vs) = sym is' ∙ is in
      let lists : listed vs' ≡ listed vs = cc in
      subst IsOctets (sym e) (octets_join q es k.0 (every_are (Fits T) (IsStrictSpelling T) (strict_octets T) vs' vs es lists a x))
  strict_octets (choice extensible more) v b f (t, p, c, e, tag, k) = subst IsOctets (sym e) (octets_join p c (tag_octets_are t p tag) (chosen_are extensible more (alts_octets more) t v c f k))

  fields_octets : (fs : Fields) (s : List Bool) → AreOctets (FitsFields fs) (SpellsFieldsStrictly fs s)
  fields_octets no_fields s ps b p (is, e) = subst IsOctets (sym e) tt
  fields_octets (field name need T fs) s ps b p x = need_are need (filled T) (Fits T) (IsStrictSpelling T) (FitsFields fs) (SpellsFieldsStrictly fs) (strict_octets T) (fields_octets fs) s ps b p x

  adds_octets : (more : Additions) (s : List Bool) → AreOctets (FitsAdditions more) (SpellsAdditionsStrictly more s)
  adds_octets no_additions s ps b p (is, e) = subst IsOctets (sym e) tt
  adds_octets (addition name T more) s ps b p x = bit_are (Fits T) (StrictCounted (IsStrictSpelling T)) (counted_are (Fits T) (IsStrictSpelling T) (strict_octets T)) (FitsAdditions more) (first_bit s) (SpellsAdditionsStrictly more (later_bits s)) (adds_octets more (later_bits s)) ps b p x

  alts_octets : (more : Alternatives) (t : Tag) → AreOctets (FitsAlternative more t) (SpellsAlternativeStrictly more t)
  alts_octets no_alternatives t v b p x = absurd x
  alts_octets (alternative name u T more) t v b p x = tag_are (same_tag u t) (Fits T) (FitsAlternative more t) (IsStrictSpelling T) (SpellsAlternativeStrictly more t) (strict_octets T) (alts_octets more t) v b p x
  alts_octets (later name u T more) t v b p x = tag_are (same_tag u t) (Fits T) (FitsAlternative more t) (StrictCounted (IsStrictSpelling T)) (SpellsAlternativeStrictly more t) (counted_are (Fits T) (IsStrictSpelling T) (strict_octets T)) (alts_octets more t) v b p x
