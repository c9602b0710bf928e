-- Values after DEFAULT, items, tags and Names that are read are spelt so.
use Rattle.std.proofs.Common.{◌≡◌, ℕ, zero, suc, ◌^◌, ◌<◌, ℤ, List, [], ◌∷◌, ◌++◌, length, map, Bool, true, false, cond, inl, inr, Option, Some, None, Ok, refl, sym, subst, ◌∙◌, append_assoc, append-nil, nat_lt, arith}
use Rattle.std.specs.Prelude.{codes}
use Rattle.std.specs.Int.{w128}
use Rattle.std.specs.Str.{bytes_eq}
use Rattle.std.proofs.lemmas.Bool.{ltb-true}
use Rattle.std.proofs.lemmas.Slice.Eq.{bytes_eq-Decides}
use Rattle.oer_lexer.specs.Token.{Token, word, bits, digits, text, sign}
use Rattle.oer_lexer.specs.declared.token.Sign.TheVariants.{OpenBrace, CloseBrace}
use Rattle.oer_model.specs.LeafType.{LeafType}
use Rattle.oer_model.specs.LeafType as leaf_type
use Rattle.oer_model.specs.AsnType.{AsnType, NamedNumber, Need, bit_string, boolean, default, enumerated, integer, leaf, may, must, null, object_id, octet_string, restricted_string, utf8_string}
use Rattle.oer_model.specs.AsnValue.{AsnValue, bit_list, bool, enum, int, nothing, octets, oid, text as string}
use Rattle.oer_model.specs.declared.size.Size.{Size}
use Rattle.oer_notation.specs.Grammar.{IsInteger, IsNatural, IsItemNamed, this_item, later_item, between_quotes, text_of, AreArcs, no_arcs, an_arc, IsValue, true_value, false_value, null_value, number_value as a_number_value, item_value, octets_value, digit_bits_value, bits_value as a_bits_value, text_value, utf8_value, arcs_value, IsNeed, needed, optional, with_default}
use Rattle.oer_literals.specs.Bits.{is_one}
use Rattle.oer_literals.specs.Items.{number_named}
use Rattle.oer_literals.specs.Numbers.{arc_of, integer_of}
use Rattle.oer_value_notation.specs.Numbers.{number_at}
use Rattle.oer_value_notation.specs.State.{State, first, bump, at_sign, at_word, skip_sign}
use Rattle.oer_value_notation.specs.Values.{inside, octets_in, digit_bits, text_in, is_number, arcs_more, arcs_at, some_value, truth_at, null_at, integer_at, item_by, bits_by, octets_by, text_by, oid_at, leaf_value_at, value_at, need_at}
use Rattle.oer_value_notation.specs.Words.{is_id}
use Rattle.oer_notation.proofs.Digits.{octets_in_sound, digit_bits_sound, text_in_is}
use Rattle.oer_notation.proofs.SoundNumbers.{bound_sound, arc_sound}
use Rattle.oer_notation.proofs.Took.{bind_ok, chosen, same_ok, same_bytes, small, Took, stay, both, after, ends, answered, one_is, take_first, sign_took, word_took, skip_sign_took, number_took}

-- ---- ids of items

by_name : (b : Bool) (i : NamedNumber) (is : List NamedNumber) (w : List ℕ) (z : ℤ) → bytes_eq i.name w ≡ b → (number_named is w ≡ Some z → IsItemNamed w z is) → cond b (Some i.number) (number_named is w) ≡ Some z → IsItemNamed w z (i ∷ is)
by_name true i is w z e f h = subst (λ z. IsItemNamed w z (i ∷ is)) (cc) (this_item {is = is} (same_bytes i.name w e))
by_name false i is w z e f h = later_item (λ same. let on = (bytes_eq-Decides i.name w).1 same in cc) (f h)

pub named_sound : (is : List NamedNumber) (w : List ℕ) (z : ℤ) → number_named is w ≡ Some z → IsItemNamed w z is
named_sound [] w z h = absurd (cc)
named_sound (i ∷ is) w z h = by_name (bytes_eq i.name w) i is w z refl (named_sound is w z) h

-- ---- one token

some_took : {A : Type 0} (make : A → AsnValue) (T : AsnType) (o : Option A) (t : Token) (s : State) (r : AsnValue × State) → ((x : A) → o ≡ Some x → IsValue T (make x) (t ∷ [])) → first s ≡ Some t → some_value make o s ≡ Ok r → Took s r.1 (IsValue T r.0)
some_took make T (Some x) t s r f e h = answered (IsValue T) (make x, bump s) r h (ends t (IsValue T (make x)) (take_first s t e) (f x refl))
some_took make T None t s r f e h = absurd (cc)

truth_took : (s : State) (r : AsnValue × State) → truth_at s ≡ Ok r → Took s r.1 (IsValue boolean r.0)
unfolding truth_at
truth_took s r h = elim (chosen (at_word (codes "TRUE") s) _ _ _ h) [
  | inl p ↦ answered (IsValue boolean) (bool true, bump s) r p.1 (ends (word (codes "TRUE")) (IsValue boolean (bool true)) (word_took (codes "TRUE") s p.0) true_value)
  | inr p ↦ elim (chosen (at_word (codes "FALSE") s) _ _ _ p.1) [
    | inl p ↦ answered (IsValue boolean) (bool false, bump s) r p.1 (ends (word (codes "FALSE")) (IsValue boolean (bool false)) (word_took (codes "FALSE") s p.0) false_value)
    | inr p ↦ absurd (cc)
  ]
]

null_took : (s : State) (r : AsnValue × State) → null_at s ≡ Ok r → Took s r.1 (IsValue null r.0)
unfolding null_at
null_took s r h = elim (chosen (at_word (codes "NULL") s) _ _ _ h) [
  | inl p ↦ answered (IsValue null) (nothing, bump s) r p.1 (ends (word (codes "NULL")) (IsValue null nothing) (word_took (codes "NULL") s p.0) null_value)
  | inr p ↦ absurd (cc)
]

integer_took : (low high : Option ℤ) (s : State) (r : AsnValue × State) → integer_at s ≡ Ok r → Took s r.1 (IsValue (integer low high) r.0)
unfolding integer_at
integer_took low high s r h = elim (chosen (is_number (first s)) _ _ _ h) [
  | inl p ↦ (
      let n = bind_ok (number_at integer_of s) _ r p.1 in
      let t = number_took integer_of (IsInteger w128) bound_sound s n.0 n.1 in
      answered (IsValue (integer low high)) (int n.0.0, n.0.1) r n.2 (ends t.holds.0 (IsValue (integer low high) (int n.0.0)) (one_is t) (a_number_value t.holds.2)))
  | inr p ↦ absurd (cc)
]

item_took : (items : List NamedNumber) (marker : Bool) (o : Option Token) (s : State) (r : AsnValue × State) → first s ≡ o → item_by items o s ≡ Ok r → Took s r.1 (IsValue (enumerated items marker) r.0)
item_took items marker (Some (word w)) s r e h = elim (chosen (is_id w) _ _ _ h) [
  | inl p ↦ some_took enum (enumerated items marker) (number_named items w) (word w) s r (λ z h. item_value (small w p.0) (named_sound items w z h)) e p.1
  | inr p ↦ absurd (cc)
]
item_took items marker _ s r e h = absurd (cc)

bits_took : (size : Size) (o : Option Token) (s : State) (r : AsnValue × State) → first s ≡ o → bits_by o s ≡ Ok r → Took s r.1 (IsValue (bit_string size) r.0)
bits_took size (Some (bits w)) s r e h =
    let T = bit_string size in
    answered (IsValue T) (bit_list (map is_one (inside w)), bump s) r h (ends (bits w) (IsValue T (bit_list (map is_one (inside w)))) (take_first s (bits w) e) a_bits_value)
bits_took size (Some (digits w)) s r e h =
    some_took bit_list (bit_string size) (digit_bits (inside w)) (digits w) s r (λ x h. digit_bits_value (digit_bits_sound (between_quotes w) x h)) e h
bits_took size _ s r e h = absurd (cc)

octets_took : (size : Size) (o : Option Token) (s : State) (r : AsnValue × State) → first s ≡ o → octets_by o s ≡ Ok r → Took s r.1 (IsValue (octet_string size) r.0)
octets_took size (Some (digits w)) s r e h =
    some_took octets (octet_string size) (octets_in (inside w)) (digits w) s r (λ xs h. octets_value (octets_in_sound (between_quotes w) xs h)) e h
octets_took size _ s r e h = absurd (cc)

text_took : (T : AsnType) → ((w : List ℕ) → IsValue T (string (text_of w)) (text w ∷ [])) → (o : Option Token) (s : State) (r : AsnValue × State) → first s ≡ o → text_by o s ≡ Ok r → Took s r.1 (IsValue T r.0)
text_took T f (Some (text w)) s r e h =
    answered (IsValue T) (string (text_in w), bump s) r h
    (ends (text w) (IsValue T (string (text_in w))) (take_first s (text w) e) (subst (λ x. IsValue T (string x) (text w ∷ [])) (sym (text_in_is w)) (f w)))
text_took T f _ s r e h = absurd (cc)

-- ---- arcs

abbrev pub MoreArcs : State → List ℕ → List ℕ × State → Type 0
MoreArcs s found r = (arcs : List ℕ) × (r.0 ≡ found ++ arcs) × Took s r.1 (AreArcs arcs)

pub arcs_took : (n : ℕ) (found : List ℕ) (s : State) (r : List ℕ × State) → arcs_more n found s ≡ Ok r → MoreArcs s found r
unfolding arcs_more
arcs_took zero found s r h = absurd (cc)
arcs_took (suc n) found s r h = elim (chosen (is_number (first s)) _ _ _ h) [
  | inl p ↦ (
      let a = bind_ok (number_at arc_of s) _ r p.1 in
      let m = arcs_took n (found ++ a.0.0 ∷ []) a.0.1 r a.2 in
      let t = number_took arc_of (IsNatural (2 ^ 128)) arc_sound s a.0 a.1 in
      (a.0.0 ∷ m.0, m.1 ∙ append_assoc found (a.0.0 ∷ []) m.0, after t.holds.0 (AreArcs (a.0.0 ∷ m.0)) (one_is t) m.2 (λ b e. an_arc t.holds.2 e)))
  | inr p ↦ (
      let e = same_ok (found, s) r p.1 in
      subst (MoreArcs s found) e ([], sym (append-nil found), stay s (AreArcs []) no_arcs))
]

two_arcs : (arcs : List ℕ) (ts : List Token) → 1 < length arcs → AreArcs arcs ts → IsValue object_id (oid arcs) (sign OpenBrace ∷ (ts ++ sign CloseBrace ∷ []))
two_arcs [] ts l h = absurd (omega arith)
two_arcs (a ∷ []) ts l h = absurd (omega arith)
two_arcs (a ∷ b ∷ arcs) ts l h = arcs_value h

arcs_value_took : (s : State) (r : AsnValue × State) → arcs_at s ≡ Ok r → Took s r.1 (λ ts. IsValue object_id r.0 (sign OpenBrace ∷ ts))
unfolding arcs_at
arcs_value_took s r h =
    let a = bind_ok (arcs_more (suc (length s.left)) [] s) _ r h in
    elim (chosen (nat_lt 1 (length a.0.0)) _ _ _ a.2) [
      | inl p ↦ (
          let over = bind_ok (skip_sign CloseBrace a.0.1) _ r p.1 in
          let m = arcs_took (suc (length s.left)) [] s a.0 a.1 in
          let R : List Token → Type 0 = λ ts. IsValue object_id (oid a.0.0) (sign OpenBrace ∷ ts) in
          let z = both R m.2 (skip_sign_took CloseBrace a.0.1 over.0 over.1) (λ x y e f. subst (λ y. R (x ++ y)) (sym f) (two_arcs a.0.0 x (ltb-true 1 _ p.0) (subst (λ arcs. AreArcs arcs x) (sym m.1) e))) in
          answered (λ v ts. IsValue object_id v (sign OpenBrace ∷ ts)) (oid a.0.0, over.0.1) r over.2 z)
      | inr p ↦ absurd (cc)
    ]

oid_took : (s : State) (r : AsnValue × State) → oid_at s ≡ Ok r → Took s r.1 (IsValue object_id r.0)
unfolding oid_at
oid_took s r h = elim (chosen (at_sign OpenBrace s) _ _ _ h) [
  | inl p ↦ after (sign OpenBrace) (IsValue object_id r.0) (sign_took OpenBrace s p.0) (arcs_value_took (bump s) r p.1) (λ b e. e)
  | inr p ↦ absurd (cc)
]

leaf_value_took : (kind : LeafType) (s : State) (r : AsnValue × State) → leaf_value_at kind s ≡ Ok r → Took s r.1 (IsValue (leaf kind) r.0)
leaf_value_took leaf_type.boolean s r h = truth_took s r h
leaf_value_took leaf_type.null s r h = null_took s r h
leaf_value_took (leaf_type.integer low high) s r h = integer_took low high s r h
leaf_value_took (leaf_type.enumerated items extensible) s r h = item_took items extensible (first s) s r refl h
leaf_value_took (leaf_type.bit_string size) s r h = bits_took size (first s) s r refl h
leaf_value_took (leaf_type.octet_string size) s r h = octets_took size (first s) s r refl h
leaf_value_took leaf_type.object_id s r h = oid_took s r h
leaf_value_took (leaf_type.restricted_string letters size) s r h = text_took (restricted_string letters size) (λ w. text_value) (first s) s r refl h
leaf_value_took (leaf_type.utf8_string size) s r h = text_took (utf8_string size) (λ w. utf8_value) (first s) s r refl h

pub value_took : (T : AsnType) (s : State) (r : AsnValue × State) → value_at T s ≡ Ok r → Took s r.1 (IsValue T r.0)
unfolding value_at
value_took (leaf kind) s r h = leaf_value_took kind s r h
value_took _ s r h = absurd (cc)

pub need_took : (T : AsnType) (s : State) (r : Need × State) → need_at T s ≡ Ok r → Took s r.1 (IsNeed T r.0)
unfolding need_at
need_took T s r h = elim (chosen (at_word (codes "OPTIONAL") s) _ _ _ h) [
  | inl p ↦ answered (IsNeed T) (may, bump s) r p.1 (ends (word (codes "OPTIONAL")) (IsNeed T may) (word_took (codes "OPTIONAL") s p.0) optional)
  | inr p ↦ elim (chosen (at_word (codes "DEFAULT") s) _ _ _ p.1) [
    | inl p ↦ (
        let v = bind_ok (value_at T (bump s)) _ r p.1 in
        answered (IsNeed T) (default v.0.0, v.0.1) r v.2 (after (word (codes "DEFAULT")) (IsNeed T (default v.0.0)) (word_took (codes "DEFAULT") s p.0) (value_took T (bump s) v.0 v.1) (λ b e. with_default e)))
    | inr p ↦ answered (IsNeed T) (must, s) r p.1 (stay s (IsNeed T must) needed)
  ]
]
