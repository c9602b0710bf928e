-- `same` decides equality.
use Rattle.std.proofs.Common.{◌≡◌, ℕ, ℤ, pos, negsuc, Bool, true, false, ◌&&◌, eqb, List, [], ◌∷◌, refl, sym, ◌∙◌, ap, eqb-true, eq-eqb}
use Rattle.std.proofs.lemmas.Bool.{false≢true}
use Rattle.oer_units.specs.Reading.{class_of}
use Rattle.oer_units.specs.Spelling.{class_number}
use Rattle.oer_units.specs.declared.tagging.Tag.{Tag}
use Rattle.oer_units.proofs.TagReaders.{class_is}
use Rattle.oer_model.specs.LeafValue as kind
use Rattle.oer_model.specs.LeafValue.{LeafValue}
use Rattle.oer_model.specs.AsnValue.{AsnValue, Places, Unknown, Values, absent, chosen, foreign, items, leaf_value, no_places, no_values, present, seq, unknown, value}
use Rattle.oer_model.specs.Canonical.{same, same_bits, same_bool, same_int, same_leaf, same_list, same_places, same_unknown, same_values}
use Rattle.oer_model.specs.Constraints.{same_tag}

and_left : (a b : Bool) → (a && b) ≡ true → a ≡ true
and_left true b e = refl
and_left false b e = absurd (false≢true e)

and_right : (a b : Bool) → (a && b) ≡ true → b ≡ true
and_right true b e = e
and_right false b e = absurd (false≢true e)

and_both : (a b : Bool) → a ≡ true → b ≡ true → (a && b) ≡ true
and_both true b p q = q
and_both false b p q = p

same_bool-true : (a b : Bool) → same_bool a b ≡ true → a ≡ b
same_bool-true true b e = sym e
same_bool-true false true e = absurd (false≢true e)
same_bool-true false false e = refl

same_bool-refl : (a : Bool) → same_bool a a ≡ true
same_bool-refl true = refl
same_bool-refl false = refl

same_int-true : (x y : ℤ) → same_int x y ≡ true → x ≡ y
same_int-true (pos n) (pos m) e = ap pos (eqb-true n m e)
same_int-true (negsuc n) (negsuc m) e = ap negsuc (eqb-true n m e)
same_int-true (pos n) (negsuc m) e = absurd (false≢true e)
same_int-true (negsuc n) (pos m) e = absurd (false≢true e)

same_int-refl : (x : ℤ) → same_int x x ≡ true
same_int-refl (pos n) = eq-eqb n n refl
same_int-refl (negsuc n) = eq-eqb n n refl

pub same_list-true : (x y : List ℕ) → same_list x y ≡ true → x ≡ y
same_list-true [] [] e = refl
same_list-true (x ∷ xs) (y ∷ ys) e =
    let p = eqb-true x y (and_left (eqb x y) (same_list xs ys) e) in
    let q = same_list-true xs ys (and_right (eqb x y) (same_list xs ys) e) in
    cc
same_list-true [] (y ∷ ys) e = absurd (false≢true e)
same_list-true (x ∷ xs) [] e = absurd (false≢true e)

pub same_list-refl : (x : List ℕ) → same_list x x ≡ true
same_list-refl [] = refl
same_list-refl (x ∷ xs) = and_both (eqb x x) (same_list xs xs) (eq-eqb x x refl) (same_list-refl xs)

pub same_tag-true : (t u : Tag) → same_tag t u ≡ true → t ≡ u
same_tag-true t u e =
    let n : class_number t.class ≡ class_number u.class = eqb-true _ _ (and_left (eqb (class_number t.class) (class_number u.class)) (eqb t.number u.number) e) in
    let p : t.class ≡ u.class = sym (class_is t.class) ∙ ap class_of n ∙ class_is u.class in
    let q : t.number ≡ u.number = eqb-true _ _ (and_right (eqb (class_number t.class) (class_number u.class)) (eqb t.number u.number) e) in
    λ i. record { class = p i; number = q i }

pub same_tag-refl : (t : Tag) → same_tag t t ≡ true
same_tag-refl t = and_both (eqb (class_number t.class) (class_number t.class)) (eqb t.number t.number) (eq-eqb (class_number t.class) (class_number t.class) refl) (eq-eqb t.number t.number refl)

same_bits-true : (x y : List Bool) → same_bits x y ≡ true → x ≡ y
same_bits-true [] [] e = refl
same_bits-true (x ∷ xs) (y ∷ ys) e =
    let p = same_bool-true x y (and_left (same_bool x y) (same_bits xs ys) e) in
    let q = same_bits-true xs ys (and_right (same_bool x y) (same_bits xs ys) e) in
    cc
same_bits-true [] (y ∷ ys) e = absurd (false≢true e)
same_bits-true (x ∷ xs) [] e = absurd (false≢true e)

same_bits-refl : (x : List Bool) → same_bits x x ≡ true
same_bits-refl [] = refl
same_bits-refl (x ∷ xs) = and_both (same_bool x x) (same_bits xs xs) (same_bool-refl x) (same_bits-refl xs)

same_unknown-true : (x y : List Unknown) → same_unknown x y ≡ true → x ≡ y
same_unknown-true [] [] e = refl
same_unknown-true (unknown n w ∷ us) (unknown m x ∷ vs) e =
    let both = and_left (eqb n m && same_list w x) (same_unknown us vs) e in
    let p = eqb-true n m (and_left (eqb n m) (same_list w x) both) in
    let q = same_list-true w x (and_right (eqb n m) (same_list w x) both) in
    let r = same_unknown-true us vs (and_right (eqb n m && same_list w x) (same_unknown us vs) e) in
    cc
same_unknown-true [] (v ∷ vs) e = absurd (false≢true e)
same_unknown-true (u ∷ us) [] e = absurd (false≢true e)

same_unknown-refl : (x : List Unknown) → same_unknown x x ≡ true
same_unknown-refl [] = refl
same_unknown-refl (unknown n w ∷ us) = and_both (eqb n n && same_list w w) (same_unknown us us) (and_both (eqb n n) (same_list w w) (eq-eqb n n refl) (same_list-refl w)) (same_unknown-refl us)

same_leaf-true : (v w : LeafValue) → same_leaf v w ≡ true → v ≡ w
same_leaf-true (kind.bool a) (kind.bool b) e = ap kind.bool (same_bool-true a b e)
same_leaf-true kind.nothing kind.nothing e = refl
same_leaf-true (kind.int x) (kind.int y) e = ap kind.int (same_int-true x y e)
same_leaf-true (kind.enum x) (kind.enum y) e = ap kind.enum (same_int-true x y e)
same_leaf-true (kind.bit_list x) (kind.bit_list y) e = ap kind.bit_list (same_bits-true x y e)
same_leaf-true (kind.text x) (kind.text y) e = ap kind.text (same_list-true x y e)
same_leaf-true (kind.oid x) (kind.oid y) e = ap kind.oid (same_list-true x y e)
same_leaf-true (kind.octets x) (kind.octets y) e = ap kind.octets (same_list-true x y e)
same_leaf-true _ _ e = absurd (false≢true e)

mutual
  pub same-true : (v w : AsnValue) → same v w ≡ true → v ≡ w
  same-true (leaf_value v) (leaf_value w) e = ap leaf_value (same_leaf-true v w e)
  same-true (seq r a us) (seq s b vs) e =
      let both = and_left (same_places r s && same_places a b) (same_unknown us vs) e in
      let p = same_places-true r s (and_left (same_places r s) (same_places a b) both) in
      let q = same_places-true a b (and_right (same_places r s) (same_places a b) both) in
      let o = same_unknown-true us vs (and_right (same_places r s && same_places a b) (same_unknown us vs) e) in
      cc
  same-true (foreign t w) (foreign u x) e =
      let p = same_tag-true t u (and_left (same_tag t u) (same_list w x) e) in
      let q = same_list-true w x (and_right (same_tag t u) (same_list w x) e) in
      cc
  same-true (items vs) (items ws) e = ap items (same_values-true vs ws e)
  same-true (chosen t v) (chosen u w) e =
      let p = same_tag-true t u (and_left (same_tag t u) (same v w) e) in
      let q = same-true v w (and_right (same_tag t u) (same v w) e) in
      cc
  same-true _ _ e = absurd (false≢true e)

  pub same_values-true : (v w : Values) → same_values v w ≡ true → v ≡ w
  same_values-true no_values no_values e = refl
  same_values-true (value v vs) (value w ws) e =
      let p = same-true v w (and_left (same v w) (same_values vs ws) e) in
      let q = same_values-true vs ws (and_right (same v w) (same_values vs ws) e) in
      cc
  same_values-true _ _ e = absurd (false≢true e)

  pub same_places-true : (p q : Places) → same_places p q ≡ true → p ≡ q
  same_places-true no_places no_places e = refl
  same_places-true (absent ps) (absent qs) e = ap absent (same_places-true ps qs e)
  same_places-true (present v ps) (present w qs) e =
      let p = same-true v w (and_left (same v w) (same_places ps qs) e) in
      let q = same_places-true ps qs (and_right (same v w) (same_places ps qs) e) in
      cc
  same_places-true _ _ e = absurd (false≢true e)

same_leaf-refl : (v : LeafValue) → same_leaf v v ≡ true
same_leaf-refl (kind.bool a) = same_bool-refl a
same_leaf-refl kind.nothing = refl
same_leaf-refl (kind.int x) = same_int-refl x
same_leaf-refl (kind.enum x) = same_int-refl x
same_leaf-refl (kind.bit_list x) = same_bits-refl x
same_leaf-refl (kind.text x) = same_list-refl x
same_leaf-refl (kind.oid x) = same_list-refl x
same_leaf-refl (kind.octets x) = same_list-refl x

mutual
  pub same-refl : (v : AsnValue) → same v v ≡ true
  same-refl (leaf_value v) = same_leaf-refl v
  same-refl (seq r a us) = and_both (same_places r r && same_places a a) (same_unknown us us) (and_both (same_places r r) (same_places a a) (same_places-refl r) (same_places-refl a)) (same_unknown-refl us)
  same-refl (foreign t w) = and_both (same_tag t t) (same_list w w) (same_tag-refl t) (same_list-refl w)
  same-refl (items vs) = same_values-refl vs
  same-refl (chosen t v) = and_both (same_tag t t) (same v v) (same_tag-refl t) (same-refl v)

  pub same_values-refl : (v : Values) → same_values v v ≡ true
  same_values-refl no_values = refl
  same_values-refl (value v vs) = and_both (same v v) (same_values vs vs) (same-refl v) (same_values-refl vs)

  pub same_places-refl : (p : Places) → same_places p p ≡ true
  same_places-refl no_places = refl
  same_places-refl (absent ps) = same_places-refl ps
  same_places-refl (present v ps) = and_both (same v v) (same_places ps ps) (same-refl v) (same_places-refl ps)
