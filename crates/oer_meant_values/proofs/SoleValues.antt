-- Tokens are one value of a type.
use Rattle.std.proofs.Common.{◌≡◌, ℕ, ℤ, pos, List, [], ◌∷◌, Bool, Option, Some, refl, sym, ap, ap₂, subst, ◌∙◌}
use Rattle.oer_literals.specs.Numbers.{arc_of}
use Rattle.oer_model.specs.AsnType.{NamedNumber}
use Rattle.oer_model.specs.AsnValue.{AsnValue, Places, Values, absent, bit_list, chosen, enum, int, items, octets, oid, present, seq}
use Rattle.oer_model.specs.AsnValue.{value as and_value}
use Rattle.oer_module_bounds.specs.Sets.{Span}
use Rattle.oer_module_defaults.specs.Arcs.{digits_in}
use Rattle.oer_module_defaults.specs.Bits.{bits_from}
use Rattle.oer_module_defaults.specs.Governors.{Governor}
use Rattle.oer_module_lexer.specs.Token.{Spot}
use Rattle.oer_module_limits.specs.Sets.{size}
use Rattle.oer_module_syntax.specs.Tree.{Module, Tree, Elements, structure, list_of}
use Rattle.oer_module_syntax.specs.declared.word.Builtin.{Builtin}
use Rattle.oer_module_tags.specs.Alternatives.{AreTags}
use Rattle.oer_module_tags.specs.Laws.{TagsAreSole}
use Rattle.oer_module_terms.specs.Trees.{Amount, Value, Parts, Members, Item}
use Rattle.oer_module_values.proofs.Denoted.{denoted_sole, one_number}
use Rattle.oer_module_values.specs.Laws.{TypesAreSole}
use Rattle.oer_module_values.specs.Numbers.{Denotes, Has, bare, here, later, nothing}
use Rattle.oer_units.specs.declared.tagging.Tag.{Tag}
use Rattle.oer_meant_leaves.proofs.Results.{first_same}
use Rattle.oer_meant_leaves.specs.Laws.{EnumerationsAreSole, RangesAreSole}
use Rattle.oer_meant_leaves.specs.Ranges.{IsRange}
use Rattle.oer_meant_values.specs.Laws.{ValuesAreSole}
use Rattle.oer_meant_values.specs.Parts.{AreParts, Part}
use Rattle.oer_meant_values.specs.Reaching.{Reaches}
use Rattle.oer_meant_values.specs.Values.{AreArcs, AreBits, AreOfSize, ArePlaces, AreValues, HasItem, IsAlternative, IsNumberOf, IsOf, IsValue}
use Rattle.oer_meant_values.specs.Values.{another_arc, another_bit, another_item, another_part, another_value, are_arcs, are_digits, are_names}
use Rattle.oer_meant_values.specs.Values.{are_octets, are_ones, has_item, in_additions, in_root, is_choice, is_false, is_item, is_list, is_null}
use Rattle.oer_meant_values.specs.Values.{is_number, is_sequence, is_text, is_true, is_value, no_arcs, no_bits, no_more, no_more_values}
use Rattle.oer_meant_values.specs.Values.{not_in_additions, not_in_root, this_item, this_part}
use Rattle.oer_meant_values.proofs.SoleParts.{parts_sole}
use Rattle.oer_meant_values.proofs.SoleReached.{SameLiteral, governs_sole, reached_sole, writes_sole}
use Rattle.oer_meant_values.proofs.SoleTags.{tags_sole}

-- ---- what is found first

some_same : {A : Type 0} (o : Option A) (x y : A) → o ≡ Some x → o ≡ Some y → x ≡ y
some_same o x y e f = cc

number_sole : (w : List ℕ) (is : List NamedNumber) (y z : ℤ) → IsNumberOf w is y → IsNumberOf w is z → y ≡ z
number_sole w _ _ _ (this_item i is e) (this_item _ _ f) = refl
number_sole w _ _ _ (this_item i is e) (another_item _ _ z n h) = absurd (n e)
number_sole w _ _ _ (another_item i is y n h) (this_item _ _ e) = absurd (n e)
number_sole w _ _ _ (another_item i is y n h) (another_item _ _ z o k) = number_sole w is y z h k

has_sole : (w : List ℕ) (is : List Item) (o p : Option Item) → Has w is o → Has w is p → o ≡ p
has_sole w _ _ _ nothing nothing = refl
has_sole w _ _ _ (here i is e) (here _ _ _) = refl
has_sole w _ _ _ (here i is e) (later _ _ _ n _) = absurd (n e)
has_sole w _ _ _ (later i is o n h) (here _ _ e) = absurd (n e)
has_sole w _ _ _ (later i is o n h) (later _ _ p m k) = has_sole w is o p h k

record SameAlternative (p q : Part) (g h : Tag) : Type 0 where
  pub parts : p ≡ q
  pub tags : g ≡ h

alternative_sole : (w : List ℕ) (ps : List Part) (gs : List Tag) (p q : Part) (g h : Tag) → IsAlternative w ps gs p g
    → IsAlternative w ps gs q h → SameAlternative p q g h
alternative_sole w _ _ _ _ _ _ (this_part p ps g gs e) (this_part _ _ _ _ f) = record { parts = refl; tags = refl }
alternative_sole w _ _ _ _ _ _ (this_part p ps g gs e) (another_part q _ _ _ h _ n k) = absurd (n e)
alternative_sole w _ _ _ _ _ _ (another_part p r ps g i gs n h) (this_part _ _ _ _ e) = absurd (n e)
alternative_sole w _ _ _ _ _ _ (another_part p r ps g i gs n a) (another_part q _ _ h _ _ m b) = alternative_sole w ps gs p q g h a b

arcs_sole : (vs : Parts) (ns ks : List ℕ) → AreArcs vs ns → AreArcs vs ks → ns ≡ ks
arcs_sole _ _ _ no_arcs no_arcs = refl
arcs_sole _ _ _ (another_arc v vs w n ns e f h) (another_arc _ _ u k ks a b j) =
    let same = some_same (digits_in v) w u e a in
    let one = some_same (arc_of w) n k f (ap arc_of same ∙ b) in
    ap₂ (λ x l. x ∷ l) one (arcs_sole vs ns ks h j)

-- ---- numbers of items and bits

pos_same : (n k : ℕ) → pos n ≡ pos k → n ≡ k
pos_same n k e = cc

item_same : (i j : Item) → ◌≡◌ {A = Option Item} (Some i) (Some j) → i ≡ j
item_same i j e = cc

end_same : (n k : ℕ) → ◌≡◌ {A = Option ℤ} (Some (pos n)) (Some (pos k)) → n ≡ k
end_same n k e = cc

module _ (ms : List Module) where
  amount_sole : (m : ℕ) (o p : Option Amount) (a b : Amount) (n k : ℕ) → o ≡ p → o ≡ Some a → p ≡ Some b → Denotes ms m (bare m) a (pos n)
      → Denotes ms m (bare m) b (pos k) → n ≡ k
  amount_sole m o p a b n k e f g h j =
      let same = some_same o a b f (e ∙ g) in
      pos_same n k (denoted_sole ms m (bare m) a (pos n) (pos k) h (subst (λ x. Denotes ms m (bare m) x (pos k)) (sym same) j))

  bits_sole : (m most : ℕ) (is : List Item) (more : Members) (ns ks : List ℕ) → AreBits ms m most is more ns → AreBits ms m most is more ks
      → ns ≡ ks
  bits_sole m most is _ _ _ no_bits no_bits = refl
  bits_sole m most is _ _ _ (another_bit at w more i a n ns e f d l h) (another_bit _ _ _ j b k ks g c o p q) =
      let same = item_same i j (has_sole w is (Some i) (Some j) e g) in
      ap₂ (λ x y. x ∷ y) (amount_sole m i.number j.number a b n k (ap (λ x. x.number) same) f c d o) (bits_sole m most is more ns ks h q)

  item_sole : EnumerationsAreSole → (w : List ℕ) (y z : ℤ) (m : ℕ) (t : Tree) → HasItem ms w y m t → HasItem ms w z m t → y ≡ z
  item_sole sole w y z _ _ (has_item m at ts cs is a h n) (has_item _ _ _ _ js b k o) =
      let same = (sole ms m at ts is js a b h k).0 in
      number_sole w js y z (subst (λ l. IsNumberOf w l y) same n) o

  size_sole : TypesAreSole → RangesAreSole → (m : ℕ) (t : Tree) (n k : ℕ) → AreOfSize ms m t n → AreOfSize ms m t k → n ≡ k
  size_sole types ranges m t n k h j =
      let low : Span = record { low = Some (pos n); high = Some (pos n) } in
      let high : Span = record { low = Some (pos k); high = Some (pos k) } in
      let e = types ms m t h.of j.of h.given j.given h.means j.means in
      let range = subst (λ u. IsRange ms size u j.given low) e.0 (subst (λ gs. IsRange ms size h.of gs low) e.1 h.range) in
      end_same n k (ap (λ r. r.low) (ranges ms size j.of j.given low high range j.range))

-- ---- types that hold others

elements_same : (t : Tree) (a b : ℕ) (x y : Builtin) (es fs : Elements) (cs ds : List Spot) → t ≡ structure a x es cs → t ≡ structure b y fs ds
    → es ≡ fs
elements_same t a b x y es fs cs ds e f = cc

list_same : (t : Tree) (a b : ℕ) (x y : Builtin) (c d : Bool) (cs ds : List Spot) (v w : Option (List ℕ)) (i j : Tree) → t ≡ list_of a x c cs v i
    → t ≡ list_of b y d ds w j → i ≡ j
list_same t a b x y c d cs ds v w i j e f = cc

module _ (ms : List Module) (types : TypesAreSole) (m : ℕ) (es fs : Elements) (e : es ≡ fs) where
  all_parts : (ps qs : List Part) (a b : Bool) → AreParts ms m es ps a → AreParts ms m fs qs b → ps ≡ qs
  all_parts ps qs a b h k = (parts_sole types ms m es ps qs a b h (subst (λ x. AreParts ms m x qs b) (sym e) k)).0

  all_tags : TagsAreSole → (gs hs : List Tag) → AreTags ms m es gs → AreTags ms m fs hs → gs ≡ hs
  all_tags sole gs hs h k = tags_sole sole ms m es gs hs h (subst (λ x. AreTags ms m x hs) (sym e) k)

-- ---- values

-- what components have in the root, and in the additions
record SamePlaces (r s a b : Places) : Type 0 where
  pub root : r ≡ s
  pub added : a ≡ b

module _ (ms : List Module) where
  value_as : (k : ℕ) (v : Value) (x : AsnValue) (p q : Part) → p ≡ q → IsValue ms q.«module» q.type k v x → IsValue ms p.«module» p.type k v x
  value_as k v x p q e h = subst (λ (u : Part). IsValue ms u.«module» u.type k v x) (sym e) h

  value_of : (m : ℕ) (t : Tree) (g i : Governor) (k j : ℕ) (h q : Governor) (v w : Value) (x : AsnValue) → g ≡ i → SameLiteral k j h q v w
      → IsOf ms m t i j q w x → IsOf ms m t g k h v x
  value_of m t g i k j h q v w x e l o =
      subst (λ y. IsOf ms m t y k h v x) (sym e)
      (subst (λ y. IsOf ms m t i y h v x) (sym l.modules) (subst (λ y. IsOf ms m t i j y v x) (sym l.governors)
      (subst (λ y. IsOf ms m t i j q y x) (sym l.values) o)))

  from_same : (n : ℕ) (g i : Governor) (v : Value) (k : ℕ) (h : Governor) (l : Value) → g ≡ i → Reaches ms n i v k h l → Reaches ms n g v k h l
  from_same n g i v k h l e r = subst (λ x. Reaches ms n x v k h l) (sym e) r

  chosen_first : (w : List ℕ) (ps qs : List Part) (gs hs : List Tag) (p q : Part) (g h : Tag) → ps ≡ qs → gs ≡ hs → IsAlternative w ps gs p g
      → IsAlternative w qs hs q h → SameAlternative p q g h
  chosen_first w ps qs gs hs p q g h e f a b =
      alternative_sole w ps gs p q g h a (subst (λ l. IsAlternative w ps l q h) (sym f) (subst (λ l. IsAlternative w l hs q h) (sym e) b))

  names_same : TypesAreSole → RangesAreSole → (m : ℕ) (t : Tree) (h : ℕ) (is js : List Item) (more : Members) (n k : ℕ) (ns ks : List ℕ) → is ≡ js
      → AreOfSize ms m t n → AreOfSize ms m t k → AreBits ms h n is more ns → AreBits ms h k js more ks
      → bit_list (bits_from ns 0 n) ≡ bit_list (bits_from ks 0 k)
  names_same types ranges m t h is js more n k ns ks e a b c d =
      let size = size_sole ms types ranges m t n k a b in
      let same = bits_sole ms h n is more ns ks c
      (subst (λ y. AreBits ms h n y more ks) (sym e) (subst (λ y. AreBits ms h y js more ks) (sym size) d)) in
      ap₂ (λ l y. bit_list (bits_from l 0 y)) same size

  module _ (types : TypesAreSole) (tags : TagsAreSole) (ranges : RangesAreSole) (enumerations : EnumerationsAreSole) where
    mutual
      value_sole : (m : ℕ) (t : Tree) (n : ℕ) (v : Value) (x y : AsnValue) → IsValue ms m t n v x → IsValue ms m t n v y → x ≡ y
      value_sole _ _ _ _ _ _ (is_value m n k t g h v l x p r taken o) (is_value _ _ j _ i q _ w y p2 r2 taken2 o2) =
          let e = governs_sole ms types m t g i p p2 in
          let same = reached_sole ms types n g v k j h q l w r (from_same n g i v j q w e r2) in
          of_sole m t g k h l x y o (value_of m t g i k j h q l w y e same o2)

      of_sole : (m : ℕ) (t : Tree) (g : Governor) (k : ℕ) (h : Governor) (v : Value) (x y : AsnValue) → IsOf ms m t g k h v x
          → IsOf ms m t g k h v y → x ≡ y
      of_sole _ _ _ _ _ _ _ _ (is_true m k at t g h e) (is_true _ _ _ _ _ _ _) = refl
      of_sole _ _ _ _ _ _ _ _ (is_false m k at t g h e) (is_false _ _ _ _ _ _ _) = refl
      of_sole _ _ _ _ _ _ _ _ (is_null m k at t g h e) (is_null _ _ _ _ _ _ _) = refl
      of_sole _ _ _ _ _ _ _ _ (is_number m k at t g h a i y e p d) (is_number _ _ _ _ _ _ _ j z f q c) =
          ap int (one_number ms m k t i j a y z p q d c)
      of_sole _ _ _ _ _ _ _ _ (is_number m k at t g h a i y e p d) (is_item _ _ _ _ _ _ w steps z f n o) = absurd (cc)
      of_sole _ _ _ _ _ _ _ _ (is_item m k at t g h w steps y e n o) (is_number _ _ _ _ _ _ a i z f p d) = absurd (cc)
      of_sole _ _ _ _ _ _ _ _ (is_item m k at t g h w steps y e n o) (is_item _ _ _ _ _ _ _ _ z f p q) =
          ap enum (item_sole ms enumerations w y z h.«module» h.type n p)
      of_sole _ _ _ _ _ _ _ _ (are_octets m k at t g h w os e f) (are_octets _ _ _ _ _ _ _ ps c d) = ap octets (some_same _ os ps f d)
      of_sole _ _ _ _ _ _ _ _ (are_octets m k at t g h w os e f) (are_digits _ _ _ _ _ _ _ bs c d) = absurd (cc)
      of_sole _ _ _ _ _ _ _ _ (are_ones m k at t g h w e f) (are_ones _ _ _ _ _ _ _ c d) = refl
      of_sole _ _ _ _ _ _ _ _ (are_digits m k at t g h w bs e f) (are_digits _ _ _ _ _ _ _ cs c d) = ap bit_list (some_same _ bs cs f d)
      of_sole _ _ _ _ _ _ _ _ (are_digits m k at t g h w bs e f) (are_octets _ _ _ _ _ _ _ os c d) = absurd (cc)
      of_sole _ _ _ _ _ _ _ _ (is_text m k at t g h w e f) (is_text _ _ _ _ _ _ _ c d) = refl
      of_sole _ _ _ _ _ _ _ _ (are_names m k at n t g h is rest more ns e f s b) (are_names _ _ _ j _ _ _ js left _ ks c d r a) =
          names_same types ranges m t h.«module» is js more n j ns ks (first_same is js rest left (sym f ∙ d)) s r b a
      of_sole _ _ _ _ _ _ _ _ (are_names m k at n t g h is rest more ns e f s b) (are_arcs _ _ _ _ _ _ v w vs ks c a) = absurd (cc)
      of_sole _ _ _ _ _ _ _ _ (are_names m k at n t g h is rest more ns e f s b) (is_sequence _ _ _ there _ _ _ x es cs ps marked _ root added c d a p) =
          absurd (cc)
      of_sole _ _ _ _ _ _ _ _ (are_names m k at n t g h is rest more ns e f s b) (is_list _ _ _ there _ item _ _ x sized ss name _ xs c d a) =
          absurd (cc)
      of_sole _ _ _ _ _ _ _ _ (are_arcs m k at t g h v w vs ns e a) (are_arcs _ _ _ _ _ _ _ _ _ ks c b) = ap oid (arcs_sole _ ns ks a b)
      of_sole _ _ _ _ _ _ _ _ (are_arcs m k at t g h v w vs ns e a) (are_names _ _ _ n _ _ _ is rest _ ks c f s b) = absurd (cc)
      of_sole _ _ _ _ _ _ _ _ (are_arcs m k at t g h v w vs ns e a) (is_sequence _ _ _ there _ _ _ x es cs ps marked _ root added c d b p) =
          absurd (cc)
      of_sole _ _ _ _ _ _ _ _ (are_arcs m k at t g h v w vs ns e a) (is_list _ _ _ there _ item _ _ x sized ss name _ xs c d b) = absurd (cc)
      of_sole _ _ _ _ _ _ _ _ (is_sequence m k at there t g h x es cs ps a more root added e f p r) (is_sequence _ _ _ other _ _ _ y fs ds qs b _ top more2 c d q s) =
          let same = elements_same h.type there other x y es fs cs ds f d in
          let one = all_parts ms types h.«module» es fs same ps qs a b p q in
          let both = places_sole k more ps root top added more2 r (subst (λ l. ArePlaces ms k more l top more2) (sym one) s) in
          ap₂ (λ l j. seq l j []) both.root both.added
      of_sole _ _ _ _ _ _ _ _ (is_sequence m k at there t g h x es cs ps a more root added e f p r) (are_names _ _ _ n _ _ _ is rest _ ns c d s b) =
          absurd (cc)
      of_sole _ _ _ _ _ _ _ _ (is_sequence m k at there t g h x es cs ps a more root added e f p r) (are_arcs _ _ _ _ _ _ v w vs ns c b) =
          absurd (cc)
      of_sole _ _ _ _ _ _ _ _ (is_sequence m k at there t g h x es cs ps a more root added e f p r) (is_list _ _ _ other _ item _ _ y sized ss name _ xs c d b) =
          absurd (cc)
      of_sole _ _ _ _ _ _ _ _ (is_list m k at there t i g h x sized ss name more xs e f a) (is_list _ _ _ other _ j _ _ y z rs w _ ys c d b) =
          let same = list_same h.type there other x y sized z ss rs name w i j f d in
          ap items (values_sole h.«module» i k more xs ys a (subst (λ u. AreValues ms h.«module» u k more ys) (sym same) b))
      of_sole _ _ _ _ _ _ _ _ (is_list m k at there t i g h x sized ss name more xs e f a) (are_names _ _ _ n _ _ _ is rest _ ns c d s b) =
          absurd (cc)
      of_sole _ _ _ _ _ _ _ _ (is_list m k at there t i g h x sized ss name more xs e f a) (are_arcs _ _ _ _ _ _ v w vs ns c b) = absurd (cc)
      of_sole _ _ _ _ _ _ _ _ (is_list m k at there t i g h x sized ss name more xs e f a) (is_sequence _ _ _ other _ _ _ y es cs ps b _ root added c d p r) =
          absurd (cc)
      of_sole _ _ _ _ _ _ _ _ (is_choice m k at there t g h b es cs ps a gs w v p n x e f d s o i)
          (is_choice _ _ _ other _ _ _ c fs ds qs z hs _ _ q l y e2 f2 d2 s2 o2 i2) =
          let same = elements_same h.type there other b c es fs cs ds f f2 in
          let parts = all_parts ms types h.«module» es fs same ps qs a z d d2 in
          let one = chosen_first w ps qs gs hs p q n l parts (all_tags ms types h.«module» es fs same tags gs hs s s2) o o2 in
          ap₂ chosen one.tags (value_sole p.«module» p.type k v x y i (value_as k v y p q one.parts i2))

      places_sole : (k : ℕ) (more : Members) (ps : List Part) (r s a b : Places) → ArePlaces ms k more ps r a → ArePlaces ms k more ps s b
          → SamePlaces r s a b
      places_sole _ _ _ _ _ _ _ (no_more k) (no_more _) = record { root = refl; added = refl }
      places_sole _ _ _ _ _ _ _ (in_root k at w v more p ps x r a e f i h) (in_root _ _ _ _ _ _ _ y s b c d j g) =
          let rest = places_sole k more ps r s a b h g in
          record { root = ap₂ present (value_sole p.«module» p.type k v x y i j) rest.root; added = rest.added }
      places_sole _ _ _ _ _ _ _ (in_root k at w v more p ps x r a e f i h) (in_additions _ _ _ _ _ _ _ y s b c d j g) = absurd (cc)
      places_sole _ _ _ _ _ _ _ (in_root k at w v more p ps x r a e f i h) (not_in_root _ _ _ _ s b c d n g) = absurd (n e)
      places_sole _ _ _ _ _ _ _ (in_root k at w v more p ps x r a e f i h) (not_in_additions _ _ _ _ s b c n g) = absurd (n e)
      places_sole _ _ _ _ _ _ _ (in_additions k at w v more p ps x r a e f i h) (in_additions _ _ _ _ _ _ _ y s b c d j g) =
          let rest = places_sole k more ps r s a b h g in
          record { root = rest.root; added = ap₂ present (value_sole p.«module» p.type k v x y i j) rest.added }
      places_sole _ _ _ _ _ _ _ (in_additions k at w v more p ps x r a e f i h) (in_root _ _ _ _ _ _ _ y s b c d j g) = absurd (cc)
      places_sole _ _ _ _ _ _ _ (in_additions k at w v more p ps x r a e f i h) (not_in_root _ _ _ _ s b c d n g) = absurd (n e)
      places_sole _ _ _ _ _ _ _ (in_additions k at w v more p ps x r a e f i h) (not_in_additions _ _ _ _ s b c n g) = absurd (n e)
      places_sole _ _ _ _ _ _ _ (not_in_root k more p ps r a e f n h) (in_root _ _ _ _ _ _ _ y s b c d j g) = absurd (n c)
      places_sole _ _ _ _ _ _ _ (not_in_root k more p ps r a e f n h) (in_additions _ _ _ _ _ _ _ y s b c d j g) = absurd (n c)
      places_sole _ _ _ _ _ _ _ (not_in_root k more p ps r a e f n h) (not_in_root _ _ _ _ s b c d o g) =
          let rest = places_sole k more ps r s a b h g in record { root = ap absent rest.root; added = rest.added }
      places_sole _ _ _ _ _ _ _ (not_in_root k more p ps r a e f n h) (not_in_additions _ _ _ _ s b c o g) = absurd (cc)
      places_sole _ _ _ _ _ _ _ (not_in_additions k more p ps r a e n h) (in_root _ _ _ _ _ _ _ y s b c d j g) = absurd (n c)
      places_sole _ _ _ _ _ _ _ (not_in_additions k more p ps r a e n h) (in_additions _ _ _ _ _ _ _ y s b c d j g) = absurd (n c)
      places_sole _ _ _ _ _ _ _ (not_in_additions k more p ps r a e n h) (not_in_root _ _ _ _ s b c d o g) = absurd (cc)
      places_sole _ _ _ _ _ _ _ (not_in_additions k more p ps r a e n h) (not_in_additions _ _ _ _ s b c o g) =
          let rest = places_sole k more ps r s a b h g in record { root = rest.root; added = ap absent rest.added }

      values_sole : (m : ℕ) (t : Tree) (k : ℕ) (more : Members) (xs ys : Values) → AreValues ms m t k more xs → AreValues ms m t k more ys
          → xs ≡ ys
      values_sole _ _ _ _ _ _ (no_more_values m k t) (no_more_values _ _ _) = refl
      values_sole _ _ _ _ _ _ (another_value m k t v more x xs i h) (another_value _ _ _ _ _ y ys j g) =
          ap₂ and_value (value_sole m t k v x y i j) (values_sole m t k more xs ys h g)

pub all_sole : TypesAreSole → TagsAreSole → RangesAreSole → EnumerationsAreSole → ValuesAreSole
all_sole types tags ranges enumerations ms m t n ts x y h k =
    let same = writes_sole ts h.read k.read h.written k.written in
    value_sole ms types tags ranges enumerations m t n h.read x y h.is (subst (λ v. IsValue ms m t n v y) (sym same) k.is)
