-- The parts of a value, and the parts of an encoding that spell them.
use Rattle.std.proofs.Common.{◌≡◌, inl, inr, ℕ, suc, List, [], ◌∷◌, ◌++◌, length, drop, Bool, true, false, if◌then◌else◌, Some, None, refl, ap, ap₂, sym, ◌∙◌, subst}
use Rattle.oer_units.specs.Spelling.{IsCounted, IsJoined}
use Rattle.oer_units.specs.declared.tagging.Tag.{Tag}
use Rattle.oer_model.specs.AsnType.{Additions, Alternatives, AsnType, Fields, Need, addition, alternative, choice, default, extensible_sequence, field, later, leaf, may, must, no_additions, no_alternatives, no_fields, sequence, sequence_of}
use Rattle.oer_model.specs.AsnValue.{AsnValue, Places, Unknown, Values, absent, chosen, foreign, items, no_places, no_values, present, seq, unknown, value}
use Rattle.oer_model.specs.Bits.{first_bit, later_bits}
use Rattle.oer_model.specs.Constraints.{KeepsLimits, FieldsKeepLimits, AdditionsKeepLimits, AlternativesKeepLimits, addition_count, same_tag}
use Rattle.oer_model.specs.Encoding.{ByBit, ByTag, IsItself, IsSpelling, SpellsAdditions, SpellsAlternative, SpellsExtension, SpellsFields, SpellsUnknown}
use Rattle.oer_model.specs.Fits.{DefaultsFit, FieldDefaultsFit, AdditionDefaultsFit, AlternativeDefaultsFit, all_absent, listed}
use Rattle.oer_model.specs.Parts.{Answer, AloneByTag, Holds, IsAlone, IsSplit, Part, SplitsAdditions, SplitsAlternative, SplitsExtension, SplitsFields, SplitsItems, SplitsUnknown, StartsByBit, Step, found, lookup, part, same_step, to_addition, to_chosen, to_component, to_item}

-- a value in a value, with what its component may be, or octets of which no type is known
pub data Piece : Type 0 where
  piece : Step → Need → AsnType → AsnValue → Piece
  raw : Step → List ℕ → Piece

abbrev pub field_pieces : Fields → ℕ → Places → List Piece
field_pieces no_fields i ps = []
field_pieces (field name need T fs) i no_places = []
field_pieces (field name need T fs) i (absent ps) = field_pieces fs (suc i) ps
field_pieces (field name need T fs) i (present v ps) = piece (to_component i) need T v ∷ field_pieces fs (suc i) ps

abbrev pub addition_pieces : Additions → ℕ → Places → List Piece
addition_pieces no_additions i ps = []
addition_pieces (addition name T more) i no_places = []
addition_pieces (addition name T more) i (absent ps) = addition_pieces more (suc i) ps
addition_pieces (addition name T more) i (present v ps) = piece (to_addition i) must T v ∷ addition_pieces more (suc i) ps

abbrev pub unknown_pieces : List Unknown → List Piece
unknown_pieces [] = []
unknown_pieces (unknown place w ∷ us) = raw (to_addition place) w ∷ unknown_pieces us

abbrev pub item_pieces : AsnType → ℕ → Values → List Piece
item_pieces T i no_values = []
item_pieces T i (value v vs) = piece (to_item i) must T v ∷ item_pieces T (suc i) vs

abbrev pub pieces_by_tag : Bool → AsnType → (AsnValue → List Piece) → AsnValue → List Piece
pieces_by_tag true T f x = piece to_chosen must T x ∷ []
pieces_by_tag false T f x = f x

abbrev pub alternative_pieces : Alternatives → Tag → AsnValue → List Piece
alternative_pieces no_alternatives t x = []
alternative_pieces (alternative name u T more) t x = pieces_by_tag (same_tag u t) T (alternative_pieces more t) x
alternative_pieces (later name u T more) t x = pieces_by_tag (same_tag u t) T (alternative_pieces more t) x

abbrev pub in_seq : (Places → Places → List Unknown → List Piece) → AsnValue → List Piece
in_seq f (seq root added us) = f root added us
in_seq f _ = []

abbrev pub in_items : (Values → List Piece) → AsnValue → List Piece
in_items f (items vs) = f vs
in_items f _ = []

abbrev pub in_choice : (Tag → AsnValue → List Piece) → AsnValue → List Piece
in_choice f (chosen t x) = f t x
in_choice f (foreign t w) = raw to_chosen w ∷ []
in_choice f _ = []

abbrev pub pieces : AsnType → AsnValue → List Piece
pieces (sequence fs) v = in_seq (λ root added us. field_pieces fs 0 root) v
pieces (extensible_sequence fs more) v = in_seq (λ root added us. field_pieces fs 0 root ++ (addition_pieces more 0 added ++ unknown_pieces us)) v
pieces (sequence_of size T) v = in_items (item_pieces T 0) v
pieces (choice extensible more) v = in_choice (alternative_pieces more) v
pieces (leaf kind) v = []

-- the parts spell the pieces, one for one
abbrev pub Spelt : List Piece → List Part → Type 0
Spelt [] parts = parts ≡ []
Spelt (piece step need T v ∷ ps) parts = (c : List ℕ) × (rest : List Part) × (parts ≡ part step (Some T) c ∷ rest) × IsSpelling T v c × Spelt ps rest
Spelt (raw step w ∷ ps) parts = (rest : List Part) × (parts ≡ part step None w ∷ rest) × Spelt ps rest

spelt_join : (ps qs : List Piece) (parts rest : List Part) → Spelt ps parts → Spelt qs rest → Spelt (ps ++ qs) (parts ++ rest)
spelt_join [] qs parts rest s t = subst (λ p. Spelt qs (p ++ rest)) (sym s) t
spelt_join (piece step need T v ∷ ps) qs parts rest (c, more, is, x, s) t = (c, more ++ rest, ap (λ p. p ++ rest) is, x, spelt_join ps qs more rest s t)
spelt_join (raw step w ∷ ps) qs parts rest (more, is, s) t = (more ++ rest, ap (λ p. p ++ rest) is, spelt_join ps qs more rest s t)

-- the split that goes with pieces
abbrev Goes : (List Part → List ℕ → Type 0) → List Piece → List ℕ → Type 0
Goes S ps b = (parts : List Part) × S parts b × Spelt ps parts

field_bit : (x : Bool) (need : Need) (T : AsnType) (fs : Fields) (i : ℕ) (name : List ℕ) (R : Places → List ℕ → Type 0) (S : List Part → List ℕ → Type 0) (ps : Places) (b : List ℕ) → ((ps : Places) (b : List ℕ) → R ps b → Goes S (field_pieces fs (suc i) ps) b)
    → ByBit x (IsSpelling T) R ps b → Goes (StartsByBit x (to_component i) (Some T) (Holds T) S) (field_pieces (field name need T fs) i ps) b
field_bit true need T fs i name R S ps b f (v, rest, b1, b2, is, e, s, r) =
    let o = f rest b2 r in
    (part (to_component i) (Some T) b1 ∷ o.0, (b1, o.0, b1, b2, refl, e, (refl, (v, s)), o.1), subst (λ ps. Spelt (field_pieces (field name need T fs) i ps) (part (to_component i) (Some T) b1 ∷ o.0)) (sym is) (b1, o.0, refl, s, o.2))
field_bit false need T fs i name R S ps b f (rest, is, r) =
    let o = f rest b r in
    (o.0, o.1, subst (λ ps. Spelt (field_pieces (field name need T fs) i ps) o.0) (sym is) o.2)

fields_go : (fs : Fields) (i : ℕ) (s : List Bool) (ps : Places) (b : List ℕ) → SpellsFields fs s ps b → Goes (SplitsFields fs i s) (field_pieces fs i ps) b
fields_go no_fields i s ps b (is, e) = ([], (refl, e), refl)
fields_go (field name must T fs) i s ps b x = field_bit true must T fs i name (SpellsFields fs s) (SplitsFields fs (suc i) s) ps b (fields_go fs (suc i) s) x
fields_go (field name may T fs) i s ps b x = field_bit (first_bit s) may T fs i name (SpellsFields fs (later_bits s)) (SplitsFields fs (suc i) (later_bits s)) ps b (fields_go fs (suc i) (later_bits s)) x
fields_go (field name (default d) T fs) i s ps b x = field_bit (first_bit s) (default d) T fs i name (SpellsFields fs (later_bits s)) (SplitsFields fs (suc i) (later_bits s)) ps b (fields_go fs (suc i) (later_bits s)) x

addition_bit : (x : Bool) (T : AsnType) (more : Additions) (i : ℕ) (name : List ℕ) (R : Places → List ℕ → Type 0) (S : List Part → List ℕ → Type 0) (ps : Places) (b : List ℕ) → ((ps : Places) (b : List ℕ) → R ps b → Goes S (addition_pieces more (suc i) ps) b)
    → ByBit x (IsCounted (IsSpelling T)) R ps b → Goes (StartsByBit x (to_addition i) (Some T) (IsCounted (Holds T)) S) (addition_pieces (addition name T more) i ps) b
addition_bit true T more i name R S ps b f (v, rest, b1, b2, is, e, (l, c, g, len, s), r) =
    let o = f rest b2 r in
    (part (to_addition i) (Some T) c ∷ o.0, (c, o.0, b1, b2, refl, e, (l, c, g, len, (refl, (v, s))), o.1), subst (λ ps. Spelt (addition_pieces (addition name T more) i ps) (part (to_addition i) (Some T) c ∷ o.0)) (sym is) (c, o.0, refl, s, o.2))
addition_bit false T more i name R S ps b f (rest, is, r) =
    let o = f rest b r in
    (o.0, o.1, subst (λ ps. Spelt (addition_pieces (addition name T more) i ps) o.0) (sym is) o.2)

additions_go : (more : Additions) (i : ℕ) (s : List Bool) (ps : Places) (b : List ℕ) → SpellsAdditions more s ps b → Goes (SplitsAdditions more i s) (addition_pieces more i ps) b
additions_go no_additions i s ps b (is, e) = ([], (refl, e), refl)
additions_go (addition name T more) i s ps b x = addition_bit (first_bit s) T more i name (SpellsAdditions more (later_bits s)) (SplitsAdditions more (suc i) (later_bits s)) ps b (additions_go more (suc i) (later_bits s)) x

unknown_go : (i : ℕ) (s : List Bool) (us : List Unknown) (b : List ℕ) → SpellsUnknown (IsCounted IsItself) i s us b → Goes (SplitsUnknown i s) (unknown_pieces us) b
unknown_go i [] us b (is, e) = ([], (refl, e), subst (λ us. Spelt (unknown_pieces us) []) (sym is) refl)
unknown_go i (true ∷ s) us b (w, rest, b1, b2, is, e, x, r) =
    let o = unknown_go (suc i) s rest b2 r in
    (part (to_addition i) None w ∷ o.0, (w, o.0, b1, b2, refl, e, x, o.1), subst (λ us. Spelt (unknown_pieces us) (part (to_addition i) None w ∷ o.0)) (sym is) (o.0, refl, o.2))
unknown_go i (false ∷ s) us b r = unknown_go (suc i) s us b r

absent_pieces : (more : Additions) (i : ℕ) → addition_pieces more i (all_absent more) ≡ []
absent_pieces no_additions i = refl
absent_pieces (addition name T more) i = absent_pieces more (suc i)

extension_goes : (x : Bool) (more : Additions) (ps : Places) (us : List Unknown) (e : List ℕ) → SpellsExtension x more (SpellsAdditions more) ps us e → Goes (SplitsExtension x more) (addition_pieces more 0 ps ++ unknown_pieces us) e
extension_goes false more ps us e (is, none, f) = ([], (refl, f), subst (λ qs. Spelt qs []) (sym (ap₂ (λ ps us. addition_pieces more 0 ps ++ unknown_pieces us) is none ∙ ap (λ p. p ++ []) (absent_pieces more 0))) refl)
extension_goes true more ps us e (s, m, a, u, f, k, low, x, r) =
    let o = additions_go more 0 s ps a x in
    let q = unknown_go (addition_count more) (drop (addition_count more) s) us u r in
    (o.0 ++ q.0, (s, m, o.0, q.0, a, u, refl, f, k, o.1, q.1), spelt_join (addition_pieces more 0 ps) (unknown_pieces us) o.0 q.0 o.2 q.2)

items_go : (T : AsnType) (i : ℕ) (vs : List AsnValue) (b : List ℕ) → IsJoined (IsSpelling T) vs b → Goes (SplitsItems T i (length vs)) (item_pieces T i (listed vs)) b
items_go T i [] b e = ([], (refl, e), refl)
items_go T i (v ∷ vs) b (b1, b2, e, s, r) =
    let o = items_go T (suc i) vs b2 r in
    (part (to_item i) (Some T) b1 ∷ o.0, (b1, o.0, b1, b2, refl, e, (refl, (v, s)), o.1), (b1, o.0, refl, s, o.2))

tag_goes : (same : Bool) (T : AsnType) (f : AsnValue → List Piece) (C : List ℕ → List ℕ → Type 0) (S R : AsnValue → List ℕ → Type 0) (Q : List Part → List ℕ → Type 0) (x : AsnValue) (b : List ℕ) → (S x b → (c : List ℕ) × C c b × IsSpelling T x c) → (R x b → Goes Q (f x) b)
    → ByTag same S R x b → Goes (AloneByTag same (IsAlone (Some T) C) Q) (pieces_by_tag same T f x) b
tag_goes true T f C S R Q x b g h s = let o = g s in (part to_chosen (Some T) o.0 ∷ [], (o.0, refl, o.1), (o.0, [], refl, o.2, refl))
tag_goes false T f C S R Q x b g h s = h s

alternatives_go : (more : Alternatives) (t : Tag) (x : AsnValue) (b : List ℕ) → SpellsAlternative more t x b → Goes (SplitsAlternative more t) (alternative_pieces more t x) b
alternatives_go no_alternatives t x b s = absurd s
alternatives_go (alternative name u T more) t x b s = tag_goes (same_tag u t) T (alternative_pieces more t) (Holds T) (IsSpelling T) (SpellsAlternative more t) (SplitsAlternative more t) x b (λ s. (b, (refl, (x, s)), s)) (alternatives_go more t x b) s
alternatives_go (later name u T more) t x b s = tag_goes (same_tag u t) T (alternative_pieces more t) (IsCounted (Holds T)) (IsCounted (IsSpelling T)) (SpellsAlternative more t) (SplitsAlternative more t) x b (λ (l, c, e, len, s). (c, (l, c, e, len, (refl, (x, s))), s)) (alternatives_go more t x b) s

-- An encoding splits into parts that spell the pieces of its value.
pub splits : (T : AsnType) (v : AsnValue) (b : List ℕ) → IsSpelling T v b → Goes (IsSplit T) (pieces T v) b
splits (sequence fs) v b (root, s, p, r, is, e, n, pre, x) =
    let o = fields_go fs 0 s root r x in
    (o.0, (s, p, r, e, n, pre, o.1), subst (λ v. Spelt (pieces (sequence fs) v) o.0) (sym is) o.2)
splits (extensible_sequence fs more) v b (root, added, us, x, s, p, r, a, is, e, n, pre, f, ext) =
    let o = fields_go fs 0 s root r f in
    let q = extension_goes x more added us a ext in
    (o.0 ++ q.0, (x, s, p, r, a, o.0, q.0, refl, e, n, pre, o.1, q.1), subst (λ v. Spelt (pieces (extensible_sequence fs more) v) (o.0 ++ q.0)) (sym is) (spelt_join (field_pieces fs 0 root) (addition_pieces more 0 added ++ unknown_pieces us) o.0 q.0 o.2 q.2))
splits (sequence_of size T) v b (vs, q, es, is, e, k, fits, x) =
    let o = items_go T 0 vs es x in
    (o.0, (length vs, q, es, e, k, fits, o.1), subst (λ v. Spelt (pieces (sequence_of size T) v) o.0) (sym is) o.2)
splits (choice extensible more) v b (t, p, c, e, tag, inl (x, is, s)) =
    let o = alternatives_go more t x c s in
    (o.0, (t, p, c, e, tag, inl o.1), subst (λ v. Spelt (pieces (choice extensible more) v) o.0) (sym is) o.2)
splits (choice extensible more) v b (t, p, c, e, tag, inr (w, is, o, none, s)) =
    (part to_chosen None w ∷ [], (t, p, c, e, tag, inr (none, (w, refl, s))), subst (λ v. Spelt (pieces (choice extensible more) v) (part to_chosen None w ∷ [])) (sym is) ([], refl, refl))
splits (leaf kind) v b s = ([], refl, refl)

-- what a step leads to in a value
pub data Child : Type 0 where
  typed : Need → AsnType → AsnValue → Child
  untyped : List ℕ → Child
  nothing_there : Child

abbrev pub child_in : Step → List Piece → Child
child_in step [] = nothing_there
child_in step (piece other need T v ∷ ps) = if same_step other step then typed need T v else child_in step ps
child_in step (raw other w ∷ ps) = if same_step other step then untyped w else child_in step ps

-- what the step leads to in the octets, by what it leads to in the value
abbrev pub Led : Child → (Answer → Answer) → Type 0
Led (typed need T v) find = (c : List ℕ) × ((o : Answer) → find o ≡ found (Some T) c) × IsSpelling T v c
Led (untyped w) find = (o : Answer) → find o ≡ found None w
Led nothing_there find = (o : Answer) → find o ≡ o

pub led : (ps : List Piece) (parts : List Part) → Spelt ps parts → (step : Step) → Led (child_in step ps) (λ o. lookup o step parts)
led [] parts s step = λ o. ap (lookup o step) s
led (piece other need T v ∷ ps) parts (c, rest, is, x, s) step = subst (λ parts. Led (child_in step (piece other need T v ∷ ps)) (λ o. lookup o step parts)) (sym is) (by_step (same_step other step) (led ps rest s step))
  where
    by_step : (t : Bool) → Led (child_in step ps) (λ o. lookup o step rest) → Led (if t then typed need T v else child_in step ps) (λ o. if t then found (Some T) c else lookup o step rest)
    by_step true l = (c, (λ o. refl), x)
    by_step false l = l
led (raw other w ∷ ps) parts (rest, is, s) step = subst (λ parts. Led (child_in step (raw other w ∷ ps)) (λ o. lookup o step parts)) (sym is) (by_step (same_step other step) (led ps rest s step))
  where
    by_step : (t : Bool) → Led (child_in step ps) (λ o. lookup o step rest) → Led (if t then untyped w else child_in step ps) (λ o. if t then found None w else lookup o step rest)
    by_step true l = λ o. refl
    by_step false l = l

-- Types of pieces keep the limits.
abbrev pub Kept : List Piece → Type 0
Kept [] = Unit {0}
Kept (piece step need T v ∷ ps) = (KeepsLimits T × DefaultsFit T) × Kept ps
Kept (raw step w ∷ ps) = Kept ps

kept_join : (ps qs : List Piece) → Kept ps → Kept qs → Kept (ps ++ qs)
kept_join [] qs k j = j
kept_join (piece step need T v ∷ ps) qs (k, r) j = (k, kept_join ps qs r j)
kept_join (raw step w ∷ ps) qs k j = kept_join ps qs k j

fields_kept : (fs : Fields) → FieldsKeepLimits fs → FieldDefaultsFit fs → (i : ℕ) (ps : Places) → Kept (field_pieces fs i ps)
fields_kept no_fields w d i ps = tt
fields_kept (field name need T fs) w d i no_places = tt
fields_kept (field name need T fs) w d i (absent ps) = fields_kept fs w.1 d.2 (suc i) ps
fields_kept (field name need T fs) w d i (present v ps) = ((w.0, d.0), fields_kept fs w.1 d.2 (suc i) ps)

additions_kept : (more : Additions) → AdditionsKeepLimits more → AdditionDefaultsFit more → (i : ℕ) (ps : Places) → Kept (addition_pieces more i ps)
additions_kept no_additions w d i ps = tt
additions_kept (addition name T more) w d i no_places = tt
additions_kept (addition name T more) w d i (absent ps) = additions_kept more w.1 d.1 (suc i) ps
additions_kept (addition name T more) w d i (present v ps) = ((w.0, d.0), additions_kept more w.1 d.1 (suc i) ps)

unknown_kept : (us : List Unknown) → Kept (unknown_pieces us)
unknown_kept [] = tt
unknown_kept (unknown place w ∷ us) = unknown_kept us

items_kept : (T : AsnType) → KeepsLimits T → DefaultsFit T → (i : ℕ) (vs : Values) → Kept (item_pieces T i vs)
items_kept T w d i no_values = tt
items_kept T w d i (value v vs) = ((w, d), items_kept T w d (suc i) vs)

tag_kept : (same : Bool) (T : AsnType) (f : AsnValue → List Piece) (x : AsnValue) → KeepsLimits T × DefaultsFit T → Kept (f x) → Kept (pieces_by_tag same T f x)
tag_kept true T f x k j = (k, tt)
tag_kept false T f x k j = j

alternatives_kept : (more : Alternatives) → AlternativesKeepLimits more → AlternativeDefaultsFit more → (t : Tag) (x : AsnValue) → Kept (alternative_pieces more t x)
alternatives_kept no_alternatives w d t x = tt
alternatives_kept (alternative name u T more) w d t x = tag_kept (same_tag u t) T (alternative_pieces more t) x (w.0, d.0) (alternatives_kept more w.1 d.1 t x)
alternatives_kept (later name u T more) w d t x = tag_kept (same_tag u t) T (alternative_pieces more t) x (w.0, d.0) (alternatives_kept more w.1 d.1 t x)

seq_kept : (f : Places → Places → List Unknown → List Piece) → ((root added : Places) (us : List Unknown) → Kept (f root added us)) → (v : AsnValue) → Kept (in_seq f v)
seq_kept f k (seq root added us) = k root added us
seq_kept f k _ = tt

in_items_kept : (f : Values → List Piece) → ((vs : Values) → Kept (f vs)) → (v : AsnValue) → Kept (in_items f v)
in_items_kept f k (items vs) = k vs
in_items_kept f k _ = tt

choice_kept : (f : Tag → AsnValue → List Piece) → ((t : Tag) (x : AsnValue) → Kept (f t x)) → (v : AsnValue) → Kept (in_choice f v)
choice_kept f k (chosen t x) = k t x
choice_kept f k (foreign t w) = tt
choice_kept f k _ = tt

pub kept : (T : AsnType) → KeepsLimits T → DefaultsFit T → (v : AsnValue) → Kept (pieces T v)
kept (sequence fs) w d v = seq_kept (λ root added us. field_pieces fs 0 root) (λ root added us. fields_kept fs w d 0 root) v
kept (extensible_sequence fs more) w d v = seq_kept (λ root added us. field_pieces fs 0 root ++ (addition_pieces more 0 added ++ unknown_pieces us))
    (λ root added us. kept_join (field_pieces fs 0 root) (addition_pieces more 0 added ++ unknown_pieces us) (fields_kept fs w.0 d.0 0 root) (kept_join (addition_pieces more 0 added) (unknown_pieces us) (additions_kept more w.1 d.1 0 added) (unknown_kept us))) v
kept (sequence_of size T) w d v = in_items_kept (item_pieces T 0) (items_kept T w.1 d 0) v
kept (choice extensible more) w d v = choice_kept (alternative_pieces more) (alternatives_kept more w d) v
kept (leaf kind) w d v = tt

abbrev pub KeptChild : Child → Type 0
KeptChild (typed need T v) = KeepsLimits T × DefaultsFit T
KeptChild (untyped w) = Unit {0}
KeptChild nothing_there = Unit {0}

pub child_kept : (step : Step) (ps : List Piece) → Kept ps → KeptChild (child_in step ps)
child_kept step [] k = tt
child_kept step (piece other need T v ∷ ps) (k, r) = by_step (same_step other step) k (child_kept step ps r)
  where
    by_step : (t : Bool) → KeepsLimits T × DefaultsFit T → KeptChild (child_in step ps) → KeptChild (if t then typed need T v else child_in step ps)
    by_step true k j = k
    by_step false k j = j
child_kept step (raw other w ∷ ps) k = by_step (same_step other step) (child_kept step ps k)
  where
    by_step : (t : Bool) → KeptChild (child_in step ps) → KeptChild (if t then untyped w else child_in step ps)
    by_step true j = tt
    by_step false j = j
