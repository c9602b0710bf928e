-- Parts that follow one another, each there or not, and how one of them is found.
use Rattle.std.proofs.Common.{◌≡◌, ℕ, Bool, true, false, ◌&&◌, List, [], ◌∷◌, ◌++◌, Option, refl, sym, ap, ◌∙◌, subst}
use Rattle.oer_units.specs.Reader.{Outcome, Place, Reader, bind, give, got, refused, then_read}
use Rattle.oer_units.proofs.Closure.{got_place}
use Rattle.oer_model.specs.AsnType.{AsnType}
use Rattle.oer_model.specs.Checking.{both}
use Rattle.oer_model.specs.Parts.{Answer, Part, Step, first_by_bit, found, lookup, part, read_first, same_step}
use Rattle.oer_checker.specs.Steps.{and_after, check_if}
use Rattle.oer_checker.proofs.Joins.{bind_got, both_got, give_got}

-- a part: its step and type, how it is checked, how its octets are read, and whether it is there
pub record Entry : Type 0 where
  pub step : Step
  pub type : Option AsnType
  pub check : Reader Bool
  pub octets : Reader (List ℕ)
  pub there : Bool

-- the reader ends at q
abbrev pub Ends : {A : Type 0} → Outcome A → Place → Type 0
Ends {A = A} o q = (x : A) × (got x q ≡ o)

-- one part from p on, and then the others
abbrev pub Passes_by : Bool → Entry → (Place → Type 0) → Place → Type 0
Passes_by true e More p = (c : List ℕ) × (r : Place) × Ends (e.check p) r × (got c r ≡ e.octets p) × More r
Passes_by false e More p = More p

-- they stand from p to q
abbrev pub Passes : List Entry → Place → Place → Type 0
Passes [] p q = p ≡ q
Passes (e ∷ es) p q = Passes_by e.there e (λ r. Passes es r q) p

abbrev pub walked_by : (there : Bool) (e : Entry) (More : Place → Type 0) → ((r : Place) → More r → List Part) → (p : Place) → Passes_by there e More p → List Part
walked_by true e More rest p (c, r, ends, is, w) = part e.step e.type c ∷ rest r w
walked_by false e More rest p w = rest p w

-- those that are there
abbrev pub walked : (es : List Entry) (p q : Place) → Passes es p q → List Part
walked [] p q w = []
walked (e ∷ es) p q w = walked_by e.there e (λ r. Passes es r q) (λ r. walked es r q) p w

abbrev pub NotIn : Step → List Entry → Type 0
NotIn step [] = Unit {0}
NotIn step (e ∷ es) = (same_step e.step step ≡ false) × NotIn step es

-- ---- what is not among them

missed_by : (there : Bool) (e : Entry) (More : Place → Type 0) (rest : (r : Place) → More r → List Part) (p : Place) (w : Passes_by there e More p) (step : Step) (o : Answer) → same_step e.step step ≡ false → ((r : Place) (w : More r) → o ≡ lookup o step (rest r w)) → o ≡ lookup o step (walked_by there e More rest p w)
missed_by true e More rest p (c, r, ends, is, w) step o other more = rw other (more r w)
missed_by false e More rest p w step o other more = more p w

pub missed : (es : List Entry) (p q : Place) (w : Passes es p q) (step : Step) (o : Answer) → NotIn step es → o ≡ lookup o step (walked es p q w)
missed [] p q w step o none = refl
missed (e ∷ es) p q w step o none = missed_by e.there e (λ r. Passes es r q) (λ r. walked es r q) p w step o none.0 (λ r w. missed es r q w step o none.1)

-- ---- what is

-- what is looked up where e begins at r
abbrev pub FoundBy : Bool → Entry → Place → (Answer → Answer) → Type 0
FoundBy true e r look = (c : List ℕ) × (s : Place) × Ends (e.check r) s × (got c s ≡ e.octets r) × ((o : Answer) → found e.type c ≡ look o)
FoundBy false e r look = (o : Answer) → o ≡ look o

abbrev pub FoundAt : List Entry → Entry → Place → (Answer → Answer) → Type 0
FoundAt front e p look = (r : Place) × Passes front p r × FoundBy e.there e r look

found_first : (there : Bool) (e : Entry) (More : Place → Type 0) (rest : (r : Place) → More r → List Part) (p : Place) (w : Passes_by there e More p) → same_step e.step e.step ≡ true → ((r : Place) (w : More r) (o : Answer) → o ≡ lookup o e.step (rest r w)) → FoundBy there e p (λ o. lookup o e.step (walked_by there e More rest p w))
found_first true e More rest p (c, r, ends, is, w) same none = (c, r, ends, is, λ o. rw same refl)
found_first false e More rest p w same none = λ o. none p w o

pub FoundBy_same : (there : Bool) (e : Entry) (r : Place) (look other : Answer → Answer) → ((o : Answer) → look o ≡ other o) → FoundBy there e r look → FoundBy there e r other
FoundBy_same true e r look other same (c, s, ends, is, f) = (c, s, ends, is, λ o. f o ∙ same o)
FoundBy_same false e r look other same f = λ o. f o ∙ same o

found_later : (there : Bool) (e : Entry) (front : List Entry) (x : Entry) (More : Place → Type 0) (rest : (r : Place) → More r → List Part) (p : Place) (w : Passes_by there e More p) → same_step e.step x.step ≡ false
    → ((r : Place) (w : More r) → FoundAt front x r (λ o. lookup o x.step (rest r w))) → (r : Place) × Passes_by there e (λ s. Passes front s r) p × FoundBy x.there x r (λ o. lookup o x.step (walked_by there e More rest p w))
found_later true e front x More rest p (c, s, ends, is, w) other more =
    let f = more s w in
    (f.0, (c, s, ends, is, f.1), FoundBy_same x.there x f.0 (λ o. lookup o x.step (rest s w)) (λ o. lookup o x.step (part e.step e.type c ∷ rest s w)) (λ o. rw other refl) f.2)
found_later false e front x More rest p w other more = more p w

pub found_in : (front : List Entry) (x : Entry) (later : List Entry) (p q : Place) (w : Passes (front ++ (x ∷ later)) p q) → same_step x.step x.step ≡ true → NotIn x.step front → NotIn x.step later → FoundAt front x p (λ o. lookup o x.step (walked (front ++ (x ∷ later)) p q w))
found_in [] x later p q w same before after = (p, refl, found_first x.there x (λ r. Passes later r q) (λ r. walked later r q) p w same (λ r w o. missed later r q w x.step o after))
found_in (e ∷ front) x later p q w same before after = found_later e.there e front x (λ r. Passes (front ++ (x ∷ later)) r q) (λ r. walked (front ++ (x ∷ later)) r q) p w before.0 (λ r w. found_in front x later r q w same before.1 after)

-- the same of a list that is equal
pub found_there : (es front : List Entry) (x : Entry) (later : List Entry) → es ≡ front ++ (x ∷ later) → (p q : Place) (w : Passes es p q) → same_step x.step x.step ≡ true → NotIn x.step front → NotIn x.step later → FoundAt front x p (λ o. lookup o x.step (walked es p q w))
found_there es front x later e = subst (λ (l : List Entry). (p q : Place) (w : Passes l p q) → same_step x.step x.step ≡ true → NotIn x.step front → NotIn x.step later → FoundAt front x p (λ o. lookup o x.step (walked l p q w))) (sym e) (found_in front x later)

-- ---- checked, and read

-- where it is checked, its octets are read
abbrev pub Paired : Entry → Type 0
Paired e = (p q : Place) (f : Bool) → got f q ≡ e.check p → (c : List ℕ) × (got c q ≡ e.octets p)

both_by : (c d : Reader Bool) (q : Place) (f : Bool) (p : Place) (o : Outcome Bool) → c p ≡ o → got f q ≡ both c d p → (g : Bool) × (r : Place) × (h : Bool) × (got g r ≡ c p) × (got h q ≡ d r)
unfolding both bind
both_by c d q f p (refused why rest) e is = (
    let stops : both c d p ≡ refused why rest = ap (then_read (λ g. _)) e in
    absurd (cc))
both_by c d q f p (got g r) e is =
    let here : and_after g (d r) ≡ both c d p = both_got c d p r g (sym e) in
    let more = ended (d r) g f q (is ∙ sym here) in
    (g, r, more.0, sym e, more.1)
  where
    ended : (o : Outcome Bool) (g f : Bool) (q : Place) → got f q ≡ and_after g o → (h : Bool) × (got h q ≡ o)
    ended (got h s) g f q is = (h, ap (λ (t : Place). got h t) (cc))
    ended (refused why rest) g f q is = absurd (cc)

pub both_ends : (c d : Reader Bool) (p q : Place) (f : Bool) → got f q ≡ both c d p → (g : Bool) × (r : Place) × (h : Bool) × (got g r ≡ c p) × (got h q ≡ d r)
both_ends c d p q f is = both_by c d q f p (c p) refl is

pub passes_next : (e : Entry) (es : List Entry) (d : Reader Bool) (there : Bool) (p q : Place) (f : Bool) → e.there ≡ there → Paired e → ((r : Place) (h : Bool) → got h q ≡ d r → Passes es r q) → got f q ≡ both (check_if there e.check) d p → Passes_by there e (λ r. Passes es r q) p
unfolding give
passes_next e es d true p q f there pair more is =
    let o = both_ends e.check d p q f is in
    let c = pair p o.1 o.0 o.3 in
    (c.0, o.1, (o.0, o.3), c.1, more o.1 o.2 o.4)
passes_next e es d false p q f there pair more is =
    let o = both_ends (give true) d p q f is in
    let same : o.1 ≡ p = got_place o.0 true o.1 p o.3 in
    subst (λ (r : Place). Passes es r q) same (more o.1 o.2 o.4)

-- and back
pub ends_next : (e : Entry) (es : List Entry) (d : Reader Bool) (there : Bool) (p q : Place) → ((r : Place) → Passes es r q → Ends (d r) q) → Passes_by there e (λ r. Passes es r q) p → Ends (both (check_if there e.check) d p) q
ends_next e es d true p q more (c, r, (f, ends), is, w) =
    let m = more r w in
    (f && m.0, ap (and_after f) m.1 ∙ both_got e.check d p r f ends)
ends_next e es d false p q more w =
    let m = more p w in
    (m.0, ap (and_after true) m.1 ∙ both_got (give true) d p p true (give_got true p))

-- the parts that are read
pub parts_next : (e : Entry) (es : List Entry) (rest : Reader (List Part)) (there : Bool) (p q : Place) (w : Passes_by there e (λ r. Passes es r q) p) → ((r : Place) (w : Passes es r q) → got (walked es r q w) q ≡ rest r) → got (walked_by there e (λ r. Passes es r q) (λ r. walked es r q) p w) q ≡ first_by_bit there e.step e.type e.octets rest p
unfolding read_first
parts_next e es rest true p q (c, r, ends, is, w) more =
    bind_got e.octets (λ c. bind rest (λ parts. give (part e.step e.type c ∷ parts))) p r c (got (part e.step e.type c ∷ walked es r q w) q) is
    (bind_got rest (λ parts. give (part e.step e.type c ∷ parts)) r q (walked es r q w) (got (part e.step e.type c ∷ walked es r q w) q) (more r w) (give_got (part e.step e.type c ∷ walked es r q w) q))
parts_next e es rest false p q w more = more p w
