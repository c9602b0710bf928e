-- Strings, and the subidentifiers of object identifiers.
use Rattle.std.proofs.Common.{◌≡◌, ◌≢◌, ℕ, suc, ◌-◌, ◌≤◌, Bool, true, false, leb, eqb, List, length, take, drop, Option, Some, None, refl, sym, ap, ap₂, ◌∙◌, arith, length-drop, length-take, subst}
use Rattle.std.proofs.lemmas.Bool.{eqb-true, eq-eqb, leb-true}
use Rattle.std.specs.Str.{chars, is_utf8}
use Rattle.oer_units.specs.declared.fault.Why.{Why}
use Rattle.oer_units.specs.declared.fault.Why.TheVariants.{Character}
use Rattle.oer_units.specs.declared.fault.Why.TheVariants as reason
use Rattle.oer_units.specs.Least.{counted}
use Rattle.oer_units.specs.Reader.{Outcome, Place, Reader, at, bind, bounded, choose, give, got, group, group_by, guard, refuse, refused, then_read, within}
use Rattle.oer_units.specs.Reading.{counted_length, counted_octets, determinant, subidentifier, with_length}
use Rattle.oer_units.proofs.Closure.{got_place, got_value}
use Rattle.oer_model.specs.Canonical.{string_octets}
use Rattle.oer_model.specs.Checking.{check_octet_string, check_subidentifiers, check_text, check_utf8, is_least, judged}
use Rattle.oer_model.specs.Constraints.{size_fits}
use Rattle.oer_model.specs.Reading.{read_octets}
use Rattle.oer_model.specs.declared.size.Size.{Size}
use Rattle.oer_checker.specs.Steps.{got_both, between, sized_length, subidentifier_size}
use Rattle.oer_checker.proofs.Joins.{bind_got, bind_stop, give_got, judged_got, judged_stop}
use Rattle.oer_checker.proofs.LengthSteps.{sized_room}

-- ---- groups

pub record IsGroup (n : ℕ) (p q : Place) (w : List ℕ) : Type 0 where
  pub room : n ≤ p.left
  pub came : n ≤ length p.input
  pub octets : w ≡ take n p.input
  pub place : q ≡ at (drop n p.input) (p.left - n)

pub group_is : (n : ℕ) (p q : Place) (w : List ℕ) → got w q ≡ group n p → IsGroup n p q w
unfolding group
group_is n p q w = cases (leb n p.left) (leb n (length p.input)) refl refl where
  cases : (a b : Bool) → leb n p.left ≡ a → leb n (length p.input) ≡ b → got w q ≡ group_by a b n p → IsGroup n p q w
  cases false b ea eb e = absurd (cc)
  cases true false ea eb e = absurd (cc)
  cases true true ea eb e = record {
    room = leb-true n p.left ea;
    came = leb-true n (length p.input) eb;
    octets = got_value w (take n p.input) q (at (drop n p.input) (p.left - n)) e;
    place = got_place w (take n p.input) q (at (drop n p.input) (p.left - n)) e;
  }

pub group_between : (n : ℕ) (p q : Place) (w : List ℕ) → got w q ≡ group n p → between p q ≡ w
group_between n p q w e =
    let g = group_is n p q w e in
    let came = g.came in
    ap (λ (t : Place). between p t) g.place ∙ ap (λ (i : ℕ). take i p.input) (omega (arith, length-drop n p.input)) ∙ sym g.octets

pub group_size : (n : ℕ) (p q : Place) (w : List ℕ) → got w q ≡ group n p → length w ≡ n
group_size n p q w e =
    let g = group_is n p q w e in
    let came = g.came in
    ap length (sym (group_between n p q w e)) ∙ size n p q w g
  where
    size : (n : ℕ) (p q : Place) (w : List ℕ) → IsGroup n p q w → length (between p q) ≡ n
    size n p q w g = ap (λ (t : Place). length (between p t)) g.place ∙ (let came = g.came in omega (arith, length-drop n p.input, length-take (length p.input - length (drop n p.input)) p.input))

-- ---- what follows a length

pub with_got : {A : Type 0} (k : ℕ → Reader A) (p q : Place) (n : ℕ) (o : Outcome A) → got n q ≡ counted_length p → o ≡ k n q → o ≡ with_length k p
unfolding counted_length with_length bind within give
with_got {A} k p q n o = cases (determinant p) where
  step : (b : Bool) (m : ℕ) (s : Place) → got n q ≡ bounded b (λ t. got m t) s → o ≡ k n q → o ≡ bounded b (k m) s
  step true m s e h = h ∙ ap₂ (λ (i : ℕ) (t : Place). k i t) (got_value n m q s e) (got_place n m q s e)
  step false m s e h = absurd (cc)

  cases : (d : Outcome ℕ) → got n q ≡ then_read (λ m t. bounded (leb m t.left) (λ u. got m u) t) d → o ≡ k n q → o ≡ then_read (λ m t. bounded (leb m t.left) (k m) t) d
  cases (got m s) e h = step (leb m s.left) m s e h
  cases (refused why rest) e h = absurd (cc)

pub with_stop : {A : Type 0} (k : ℕ → Reader A) (p : Place) (why : Why) (rest : List ℕ) → refused why rest ≡ counted_length p → refused why rest ≡ with_length k p
unfolding counted_length with_length bind within give
with_stop k p why rest = cases (determinant p) where
  step : (b : Bool) (m : ℕ) (s : Place) → refused why rest ≡ bounded b (λ t. got m t) s → refused why rest ≡ bounded b (k m) s
  step true m s e = absurd (cc)
  step false m s e = cc

  cases : (d : Outcome ℕ) → refused why rest ≡ then_read (λ m t. bounded (leb m t.left) (λ u. got m u) t) d → refused why rest ≡ then_read (λ m t. bounded (leb m t.left) (k m) t) d
  cases (got m s) e = step (leb m s.left) m s e
  cases (refused w l) e = cc

-- ---- octets after a length

pub counted_got : (p q end : Place) (n : ℕ) (w : List ℕ) (f : Bool) → got n q ≡ counted_length p → got w end ≡ group n q → f ≡ is_least counted w (between p end) → got_both w f end ≡ judged (is_least counted) counted_octets p
unfolding counted_octets
counted_got p q end n w f e h is = ap (λ (g : Bool). got_both w g end) is ∙ judged_got (is_least counted) (with_length (λ i. group i)) p end w (with_got (λ i. group i) p q n (got w end) e h)

pub counted_cut : (p q : Place) (n : ℕ) (why : Why) (rest : List ℕ) → got n q ≡ counted_length p → refused why rest ≡ group n q → refused why rest ≡ judged (is_least counted) counted_octets p
unfolding counted_octets
counted_cut p q n why rest e h = judged_stop (is_least counted) (with_length (λ i. group i)) p why rest (with_got (λ i. group i) p q n (refused why rest) e h)

pub counted_stop : (p : Place) (why : Why) (rest : List ℕ) → refused why rest ≡ counted_length p → refused why rest ≡ judged (is_least counted) counted_octets p
unfolding counted_octets
counted_stop p why rest e = judged_stop (is_least counted) (with_length (λ i. group i)) p why rest (with_stop (λ i. group i) p why rest e)

abbrev sized : Option ℕ → Size → Reader (List ℕ × Bool)
sized fix s = judged (is_least (string_octets fix)) (read_octets fix s)

pub fixed_got : (fix : Option ℕ) (s : Size) (p q : Place) (n : ℕ) (w : List ℕ) → Some n ≡ fix → got w q ≡ group n p → got_both w true q ≡ sized fix s p
fixed_got fix s p q n w is e =
    let all : eqb (length (between p q)) (length w) ≡ true = eq-eqb (length (between p q)) (length w) (ap length (group_between n p q w e)) in
    subst (λ (o : Option ℕ). got_both w true q ≡ sized o s p) is (ap (λ (f : Bool). got_both w f q) (sym all) ∙ judged_got (is_least (string_octets (Some n))) (group n) p q w e)

pub fixed_stop : (fix : Option ℕ) (s : Size) (p : Place) (n : ℕ) (why : Why) (rest : List ℕ) → Some n ≡ fix → refused why rest ≡ group n p → refused why rest ≡ sized fix s p
fixed_stop fix s p n why rest is e = subst (λ (o : Option ℕ). refused why rest ≡ sized o s p) is (judged_stop (is_least (string_octets (Some n))) (group n) p why rest e)

abbrev after_length : Size → ℕ → Reader (List ℕ)
after_length s n = guard (size_fits s n) reason.Size (group n)

pub sized_stop : (fix : Option ℕ) (s : Size) (p : Place) (why : Why) (rest : List ℕ) → None ≡ fix → refused why rest ≡ counted_length p → refused why rest ≡ sized fix s p
sized_stop fix s p why rest is e = subst (λ (o : Option ℕ). refused why rest ≡ sized o s p) is (judged_stop (is_least (string_octets None)) (with_length (after_length s)) p why rest (with_stop (after_length s) p why rest e))

sized_then : (fix : Option ℕ) (s : Size) (p q : Place) (n : ℕ) (why : Why) (rest : List ℕ) → None ≡ fix → got n q ≡ counted_length p → refused why rest ≡ after_length s n q → refused why rest ≡ sized fix s p
sized_then fix s p q n why rest is e h = subst (λ (o : Option ℕ). refused why rest ≡ sized o s p) is (judged_stop (is_least (string_octets None)) (with_length (after_length s)) p why rest (with_got (after_length s) p q n (refused why rest) e h))

misfit_is : (s : Size) (n : ℕ) (q : Place) → size_fits s n ≡ false → refused reason.Size q.input ≡ after_length s n q
unfolding refuse
misfit_is s n q out = rw out refl

pub sized_misfit : (fix : Option ℕ) (s : Size) (p q : Place) (n : ℕ) → None ≡ fix → got n q ≡ counted_length p → size_fits s n ≡ false → refused reason.Size q.input ≡ sized fix s p
sized_misfit fix s p q n is e out = sized_then fix s p q n reason.Size q.input is e (misfit_is s n q out)

pub sized_cut : (fix : Option ℕ) (s : Size) (p q : Place) (n : ℕ) (why : Why) (rest : List ℕ) → None ≡ fix → got n q ≡ counted_length p → size_fits s n ≡ true → refused why rest ≡ group n q → refused why rest ≡ sized fix s p
sized_cut fix s p q n why rest is e fits h = sized_then fix s p q n why rest is e (h ∙ ap (λ (b : Bool). guard b reason.Size (group n) q) (sym fits))

pub sized_got : (fix : Option ℕ) (s : Size) (p q end : Place) (n : ℕ) (w : List ℕ) (f : Bool) → None ≡ fix → got n q ≡ counted_length p → size_fits s n ≡ true → got w end ≡ group n q → f ≡ is_least counted w (between p end) → got_both w f end ≡ sized fix s p
sized_got fix s p q end n w f is e fits h least =
    subst (λ (o : Option ℕ). got_both w f end ≡ sized o s p) is
    (ap (λ (g : Bool). got_both w g end) least
    ∙ judged_got (is_least (string_octets None)) (with_length (after_length s)) p end w (with_got (after_length s) p q n (got w end) e (h ∙ ap (λ (b : Bool). guard b reason.Size (group n) q) (sym fits))))

-- ---- what a string has to be

pub string_got : (fix : Option ℕ) (s : Size) (p q : Place) (w : List ℕ) (f : Bool) → got_both w f q ≡ sized fix s p → got f q ≡ check_octet_string fix s p
unfolding check_octet_string
string_got fix s p q w f e = bind_got (sized fix s) (λ y. give y.1) p q (w, f) (got f q) e (give_got f q)

pub string_stop : (fix : Option ℕ) (s : Size) (p : Place) (why : Why) (rest : List ℕ) → refused why rest ≡ sized fix s p → refused why rest ≡ check_octet_string fix s p
unfolding check_octet_string
string_stop fix s p why rest e = bind_stop (sized fix s) (λ y. give y.1) p why rest e

abbrev kept : (List ℕ → Bool) → List ℕ × Bool → Reader Bool
kept test y = guard (test y.0) Character (give y.1)

kept_is : (test : List ℕ → Bool) (w : List ℕ) (f : Bool) (q : Place) → test w ≡ true → got f q ≡ kept test (w, f) q
unfolding give
kept_is test w f q is = rw is refl

lost_is : (test : List ℕ → Bool) (w : List ℕ) (f : Bool) (q : Place) → test w ≡ false → refused Character q.input ≡ kept test (w, f) q
unfolding refuse
lost_is test w f q is = rw is refl

pub text_got : (test : List ℕ → Bool) (fix : Option ℕ) (s : Size) (p q : Place) (w : List ℕ) (f : Bool) → got_both w f q ≡ sized fix s p → test w ≡ true → got f q ≡ check_text test fix s p
unfolding check_text
text_got test fix s p q w f e is = bind_got (sized fix s) (kept test) p q (w, f) (got f q) e (kept_is test w f q is)

pub text_out : (test : List ℕ → Bool) (fix : Option ℕ) (s : Size) (p q : Place) (w : List ℕ) (f : Bool) → got_both w f q ≡ sized fix s p → test w ≡ false → refused Character q.input ≡ check_text test fix s p
unfolding check_text
text_out test fix s p q w f e is = bind_got (sized fix s) (kept test) p q (w, f) (refused Character q.input) e (lost_is test w f q is)

pub text_stop : (test : List ℕ → Bool) (fix : Option ℕ) (s : Size) (p : Place) (why : Why) (rest : List ℕ) → refused why rest ≡ sized fix s p → refused why rest ≡ check_text test fix s p
unfolding check_text
text_stop test fix s p why rest e = bind_stop (sized fix s) (kept test) p why rest e

abbrev in_utf8 : Size → List ℕ × Bool → Reader Bool
in_utf8 s y = guard (is_utf8 y.0) Character (guard (size_fits s (length (chars y.0))) reason.Size (give y.1))

utf8_is : (s : Size) (w : List ℕ) (f : Bool) (q : Place) → is_utf8 w ≡ true → size_fits s (length (chars w)) ≡ true → got f q ≡ in_utf8 s (w, f) q
unfolding give
utf8_is s w f q is fits = rw (is, fits) refl

utf8_out : (s : Size) (w : List ℕ) (f : Bool) (q : Place) → is_utf8 w ≡ false → refused Character q.input ≡ in_utf8 s (w, f) q
unfolding refuse
utf8_out s w f q is = rw is refl

utf8_misfit : (s : Size) (w : List ℕ) (f : Bool) (q : Place) → is_utf8 w ≡ true → size_fits s (length (chars w)) ≡ false → refused reason.Size q.input ≡ in_utf8 s (w, f) q
unfolding refuse
utf8_misfit s w f q is out = rw (is, out) refl

pub utf8_got : (s : Size) (p q : Place) (w : List ℕ) (f : Bool) → got_both w f q ≡ judged (is_least counted) counted_octets p → is_utf8 w ≡ true → size_fits s (length (chars w)) ≡ true → got f q ≡ check_utf8 s p
unfolding check_utf8
utf8_got s p q w f e is fits = bind_got (judged (is_least counted) counted_octets) (in_utf8 s) p q (w, f) (got f q) e (utf8_is s w f q is fits)

pub utf8_lost : (s : Size) (p q : Place) (w : List ℕ) (f : Bool) → got_both w f q ≡ judged (is_least counted) counted_octets p → is_utf8 w ≡ false → refused Character q.input ≡ check_utf8 s p
unfolding check_utf8
utf8_lost s p q w f e is = bind_got (judged (is_least counted) counted_octets) (in_utf8 s) p q (w, f) (refused Character q.input) e (utf8_out s w f q is)

pub utf8_sized : (s : Size) (p q : Place) (w : List ℕ) (f : Bool) → got_both w f q ≡ judged (is_least counted) counted_octets p → is_utf8 w ≡ true → size_fits s (length (chars w)) ≡ false → refused reason.Size q.input ≡ check_utf8 s p
unfolding check_utf8
utf8_sized s p q w f e is out = bind_got (judged (is_least counted) counted_octets) (in_utf8 s) p q (w, f) (refused reason.Size q.input) e (utf8_misfit s w f q is out)

pub utf8_stop : (s : Size) (p : Place) (why : Why) (rest : List ℕ) → refused why rest ≡ judged (is_least counted) counted_octets p → refused why rest ≡ check_utf8 s p
unfolding check_utf8
utf8_stop s p why rest e = bind_stop (judged (is_least counted) counted_octets) (in_utf8 s) p why rest e

-- ---- subidentifiers

abbrev next_subs : ℕ → ℕ → ℕ × ℕ → Reader Bool
next_subs k left x = check_subidentifiers k (left - x.1)

subs_some : (k k' left : ℕ) (p : Place) → k ≡ suc k' → left ≢ 0 → check_subidentifiers k left p ≡ bind (subidentifier left) (next_subs k' left) p
unfolding check_subidentifiers
subs_some k k' left p is some = rw is (other (eqb left 0) refl)
  where
    other : (b : Bool) → eqb left 0 ≡ b → choose b (give true) (bind (subidentifier left) (next_subs k' left)) p ≡ bind (subidentifier left) (next_subs k' left) p
    other true e = absurd (some (eqb-true left 0 e))
    other false e = refl

pub subs_next : (k k' left taken : ℕ) (p q : Place) (whole : Outcome Bool) → k ≡ suc k' → left ≢ 0 → got taken q ≡ subidentifier_size left p → check_subidentifiers k left p ≡ whole → check_subidentifiers k' (left - taken) q ≡ whole
unfolding subidentifier_size bind give
subs_next k k' left taken p q whole is some e inv = cases (subidentifier left p) e ∙ sym (subs_some k k' left p is some) ∙ inv where
  cases : (o : Outcome (ℕ × ℕ)) → got taken q ≡ then_read (λ x t. got x.1 t) o → check_subidentifiers k' (left - taken) q ≡ then_read (next_subs k' left) o
  cases (got x s) h = ap₂ (λ (i : ℕ) (t : Place). check_subidentifiers k' (left - i) t) (got_value taken x.1 q s h) (got_place taken x.1 q s h)
  cases (refused why rest) h = absurd (cc)

pub subs_stop : (k k' left : ℕ) (p : Place) (why : Why) (rest : List ℕ) (whole : Outcome Bool) → k ≡ suc k' → left ≢ 0 → refused why rest ≡ subidentifier_size left p → check_subidentifiers k left p ≡ whole → refused why rest ≡ whole
unfolding subidentifier_size bind give
subs_stop k k' left p why rest whole is some e inv = cases (subidentifier left p) e ∙ sym (subs_some k k' left p is some) ∙ inv where
  cases : (o : Outcome (ℕ × ℕ)) → refused why rest ≡ then_read (λ x t. got x.1 t) o → refused why rest ≡ then_read (next_subs k' left) o
  cases (got x s) h = absurd (cc)
  cases (refused w l) h = cc

pub subs_done : (k k' left : ℕ) (p : Place) (whole : Outcome Bool) → k ≡ suc k' → left ≡ 0 → check_subidentifiers k left p ≡ whole → got true p ≡ whole
unfolding check_subidentifiers give
subs_done k k' left p whole is none inv = rw (is, none) at inv

pub subs_end : (k left : ℕ) (p : Place) (whole : Outcome Bool) → k ≡ 0 → check_subidentifiers k left p ≡ whole → got true p ≡ whole
unfolding check_subidentifiers give
subs_end k left p whole is inv = rw is at inv

pub content_room : (p q : Place) (n : ℕ) (f : Bool) → got_both n f q ≡ sized_length p → n ≤ q.left
content_room p q n f e = leb-true n q.left (sized_room p q n f e)
