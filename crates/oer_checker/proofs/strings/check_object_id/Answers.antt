use Rattle.std.proofs.Common.{◌≡◌, ◌≢◌, ℕ, Bool, ◌&&◌, leb, List, arith, refl, sym, ap, ◌∙◌}
use Rattle.std.proofs.lemmas.Bool.{le-leb}
use Rattle.oer_units.specs.declared.fault.Why.{Why}
use Rattle.oer_units.specs.declared.fault.Why.TheVariants.{ObjectId}
use Rattle.oer_units.specs.Reader.{Outcome, Place, Reader, got, guard, refuse, refused}
use Rattle.oer_model.specs.Checking.{check_object_id, check_subidentifiers}
use Rattle.oer_checker.specs.Steps.{and_after, got_both, sized_length}
use Rattle.oer_checker.proofs.Exits.{at_stop}
use Rattle.oer_checker.proofs.Joins.{else_got, then_got}
use Rattle.oer_checker.proofs.LengthSteps.{length_stop, length_then}
use Rattle.oer_checker.proofs.StringSteps.{content_room}
use Rattle.oer_checker.proofs.strings.check_object_id.Goals as goal

abbrev contents : ℕ → Reader Bool
contents n = guard (leb 1 n) ObjectId (check_subidentifiers n n)

no_contents : (n : ℕ) (f : Bool) (q : Place) → n ≡ 0 → refused ObjectId q.input ≡ and_after f (contents n q)
unfolding refuse
no_contents n f q is = rw is refl

oid_none : (p q : Place) (n : ℕ) (f : Bool) → got_both n f q ≡ sized_length p → n ≡ 0 → refused ObjectId q.input ≡ check_object_id p
unfolding check_object_id
oid_none p q n f e is = no_contents n f q is ∙ length_then contents p q n f e

some_contents : (n : ℕ) (q : Place) (o : Outcome Bool) → n ≢ 0 → o ≡ check_subidentifiers n n q → o ≡ contents n q
some_contents n q o some e = e ∙ ap (λ (b : Bool). guard b ObjectId (check_subidentifiers n n) q) (sym (le-leb 1 n (omega arith)))

oid_got : (p q end : Place) (n : ℕ) (f g : Bool) → got_both n f q ≡ sized_length p → n ≢ 0 → got g end ≡ check_subidentifiers n n q → got (f && g) end ≡ check_object_id p
unfolding check_object_id
oid_got p q end n f g e some h = ap (and_after f) (some_contents n q (got g end) some h) ∙ length_then contents p q n f e

oid_cut : (p q : Place) (n : ℕ) (f : Bool) (why : Why) (rest : List ℕ) → got_both n f q ≡ sized_length p → n ≢ 0 → refused why rest ≡ check_subidentifiers n n q → refused why rest ≡ check_object_id p
unfolding check_object_id
oid_cut p q n f why rest e some h = ap (and_after f) (some_contents n q (refused why rest) some h) ∙ length_then contents p q n f e

oid_stop : (p : Place) (why : Why) (rest : List ℕ) → refused why rest ≡ sized_length p → refused why rest ≡ check_object_id p
unfolding check_object_id
oid_stop p why rest e = length_stop contents p why rest e

pub returns-in_err-counted : goal.returns-in_err-counted
returns-in_err-counted c = rw (at_stop c.from_residual.result c.in_err-counted.field-0.0 c.from_residual.ensures.1) (oid_stop _ _ _ c.in_err-counted.ensures)

pub returns-then-counted-eq0 : goal.returns-then-counted-eq0
returns-then-counted-eq0 c = oid_none _ _ c.in_ok-counted.counted.count c.in_ok-counted.counted.is_least c.in_ok-counted.ensures c.if-counted-eq0.true

pub check_subidentifiers-requires : goal.check_subidentifiers-requires
check_subidentifiers-requires c = content_room _ _ c.in_ok-counted.counted.count c.in_ok-counted.counted.is_least c.in_ok-counted.ensures

pub returns-in_err-are_canonical : goal.returns-in_err-are_canonical
returns-in_err-are_canonical c = rw (at_stop c.from_residual-in_err-are_canonical.result c.in_err-are_canonical.field-0.0 c.from_residual-in_err-are_canonical.ensures.1) (oid_cut _ _ c.in_ok-counted.counted.count c.in_ok-counted.counted.is_least _ _ c.in_ok-counted.ensures c.if-counted-eq0.false c.in_err-are_canonical.ensures)

pub returns-then-counted : goal.returns-then-counted
returns-then-counted c =
    then_got c.if-counted.true (oid_got _ _ _ c.in_ok-counted.counted.count c.in_ok-counted.counted.is_least c.in_ok-are_canonical.are_canonical c.in_ok-counted.ensures
    c.if-counted-eq0.false c.in_ok-are_canonical.ensures)

pub returns-else-counted : goal.returns-else-counted
returns-else-counted c =
    else_got c.in_ok-are_canonical.are_canonical c.if-counted.false
    (oid_got _ _ _ c.in_ok-counted.counted.count c.in_ok-counted.counted.is_least c.in_ok-are_canonical.are_canonical c.in_ok-counted.ensures c.if-counted-eq0.false c.in_ok-are_canonical.ensures)
