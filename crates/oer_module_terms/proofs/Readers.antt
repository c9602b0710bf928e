-- How many tokens parameters, values, items and constraints take.
use Rattle.std.proofs.Common.{◌≡◌, ℕ, zero, suc, List, Bool, true, false, not, ◌||◌, Option, Some, None, refl}
use Rattle.oer_module_lexer.specs.Token.{Token, word, field, number, real, sign}
use Rattle.oer_module_lexer.specs.declared.token.Sign.TheVariants.{OpenBrace, CloseBrace, OpenParenthesis, CloseParenthesis, Comma, Ellipsis}
use Rattle.oer_module_lexer.specs.declared.token.Sign.TheVariants.{Hyphen, Less, Range}
use Rattle.oer_module_syntax.specs.Looks.{names_value}
use Rattle.oer_module_syntax.specs.State.{State, Read, first, bump, at_sign, at_keyword}
use Rattle.oer_module_syntax.specs.declared.word.Keyword.{Keyword}
use Rattle.oer_module_syntax.specs.declared.word.Keyword.TheVariants as kw
use Rattle.oer_module_terms.proofs.Takes.{Takes, none, done, loose, behind, after, after_sign, ◌▹◌, either, choose, many_takes}
use Rattle.oer_module_terms.proofs.Takes.{series_takes, skip_sign_takes, skip_keyword_takes, identifier_takes, type_takes, value_tokens_take}
use Rattle.oer_module_terms.proofs.Takes.{exception_takes, span_takes, taken_takes, past_sign_takes}
use Rattle.oer_module_terms.specs.Constraints.{limit_at, range_at, limited_by, limited_at, contained_at, inner_at, simple_at, general_of}
use Rattle.oer_module_terms.specs.Constraints.{general_at, at_mark, joined, marked_at, extension_at, subtype_at, specified_by}
use Rattle.oer_module_terms.specs.Constraints.{constraint_with, nested_at, element_at, excluding_at, intersection_at, between_at, joined_at}
use Rattle.oer_module_terms.specs.Constraints.{everything_but_at, any_set_at, set_at}
use Rattle.oer_module_terms.specs.Items.{some_number_at, number_at, item_at}
use Rattle.oer_module_terms.specs.Looks.{no_comma, at_numbered, at_type, past_sign}
use Rattle.oer_module_terms.specs.Parameters.{at_end, parameter_at}
use Rattle.oer_module_terms.specs.Trees.{Value, Elements, value}
use Rattle.oer_module_terms.specs.Values.{named_at, negative_by, amount_by, amount_at, enclosed_at, fixed_of, worded_at, minus_by, atom_by}
use Rattle.oer_module_terms.specs.Values.{single_at, atom_at, numbered_at, alternative_by, member_ends, part_at, member_at}
use Rattle.oer_module_terms.specs.Values.{some_members_at, braces_at, choice_at, unbraced_by, any_value_at, value_at}
use Rattle.oer_module_terms.specs.declared.constraint.Mark.{Mark}
use Rattle.oer_module_terms.specs.declared.constraint.Mark.TheVariants as mark
use Rattle.oer_module_terms.specs.declared.item.Numbering.{Numbering}
use Rattle.oer_module_terms.specs.declared.item.Numbering.TheVariants.{Signed, Unsigned, Optional}
use Rattle.oer_module_terms.specs.declared.tree.Fixed.{Fixed}
use Rattle.oer_module_terms.specs.declared.tree.General.{General}

pub parameter_takes : (s : State) → Takes 0 s (parameter_at s)
unfolding parameter_at
parameter_takes s = choose (at_end s) (none 0 s _) (span_takes s)

-- ---- values that hold no other

named_takes : {t : Token} (w : List ℕ) (s : State) → first s ≡ Some t → Takes 1 s (named_at w s)
unfolding named_at
named_takes w s f = choose (names_value w s) (after s f (behind _ (bump s) (done _ _))) (none 1 s _)

negative_takes : (o : Option Token) (s : State) → first s ≡ o → Takes 1 s (negative_by o s)
negative_takes (Some (number w)) s f = after s f (done _ (bump s))
negative_takes _ s f = none 1 s _

amount_by_takes : (o : Option Token) (s : State) → first s ≡ o → Takes 1 s (amount_by o s)
amount_by_takes (Some (number w)) s f = after s f (done _ (bump s))
amount_by_takes (Some (word w)) s f = named_takes w s f
amount_by_takes _ s f = none 1 s _

amount_takes : (signed : Bool) (s : State) → Takes 0 s (amount_at signed s)
unfolding amount_at
amount_takes signed s =
    choose _ (behind 1 s (loose (negative_takes (first (bump s)) (bump s) refl))) (loose (amount_by_takes (first s) s refl))

enclosed_takes : (signed : Bool) (s : State) → Takes 1 s (enclosed_at signed s)
unfolding enclosed_at
enclosed_takes signed s =
    skip_sign_takes OpenParenthesis s ▹ λ b. amount_takes signed b.1 ▹ λ n. skip_sign_takes CloseParenthesis n.1 ▹ λ e. done n.0 e.1

minus_takes : (o : Option Token) (s : State) → first s ≡ o → Takes 1 s (minus_by o s)
minus_takes (Some (number w)) s f = after s f (done _ (bump s))
minus_takes (Some (real w)) s f = after s f (done _ (bump s))
minus_takes _ s f = none 1 s _

worded_takes : {t : Token} (o : Option Fixed) (w : List ℕ) (s : State) → first s ≡ Some t → Takes 1 s (worded_at o w s)
worded_takes (Some x) w s f = after s f (done _ (bump s))
worded_takes None w s f = named_takes w s f ▹ λ n. done _ n.1

atom_by_takes : (o : Option Token) (s : State) → first s ≡ o → Takes 1 s (atom_by o s)
atom_by_takes None s f = none 1 s _
atom_by_takes (Some (word w)) s f = worded_takes (fixed_of w) w s f
atom_by_takes (Some (field w)) s f = none 1 s _
atom_by_takes (Some (sign g)) s f = none 1 s _
atom_by_takes _ s f = after s f (done _ (bump s))

atom_takes : (s : State) → Takes 1 s (atom_at s)
unfolding single_at
atom_takes s =
    choose (at_sign Hyphen s) (behind 1 s (minus_takes (first (bump s)) (bump s) refl)) (atom_by_takes (first s) s refl) ▹ λ a. done _ a.1

-- ---- values that hold others

module _ (value : State → Read Value) (takes : (s : State) → Takes 1 s (value s)) where
  pub part_takes : (s : State) → Takes 1 s (part_at value s)
  unfolding part_at numbered_at
  part_takes s = choose (at_numbered s) (identifier_takes s ▹ λ w. enclosed_takes false w.1 ▹ λ n. done _ n.1) (takes s)

  pub member_takes : (s : State) → Takes 1 s (member_at value s)
  unfolding member_at
  member_takes s = series_takes member_ends part_takes part_takes s ▹ λ ps. done _ ps.1

  braces_take : (at : ℕ) (s : State) → Takes 1 s (braces_at value at s)
  unfolding braces_at some_members_at
  braces_take at s =
      either (at_sign CloseBrace s) (λ h. after_sign CloseBrace s h (done _ (bump s)))
      (λ h. series_takes no_comma (λ r. behind 1 r (member_takes (bump r))) member_takes s ▹ λ ms. skip_sign_takes CloseBrace ms.1 ▹ λ r. done _ r.1)

  unbraced_takes : (o : Option (List ℕ)) (s : State) → Takes 1 s (unbraced_by value o s)
  unfolding unbraced_by choice_at
  unbraced_takes (Some w) s = behind 1 s (behind 1 (bump s) (takes (bump (bump s)) ▹ λ v. done _ v.1))
  unbraced_takes None s = atom_takes s

  any_value_takes : (s : State) → Takes 1 s (any_value_at value s)
  unfolding any_value_at
  any_value_takes s =
      choose (at_sign OpenBrace s) (behind 1 s (braces_take _ (bump s))) (unbraced_takes (alternative_by (first s) s) s)

pub value_takes : (levels : ℕ) (s : State) → Takes 1 s (value_at levels s)
unfolding value_at
value_takes zero s = none 1 s _
value_takes (suc levels) s = any_value_takes (value_at levels) (value_takes levels) s

-- ---- items

some_number_takes : (signed : Bool) (s : State) → Takes 0 s (some_number_at signed s)
some_number_takes signed s = loose (enclosed_takes signed s) ▹ λ n. done _ n.1

number_takes : (k : Numbering) (s : State) → Takes 0 s (number_at k s)
number_takes Signed s = some_number_takes true s
number_takes Unsigned s = some_number_takes false s
number_takes Optional s = choose (at_sign OpenParenthesis s) (some_number_takes true s) (done None s)

pub item_takes : (k : Numbering) (s : State) → Takes 1 s (item_at k s)
unfolding item_at
item_takes k s = identifier_takes s ▹ λ name. number_takes k name.1 ▹ λ n. done _ n.1

-- ---- elements that hold no other set

limit_takes : (levels : ℕ) (k : Keyword) (s : State) → Takes 0 s (limit_at levels k s)
unfolding limit_at
limit_takes levels k s = choose (at_keyword k s) (behind 1 s (done None (bump s))) (loose (value_takes levels s) ▹ λ v. done _ v.1)

range_takes : (levels at : ℕ) (low : Option Value) (s : State) → Takes 0 s (range_at levels at low s)
unfolding range_at
range_takes levels at low s =
    past_sign_takes Less s
    (loose (skip_sign_takes Range (past_sign Less s)) ▹ λ dots. past_sign_takes Less dots.1
    (limit_takes levels kw.Max (past_sign Less dots.1) ▹ λ high. done _ high.1))

limited_by_takes : (levels at : ℕ) (low : Option Value) (s : State) → Takes 0 s (limited_by levels at low s)
limited_by_takes levels at None s = range_takes levels at None s
limited_by_takes levels at (Some v) s = choose (at_sign Less s || at_sign Range s) (range_takes levels at (Some v) s) (done (value v) s)

limited_takes : (levels : ℕ) (s : State) → Takes 0 s (limited_at levels s)
unfolding limited_at
limited_takes levels s = limit_takes levels kw.Min s ▹ λ low. limited_by_takes levels _ low.0 low.1

contained_takes : (levels : ℕ) (s : State) → Takes 0 s (contained_at levels s)
unfolding contained_at
contained_takes levels s = type_takes levels s ▹ λ t. done _ t.1

inner_takes : (s : State) → Takes 0 s (inner_at s)
unfolding inner_at
inner_takes s =
    choose (at_keyword kw.Components s) (behind 1 s (taken_takes OpenBrace (bump s)))
    (loose (skip_keyword_takes kw.Component s) ▹ λ r. taken_takes OpenParenthesis r.1)

simple_takes : (levels : ℕ) (s : State) → Takes 0 s (simple_at levels s)
unfolding simple_at
simple_takes levels s =
    choose (at_keyword kw.With s) (behind 1 s (inner_takes (bump s) ▹ λ ts. done _ ts.1))
    (choose (at_keyword kw.Pattern s) (behind 1 s (value_tokens_take (bump s) ▹ λ ts. done _ ts.1))
    (choose (at_keyword kw.Settings s) (behind 1 s (value_tokens_take (bump s) ▹ λ ts. done _ ts.1))
    (choose (at_keyword kw.Includes s) (behind 1 s (contained_takes levels (bump s)))
    (choose (at_type s) (contained_takes levels s) (limited_takes levels s)))))

-- ---- sets

joined_takes : (m : Mark) {one : State → Read Elements} → ((s : State) → Takes 0 s (one s)) → (s : State) → Takes 0 s (joined m one s)
joined_takes m takes s =
    takes s ▹ λ e. choose (at_mark m e.1)
    (many_takes (λ r. not (at_mark m r)) (λ r. behind 1 r (takes (bump r))) _ _ e.1 ▹ λ es. done _ es.1) (done e.0 e.1)

module _ (levels : ℕ) (set : State → Read Elements) (takes : (s : State) → Takes 0 s (set s)) where
  extension_takes : (s : State) → Takes 0 s (extension_at levels set s)
  unfolding extension_at marked_at
  extension_takes s =
      choose (at_sign Comma s)
      (behind 1 s (loose (skip_sign_takes Ellipsis (bump s)) ▹ λ r. choose (at_sign Comma r.1)
      (behind 1 r.1 (takes (bump r.1) ▹ λ x. done _ x.1)) (done _ r.1)))
      (done _ s)

  specified_takes : (at : ℕ) (o : Option General) (s : State) → Takes 0 s (specified_by levels set at o s)
  unfolding specified_by general_at subtype_at
  specified_takes at (Some k) s = span_takes s ▹ λ r. done _ r.1
  specified_takes at None s = takes s ▹ λ root. extension_takes root.1 ▹ λ x. exception_takes x.1 ▹ λ e. done _ e.1

  pub constraint_takes : (s : State) → Takes 1 s (constraint_with levels set s)
  unfolding constraint_with
  constraint_takes s =
      skip_sign_takes OpenParenthesis s ▹ λ b. specified_takes _ (general_of b.1) b.1 ▹ λ x. skip_sign_takes CloseParenthesis x.1 ▹ λ e. done x.0 e.1

  element_takes : (s : State) → Takes 0 s (element_at levels set s)
  unfolding element_at nested_at
  element_takes s =
      choose (at_sign OpenParenthesis s) (behind 1 s (takes (bump s) ▹ λ e. skip_sign_takes CloseParenthesis e.1 ▹ λ r. done e.0 r.1))
      (choose (at_keyword kw.Size s) (behind 1 s (loose (constraint_takes (bump s)) ▹ λ c. done _ c.1))
      (choose (at_keyword kw.From s) (behind 1 s (loose (constraint_takes (bump s)) ▹ λ c. done _ c.1))
      (simple_takes levels s ▹ λ e. done _ e.1)))

  excluding_takes : (s : State) → Takes 0 s (excluding_at levels set s)
  unfolding excluding_at
  excluding_takes s =
      element_takes s ▹ λ e. choose (at_keyword kw.Except e.1) (behind 1 e.1 (element_takes (bump e.1) ▹ λ x. done _ x.1)) (done e.0 e.1)

  pub between_takes : (m : Mark) (s : State) → Takes 0 s (between_at levels set m s)
  unfolding between_at intersection_at
  between_takes mark.Union s = joined_takes mark.Intersection excluding_takes s
  between_takes mark.Intersection s = excluding_takes s

  any_set_takes : (s : State) → Takes 0 s (any_set_at levels set s)
  unfolding any_set_at everything_but_at joined_at
  any_set_takes s =
      choose (at_keyword kw.All s)
      (behind 1 s (loose (skip_keyword_takes kw.Except (bump s)) ▹ λ r. element_takes r.1 ▹ λ e. done _ e.1))
      (joined_takes mark.Union (between_takes mark.Union) s)

pub set_takes : (levels : ℕ) (s : State) → Takes 0 s (set_at levels s)
unfolding set_at
set_takes zero s = none 0 s _
set_takes (suc levels) s = any_set_takes levels (set_at levels) (set_takes levels) s
