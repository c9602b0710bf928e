-- A turn takes a token, and so any number of turns above that of the tokens reads the same.
use Rattle.std.proofs.Common.{◌≡◌, ℕ, zero, suc, ◌<◌, List, [], ◌∷◌, ◌++◌, length, Bool, true, false, not, ◌&&◌, ◌||◌, inl, inr}
use Rattle.std.proofs.Common.{Ok, Err, refl, arith}
use Rattle.std.proofs.lemmas.Bool.{or_cases, or_parts}
use Rattle.oer_module_lexer.specs.declared.token.Sign.{Sign}
use Rattle.oer_module_lexer.specs.declared.token.Sign.TheVariants.{OpenParenthesis, Comma, Ellipsis, Bar, Caret}
use Rattle.oer_module_syntax.proofs.Took.{not_true}
use Rattle.oer_module_syntax.specs.Modules.{many}
use Rattle.oer_module_syntax.specs.State.{State, Read, bump, at_sign, at_keyword}
use Rattle.oer_module_syntax.specs.declared.word.Keyword.{Keyword}
use Rattle.oer_module_syntax.specs.declared.word.Keyword.TheVariants as kw
use Rattle.oer_module_terms.proofs.Readers.{parameter_takes, value_takes, part_takes, member_takes, item_takes, set_takes}
use Rattle.oer_module_terms.proofs.Readers.{constraint_takes, between_takes}
use Rattle.oer_module_terms.proofs.Takes.{Takes, after_sign, after_keyword}
use Rattle.oer_module_terms.specs.Constraints.{at_mark, between_at, constraint_at, set_at}
use Rattle.oer_module_terms.specs.Items.{items_end, item_at}
use Rattle.oer_module_terms.specs.Looks.{no_comma}
use Rattle.oer_module_terms.specs.Parameters.{parameter_at}
use Rattle.oer_module_terms.specs.Values.{later_member_at, member_ends, part_at, value_at}
use Rattle.oer_module_terms.specs.declared.constraint.Mark.{Mark}
use Rattle.oer_module_terms.specs.declared.constraint.Mark.TheVariants as mark
use Rattle.oer_module_terms.specs.declared.item.Numbering.{Numbering}

-- ---- what a turn takes, where it isn't the last

pub parameter_turn : (s : State) → no_comma s ≡ false → Takes 1 s (parameter_at (bump s))
parameter_turn s h = after_sign Comma s (not_true _ h) (parameter_takes (bump s))

pub member_turn : (levels : ℕ) (s : State) → no_comma s ≡ false → Takes 1 s (later_member_at (value_at levels) s)
member_turn levels s h = after_sign Comma s (not_true _ h) (member_takes (value_at levels) (value_takes levels) (bump s))

pub part_turn : (levels : ℕ) (s : State) → member_ends s ≡ false → Takes 1 s (part_at (value_at levels) s)
part_turn levels s h = part_takes (value_at levels) (value_takes levels) s

pub item_turn : (k : Numbering) (root : Bool) (s : State) → items_end root s ≡ false → Takes 1 s (item_at k (bump s))
item_turn k root s h =
    let comma = or_parts (not (at_sign Comma s)) (root && at_sign Ellipsis (bump s)) h in
    after_sign Comma s (not_true _ comma.0) (item_takes k (bump s))

pub constraint_turn : (levels : ℕ) (s : State) → not (at_sign OpenParenthesis s) ≡ false → Takes 1 s (constraint_at levels s)
constraint_turn levels s h = constraint_takes levels (set_at levels) (set_takes levels) s

one_of : {A : Type 0} {x : Read A} (g : Sign) (k : Keyword) (s : State) → (at_sign g s || at_keyword k s) ≡ true → Takes 0 (bump s) x
    → Takes 1 s x
one_of g k s h p = elim (or_cases (at_sign g s) (at_keyword k s) h) [ inl e ↦ after_sign g s e p | inr e ↦ after_keyword k s e p ]

pub set_turn : (levels : ℕ) (m : Mark) (s : State) → not (at_mark m s) ≡ false → Takes 1 s (between_at levels (set_at levels) m (bump s))
set_turn levels m s h = marked m (not_true _ h)
  where
    marked : (n : Mark) → at_mark n s ≡ true → Takes 1 s (between_at levels (set_at levels) m (bump s))
    marked mark.Union h = one_of Bar kw.Union s h (between_takes levels (set_at levels) (set_takes levels) m (bump s))
    marked mark.Intersection h = one_of Caret kw.Intersection s h (between_takes levels (set_at levels) (set_takes levels) m (bump s))

-- ---- turns

module _ {A : Type 0} (done : State → Bool) (one : State → Read A) (turn : (s : State) → done s ≡ false → Takes 1 s (one s)) where
  same_turn : (b : Bool) (x : Read A) (n m : ℕ) (found : List A) (s : State) → done s ≡ b → one s ≡ x
      → ((e : A × State) → done s ≡ false → one s ≡ Ok e → many done one n (found ++ e.0 ∷ []) e.1 ≡ many done one m (found ++ e.0 ∷ []) e.1)
      → many done one (suc n) found s ≡ many done one (suc m) found s
  unfolding many
  same_turn true x n m found s b y same = rw b refl
  same_turn false (Ok e) n m found s b x same = rw (b, x) (same e b x)
  same_turn false (Err e) n m found s b x same = rw (b, x) refl

  pub same_turns : (n m : ℕ) (found : List A) (s : State) → length s.left < n → length s.left < m → many done one n found s ≡ many done one m found s
  same_turns zero m found s p q = absurd (omega arith)
  same_turns (suc n) zero found s p q = absurd (omega arith)
  same_turns (suc n) (suc m) found s p q =
      same_turn (done s) (one s) n m found s refl refl
      (λ e h g. let less = (turn s h).fewer e g in same_turns n m (found ++ e.0 ∷ []) e.1 (omega arith) (omega arith))
