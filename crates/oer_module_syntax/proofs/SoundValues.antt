-- Values and exceptions that are taken are spelled so.
use Rattle.std.proofs.Common.{◌≡◌, ℕ, zero, suc, ◌+◌, ◌≤◌, List, [], ◌∷◌, ◌++◌, take, drop, length, length-drop, ◌==◌, Bool, true, false, not, ◌&&◌, ◌||◌, inl, inr, Some, Ok, refl, sym, ap, subst, ◌∙◌, arith, if◌then◌else◌}
use Rattle.std.proofs.Math.Seq.{take-add}
use Rattle.std.proofs.lemmas.Bool.{and_parts}
use Rattle.std.proofs.lemmas.List.{drop-drop, take-append-drop, append_cancel_right}
use Rattle.oer_module_lexer.specs.Token.{Token, word, field, number, real, bits, digits, text, sign, Spot}
use Rattle.oer_module_lexer.specs.declared.token.Sign.{Sign}
use Rattle.oer_module_lexer.specs.declared.token.Sign.TheVariants as sg
use Rattle.oer_module_syntax.specs.Grammar.{◌▹◌, Enclosed, AreChoices, Outside, nothing_outside, a_token, a_group, MaybePrefix, AtomBy, IsAtom, MaybeEnclosed, Base, SpelledValue, Exception}
use Rattle.oer_module_syntax.specs.Matched.{brackets_in, brace}
use Rattle.oer_module_syntax.specs.Ranges.{nest, groups_len, group_len, is_any_word, is_pair, pairs_len, atom_by, atom_len, atom_at, parameters_len, base_at, is_type_word, is_some_word, is_value_word, starts_with_amount, prefix_by, prefix_at, ends_prefix, value_at, exception_at}
use Rattle.oer_module_syntax.specs.State.{State, Read, ◌>>=◌, first, past, bump, is_sign, at_sign, same_sign}
use Rattle.oer_module_syntax.specs.declared.range.Extent.TheVariants.{Prefix}
use Rattle.oer_module_syntax.specs.declared.range.Pair.TheVariants.{Step, Choice}
use Rattle.oer_module_syntax.proofs.Groups.{one_more, group_enclosed, group_behind, parted}
use Rattle.oer_module_syntax.proofs.Matching.{bind_ok, chosen, count_of}
use Rattle.oer_module_syntax.proofs.Took.{Took, ◌▸◌, stay, turned, answered, same_ok, sign_took, front_took, two_more, steps}

-- ---- names of alternatives

choices : (l : List Spot) → AreChoices (take (pairs_len Choice l) l)
unfolding pairs_len
choices [] = tt
choices (t ∷ []) = tt
choices (t ∷ u ∷ us) = elim (chosen {A = ℕ} (is_pair Choice t.token u.token) (2 + pairs_len Choice us) 0 (pairs_len Choice (t ∷ u ∷ us)) refl) [
  | inl c ↦ (
      let two = and_parts (is_sign sg.Colon (Some u.token)) (is_any_word t.token) c.0 in
      subst (λ n. AreChoices (take n (t ∷ u ∷ us))) (sym (two_more (pairs_len Choice us)) ∙ c.1) (two.1, two.0, choices us))
  | inr c ↦ subst (λ n. AreChoices (take n (t ∷ u ∷ us))) c.1 tt
]

choices_took : (s : State) → Took s (past (pairs_len Choice s.left) s) AreChoices
choices_took s = turned AreChoices (front_took (pairs_len Choice s.left) s) (λ a e. subst AreChoices (sym e) (choices s.left))

-- ---- a type before a colon

-- what neither opens nor closes anything
opens_none : (at : ℕ) (t : Token) → nest at t [] ≡ Ok [] → brackets_in t ≡ []
opens_none at (sign sg.OpenBrace) h = absurd (cc)
opens_none at (sign sg.OpenParenthesis) h = absurd (cc)
opens_none at (sign sg.OpenBracket) h = absurd (cc)
opens_none at (sign sg.OpenGroup) h = absurd (cc)
opens_none at (sign sg.CloseBrace) h = absurd (cc)
opens_none at (sign sg.CloseParenthesis) h = absurd (cc)
opens_none at (sign sg.CloseBracket) h = absurd (cc)
opens_none at (sign sg.CloseGroup) h = absurd (cc)
opens_none at (sign sg.Less) h = refl
opens_none at (sign sg.Greater) h = refl
opens_none at (sign sg.Comma) h = refl
opens_none at (sign sg.Semicolon) h = refl
opens_none at (sign sg.Point) h = refl
opens_none at (sign sg.Range) h = refl
opens_none at (sign sg.Ellipsis) h = refl
opens_none at (sign sg.Colon) h = refl
opens_none at (sign sg.Assign) h = refl
opens_none at (sign sg.Equals) h = refl
opens_none at (sign sg.Hyphen) h = refl
opens_none at (sign sg.At) h = refl
opens_none at (sign sg.Bar) h = refl
opens_none at (sign sg.Exclamation) h = refl
opens_none at (sign sg.Caret) h = refl
opens_none at (word w) h = refl
opens_none at (field w) h = refl
opens_none at (number w) h = refl
opens_none at (real w) h = refl
opens_none at (bits w) h = refl
opens_none at (digits w) h = refl
opens_none at (text w) h = refl

-- what a count of a type's tokens takes
module _ (s : State) where
  outside_behind : (t : Spot) (ts : List Spot) (more : List Sign) (n q : ℕ) → ends_prefix (t ∷ ts) ≡ false → nest t.at t.token [] ≡ Ok more → groups_len Prefix s ts more ≡ Ok q → suc q ≡ n
      → ((us : List Spot) (m : ℕ) → length us ≤ length ts → groups_len Prefix s us [] ≡ Ok m → Outside (take m us)) → Outside (take n (t ∷ ts))
  outside_behind t ts [] n q e p h sum rest =
      subst (λ k. Outside (take k (t ∷ ts))) sum (a_token (opens_none t.at t.token p) e (rest ts q (omega arith) h))
  outside_behind t ts (d ∷ ds) n q e p h sum rest =
      let r = parted Prefix s ts d ds q h in
      let group = group_behind s t ts d ds r.0 p r.2 in
      let behind = rest (drop r.0 ts) r.1 (let l = length-drop r.0 ts in omega arith) r.3 in
      let total : suc r.0 + r.1 ≡ n = let f = r.4 in omega arith in
      let all : take n (t ∷ ts) ≡ take (suc r.0) (t ∷ ts) ++ take r.1 (drop r.0 ts) = ap (λ n. take n (t ∷ ts)) (sym total) ∙ take-add (suc r.0) r.1 (t ∷ ts) in
      subst Outside (sym all) (a_group group.2 group.3 behind)

  outside : (fuel : ℕ) (ts : List Spot) (n : ℕ) → length ts ≤ fuel → groups_len Prefix s ts [] ≡ Ok n → Outside (take n ts)
  unfolding groups_len
  outside fuel [] n l h = subst (λ k. Outside (take k [])) (ap count_of h) nothing_outside
  outside zero (t ∷ ts) n l h = absurd (omega arith)
  outside (suc fuel) (t ∷ ts) n l h = elim (chosen (not (ends_prefix (t ∷ ts))) _ _ _ h) [
    | inl p ↦ (
        let one = bind_ok (nest t.at t.token []) (λ more. groups_len Prefix s ts more >>= λ m. Ok (1 + m)) n p.1 in
        let q = bind_ok (groups_len Prefix s ts one.0) (λ m. Ok (1 + m)) n one.2 in
        outside_behind t ts one.0 n q.0 (not_false (ends_prefix (t ∷ ts)) p.0) one.1 q.1 (sym (one_more q.0) ∙ ap count_of q.2)
        (λ us m less g. outside fuel us m (omega arith) g))
    | inr p ↦ subst (λ k. Outside (take k (t ∷ ts))) (ap count_of p.1) nothing_outside
  ]
    where
      not_false : (b : Bool) → not b ≡ true → b ≡ false
      not_false true h = absurd (cc)
      not_false false h = refl

past_past : (m n : ℕ) (s : State) → past n (past m s) ≡ past (m + n) s
past_past m n s = ap (λ l. record { left = l; end = s.end; complete = s.complete }) (drop-drop n m s.left)

-- So many tokens are passed, and P holds of them.
abbrev Passed : (List Spot → Type 0) → State → ℕ × State → Type 0
Passed P s r = (r.1 ≡ past r.0 s) × Took s r.1 P

passed : {P : List Spot → Type 0} (s : State) (x r : ℕ × State) → ◌≡◌ {A = Read ℕ} (Ok x) (Ok r) → Passed P s x → Passed P s r
passed {P} s x r e p = subst (Passed P s) (same_ok x r e) p

prefix_by_passed : (n : ℕ) (s : State) (x : ℕ × State) → Outside (take n s.left) → prefix_by n s ≡ x → Passed MaybePrefix s x
prefix_by_passed n s x o e = elim (chosen {A = ℕ × State} (at_sign sg.Colon (past n s)) (n + 1, past (n + 1) s) (0, s) x e) [
  | inl p ↦ (
      let t = turned Outside (front_took n s) (λ a i. subst Outside (sym i) o) ▸ sign_took sg.Colon (past n s) p.0 in
      subst (Passed MaybePrefix s) p.1 (refl, subst (λ u. Took s u MaybePrefix) (past_past n 1 s) (turned MaybePrefix t (λ a i. inr i))))
  | inr p ↦ subst (Passed MaybePrefix s) p.1 (refl, stay s MaybePrefix (inl refl))
]

prefix_passed : (s : State) (r : ℕ × State) → prefix_at s ≡ Ok r → Passed MaybePrefix s r
unfolding prefix_at
prefix_passed s r h = elim (chosen (is_type_word (first s)) _ _ _ h) [
  | inl p ↦ (
      let n = bind_ok (groups_len Prefix s s.left []) _ r p.1 in
      passed s (prefix_by n.0 s) r n.2 (prefix_by_passed n.0 s (prefix_by n.0 s) (outside s (length s.left) s.left n.0 (omega arith) n.1) refl))
  | inr p ↦ passed s (0, s) r p.1 (refl, stay s MaybePrefix (inl refl))
]

-- ---- what stands behind it

name_atom : (b : Bool) (w : List ℕ) (at : ℕ) (ts : List Spot) (n : ℕ) → is_value_word w ≡ b → (n == 0) ≡ false → n ≡ (if b then 1 + pairs_len Step ts else 0)
    → IsAtom (take n (record { at = at; token = word w } ∷ ts))
name_atom true w at ts n e z i = subst (λ n. IsAtom (take n (record { at = at; token = word w } ∷ ts))) (sym (i ∙ one_more (pairs_len Step ts))) (e, steps ts)
name_atom false w at ts n e z i = let none : (0 == 0) ≡ false = subst (λ n. (n == 0) ≡ false) i z in absurd (cc)

atom_of : (at : ℕ) (t : Token) (ts : List Spot) (n : ℕ) → n ≡ atom_by t ts → (n == 0) ≡ false → IsAtom (take n (record { at = at; token = t } ∷ ts))
atom_of at (word w) ts n i z = name_atom (is_value_word w) w at ts n refl z i
atom_of at (field w) ts n i z = let none : (0 == 0) ≡ false = subst (λ n. (n == 0) ≡ false) i z in absurd (cc)
atom_of at (number w) ts n i z = subst (λ n. IsAtom (take n (record { at = at; token = number w } ∷ ts))) (sym i) refl
atom_of at (real w) ts n i z = subst (λ n. IsAtom (take n (record { at = at; token = real w } ∷ ts))) (sym i) refl
atom_of at (bits w) ts n i z = subst (λ n. IsAtom (take n (record { at = at; token = bits w } ∷ ts))) (sym i) refl
atom_of at (digits w) ts n i z = subst (λ n. IsAtom (take n (record { at = at; token = digits w } ∷ ts))) (sym i) refl
atom_of at (text w) ts n i z = subst (λ n. IsAtom (take n (record { at = at; token = text w } ∷ ts))) (sym i) refl
atom_of at (sign g) ts n i z = elim (chosen {A = ℕ} (same_sign sg.Hyphen g && starts_with_amount ts) 2 0 n (sym i)) [
  | inl p ↦ (
      let both = and_parts (same_sign sg.Hyphen g) (starts_with_amount ts) p.0 in
      subst (λ n. IsAtom (take n (record { at = at; token = sign g } ∷ ts))) p.1 (negative ts both.0 both.1))
  | inr p ↦ let none : (0 == 0) ≡ false = subst (λ n. (n == 0) ≡ false) (sym p.1) z in absurd (cc)
]
  where
    negative : (ts : List Spot) → same_sign sg.Hyphen g ≡ true → starts_with_amount ts ≡ true → AtomBy (sign g) (take 1 ts)
    negative [] h a = absurd (cc)
    negative (u ∷ us) h a = (h, u, refl, a)

is_atom : (l : List Spot) (n : ℕ) → n ≡ atom_len l → (n == 0) ≡ false → IsAtom (take n l)
is_atom [] n i z = let none : (0 == 0) ≡ false = subst (λ n. (n == 0) ≡ false) i z in absurd (cc)
is_atom (t ∷ ts) n i z = atom_of t.at t.token ts n i z

parameters_took : (takes : Bool) (s : State) (n : ℕ) → parameters_len takes s ≡ Ok n → Took s (past n s) MaybeEnclosed
parameters_took takes s n h = elim (chosen (not takes || not (at_sign sg.OpenBrace s)) _ _ _ h) [
  | inl p ↦ subst (λ n. Took s (past n s) MaybeEnclosed) (ap count_of p.1) (stay s MaybeEnclosed (inl refl))
  | inr p ↦ turned MaybeEnclosed (front_took n s)
      (λ a e. inr (subst (Enclosed sg.OpenBrace sg.CloseBrace) (sym e) (group_enclosed sg.OpenBrace sg.CloseBrace s s.left n brace (second takes (at_sign sg.OpenBrace s) p.0) p.1)))
]
  where
    second : (a b : Bool) → (not a || not b) ≡ false → b ≡ true
    second true true h = refl
    second true false h = absurd (cc)
    second false b h = absurd (cc)

atom_passed : (s : State) (r : ℕ × State) → atom_at s ≡ Ok r → Passed (IsAtom ▹ MaybeEnclosed) s r
unfolding atom_at
atom_passed s r h = elim (chosen (atom_len s.left == 0) _ _ _ h) [
  | inl p ↦ absurd (cc)
  | inr p ↦ (
      let a = atom_len s.left in
      let n = bind_ok (parameters_len (is_some_word (first s)) (past a s)) _ r p.1 in
      let t = turned IsAtom (front_took a s) (λ b e. subst IsAtom (sym e) (is_atom s.left a refl p.0)) in
      passed s (a + n.0, past n.0 (past a s)) r n.2 (past_past a n.0 s, t ▸ parameters_took (is_some_word (first s)) (past a s) n.0 n.1))
]

base_passed : (s : State) (r : ℕ × State) → base_at s ≡ Ok r → Passed Base s r
base_passed s r h = elim (chosen (at_sign sg.OpenBrace s) _ _ _ h) [
  | inl p ↦ (
      let n = bind_ok (group_len s) _ r p.1 in
      let t = turned Base (front_took n.0 s) (λ a e. inl (subst (Enclosed sg.OpenBrace sg.CloseBrace) (sym e) (group_enclosed sg.OpenBrace sg.CloseBrace s s.left n.0 brace p.0 n.1))) in
      passed s (n.0, past n.0 s) r n.2 (refl, t))
  | inr p ↦ let t = atom_passed s r p.1 in (t.0, turned Base t.1 (λ a i. inr i))
]

-- ---- values

pub value_took : (s : State) (r : List Spot × State) → value_at s ≡ Ok r → Took s r.1 (SpelledValue r.0)
unfolding value_at
value_took s r h =
    let k = pairs_len Choice s.left in
    let p = bind_ok (prefix_at (past k s)) _ r h in
    let b = bind_ok (base_at p.0.1) _ r p.2 in
    let before = prefix_passed (past k s) p.0 p.1 in
    let base = base_passed p.0.1 b.0 b.1 in
    let n = k + p.0.0 + b.0.0 in
    let there : b.0.1 ≡ past n s = base.0 ∙ ap (past b.0.0) (before.0 ∙ past_past k p.0.0 s) ∙ past_past (k + p.0.0) b.0.0 s in
    let t : Took s b.0.1 (AreChoices ▹ MaybePrefix ▹ Base) = choices_took s ▸ before.1 ▸ base.1 in
    let kept : t.used ≡ take n s.left =
    append_cancel_right t.used (take n s.left) (drop n s.left) (ap (λ u. t.used ++ u.left) (sym there) ∙ sym t.is ∙ sym (take-append-drop n s.left)) in
    answered SpelledValue (take n s.left, b.0.1) r b.2 (record { used = t.used; is = t.is; stop = t.stop; holds = (kept, t.holds) })

pub exception_took : (s : State) (r : List Spot × State) → exception_at s ≡ Ok r → Took s r.1 (Exception r.0)
exception_took s r h = elim (chosen (at_sign sg.Exclamation s) _ _ _ h) [
  | inl p ↦ turned (Exception r.0) (sign_took sg.Exclamation s p.0 ▸ value_took (bump s) r p.1) (λ a e. inr e)
  | inr p ↦ answered Exception ([], s) r p.1 (stay s (Exception []) (inl (refl, refl)))
]
