-- The definitions that a text spells are read of it.
use Rattle.std.proofs.Common.{◌≡◌, ℕ, zero, suc, ◌≤◌, List, [], ◌∷◌, ◌++◌, length, true, false, inl, inr, Some, None, Ok, Err, refl, sym, ap, subst, ◌∙◌, append_assoc, append-nil, arith, length-append}
use Rattle.oer_lexer.specs.Laws.{LexComplete}
use Rattle.oer_lexer.specs.Lexing.{lex}
use Rattle.oer_lexer.specs.Token.{Token, word, sign, Spot, tokens}
use Rattle.oer_lexer.specs.declared.token.Sign.TheVariants.{OpenParenthesis, Assign}
use Rattle.oer_model.specs.AsnType.{AsnType}
use Rattle.oer_model.specs.Laws.{NoFaultFound}
use Rattle.oer_model.specs.WellFormed.{AnyOf}
use Rattle.oer_notation.specs.Grammar.{SpellsAll, AreWellFormed, IsName, IsNew, AreDefinitions, one_definition, more_definitions}
use Rattle.oer_notation.specs.Parsing.{start, definition_at, end_by, end_of, name_at, entry_at, is_last, entries_more, parse_all}
use Rattle.oer_notation.specs.Reading.{Known, find}
use Rattle.oer_value_notation.specs.State.{State, first, bump, is_sign, skip_sign}
use Rattle.oer_value_notation.specs.declared.fault.TextFault.{TextFault}
use Rattle.oer_value_notation.specs.declared.fault.TextWhy.TheVariants as why
use Rattle.oer_notation.proofs.Comes.{Comes, front, split}
use Rattle.oer_notation.proofs.Complete.{behind_type, definition_given, ended}
use Rattle.oer_notation.proofs.CompleteValues.{not_word}
use Rattle.oer_notation.proofs.NamesGiven.{name_test}

find_missing : (ks : List Known) (w : List ℕ) → (AnyOf (λ k. k.name ≡ w) ks → ⊥) → find ks w ≡ None
find_missing [] w h = refl
find_missing (k ∷ ks) w h = rw (not_word k.name w (λ e. h (inl e))) (find_missing ks w (λ a. h (inr a)))

name_given : (known : List Known) {w : List ℕ} → IsName w → IsNew w known → (s : State) → first s ≡ Some (word w) → name_at known s ≡ Ok (w, bump s)
unfolding name_at
name_given known {w} n new s e = let t = name_test n in rw (e, t.0, find_missing known w new) refl

entry_given : (known : List Known) {w : List ℕ} (T : AsnType) (s t : State) → IsName w → IsNew w known → first s ≡ Some (word w) → first (bump s) ≡ Some (sign Assign) → definition_at known (bump (bump s)) ≡ Ok (T, t)
    → entry_at known s ≡ Ok (record { name = w; type = T }, t)
unfolding entry_at skip_sign
entry_given known T s t n new e f d = rw (name_given known n new s e, f, d) refl

-- behind all tokens
abbrev over : State → State
over s = record { left = []; parts = s.parts; stop = s.stop }

last_step : (n : ℕ) (known : List Known) (s : State) (k : Known) (t : State) → entry_at known s ≡ Ok (k, t) → is_last t.left ≡ true → end_of t ≡ Ok tt → entries_more (suc n) known s ≡ Ok (known ++ k ∷ [])
unfolding entries_more
last_step n known s k t e l o = rw (e, l, o) refl

more_step : (n : ℕ) (known : List Known) (s : State) (k : Known) (t : State) → entry_at known s ≡ Ok (k, t) → is_last t.left ≡ false → entries_more (suc n) known s ≡ entries_more n (known ++ k ∷ []) t
unfolding entries_more
more_step n known s k t e l = rw (e, l) refl

not_last : (l : List Spot) (s : State) (k : Token) → s.left ≡ l → first s ≡ Some k → is_last l ≡ false
not_last [] s k e h = let none : first s ≡ None = rw e refl in absurd (cc)
not_last (x ∷ xs) s k e h = refl

definitions_first : {known ks : List Known} {ts : List Token} → AreDefinitions known ks ts → (w : List ℕ) × (us : List Token) × (ts ≡ word w ∷ us)
definitions_first (one_definition n new d) = (_, _, refl)
definitions_first (more_definitions n new d m) = (_, _, refl)

definitions_count : {known ks : List Known} {ts : List Token} → AreDefinitions known ks ts → length ks ≤ length ts
definitions_count (one_definition n new d) = omega arith
definitions_count (more_definitions {ts} {us} n new d m) = let k = definitions_count m in let l = length-append ts us in omega arith

entries_given : NoFaultFound → {known ks : List Known} {ts : List Token} → AreDefinitions known ks ts → AreWellFormed ks → (n : ℕ) → length ks ≤ n → (s : State) → s.stop.why ≡ why.Syntax → Comes s (over s) 0 ts → entries_more n known s ≡ Ok (known ++ ks)
entries_given none (one_definition n new d) w zero l s e c = absurd (omega arith)
entries_given none (more_definitions n new d m) w zero l s e c = absurd (omega arith)
entries_given none (one_definition {known} {w = name} {T} {ts} n new d) w (suc k) l s e c =
    let a = front c in
    let b = front a.1 in
    let t = behind_type T [] (bump (bump s)) in
    let x = definition_given none d w.0 (bump (bump s)) b.1.used [] b.1.is b.1.are refl in
    last_step k known s (record { name = name; type = T }) t (entry_given known T s t n new a.0 b.0 x) refl (ap (λ w. end_by w s.stop) e)
entries_given none (more_definitions {known} {ks} {w = name} {T} {ts} {us} n new d m) w (suc k) l s e c =
    let a = front c in
    let b = front a.1 in
    let p = split 0 0 ts us refl b.1 in
    let rest = p.right.used in
    let t = behind_type T rest (bump (bump s)) in
    let q = definitions_first m in
    let next : Comes t (over t) 0 us = record { used = rest; is = sym (append-nil rest); are = p.right.are; parts = omega arith; stop = refl } in
    let f = (front (subst (Comes t (over t) 0) q.2 next)).0 in
    let is : (bump (bump s)).left ≡ p.left.used ++ rest = p.left.is ∙ ap (λ x. p.left.used ++ x) (p.right.is ∙ append-nil rest) in
    let x = definition_given none d w.0 (bump (bump s)) p.left.used rest is p.left.are (ap (is_sign OpenParenthesis) f) in
    let new_type : Known = record { name = name; type = T } in
    more_step k known s new_type t (entry_given known T s t n new a.0 b.0 x) (not_last rest t (word q.0) refl f)
    ∙ entries_given none m w.1 k (omega arith) t e next ∙ ap Ok (append_assoc known (new_type ∷ []) ks)

tokens_count : (l : List Spot) → length (tokens l) ≡ length l
tokens_count [] = refl
tokens_count (x ∷ xs) = ap suc (tokens_count xs)

pub parse_all_complete : NoFaultFound → LexComplete → (bs : List ℕ) (ks : List Known) → SpellsAll ks bs → AreWellFormed ks → parse_all bs ≡ Ok ks
unfolding parse_all
parse_all_complete none lexed bs ks s w =
    let f = lexed bs s.0 s.1 in
    let l = lex bs in
    let n = definitions_count s.2 in
    let k = tokens_count l.spots in
    let e = ap length f.0 in
    entries_given none s.2 w (suc (length l.spots)) (omega arith) (start l) (ended l.complete f.1) (record { used = l.spots; is = sym (append-nil l.spots); are = f.0; parts = omega arith; stop = refl })

pub parse_all_refuses : NoFaultFound → LexComplete → (bs : List ℕ) (e : TextFault) → parse_all bs ≡ Err e → (ks : List Known) → SpellsAll ks bs → AreWellFormed ks → ⊥
parse_all_refuses none lexed bs e h ks s w = let on = parse_all_complete none lexed bs ks s w in cc
