-- What a text spells is read of it.
use Rattle.std.proofs.Common.{◌≡◌, ℕ, ◌-◌, ◌≤◌, List, [], ◌++◌, Bool, true, false, cond, ⊎_elim, Result, Ok, Err, refl, sym, ap, ◌∙◌, append-nil, arith}
use Rattle.std.proofs.lemmas.Bool.{cases_lt}
use Rattle.oer_lexer.specs.Laws.{LexComplete}
use Rattle.oer_lexer.specs.Lexing.{lex}
use Rattle.oer_lexer.specs.Token.{Token, Spot, tokens}
use Rattle.oer_lexer.specs.declared.token.Sign.TheVariants.{OpenParenthesis}
use Rattle.oer_model.specs.AsnType.{AsnType}
use Rattle.oer_model.specs.Laws.{NoFaultFound}
use Rattle.oer_model.specs.Nodes.{type_nodes}
use Rattle.oer_model.specs.WellFormed.{depth, IsWellFormed}
use Rattle.oer_model.specs.declared.fault.SchemaFault.TheVariants.{TooDeep, TooManyParts, DefaultMisfit}
use Rattle.oer_notation.specs.Grammar.{Spells, IsType}
use Rattle.oer_model.specs.Limits.{max_depth, max_parts}
use Rattle.oer_notation.specs.Parsing.{start, definition_at, end_by, end_of, parse}
use Rattle.oer_notation.specs.Reading.{Known, with_parts}
use Rattle.oer_value_notation.specs.State.{State, at_sign, ◌>>=◌}
use Rattle.oer_value_notation.specs.declared.fault.TextFault.{TextFault}
use Rattle.oer_value_notation.specs.declared.fault.TextWhy.TheVariants as why
use Rattle.oer_notation.proofs.Comes.{Comes, bound}
use Rattle.oer_notation.proofs.CompleteParts.{type_given}
use Rattle.oer_notation.proofs.Definitions.{definition_ok}

pub shallow : (T : AsnType) → IsWellFormed T → depth T ≤ 32
shallow T w = ⊎_elim (λ l. absurd (w.faultless TooDeep l)) (λ g. g) (cases_lt 32 (depth T))

pub few : (T : AsnType) → IsWellFormed T → type_nodes T ≤ 4096
few T w = ⊎_elim (λ l. absurd (w.faultless TooManyParts l)) (λ g. g) (cases_lt 4096 (type_nodes T))

-- the state behind a definition's type
abbrev pub behind_type : AsnType → List Spot → State → State
behind_type T rest s = record { left = rest; parts = 4096 - type_nodes T; stop = s.stop }

pub definition_given : NoFaultFound → {known : List Known} {T : AsnType} {ts : List Token} → IsType known T ts → IsWellFormed T → (s : State) (used rest : List Spot) → s.left ≡ used ++ rest → tokens used ≡ ts
    → at_sign OpenParenthesis (behind_type T rest s) ≡ false → definition_at known s ≡ Ok (T, behind_type T rest s)
definition_given none {known} {T} d w s used rest is are clear =
    let n = few T w in
    let c : Comes (with_parts max_parts s) (behind_type T rest s) (type_nodes T) _ = record { used = used; is = is; are = are; parts = omega arith; stop = refl } in
    definition_ok none known s T (behind_type T rest s) (type_given known d max_depth (shallow T w) (omega arith) (w.faultless DefaultMisfit) (with_parts max_parts s) (behind_type T rest s) c clear) w

pub ended : (b : Bool) → b ≡ true → cond b why.Syntax why.Token ≡ why.Syntax
ended true h = refl
ended false h = absurd (cc)

-- the end of a text that was read whole
pub end_given : (bs : List ℕ) → (lex bs).complete ≡ true → (T : AsnType) → end_of (behind_type T [] (start (lex bs))) ≡ Ok tt
end_given bs h T = ap (λ w. end_by w (start (lex bs)).stop) (ended (lex bs).complete h)

pub parse_complete : NoFaultFound → LexComplete → (bs : List ℕ) (T : AsnType) → Spells T bs → IsWellFormed T → parse bs ≡ Ok T
unfolding parse
parse_complete none lexed bs T s w =
    let f = lexed bs s.0 s.1 in
    let l = lex bs in
    let t = behind_type T [] (start l) in
    let d = definition_given none s.2 w (start l) l.spots [] (sym (append-nil l.spots)) f.0 refl in
    bound (definition_at [] (start l)) (λ t. end_of t.1 >>= λ _. Ok t.0) (T, t) d ∙ bound (end_of t) (λ _. Ok T) tt (end_given bs f.1 T)

ok_same : {A E : Type 0} (x y : A) → ◌≡◌ {A = Result A E} (Ok x) (Ok y) → x ≡ y
ok_same x y h = cc

pub one_type : NoFaultFound → LexComplete → (bs : List ℕ) (T U : AsnType) → Spells T bs → Spells U bs → IsWellFormed T → IsWellFormed U → T ≡ U
one_type none lexed bs T U s u w x = ok_same T U (sym (parse_complete none lexed bs T s w) ∙ parse_complete none lexed bs U u x)

pub parse_refuses : NoFaultFound → LexComplete → (bs : List ℕ) (e : TextFault) → parse bs ≡ Err e → (T : AsnType) → Spells T bs → IsWellFormed T → ⊥
parse_refuses none lexed bs e h T s w = let on = parse_complete none lexed bs T s w in cc
