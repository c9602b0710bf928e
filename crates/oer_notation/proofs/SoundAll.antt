-- The definitions that are read of a text are spelt so.
use Rattle.std.proofs.Common.{◌≡◌, ℕ, zero, suc, List, [], ◌∷◌, ◌++◌, length, false, inl, inr, Option, Some, None, Ok, refl, sym, ap₂, subst, ◌∙◌, append_assoc}
use Rattle.oer_lexer.specs.Laws.{LexSound}
use Rattle.oer_lexer.specs.Lexing.{lex}
use Rattle.oer_lexer.specs.Token.{Token, word, number, bits, digits, text, sign}
use Rattle.oer_lexer.specs.declared.token.Sign.TheVariants.{Assign}
use Rattle.oer_model.specs.AsnType.{AsnType}
use Rattle.oer_model.specs.Laws.{FaultlessIsWellFormed, NoFaultFound}
use Rattle.oer_model.specs.WellFormed.{IsWellFormed}
use Rattle.oer_model.specs.Widths.{HasWidths}
use Rattle.oer_notation.specs.Grammar.{SpellsAll, AreWellFormed, IsType, IsName, IsNew, AreDefinitions, one_definition, more_definitions}
use Rattle.oer_notation.specs.Parsing.{start, definition_at, end_of, is_known, name_by, name_at, entry_at, is_last, entries_more, parse_all}
use Rattle.oer_notation.specs.Reading.{Known, find}
use Rattle.oer_value_notation.specs.State.{State, first, bump, skip_sign}
use Rattle.oer_value_notation.specs.Words.{is_name}
use Rattle.oer_notation.proofs.Sound.{definition_took, definition_well, all_taken}
use Rattle.oer_notation.proofs.SpeltWidths.{AllHaveWidths, one_more, type_widths, few_nodes}
use Rattle.oer_notation.proofs.Took.{bind_ok, chosen, same_ok, Took, both, turned, after, answered, take_first, skip_sign_took}
use Rattle.oer_notation.proofs.WordTable.{name_sound, find_none}

-- a Name that is new
abbrev IsNewName : List Known → List ℕ → List Token → Type 0
IsNewName known w ts = (ts ≡ word w ∷ []) × IsName w × IsNew w known

unknown : (o : Option AsnType) → is_known o ≡ false → o ≡ None
unknown None h = refl
unknown (Some T) h = absurd (cc)

name_by_took : (known : List Known) (o : Option Token) (s : State) (r : List ℕ × State) → first s ≡ o → name_by known o s ≡ Ok r → Took s r.1 (IsNewName known r.0)
name_by_took known None s r e h = absurd (cc)
name_by_took known (Some (word w)) s r e h = elim (chosen (is_name w) _ _ _ h) [
  | inl p ↦ elim (chosen (is_known (find known w)) _ _ _ p.1) [
    | inl q ↦ absurd (cc)
    | inr q ↦ answered (IsNewName known) (w, bump s) r q.1 (turned (IsNewName known w) (take_first s (word w) e) (λ a t. (t, name_sound w p.0, find_none known w (unknown (find known w) q.0))))
  ]
  | inr p ↦ absurd (cc)
]
name_by_took known (Some (number w)) s r e h = absurd (cc)
name_by_took known (Some (bits w)) s r e h = absurd (cc)
name_by_took known (Some (digits w)) s r e h = absurd (cc)
name_by_took known (Some (text w)) s r e h = absurd (cc)
name_by_took known (Some (sign u)) s r e h = absurd (cc)

name_took : (known : List Known) (s : State) (r : List ℕ × State) → name_at known s ≡ Ok r → Took s r.1 (IsNewName known r.0)
unfolding name_at
name_took known s r h = name_by_took known (first s) s r refl h

-- a Name and its type
abbrev IsEntry : List Known → Known → List Token → Type 0
IsEntry known k ts = (us : List Token) × (ts ≡ word k.name ∷ sign Assign ∷ us) × IsName k.name × IsNew k.name known × IsType known k.type us

record Entered (known : List Known) (s : State) (r : Known × State) : Type 0 where
  took : Took s r.1 (IsEntry known r.0)
  well : IsWellFormed r.0.type
  widths : HasWidths r.0.type

entry_took : NoFaultFound → FaultlessIsWellFormed → (known : List Known) → AllHaveWidths known → (s : State) (r : Known × State) → entry_at known s ≡ Ok r → Entered known s r
unfolding entry_at
entry_took none well known all s r h =
    let n = bind_ok (name_at known s) _ r h in
    let a = bind_ok (skip_sign Assign n.0.1) _ r n.2 in
    let t = bind_ok (definition_at known a.0.1) _ r a.2 in
    let p = name_took known s n.0 n.1 in
    let d = definition_took known a.0.1 t.0 t.1 in
    let k : Known = record { name = n.0.0; type = t.0.0 } in
    let y = after (sign Assign) (λ ts. (us : List Token) × (ts ≡ sign Assign ∷ us) × IsType known t.0.0 us) (skip_sign_took Assign n.0.1 a.0 a.1) d.took (λ b e. (b, refl, e)) in
    let z = both (IsEntry known k) p y (λ x y e f. (f.0, ap₂ (λ x y. x ++ y) e.0 f.1, e.1, e.2, f.2)) in
    subst (Entered known s) (same_ok (k, t.0.1) r t.2) (record { took = z; well = definition_well none well known all a.0.1 t.0 d; widths = type_widths known all d.took.holds (few_nodes none t.0.0 d.faultless) })

record AllEntered (known : List Known) (s : State) (ks : List Known) : Type 0 where
  more : List Known
  are : ks ≡ known ++ more
  last : State
  took : Took s last (AreDefinitions known more)
  over : end_of last ≡ Ok tt
  well : AreWellFormed more

entries_took : NoFaultFound → FaultlessIsWellFormed → (n : ℕ) (known : List Known) → AllHaveWidths known → (s : State) (ks : List Known) → entries_more n known s ≡ Ok ks → AllEntered known s ks
unfolding entries_more
entries_took none well zero known all s ks h = absurd (cc)
entries_took none well (suc n) known all s ks h =
    let e = bind_ok (entry_at known s) _ ks h in
    let k = e.0.0 in
    let t = entry_took none well known all s e.0 e.1 in
    elim (chosen (is_last e.0.1.left) _ _ _ e.2) [
      | inl p ↦ (
          let o = bind_ok (end_of e.0.1) _ ks p.1 in
          record {
            more = k ∷ [];
            are = sym (same_ok (known ++ k ∷ []) ks o.2);
            last = e.0.1;
            took = turned (AreDefinitions known (k ∷ [])) t.took (λ a d. subst (AreDefinitions known (k ∷ [])) (sym d.1) (one_definition d.2 d.3 d.4));
            over = o.1;
            well = (t.well, tt);
          })
      | inr p ↦ (
          let m = entries_took none well n (known ++ k ∷ []) (one_more known k all t.widths) e.0.1 ks p.1 in
          record {
            more = k ∷ m.more;
            are = m.are ∙ append_assoc known (k ∷ []) m.more;
            last = m.last;
            took = both (AreDefinitions known (k ∷ m.more)) t.took m.took (λ a b d f. subst (λ a. AreDefinitions known (k ∷ m.more) (a ++ b)) (sym d.1) (more_definitions d.2 d.3 d.4 f));
            over = m.over;
            well = (t.well, m.well);
          })
    ]

pub parse_all_sound : LexSound → NoFaultFound → FaultlessIsWellFormed → (bs : List ℕ) (ks : List Known) → parse_all bs ≡ Ok ks → SpellsAll ks bs × AreWellFormed ks
unfolding parse_all
parse_all_sound lexed none well bs ks h =
    let m = entries_took none well (suc (length (lex bs).spots)) [] tt (start (lex bs)) ks h in
    (subst (λ ks. SpellsAll ks bs) (sym m.are) (all_taken lexed bs m.last (AreDefinitions [] m.more) tt m.took m.over), subst AreWellFormed (sym m.are) m.well)
