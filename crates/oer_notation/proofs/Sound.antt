-- What is read of a text is spelt so.
use Rattle.std.proofs.Common.{◌≡◌, ℕ, zero, suc, ◌-◌, List, [], ◌∷◌, ◌++◌, Bool, true, false, cond, ◌==◌, inl, inr, Option, Some, None, Ok, refl, sym, ap, subst, ◌∙◌, append-nil, nat_lt}
use Rattle.oer_lexer.specs.FallsInto.{FallsInto}
use Rattle.oer_lexer.specs.Laws.{LexSound}
use Rattle.oer_lexer.specs.Lexing.{lex}
use Rattle.oer_lexer.specs.Token.{Token, word, Spot, tokens}
use Rattle.oer_model.specs.AsnType.{AsnType}
use Rattle.oer_model.specs.FaultTest.{first_fault}
use Rattle.oer_model.specs.Laws.{FaultlessIsWellFormed, NoFaultFound}
use Rattle.oer_model.specs.declared.fault.SchemaFault.{SchemaFault}
use Rattle.oer_model.specs.Nodes.{type_nodes}
use Rattle.oer_model.specs.WellFormed.{depth, IsWellFormed}
use Rattle.oer_notation.specs.Grammar.{Spells, IsType, named_type}
use Rattle.oer_model.specs.Limits.{max_depth, max_parts}
use Rattle.oer_notation.specs.Parsing.{start, faultless, checked, definition_at, end_by, end_among, end_of, parse}
use Rattle.oer_notation.specs.Reading.{Known, find, Start, nothing, of_word, of_name, start_at, word_type, with_parts, named_at, type_by, too_deep, entered, type_at}
use Rattle.oer_value_notation.specs.State.{State, Read, first, bump, part_at, full}
use Rattle.oer_value_notation.specs.declared.fault.TextFault.{TextFault}
use Rattle.oer_value_notation.specs.declared.fault.TextWhy.{TextWhy}
use Rattle.oer_value_notation.specs.declared.fault.TextWhy.TheVariants as why
use Rattle.oer_value_notation.specs.declared.word.TypeWord.{TypeWord}
use Rattle.oer_notation.proofs.SoundParts.{word_type_took}
use Rattle.oer_notation.proofs.SpeltWidths.{AllHaveWidths, type_widths, few_nodes}
use Rattle.oer_notation.proofs.Took.{bind_ok, chosen, same_ok, Took, after, ends, answered, take_first, part_took, unmoved}
use Rattle.oer_notation.proofs.WordTable.{word_of, Begun, begun, find_sound}

part_first : (e : TextFault) (s : State) (r : Unit {0} × State) → part_at e s ≡ Ok r → first r.1 ≡ first s
unfolding part_at
part_first e s r h = elim (chosen (s.parts == 0) _ _ _ h) [
  | inl p ↦ absurd (cc)
  | inr p ↦ ap (λ r. first r.1) (sym (same_ok (tt, record { left = s.left; parts = s.parts - 1; stop = s.stop }) r p.1))
]

-- with another count of parts
recounted : {s t : State} {P : List Token → Type 0} (n : ℕ) → Took (with_parts n s) t P → Took s t P
recounted n p = record { used = p.used; is = p.is; stop = p.stop; holds = p.holds }

module _ (known : List Known) where
  named_took : (levels : ℕ) (w : List ℕ) (o : Option AsnType) (s : State) (r : AsnType × State) → find known w ≡ o → Begun (of_name w) (first s) → named_at levels o s ≡ Ok r → Took s r.1 (IsType known r.0)
  unfolding named_at
  named_took levels w None s r e b h = absurd (cc)
  named_took levels w (Some T) s r e b h = elim (chosen (nat_lt levels (depth T)) _ _ _ h) [
    | inl p ↦ absurd (cc)
    | inr p ↦ elim (chosen (nat_lt s.parts (type_nodes T)) _ _ _ p.1) [
      | inl p ↦ absurd (cc)
      | inr p ↦ (
          let n = s.parts - type_nodes T in
          let t = take_first (with_parts n s) (word w) b.0 in
          answered (IsType known) (T, bump (with_parts n s)) r p.1 (recounted n (ends (word w) (IsType known T) t (named_type b.1 (find_sound known w T e)))))
    ]
  ]

  inner_took : (type : State → Read AsnType) → ((s : State) (r : AsnType × State) → type s ≡ Ok r → Took s r.1 (IsType known r.0)) → (k : TypeWord) (s : State) (r : AsnType × State) → Begun (of_word k) (first s)
      → entered known (word_type type) k s ≡ Ok r → Took s r.1 (IsType known r.0)
  inner_took type sound k s r b h =
      let p = bind_ok (part_at (full s) s) _ r h in
      let t = take_first p.0.1 (word (word_of k)) (part_first (full s) s p.0 p.1 ∙ b) in
      unmoved (part_took (full s) s p.0 p.1) (after (word (word_of k)) (IsType known r.0) t (word_type_took known type sound k (bump p.0.1) r p.2) (λ b e. e))

  by_took : (inner : TypeWord → State → Read AsnType) (levels : ℕ) (b : Start) (s : State) (r : AsnType × State) → Begun b (first s) → ((k : TypeWord) → Begun (of_word k) (first s) → inner k s ≡ Ok r → Took s r.1 (IsType known r.0))
      → type_by known inner levels b s ≡ Ok r → Took s r.1 (IsType known r.0)
  by_took inner levels nothing s r b f h = absurd (cc)
  by_took inner levels (of_word k) s r b f h = f k b h
  by_took inner levels (of_name w) s r b f h = named_took levels w (find known w) s r refl b h

  pub type_took : (levels : ℕ) (s : State) (r : AsnType × State) → type_at known levels s ≡ Ok r → Took s r.1 (IsType known r.0)
  unfolding type_at start_at
  type_took zero s r h = by_took (too_deep known) zero (start_at s) s r (begun (first s)) (λ k b h. absurd (cc)) h
  type_took (suc levels) s r h = by_took (entered known (word_type (type_at known levels))) (suc levels) (start_at s) s r (begun (first s)) (λ k b h. inner_took (type_at known levels) (type_took levels) k s r b h) h

-- ---- texts

faultless_ok : (o : Option SchemaFault) (T : AsnType) (at : ℕ) (s : State) (r : AsnType × State) → faultless o T at s ≡ Ok r → (o ≡ None) × ((T, s) ≡ r)
faultless_ok None T at s r h = (refl, same_ok (T, s) r h)
faultless_ok (Some f) T at s r h = absurd (cc)

-- a type that was read whole
pub record Defines (known : List Known) (s : State) (r : AsnType × State) : Type 0 where
  pub took : Took s r.1 (IsType known r.0)
  pub faultless : first_fault r.0 ≡ None

pub definition_took : (known : List Known) (s : State) (r : AsnType × State) → definition_at known s ≡ Ok r → Defines known s r
unfolding definition_at checked
definition_took known s r h =
    let t = bind_ok (type_at known max_depth (with_parts max_parts s)) _ r h in
    let f = faultless_ok (first_fault t.0.0) t.0.0 _ t.0.1 r t.2 in
    subst (Defines known s) f.1 (record { took = recounted max_parts (type_took known max_depth (with_parts max_parts s) t.0 t.1); faultless = f.0 })

pub definition_well : NoFaultFound → FaultlessIsWellFormed → (known : List Known) → AllHaveWidths known → (s : State) (r : AsnType × State) → Defines known s r → IsWellFormed r.0
definition_well none well known all s r d = (well r.0 (type_widths known all d.took.holds (few_nodes none r.0 d.faultless))).0 d.faultless

end_by_ok : (w : TextWhy) (stop : TextFault) (u : Unit {0}) → end_by w stop ≡ Ok u → w ≡ why.Syntax
end_by_ok why.Syntax stop u h = refl
end_by_ok why.Memory stop u h = absurd (cc)
end_by_ok why.Token stop u h = absurd (cc)
end_by_ok why.Number stop u h = absurd (cc)
end_by_ok why.Name stop u h = absurd (cc)
end_by_ok why.Repeated stop u h = absurd (cc)
end_by_ok why.Mixed stop u h = absurd (cc)
end_by_ok why.Default stop u h = absurd (cc)
end_by_ok (why.Schema f) stop u h = absurd (cc)

end_among_ok : (l : List Spot) (stop : TextFault) (u : Unit {0}) → end_among l stop ≡ Ok u → (l ≡ []) × (stop.why ≡ why.Syntax)
end_among_ok [] stop u h = (refl, end_by_ok stop.why stop u h)
end_among_ok (t ∷ ts) stop u h = absurd (cc)

complete_if : (b : Bool) → cond b why.Syntax why.Token ≡ why.Syntax → b ≡ true
complete_if true h = refl
complete_if false h = absurd (cc)

-- all tokens of the text were taken
pub all_taken : LexSound → (bs : List ℕ) (t : State) (P : List Token → Type 0) (u : Unit {0}) → Took (start (lex bs)) t P → end_of t ≡ Ok u → (ts : List Token) × FallsInto bs ts × P ts
all_taken lexed bs t P u p h =
    let over = end_among_ok t.left t.stop u h in
    let all : p.used ≡ (lex bs).spots = sym (p.is ∙ ap (λ x. p.used ++ x) over.0 ∙ append-nil p.used) in
    let whole = complete_if (lex bs).complete (ap (λ f. f.why) p.stop ∙ over.1) in
    (tokens (lex bs).spots, lexed bs whole, subst (λ x. P (tokens x)) all p.holds)

pub parse_sound : LexSound → NoFaultFound → FaultlessIsWellFormed → (bs : List ℕ) (T : AsnType) → parse bs ≡ Ok T → Spells T bs × IsWellFormed T
unfolding parse
parse_sound lexed none well bs T h =
    let t = bind_ok (definition_at [] (start (lex bs))) _ T h in
    let e = bind_ok (end_of t.0.1) _ T t.2 in
    let d = definition_took [] (start (lex bs)) t.0 t.1 in
    let same = same_ok t.0.0 T e.2 in
    (subst (λ T. Spells T bs) same (all_taken lexed bs t.0.1 (IsType [] t.0.0) e.0 d.took e.1), subst IsWellFormed same (definition_well none well [] tt (start (lex bs)) t.0 d))
