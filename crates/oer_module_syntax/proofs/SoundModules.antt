-- Modules that are read are spelled so.
use Rattle.std.proofs.Common.{◌≡◌, ℕ, suc, ◌+◌, List, [], ◌∷◌, ◌++◌, take, drop, length, Bool, true, false, not, ◌&&◌, ◌⊎◌, inl, inr, Option, Some, None, Ok, refl, sym, ap, subst, ◌∙◌, arith, ◌||◌}
use Rattle.std.specs.List.{All}
use Rattle.std.proofs.lemmas.List.{append-nil}
use Rattle.std.proofs.lemmas.List.Elements.{All-nil, All-cons}
use Rattle.oer_module_lexer.specs.Token.{Token, word, field, number, real, bits, digits, text, sign, Spot}
use Rattle.oer_module_lexer.specs.declared.token.Sign.TheVariants.{OpenBrace, Semicolon, Assign}
use Rattle.oer_module_syntax.specs.Grammar.{◌▹◌, Nothing, Listed, ASign, AKeyword, AWord, SpelledSymbol, Symbols, SpelledExports, SpelledVersions, AssignedIdentifier, SpelledImport, SpelledImports, ClassSyntax, SpelledBody, SpelledAssignment, Instructions, TagDefault, ExtensionDefault, MaybeText, Control, Header, SpelledModule, SpelledModules, ModulesSound, UnreservedAt, MaybeEnclosed}
use Rattle.oer_module_syntax.specs.Looks.{names_value}
use Rattle.oer_module_syntax.specs.Modules.{many, all_of, is_text, past_text, tags_behind, tags_at, extensible_at, instructions_by, instructions_at, symbol_by, symbol_at, exported_at, exports_at, goes_on_symbols, name_len, id_name_by, id_by, id_at, versions_behind, versions_at, import_at, imports_at, ends_assignments, is_end, control_len, braced_at, syntax_at, class_at, defined_at, set_at, valued_at, body_at, assigned_at, assignment_by, assignment_at, content_at, module_at, none_left, is_last, modules_of}
use Rattle.oer_module_syntax.specs.Ranges.{pairs_len, group_at, value_at}
use Rattle.oer_module_syntax.specs.State.{State, first, first_of, place, place_among, bump, past, at_sign, at_keyword, skip_sign, skip_keyword, reference_at, is_word}
use Rattle.oer_module_syntax.specs.Tree.{Symbol, Exports, all, these, Import, Body, type_body, class_body, value_body, set_body, Assignment, Module}
use Rattle.oer_module_syntax.specs.Types.{listed, type_at}
use Rattle.oer_module_syntax.specs.Words.{is_identifier, is_reserved, keyword_text}
use Rattle.oer_module_syntax.specs.declared.fault.Sought.TheVariants as sought
use Rattle.oer_module_syntax.specs.declared.range.Pair.TheVariants.{Step}
use Rattle.oer_module_syntax.specs.declared.tree.Tags.{Tags}
use Rattle.oer_module_syntax.specs.declared.tree.Tags.TheVariants as tags
use Rattle.oer_module_syntax.specs.declared.tree.Versions.{Versions}
use Rattle.oer_module_syntax.specs.declared.tree.Versions.TheVariants as versions
use Rattle.oer_module_syntax.specs.declared.word.Keyword.TheVariants as kw
use Rattle.oer_module_syntax.proofs.Matching.{bind_ok, chosen}
use Rattle.oer_module_syntax.proofs.SoundTypes.{type_took}
use Rattle.oer_module_syntax.proofs.SoundValues.{value_took}
use Rattle.oer_module_syntax.proofs.Took.{Took, ◌▸◌, stay, turned, answered, same_ok, take_first, sign_took, word_took, keyword_took, skip_sign_took, skip_keyword_took, reference_took, front_took, braces_took, braced_took, listed_took, each_onto, many_took, all_took, steps}

-- ---- the header

text_first : (o : Option Token) → is_text o ≡ true → (w : List ℕ) × (o ≡ Some (text w))
text_first None h = absurd (cc)
text_first (Some (text w)) h = (w, refl)
text_first (Some (word w)) h = absurd (cc)
text_first (Some (field w)) h = absurd (cc)
text_first (Some (number w)) h = absurd (cc)
text_first (Some (real w)) h = absurd (cc)
text_first (Some (bits w)) h = absurd (cc)
text_first (Some (digits w)) h = absurd (cc)
text_first (Some (sign g)) h = absurd (cc)

text_took : (s : State) → Took s (past_text s) MaybeText
text_took s = elim (chosen {A = State} (is_text (first s)) (bump s) s (past_text s) refl) [
  | inl p ↦ (
      let t = text_first (first s) p.0 in
      subst (λ u. Took s u MaybeText) p.1 (turned MaybeText (take_first s (text t.0) t.1) (λ a e. inr (place s, t.0, e))))
  | inr p ↦ subst (λ u. Took s u MaybeText) p.1 (stay s MaybeText (inl refl))
]

tags_took : (s : State) (r : Tags × State) → tags_at s ≡ Ok r → Took s r.1 (TagDefault r.0)
unfolding tags_at tags_behind
tags_took s r h = elim (chosen (at_keyword kw.Explicit s) _ _ _ h) [
  | inl p ↦ (
      let t = bind_ok (skip_keyword kw.Tags (bump s)) _ r p.1 in
      answered TagDefault (tags.Explicit, t.0.1) r t.2 (turned (TagDefault tags.Explicit) (keyword_took kw.Explicit s p.0 ▸ skip_keyword_took kw.Tags (bump s) t.0 t.1) (λ a e. inr e)))
  | inr p ↦ elim (chosen (at_keyword kw.Implicit s) _ _ _ p.1) [
    | inl p ↦ (
        let t = bind_ok (skip_keyword kw.Tags (bump s)) _ r p.1 in
        answered TagDefault (tags.Implicit, t.0.1) r t.2 (keyword_took kw.Implicit s p.0 ▸ skip_keyword_took kw.Tags (bump s) t.0 t.1))
    | inr p ↦ elim (chosen (at_keyword kw.Automatic s) _ _ _ p.1) [
      | inl p ↦ (
          let t = bind_ok (skip_keyword kw.Tags (bump s)) _ r p.1 in
          answered TagDefault (tags.Automatic, t.0.1) r t.2 (keyword_took kw.Automatic s p.0 ▸ skip_keyword_took kw.Tags (bump s) t.0 t.1))
      | inr p ↦ answered TagDefault (tags.Explicit, s) r p.1 (stay s (TagDefault tags.Explicit) (inl refl))
    ]
  ]
]

extensible_took : (s : State) (r : Bool × State) → extensible_at s ≡ Ok r → Took s r.1 (ExtensionDefault r.0)
unfolding extensible_at
extensible_took s r h = elim (chosen (at_keyword kw.Extensibility s) _ _ _ h) [
  | inl p ↦ (
      let t = bind_ok (skip_keyword kw.Implied (bump s)) _ r p.1 in
      answered ExtensionDefault (true, t.0.1) r t.2 (keyword_took kw.Extensibility s p.0 ▸ skip_keyword_took kw.Implied (bump s) t.0 t.1))
  | inr p ↦ answered ExtensionDefault (false, s) r p.1 (stay s Nothing refl)
]

instructions_by_took : (o : Option Token) (s : State) → first s ≡ o → Took s (instructions_by o s).1 (Instructions (instructions_by o s).0)
instructions_by_took None s e = stay s Nothing refl
instructions_by_took (Some (word w)) s e = elim (chosen {A = Option (List ℕ) × State} (at_keyword kw.Instructions (bump s)) (Some w, past 2 s) (None, s) (instructions_by (Some (word w)) s) refl) [
  | inl p ↦ (
      let t = turned (AWord w) (word_took w s e) (λ a i. (place s, i)) ▸ keyword_took kw.Instructions (bump s) p.0 in
      let two : bump (bump s) ≡ past 2 s = ap (λ l. record { left = l; end = s.end; complete = s.complete }) (drop_two s.left) in
      subst (λ c. Took s c.1 (Instructions c.0)) p.1 (subst (λ u. Took s u (Instructions (Some w))) two t))
  | inr p ↦ subst (λ c. Took s c.1 (Instructions c.0)) p.1 (stay s Nothing refl)
]
  where
    drop_two : (l : List Spot) → drop 1 (drop 1 l) ≡ drop 2 l
    drop_two [] = refl
    drop_two (x ∷ xs) = refl
instructions_by_took (Some (field w)) s e = stay s Nothing refl
instructions_by_took (Some (number w)) s e = stay s Nothing refl
instructions_by_took (Some (real w)) s e = stay s Nothing refl
instructions_by_took (Some (bits w)) s e = stay s Nothing refl
instructions_by_took (Some (digits w)) s e = stay s Nothing refl
instructions_by_took (Some (text w)) s e = stay s Nothing refl
instructions_by_took (Some (sign g)) s e = stay s Nothing refl

instructions_took : (s : State) → Took s (instructions_at s).1 (Instructions (instructions_at s).0)
instructions_took s = instructions_by_took (first s) s refl

-- ---- EXPORTS and IMPORTS

-- a word that isn't reserved
unreserved_took : (w : List ℕ) (s : State) → first s ≡ Some (word w) → is_reserved w ≡ false → Took s (bump s) (UnreservedAt (place s) w)
unreserved_took w s e h = turned (UnreservedAt (place s) w) (word_took w s e) (λ a i. (i, h))

symbol_by_took : (o : Option Token) (s : State) (r : Symbol × State) → first s ≡ o → symbol_by o s ≡ Ok r → Took s r.1 (SpelledSymbol r.0)
symbol_by_took None s r e h = absurd (cc)
symbol_by_took (Some (word w)) s r e h = elim (chosen (is_reserved w) _ _ _ h) [
  | inl p ↦ absurd (cc)
  | inr p ↦ (
      let g = bind_ok (group_at OpenBrace (bump s)) _ r p.1 in
      let braces = turned MaybeEnclosed (braces_took (bump s) g.0 g.1) (λ a i. i.1) in
      answered SpelledSymbol (record { at = place s; name = w }, g.0.1) r g.2 (unreserved_took w s e p.0 ▸ braces))
]
symbol_by_took (Some (field w)) s r e h = absurd (cc)
symbol_by_took (Some (number w)) s r e h = absurd (cc)
symbol_by_took (Some (real w)) s r e h = absurd (cc)
symbol_by_took (Some (bits w)) s r e h = absurd (cc)
symbol_by_took (Some (digits w)) s r e h = absurd (cc)
symbol_by_took (Some (text w)) s r e h = absurd (cc)
symbol_by_took (Some (sign g)) s r e h = absurd (cc)

pub symbol_took : (s : State) (r : Symbol × State) → symbol_at s ≡ Ok r → Took s r.1 (SpelledSymbol r.0)
unfolding symbol_at
symbol_took s r h = symbol_by_took (first s) s r refl h

symbols_took : (s : State) (r : List Symbol × State) → listed symbol_at s ≡ Ok r → Took s r.1 (Listed SpelledSymbol r.0)
symbols_took s r h = listed_took SpelledSymbol symbol_at symbol_took s r h

some_symbols : (xs : List Symbol) (ts : List Spot) → Listed SpelledSymbol xs ts → Symbols xs ts
some_symbols [] ts h = absurd h
some_symbols (x ∷ xs) ts h = h

-- behind EXPORTS
abbrev Exported : Exports → List Spot → Type 0
Exported all = AKeyword kw.All
Exported (these symbols) = Symbols symbols

exported_took : (s : State) (r : Exports × State) → exported_at s ≡ Ok r → Took s r.1 (Exported r.0)
unfolding exported_at
exported_took s r h = elim (chosen (at_sign Semicolon s) _ _ _ h) [
  | inl p ↦ answered Exported (these [], s) r p.1 (stay s Nothing refl)
  | inr p ↦ elim (chosen (at_keyword kw.All s) _ _ _ p.1) [
    | inl p ↦ answered Exported (all, bump s) r p.1 (keyword_took kw.All s p.0)
    | inr p ↦ (
        let x = bind_ok (listed symbol_at s) _ r p.1 in
        answered Exported (these x.0.0, x.0.1) r x.2 (turned (Symbols x.0.0) (symbols_took s x.0 x.1) (λ a i. some_symbols x.0.0 a i)))
  ]
]

with_exports : (x : Exports) (ts : List Spot) → (AKeyword kw.Exports ▹ Exported x ▹ ASign Semicolon) ts → SpelledExports x ts
with_exports all ts h = inr h
with_exports (these symbols) ts h = h

exports_took : (s : State) (r : Exports × State) → exports_at s ≡ Ok r → Took s r.1 (SpelledExports r.0)
unfolding exports_at
exports_took s r h = elim (chosen (at_keyword kw.Exports s) _ _ _ h) [
  | inl p ↦ (
      let x = bind_ok (exported_at (bump s)) _ r p.1 in
      let over = bind_ok (skip_sign Semicolon x.0.1) _ r x.2 in
      answered SpelledExports (x.0.0, over.0.1) r over.2
      (turned (SpelledExports x.0.0) (keyword_took kw.Exports s p.0 ▸ exported_took (bump s) x.0 x.1 ▸ skip_sign_took Semicolon x.0.1 over.0 over.1) (λ a i. with_exports x.0.0 a i)))
  | inr p ↦ answered SpelledExports (all, s) r p.1 (stay s (SpelledExports all) (inl refl))
]

-- the name of a value, with its steps
module _ (w : List ℕ) where
  name_is : (l : List Spot) (end : ℕ) → first_of l ≡ Some (word w)
      → take (1 + pairs_len Step (drop 1 l)) l ≡ record { at = place_among l end; token = word w } ∷ take (pairs_len Step (drop 1 l)) (drop 1 l)
  name_is [] end e = absurd (cc)
  name_is (t ∷ ts) end e = ap (λ n. take n (t ∷ ts)) (one_more (pairs_len Step ts)) ∙ ap (λ k. record { at = t.at; token = k } ∷ take (pairs_len Step ts) ts) (inside t.token (word w) e)
    where
      one_more : (n : ℕ) → 1 + n ≡ suc n
      one_more n = omega arith

      inside : (a b : Token) → Some a ≡ Some b → a ≡ b
      inside a b e = cc

  value_name_took : (s : State) → first s ≡ Some (word w) → Took s (past (name_len s) s) (AssignedIdentifier (take (name_len s) s.left))
  value_name_took s e =
      let path = take (pairs_len Step (bump s).left) (bump s).left in
      let Id = AssignedIdentifier (take (name_len s) s.left) in
      turned Id (front_took (name_len s) s)
      (
      λ a i. inr (
        i,
        w,
        path,
        record { front = record { at = place s; token = word w } ∷ []; behind = path; is = i ∙ name_is s.left s.end e; first = (place s, refl); last = (refl, steps (bump s).left) },
      )
      )

id_by_took : (o : Option Token) (s : State) (r : List Spot × State) → first s ≡ o → id_by (id_name_by o s) ≡ Ok r → Took s r.1 (AssignedIdentifier r.0)
id_by_took (Some (word w)) s r e h =
    let named = names_value w s && not (goes_on_symbols (past (name_len s) s)) in
    elim (chosen {A = Option (List Spot) × State} named (Some (take (name_len s) s.left), past (name_len s) s) (None, s) (id_name_by (Some (word w)) s) refl) [
      | inl p ↦ answered AssignedIdentifier (take (name_len s) s.left, past (name_len s) s) r (ap id_by p.1 ∙ h) (value_name_took w s e)
      | inr p ↦ in_braces s r (ap id_by p.1 ∙ h)
    ]
  where
    in_braces : (s : State) (r : List Spot × State) → group_at OpenBrace s ≡ Ok r → Took s r.1 (AssignedIdentifier r.0)
    in_braces s r h = turned (AssignedIdentifier r.0) (braces_took s r h) (λ a i. inl i)
id_by_took None s r e h = turned (AssignedIdentifier r.0) (braces_took s r h) (λ a i. inl i)
id_by_took (Some (field w)) s r e h = turned (AssignedIdentifier r.0) (braces_took s r h) (λ a i. inl i)
id_by_took (Some (number w)) s r e h = turned (AssignedIdentifier r.0) (braces_took s r h) (λ a i. inl i)
id_by_took (Some (real w)) s r e h = turned (AssignedIdentifier r.0) (braces_took s r h) (λ a i. inl i)
id_by_took (Some (bits w)) s r e h = turned (AssignedIdentifier r.0) (braces_took s r h) (λ a i. inl i)
id_by_took (Some (digits w)) s r e h = turned (AssignedIdentifier r.0) (braces_took s r h) (λ a i. inl i)
id_by_took (Some (text w)) s r e h = turned (AssignedIdentifier r.0) (braces_took s r h) (λ a i. inl i)
id_by_took (Some (sign g)) s r e h = turned (AssignedIdentifier r.0) (braces_took s r h) (λ a i. inl i)

id_took : (s : State) (r : List Spot × State) → id_at s ≡ Ok r → Took s r.1 (AssignedIdentifier r.0)
unfolding id_at
id_took s r h = id_by_took (first s) s r refl h

versions_took : (s : State) (r : Versions × State) → versions_at s ≡ Ok r → Took s r.1 (SpelledVersions r.0)
unfolding versions_at versions_behind
versions_took s r h = elim (chosen (at_keyword kw.With s) _ _ _ h) [
  | inl w ↦ elim (chosen (at_keyword kw.Successors (bump s)) _ _ _ w.1) [
    | inl p ↦ answered SpelledVersions (versions.Successors, bump (bump s)) r p.1 (keyword_took kw.With s w.0 ▸ keyword_took kw.Successors (bump s) p.0)
    | inr p ↦ (
        let d = bind_ok (skip_keyword kw.Descendants (bump s)) _ r p.1 in
        answered SpelledVersions (versions.Descendants, d.0.1) r d.2 (keyword_took kw.With s w.0 ▸ skip_keyword_took kw.Descendants (bump s) d.0 d.1))
  ]
  | inr p ↦ answered SpelledVersions (versions.Same, s) r p.1 (stay s Nothing refl)
]

pub import_took : (s : State) (r : Import × State) → import_at s ≡ Ok r → Took s r.1 (SpelledImport r.0)
unfolding import_at
import_took s r h =
    let symbols = bind_ok (listed symbol_at s) _ r h in
    let behind = bind_ok (skip_keyword kw.From symbols.0.1) _ r symbols.2 in
    let from = bind_ok (reference_at sought.Reference behind.0.1) _ r behind.2 in
    let id = bind_ok (id_at from.0.1) _ r from.2 in
    let of = bind_ok (versions_at id.0.1) _ r id.2 in
    answered SpelledImport (record { symbols = symbols.0.0; at = place behind.0.1; from = from.0.0; id = id.0.0; versions = of.0.0 }, of.0.1) r of.2
    (symbols_took s symbols.0 symbols.1 ▸ skip_keyword_took kw.From symbols.0.1 behind.0 behind.1 ▸ reference_took sought.Reference behind.0.1 from.0 from.1
    ▸ id_took from.0.1 id.0 id.1 ▸ versions_took id.0.1 of.0 of.1)

imports_took : (s : State) (r : List Import × State) → imports_at s ≡ Ok r → Took s r.1 (SpelledImports r.0)
unfolding imports_at
imports_took s r h = elim (chosen (at_keyword kw.Imports s) _ _ _ h) [
  | inl p ↦ (
      let x = bind_ok (all_of (at_sign Semicolon) import_at (bump s)) _ r p.1 in
      let m = all_took SpelledImport import_at import_took (at_sign Semicolon) (bump s) x.0 x.1 in
      answered SpelledImports (x.0.0, bump x.0.1) r x.2
      (turned (SpelledImports x.0.0) (keyword_took kw.Imports s p.0 ▸ m.0 ▸ sign_took Semicolon x.0.1 m.1) (λ a i. inr i)))
  | inr p ↦ answered SpelledImports ([], s) r p.1 (stay s (SpelledImports []) (inl (refl, refl)))
]

-- ---- assignments

syntax_took : (s : State) (r : List Spot × State) → syntax_at s ≡ Ok r → Took s r.1 (ClassSyntax r.0)
unfolding syntax_at
syntax_took s r h = elim (chosen (at_keyword kw.With s) _ _ _ h) [
  | inl p ↦ (
      let t = bind_ok (skip_keyword kw.Syntax (bump s)) _ r p.1 in
      turned (ClassSyntax r.0) (keyword_took kw.With s p.0 ▸ skip_keyword_took kw.Syntax (bump s) t.0 t.1 ▸ braced_took t.0.1 r t.2) (λ a i. inr i))
  | inr p ↦ answered ClassSyntax ([], s) r p.1 (stay s (ClassSyntax []) (inl (refl, refl)))
]

class_took : (s t : State) (r : Body × State) → Took s t (ASign Assign) → at_keyword kw.Class t ≡ true → class_at (bump t) ≡ Ok r → Took s r.1 (SpelledBody false r.0)
unfolding class_at
class_took s t r a k h =
    let fields = bind_ok (braced_at (bump t)) _ r h in
    let syntax = bind_ok (syntax_at fields.0.1) _ r fields.2 in
    let b = class_body fields.0.0 syntax.0.0 in
    answered (SpelledBody false) (b, syntax.0.1) r syntax.2
    (turned (SpelledBody false b) (a ▸ keyword_took kw.Class t k ▸ braced_took (bump t) fields.0 fields.1 ▸ syntax_took fields.0.1 syntax.0 syntax.1) (λ a i. (refl, i)))

module _ (levels : ℕ) where
  defined_took : (s t : State) (r : Body × State) → Took s t (ASign Assign) → defined_at levels t ≡ Ok r → Took s r.1 (SpelledBody false r.0)
  unfolding defined_at
  defined_took s t r a h = elim (chosen (at_keyword kw.Class t) _ _ _ h) [
    | inl p ↦ class_took s t r a p.0 p.1
    | inr p ↦ (
        let x = bind_ok (type_at levels t) _ r p.1 in
        answered (SpelledBody false) (type_body x.0.0, x.0.1) r x.2
        (turned (SpelledBody false (type_body x.0.0)) (a ▸ type_took levels t x.0 x.1) (λ a i. (refl, i))))
  ]

  set_took : (s : State) (r : Body × State) → set_at levels s ≡ Ok r → Took s r.1 (SpelledBody false r.0)
  unfolding set_at
  set_took s r h =
      let governor = bind_ok (type_at levels s) _ r h in
      let assign = bind_ok (skip_sign Assign governor.0.1) _ r governor.2 in
      let set = bind_ok (braced_at assign.0.1) _ r assign.2 in
      let b = set_body governor.0.0 set.0.0 in
      answered (SpelledBody false) (b, set.0.1) r set.2
      (turned (SpelledBody false b) (type_took levels s governor.0 governor.1 ▸ skip_sign_took Assign governor.0.1 assign.0 assign.1 ▸ braced_took assign.0.1 set.0 set.1) (λ a i. (refl, i)))

  valued_took : (s : State) (r : Body × State) → valued_at levels s ≡ Ok r → Took s r.1 (SpelledBody true r.0)
  unfolding valued_at
  valued_took s r h =
      let governor = bind_ok (type_at levels s) _ r h in
      let assign = bind_ok (skip_sign Assign governor.0.1) _ r governor.2 in
      let value = bind_ok (value_at assign.0.1) _ r assign.2 in
      let b = value_body governor.0.0 value.0.0 in
      answered (SpelledBody true) (b, value.0.1) r value.2
      (turned (SpelledBody true b) (type_took levels s governor.0 governor.1 ▸ skip_sign_took Assign governor.0.1 assign.0 assign.1 ▸ value_took assign.0.1 value.0 value.1) (λ a i. (refl, i)))

  body_took : (small : Bool) (s : State) (r : Body × State) → body_at levels small s ≡ Ok r → Took s r.1 (SpelledBody small r.0)
  unfolding body_at
  body_took true s r h = valued_took s r h
  body_took false s r h = elim (chosen (at_sign Assign s) _ _ _ h) [
    | inl p ↦ defined_took s (bump s) r (sign_took Assign s p.0) p.1
    | inr p ↦ set_took s r p.1
  ]

  assignment_by_took : (o : Option Token) (s : State) (r : Assignment × State) → first s ≡ o → assignment_by levels o s ≡ Ok r → Took s r.1 (SpelledAssignment r.0)
  unfolding assigned_at
  assignment_by_took None s r e h = absurd (cc)
  assignment_by_took (Some (word w)) s r e h = elim (chosen (is_reserved w) _ _ _ h) [
    | inl p ↦ absurd (cc)
    | inr p ↦ (
        let parameters = bind_ok (group_at OpenBrace (bump s)) _ r p.1 in
        let body = bind_ok (body_at levels (is_identifier w) parameters.0.1) _ r parameters.2 in
        answered SpelledAssignment (record { at = place s; name = w; parameters = parameters.0.0; body = body.0.0 }, body.0.1) r body.2
        (unreserved_took w s e p.0 ▸ braces_took (bump s) parameters.0 parameters.1 ▸ body_took (is_identifier w) parameters.0.1 body.0 body.1))
  ]
  assignment_by_took (Some (field w)) s r e h = absurd (cc)
  assignment_by_took (Some (number w)) s r e h = absurd (cc)
  assignment_by_took (Some (real w)) s r e h = absurd (cc)
  assignment_by_took (Some (bits w)) s r e h = absurd (cc)
  assignment_by_took (Some (digits w)) s r e h = absurd (cc)
  assignment_by_took (Some (text w)) s r e h = absurd (cc)
  assignment_by_took (Some (sign g)) s r e h = absurd (cc)

  pub assignment_took : (s : State) (r : Assignment × State) → assignment_at levels s ≡ Ok r → Took s r.1 (SpelledAssignment r.0)
  unfolding assignment_at
  assignment_took s r h = assignment_by_took (first s) s r refl h

-- ---- modules

no_end : (l : List Spot) → All (λ t. is_end t.token ≡ false) (take (control_len l) l)
unfolding control_len
no_end [] = All-nil (λ t. is_end t.token ≡ false)
no_end (t ∷ ts) = elim (chosen {A = ℕ} (is_end t.token) 0 (suc (control_len ts)) (control_len (t ∷ ts)) refl) [
  | inl p ↦ subst (λ n. All (λ t. is_end t.token ≡ false) (take n (t ∷ ts))) p.1 (All-nil (λ t. is_end t.token ≡ false))
  | inr p ↦ subst (λ n. All (λ t. is_end t.token ≡ false) (take n (t ∷ ts))) p.1 (All-cons (λ t. is_end t.token ≡ false) t (take (control_len ts) ts) p.0 (no_end ts))
]

control_begins : (l : List Spot) → (is_word (keyword_text kw.End) (first_of l) || is_word (keyword_text kw.EncodingControl) (first_of l)) ≡ true
    → Nothing (take (control_len l) l) ⊎ (is_word (keyword_text kw.EncodingControl) (first_of (take (control_len l) l)) ≡ true)
unfolding control_len
control_begins [] h = inl refl
control_begins (t ∷ ts) h = elim (chosen {A = ℕ} (is_end t.token) 0 (suc (control_len ts)) (control_len (t ∷ ts)) refl) [
  | inl p ↦ inl (ap (λ n. take n (t ∷ ts)) (sym p.1))
  | inr p ↦ inr (subst (λ n. is_word (keyword_text kw.EncodingControl) (first_of (take n (t ∷ ts))) ≡ true) p.1 (other (is_end t.token) _ p.0 h))
]
  where
    other : (a b : Bool) → a ≡ false → (a || b) ≡ true → b ≡ true
    other true b e h = absurd (cc)
    other false b e h = h

control_took : (s : State) → ends_assignments s ≡ true → Took s (past (control_len s.left) s) (Control (take (control_len s.left) s.left))
control_took s h =
    let kept = take (control_len s.left) s.left in
    let Begins = λ (ts : List Spot). Nothing ts ⊎ (is_word (keyword_text kw.EncodingControl) (first_of ts) ≡ true) in
    turned (Control kept) (front_took (control_len s.left) s)
    (λ a e. (e, subst Begins (sym e) (control_begins s.left h), subst (All (λ t. is_end t.token ≡ false)) (sym e) (no_end s.left)))

module _ (levels : ℕ) where
  content_took : (at : ℕ) (name : List ℕ) (id : List Spot) (instructions : Option (List ℕ)) (tag : Tags) (extensible : Bool) (s t : State) (r : Module × State)
      → Took s t (Header at name id instructions tag extensible) → content_at levels at name id instructions tag extensible t ≡ Ok r → Took s r.1 (SpelledModule r.0)
  unfolding content_at
  content_took at name id instructions tag extensible s t r header h =
      let exports = bind_ok (exports_at t) _ r h in
      let imports = bind_ok (imports_at exports.0.1) _ r exports.2 in
      let assignments = bind_ok (all_of ends_assignments (assignment_at levels) imports.0.1) _ r imports.2 in
      let before = assignments.0.1 in
      let behind = past (control_len before.left) before in
      let end = bind_ok (skip_keyword kw.End behind) _ r assignments.2 in
      let many = all_took SpelledAssignment (assignment_at levels) (assignment_took levels) ends_assignments imports.0.1 assignments.0 assignments.1 in
      answered SpelledModule (
        record {
          at = at;
          name = name;
          id = id;
          instructions = instructions;
          tags = tag;
          extensible = extensible;
          exports = exports.0.0;
          imports = imports.0.0;
          assignments = assignments.0.0;
          control = take (control_len before.left) before.left;
        },
        end.0.1,
      )
      r end.2
      (header ▸ exports_took t exports.0 exports.1 ▸ imports_took exports.0.1 imports.0 imports.1 ▸ many.0
      ▸ control_took before many.1 ▸ skip_keyword_took kw.End behind end.0 end.1)

  pub module_took : (s : State) (r : Module × State) → module_at levels s ≡ Ok r → Took s r.1 (SpelledModule r.0)
  unfolding module_at
  module_took s r h =
      let name = bind_ok (reference_at sought.Reference s) _ r h in
      let id = bind_ok (group_at OpenBrace name.0.1) _ r name.2 in
      let definitions = bind_ok (skip_keyword kw.Definitions (past_text id.0.1)) _ r id.2 in
      let instructions = instructions_at definitions.0.1 in
      let tag = bind_ok (tags_at instructions.1) _ r definitions.2 in
      let extensible = bind_ok (extensible_at tag.0.1) _ r tag.2 in
      let assign = bind_ok (skip_sign Assign extensible.0.1) _ r extensible.2 in
      let begin = bind_ok (skip_keyword kw.Begin assign.0.1) _ r assign.2 in
      content_took (place s) name.0.0 id.0.0 instructions.0 tag.0.0 extensible.0.0 s begin.0.1 r
      (reference_took sought.Reference s name.0 name.1 ▸ braces_took name.0.1 id.0 id.1 ▸ text_took id.0.1
      ▸ skip_keyword_took kw.Definitions (past_text id.0.1) definitions.0 definitions.1 ▸ instructions_took definitions.0.1
      ▸ tags_took instructions.1 tag.0 tag.1 ▸ extensible_took tag.0.1 extensible.0 extensible.1
      ▸ skip_sign_took Assign extensible.0.1 assign.0 assign.1 ▸ skip_keyword_took kw.Begin assign.0.1 begin.0 begin.1)
      begin.2

none_is_left : (l : List Spot) → none_left l ≡ true → l ≡ []
none_is_left [] h = refl
none_is_left (t ∷ ts) h = absurd (cc)

module_onto : (ms : List Module) (m : Module) (a b : List Spot) → SpelledModules ms a → SpelledModule m b → SpelledModules (ms ++ m ∷ []) (a ++ b)
module_onto [] m a b p q = absurd p
module_onto (n ∷ ms) m a b p q = each_onto SpelledModule (n ∷ ms) m a b p q

-- up to where no token is left
whole : (ms : List Module) (s t : State) → Took s t (SpelledModules ms) → is_last t ≡ true → SpelledModules ms s.left
whole ms s t p l =
    let all : s.left ≡ p.used = p.is ∙ ap (λ x. p.used ++ x) (none_is_left t.left l) ∙ append-nil p.used in
    subst (SpelledModules ms) (sym all) p.holds

pub modules_sound : ModulesSound
unfolding modules_of
modules_sound levels s ms h =
    let m = bind_ok (module_at levels s) _ ms h in
    let more = bind_ok (many is_last (module_at levels) (suc (length m.0.1.left)) (m.0.0 ∷ []) m.0.1) _ ms m.2 in
    let one = module_took levels s m.0 m.1 ▸ stay m.0.1 Nothing refl in
    let t = many_took SpelledModule SpelledModules module_onto (module_at levels) (module_took levels) is_last (suc (length m.0.1.left)) (m.0.0 ∷ []) s m.0.1 more.0 one more.1 in
    elim (chosen more.0.1.complete _ _ _ more.2) [
      | inl c ↦ (subst (λ ms. SpelledModules ms s.left) (same_ok more.0.0 ms c.1) (whole more.0.0 s more.0.1 t.0 t.1), t.0.stop ∙ c.0)
      | inr c ↦ absurd (cc)
    ]
