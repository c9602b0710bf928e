-- Each line that is printed before the comments is a definition.
use Rattle.std.proofs.Common.{◌≡◌, ℕ, suc, List, [], ◌∷◌, map, Bool, true, false, Option, Some, None, Result, Ok, Err, if◌then◌else◌, refl, sym, ap, ◌∙◌, subst}
use Rattle.std.proofs.lemmas.Slice.Eq.{bytes_eq-Decides}
use Rattle.oer_model.specs.AsnType.{AsnType}
use Rattle.oer_model.specs.FaultTest.{first_fault}
use Rattle.oer_model.specs.WellFormed.{IsWellFormed}
use Rattle.oer_model.specs.declared.fault.SchemaFault.{SchemaFault}
use Rattle.oer_module_names.specs.Finding.{Fault as NameFault}
use Rattle.oer_module_names.specs.declared.error.Found.{Found}
use Rattle.oer_module_names.specs.declared.error.Place.{Place as RawPlace}
use Rattle.oer_module_lexer.specs.Lexing.{lex}
use Rattle.oer_module_syntax.specs.Tree.{Assignment, Body, Module, class_body, set_body, type_body, value_body}
use Rattle.oer_module_text.specs.Errors.{Read, place_in}
use Rattle.oer_module_values.specs.Types.{TypeIn}
use Rattle.oer_modules.proofs.Listings.{after_append}
use Rattle.oer_modules.specs.Asked.{asked, type_at}
use Rattle.oer_modules.specs.Causes.{Cause, ◌>>=◌, by_name, by_type}
use Rattle.oer_modules.specs.Laws.{AreDefinitions, PrintsDefinitions, no_lines, one_more}
use Rattle.oer_modules.specs.Listed.{Entry, Printed, entries_from, entries_of, entry_by_body, entry_if_typed, entry_of, entry_unless, nothing, one_line, printed_after, with_entry}
use Rattle.oer_modules.specs.Modules.{definitions_of_modules, or_misread, or_refused, type_of_modules}
use Rattle.oer_modules.specs.Named.{named_text, named_type}
use Rattle.oer_modules.specs.Nesting.{Typed, typed_by}
use Rattle.oer_modules.specs.Schemas.{name_place, placed_type, schema_by, schema_of_modules, sound_by, sound_in}
use Rattle.oer_modules.specs.Texts.{Library, no_modules, read_each}
use Rattle.oer_modules.specs.Unlisted.{are_alike, unlisted_by}
use Rattle.oer_modules.specs.Words.{Text}
use Rattle.oer_modules.specs.declared.texts.Misread.{Misread}
use Rattle.oer_modules.specs.declared.unlisted.Unlisted.TheVariants.{Unspelled}
use Rattle.oer_notation.specs.Laws.{ParseSound}
use Rattle.oer_notation.specs.Parsing.{parse}
use Rattle.oer_printer.specs.Printing.{printed}
use Rattle.oer_text.specs.Laws.{PrintedIsRead}
use Rattle.oer_value_notation.specs.declared.fault.TextFault.{TextFault}

pub same_ok : {A B : Type 0} {x y : A} → ◌≡◌ {A = Result A B} (Ok x) (Ok y) → x ≡ y
same_ok h = cc

type_answer : (ts : List Text) (l : Library) (w : Text) (n : ℕ) (r : Result Text Cause) → read_each 0 (map lex ts) no_modules ≡ Ok l → named_text l.modules w n ≡ r
    → type_of_modules ts w n ≡ or_refused ts l r
unfolding type_of_modules
type_answer ts l w n r h g = ap (or_misread ts (λ l. or_refused ts l (named_text l.modules w n))) h ∙ ap (or_refused ts l) g

text_of : (ms : List Module) (w : Text) (n : ℕ) (x : Typed) → named_type ms w n ≡ Ok x → named_text ms w n ≡ Ok x.1
unfolding named_text
text_of ms w n x named = ap (λ r. r >>= λ y. Ok y.1) named

-- ---- the type that the programs take

abbrev with_type : RawPlace → Typed → Result (RawPlace × AsnType) Cause
with_type p y = Ok (p, y.0)

pub placed_by : (ms : List Module) (w : Text) (n : ℕ) (x : Typed) → named_type ms w n ≡ Ok x → (p : RawPlace) × (placed_type ms w n ≡ Ok (p, x.0))
unfolding named_type placed_type
placed_by ms w n x named = by_found (asked ms w) named where
  by_typed : (f : Found) (r : Read Typed) → by_type r ≡ Ok x
      → (p : RawPlace) × ((by_type r >>= with_type (name_place ms f)) ≡ Ok (p, x.0))
  by_typed f (Ok y) is = (name_place ms f, ap (with_type (name_place ms f)) (same_ok is))
  by_typed f (Err e) is = absurd (cc)

  by_at : (f : Found) (r : Read TypeIn) → (by_type r >>= λ t. by_type (typed_by ms n t)) ≡ Ok x
      → (p : RawPlace) × ((by_type r >>= λ t. by_type (typed_by ms n t) >>= with_type (name_place ms f)) ≡ Ok (p, x.0))
  by_at f (Ok t) is = by_typed f (typed_by ms n t) is
  by_at f (Err e) is = absurd (cc)

  by_found : (r : Result Found NameFault) → (by_name r >>= λ f. by_type (type_at ms f) >>= λ t. by_type (typed_by ms n t)) ≡ Ok x
      → (p : RawPlace) × ((by_name r >>= λ f. by_type (type_at ms f) >>= λ t. by_type (typed_by ms n t) >>= with_type (name_place ms f)) ≡ Ok (p, x.0))
  by_found (Ok f) is = by_at f (type_at ms f) is
  by_found (Err e) is = absurd (cc)

pub schema_answer : (ts : List Text) (l : Library) (w : Text) (n : ℕ) (p : RawPlace) (T : AsnType) → read_each 0 (map lex ts) no_modules ≡ Ok l
    → placed_type l.modules w n ≡ Ok (p, T) → first_fault T ≡ None → schema_of_modules ts w n ≡ Ok T
unfolding schema_of_modules
schema_answer ts l w n p T h placed none = ap (schema_by ts w n) h ∙ ap (sound_in ts l) placed ∙ ap (sound_by ts l p T) none

-- ---- what is printed alike is the same type

both_printed : (a b : Option Text) → are_alike a b ≡ true → (s : Text) × (a ≡ Some s) × (b ≡ Some s)
both_printed (Some a) (Some b) h = (a, refl, ap Some (sym ((bytes_eq-Decides a b).0 h)))
both_printed (Some a) None h = absurd (cc)
both_printed None b h = absurd (cc)

same_type : PrintedIsRead → (T U : AsnType) → are_alike (printed T) (printed U) ≡ true → IsWellFormed U → IsWellFormed T → U ≡ T
same_type again T U alike u t =
    let x = both_printed (printed T) (printed U) alike in
    same_ok (sym (again U x.0 u x.2) ∙ again T x.0 t x.1)

module _ (again : PrintedIsRead) (sound : ParseSound) (ts : List Text) (n : ℕ) (l : Library) (h : read_each 0 (map lex ts) no_modules ≡ Ok l) where
  -- what is printed before and with an entry
  abbrev Keeps : Entry → Type 0
  Keeps e = (p : Printed) → AreDefinitions ts n p.lines → AreDefinitions ts n (with_entry p e).lines

  module _ (p : RawPlace) (w : Text) (x : Typed) (named : named_type l.modules w n ≡ Ok x) where
    by_alike : (U : AsnType) (b : Bool) → first_fault x.0 ≡ None → parse x.1 ≡ Ok U → are_alike (printed x.0) (printed U) ≡ b
        → Keeps (entry_unless ts l p w x.1 (if b then None else Some Unspelled))
    by_alike U true none read alike = λ q are.
        let placed = placed_by l.modules w n x named in
        one_more q.lines (one_line w x.1) are (record {
          name = w;
          text = x.1;
          type = x.0;
          read_type = U;
          is = refl;
          asked = type_answer ts l w n (Ok x.1) h (text_of l.modules w n x named);
          given = schema_answer ts l w n placed.0 x.0 h placed.1 none;
          read = read;
          same = same_type again x.0 U alike (sound x.1 U read).1;
        })
    by_alike U false none read alike = λ q are. are

    by_fault : (f : Option SchemaFault) (r : Result AsnType TextFault) → first_fault x.0 ≡ f → parse x.1 ≡ r
        → Keeps (entry_unless ts l p w x.1 (unlisted_by f x.0 r))
    by_fault (Some f) r found read = λ q are. are
    by_fault None (Err e) found read = λ q are. are
    by_fault None (Ok U) found read = by_alike U (are_alike (printed x.0) (printed U)) found read refl

  if_typed : (p : RawPlace) (w : Text) (r : Result Typed Cause) → named_type l.modules w n ≡ r → Keeps (entry_if_typed ts l p w r)
  if_typed p w (Ok x) named = by_fault p w x named (first_fault x.0) (parse x.1) refl refl
  if_typed p w (Err e) named = λ q are. are

  by_body : (p : RawPlace) (w : Text) (b : Body) → Keeps (entry_by_body ts l l.modules n p w b)
  by_body p w (type_body t) = if_typed p w (named_type l.modules w n) refl
  by_body p w (class_body fields syntax) = λ q are. are
  by_body p w (value_body governor value) = λ q are. are
  by_body p w (set_body governor set) = λ q are. are

  abbrev KeepEach : List Entry → Type 0
  KeepEach es = (p : Printed) → AreDefinitions ts n p.lines → AreDefinitions ts n (printed_after p es).lines

  in_module : (k : ℕ) (xs : List Assignment) → KeepEach (entries_of ts l l.modules n k xs)
  unfolding printed_after
  in_module k [] = λ p are. are
  in_module k (a ∷ xs) = λ p are. in_module k xs (with_entry p (entry_of ts l l.modules n k a)) (by_body (place_in k a.at) a.name a.body p are)

  in_modules : (k : ℕ) (ms : List Module) → KeepEach (entries_from ts l l.modules n k ms)
  unfolding printed_after entries_from
  in_modules k [] = λ p are. are
  in_modules k (m ∷ ms) = λ p are.
      subst (λ q. AreDefinitions ts n q.lines) (sym (after_append p (entries_of ts l l.modules n k m.assignments) (entries_from ts l l.modules n (suc k) ms)))
      (in_modules (suc k) ms (printed_after p (entries_of ts l l.modules n k m.assignments)) (in_module k m.assignments p are))

by_read : PrintedIsRead → ParseSound → (ts : List Text) (n : ℕ) (p : Printed) (r : Result Library Misread) → read_each 0 (map lex ts) no_modules ≡ r
    → or_misread ts (λ l. Ok (printed_after nothing (entries_from ts l l.modules n 0 l.modules))) r ≡ Ok p → AreDefinitions ts n p.lines
by_read again sound ts n p (Ok l) h is = subst (λ q. AreDefinitions ts n q.lines) (same_ok is) (in_modules again sound ts n l h 0 l.modules nothing no_lines)
by_read again sound ts n p (Err e) h is = absurd (cc)

pub prints_definitions : PrintedIsRead → ParseSound → PrintsDefinitions
unfolding definitions_of_modules
prints_definitions again sound ts n p is = by_read again sound ts n p (read_each 0 (map lex ts) no_modules) refl is
