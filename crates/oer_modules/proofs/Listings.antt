-- What the turns through definitions print.
use Rattle.std.proofs.Common.{◌≡◌, ◌<◌, ◌≤◌, ◌+◌, ℕ, suc, List, [], ◌∷◌, ◌++◌, drop, length, map, get_or, add-one, refl, sym, ap, ◌∙◌}
use Rattle.oer_module_syntax.specs.Tree.{Module, assignment_of, module_of}
use Rattle.oer_module_syntax.specs.declared.tree.Assignment.{Assignment as RawAssignment}
use Rattle.oer_module_syntax.specs.declared.tree.Module.{Module as RawModule}
use Rattle.oer_modules.proofs.Walks.{at_drop, past_drop}
use Rattle.oer_modules.specs.Listed.{Entry, Printed, entries_from, entries_of, entry_of, printed_after, with_entry}
use Rattle.oer_modules.specs.Texts.{Library}

after_cons : (p : Printed) (e : Entry) (es : List Entry) → printed_after p (e ∷ es) ≡ printed_after (with_entry p e) es
unfolding printed_after
after_cons p e es = refl

after_nil : (p : Printed) → printed_after p [] ≡ p
unfolding printed_after
after_nil p = refl

pub after_append : (p : Printed) (es fs : List Entry) → printed_after p (es ++ fs) ≡ printed_after (printed_after p es) fs
unfolding printed_after
after_append p [] fs = refl
after_append p (e ∷ es) fs = after_append (with_entry p e) es fs

module _ (ts : List (List ℕ)) (l : Library) (ms : List Module) (n k : ℕ) where
  -- one assignment more
  pub assignment_more : (xs : List RawAssignment) (i : ℕ) (x : RawAssignment) (whole now new : Printed) → i < length xs → x ≡ get_or xs i x
      → printed_after now (entries_of ts l ms n k (map assignment_of (drop i xs))) ≡ whole → new ≡ with_entry now (entry_of ts l ms n k (assignment_of x))
      → printed_after new (entries_of ts l ms n k (map assignment_of (drop (i + 1) xs))) ≡ whole
  assignment_more xs i x whole now new less at is e =
      let split = at_drop xs i x less ∙ ap (λ y. y ∷ drop (i + 1) xs) (sym at) in
      ap (λ p. printed_after p (entries_of ts l ms n k (map assignment_of (drop (i + 1) xs)))) e
      ∙ sym (after_cons now (entry_of ts l ms n k (assignment_of x)) (entries_of ts l ms n k (map assignment_of (drop (i + 1) xs))))
      ∙ sym (ap (λ ys. printed_after now (entries_of ts l ms n k (map assignment_of ys))) split) ∙ is

  pub assignments_over : (xs : List RawAssignment) (i : ℕ) (whole now : Printed) → length xs ≤ i → printed_after now (entries_of ts l ms n k (map assignment_of (drop i xs))) ≡ whole → now ≡ whole
  assignments_over xs i whole now over is = sym (after_nil now) ∙ sym (ap (λ ys. printed_after now (entries_of ts l ms n k (map assignment_of ys))) (past_drop xs i over)) ∙ is

module _ (ts : List (List ℕ)) (l : Library) (ms : List Module) (n : ℕ) where
  from_cons : (k : ℕ) (m : Module) (rest : List Module) → entries_from ts l ms n k (m ∷ rest) ≡ entries_of ts l ms n k m.assignments ++ entries_from ts l ms n (suc k) rest
  unfolding entries_from
  from_cons k m rest = refl

  from_nil : (k : ℕ) → entries_from ts l ms n k [] ≡ []
  unfolding entries_from
  from_nil k = refl

  -- one module more
  pub module_more : (xs : List RawModule) (i : ℕ) (x : RawModule) (whole now new : Printed) → i < length xs → x ≡ get_or xs i x
      → printed_after now (entries_from ts l ms n i (map module_of (drop i xs))) ≡ whole → new ≡ printed_after now (entries_of ts l ms n i (module_of x).assignments)
      → printed_after new (entries_from ts l ms n (i + 1) (map module_of (drop (i + 1) xs))) ≡ whole
  module_more xs i x whole now new less at is e =
      let split = at_drop xs i x less ∙ ap (λ y. y ∷ drop (i + 1) xs) (sym at) in
      let rest = map module_of (drop (i + 1) xs) in
      ap (λ p. printed_after p (entries_from ts l ms n (i + 1) rest)) e
      ∙ ap (λ j. printed_after (printed_after now (entries_of ts l ms n i (module_of x).assignments)) (entries_from ts l ms n j rest)) (add-one i)
      ∙ sym (after_append now (entries_of ts l ms n i (module_of x).assignments) (entries_from ts l ms n (suc i) rest))
      ∙ sym (ap (printed_after now) (from_cons i (module_of x) rest))
      ∙ sym (ap (λ ys. printed_after now (entries_from ts l ms n i (map module_of ys))) split) ∙ is

  pub modules_over : (xs : List RawModule) (i : ℕ) (whole now : Printed) → length xs ≤ i → printed_after now (entries_from ts l ms n i (map module_of (drop i xs))) ≡ whole → now ≡ whole
  modules_over xs i whole now over is =
      sym (after_nil now) ∙ sym (ap (printed_after now) (from_nil i)) ∙ sym (ap (λ ys. printed_after now (entries_from ts l ms n i (map module_of ys))) (past_drop xs i over)) ∙ is
