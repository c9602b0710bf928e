-- What the turns through definitions give.
use Rattle.std.proofs.Common.{◌≡◌, ◌<◌, ◌≤◌, ◌+◌, ℕ, List, [], ◌∷◌, drop, length, map, get_or, refl, sym, ap, ◌∙◌}
use Rattle.oer_module_syntax.specs.Tree.{Assignment, Module, assignment_of, module_of}
use Rattle.oer_module_syntax.specs.declared.tree.Assignment.{Assignment as RawAssignment}
use Rattle.oer_module_syntax.specs.declared.tree.Module.{Module as RawModule}
use Rattle.oer_modules.proofs.Walks.{at_drop, past_drop}
use Rattle.oer_modules.specs.Defined.{with_definition, with_definitions, with_each}
use Rattle.oer_notation.specs.Reading.{Known}

module _ (ms : List Module) (n : ℕ) where
  definitions_cons : (ks : List Known) (a : Assignment) (rest : List Assignment) → with_definitions ms n ks (a ∷ rest) ≡ with_definitions ms n (with_definition ms n ks a) rest
  unfolding with_definitions
  definitions_cons ks a rest = refl

  definitions_nil : (ks : List Known) → with_definitions ms n ks [] ≡ ks
  unfolding with_definitions
  definitions_nil ks = refl

  -- one assignment more
  pub definition_more : (xs : List RawAssignment) (i : ℕ) (x : RawAssignment) (whole now new : List Known) → i < length xs → x ≡ get_or xs i x
      → with_definitions ms n now (map assignment_of (drop i xs)) ≡ whole → new ≡ with_definition ms n now (assignment_of x)
      → with_definitions ms n new (map assignment_of (drop (i + 1) xs)) ≡ whole
  definition_more xs i x whole now new less at is e =
      let split = at_drop xs i x less ∙ ap (λ y. y ∷ drop (i + 1) xs) (sym at) in
      ap (λ ks. with_definitions ms n ks (map assignment_of (drop (i + 1) xs))) e
      ∙ sym (definitions_cons now (assignment_of x) (map assignment_of (drop (i + 1) xs)))
      ∙ sym (ap (λ ys. with_definitions ms n now (map assignment_of ys)) split) ∙ is

  pub definitions_over : (xs : List RawAssignment) (i : ℕ) (whole now : List Known) → length xs ≤ i → with_definitions ms n now (map assignment_of (drop i xs)) ≡ whole → now ≡ whole
  definitions_over xs i whole now over is = sym (definitions_nil now) ∙ sym (ap (λ ys. with_definitions ms n now (map assignment_of ys)) (past_drop xs i over)) ∙ is

  each_cons : (ks : List Known) (m : Module) (rest : List Module) → with_each ms n ks (m ∷ rest) ≡ with_each ms n (with_definitions ms n ks m.assignments) rest
  unfolding with_each
  each_cons ks m rest = refl

  each_nil : (ks : List Known) → with_each ms n ks [] ≡ ks
  unfolding with_each
  each_nil ks = refl

  -- one module more
  pub each_more : (xs : List RawModule) (i : ℕ) (x : RawModule) (whole now new : List Known) → i < length xs → x ≡ get_or xs i x
      → with_each ms n now (map module_of (drop i xs)) ≡ whole → new ≡ with_definitions ms n now (module_of x).assignments
      → with_each ms n new (map module_of (drop (i + 1) xs)) ≡ whole
  each_more xs i x whole now new less at is e =
      let split = at_drop xs i x less ∙ ap (λ y. y ∷ drop (i + 1) xs) (sym at) in
      ap (λ ks. with_each ms n ks (map module_of (drop (i + 1) xs))) e
      ∙ sym (each_cons now (module_of x) (map module_of (drop (i + 1) xs)))
      ∙ sym (ap (λ ys. with_each ms n now (map module_of ys)) split) ∙ is

  pub each_over : (xs : List RawModule) (i : ℕ) (whole now : List Known) → length xs ≤ i → with_each ms n now (map module_of (drop i xs)) ≡ whole → now ≡ whole
  each_over xs i whole now over is = sym (each_nil now) ∙ sym (ap (λ ys. with_each ms n now (map module_of ys)) (past_drop xs i over)) ∙ is
