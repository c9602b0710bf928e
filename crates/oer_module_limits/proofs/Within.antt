-- What is given on the way to a type stands in one of the modules.
use Rattle.std.proofs.Common.{◌≡◌, ℕ, ◌<◌, List, [], ◌∷◌, length, Option, Some, None, Ok, map, slice_get, refl, sym, subst, ◌∙◌, append-nil, arith}
use Rattle.std.specs.List.{All}
use Rattle.std.specs.Option.{option_map_or}
use Rattle.std.proofs.lemmas.List.Elements.{All-append, All-nil, All-cons, All-head, All-tail}
use Rattle.std.proofs.lemmas.Option.{slice_get_within}
use Rattle.oer_module_names.specs.Tables.{assignments_in}
use Rattle.oer_module_syntax.specs.Tree.{Module, Tree, Assignment, Body, type_body, set_body}
use Rattle.oer_module_lexer.specs.Token.{Spot}
use Rattle.oer_module_values.proofs.Walks.{found}
use Rattle.oer_module_values.specs.Types.{TypeIn, Given, constraints, set, Meaning, Refers, Means, itself, tag, type, values, meaning}
use Rattle.oer_module_values.specs.Views.{given_of}
use Rattle.oer_module_values.specs.declared.types.Given.{Given as RawGiven}
use Rattle.oer_module_limits.specs.Views.{IsGivenWithin}

module _ (ms : List Module) where
  is_some : (o : Option Module) (k : ℕ) (a : Assignment) → slice_get (option_map_or (λ m. m.assignments) o []) k ≡ Some a
      → (m : Module) × (o ≡ Some m)
  is_some None k a h = absurd (omega (arith, slice_get_within [] k a h))
  is_some (Some m) k a h = (m, refl)

  in_modules : (m k : ℕ) (a : Assignment) → slice_get (assignments_in ms m) k ≡ Some a → m < length ms
  unfolding assignments_in
  in_modules m k a h = let p = is_some (slice_get ms m) k a h in slice_get_within ms m p.0 p.1

  there : (m n : ℕ) (w : List ℕ) (steps : List Spot) (b : Body) → Refers ms m w steps n b → n < length ms
  there m n w steps b r =
      subst (λ k. k < length ms) r.module_is (in_modules r.found.«module» r.found.assignment r.assignment r.is)

  means_within : (m : ℕ) (t : Tree) (u : TypeIn) (gs : List Given) → Means ms m t u gs → m < length ms → All (IsGivenWithin ms) gs
  means_within _ _ _ _ (itself m t final) h = All-nil (IsGivenWithin ms)
  means_within _ _ _ _ (tag m at ts mode t u gs g) h = means_within m t u gs g h
  means_within _ _ _ _ (type m at w steps cs n t u gs r g) h =
      All-append (IsGivenWithin ms) gs (constraints m cs ∷ []) (means_within n t u gs g (there m n w steps (type_body t) r))
      (All-cons (IsGivenWithin ms) (constraints m cs) [] h (All-nil (IsGivenWithin ms)))
  means_within _ _ _ _ (values m at w steps cs ts n t u gs r g) h =
      let far = there m n w steps (set_body t ts) r in
      All-append (IsGivenWithin ms) gs (set n ts ∷ constraints m cs ∷ []) (means_within n t u gs g far)
      (All-cons (IsGivenWithin ms) (set n ts) (constraints m cs ∷ []) far
      (All-cons (IsGivenWithin ms) (constraints m cs) [] h (All-nil (IsGivenWithin ms))))

  All-unmap : (gs : List RawGiven) → All (IsGivenWithin ms) (map given_of gs) → All (λ g. IsGivenWithin ms (given_of g)) gs
  All-unmap [] h = All-nil (λ g. IsGivenWithin ms (given_of g))
  All-unmap (g ∷ gs) h =
      All-cons (λ x. IsGivenWithin ms (given_of x)) g gs (All-head (IsGivenWithin ms) (given_of g) (map given_of gs) h)
      (All-unmap gs (All-tail (IsGivenWithin ms) (given_of g) (map given_of gs) h))

  pub given_within : (t : TypeIn) (r : Meaning) (gs : List RawGiven) → meaning ms t ≡ Ok r → r.given ≡ map given_of gs
      → t.«module» < length ms → All (λ g. IsGivenWithin ms (given_of g)) gs
  given_within t r gs h e less =
      let p = found ms 255 t [] r h in
      let same : map given_of gs ≡ p.0 = sym e ∙ p.1 ∙ append-nil p.0 in
      All-unmap gs (subst (λ l. All (IsGivenWithin ms) l) (sym same) (means_within t.«module» t.type r.of p.0 p.2 less))
