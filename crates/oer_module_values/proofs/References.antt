-- What a name and the path behind it refer to.
use Rattle.std.proofs.Common.{◌≡◌, ℕ, List, [], ◌∷◌, Option, Some, None, Result, Ok, Err, slice_get, refl, sym, ap, subst, ◌∙◌, true}
use Rattle.oer_module_lexer.specs.Token.{Spot}
use Rattle.oer_module_names.proofs.Asked.{finds_stands_in, stands_finds_in}
use Rattle.oer_module_names.proofs.Stands.{finds_stands, stands_finds}
use Rattle.oer_module_names.specs.Finding.{Fault as NameFault, find, find_in}
use Rattle.oer_module_names.specs.Tables.{assignments_in}
use Rattle.oer_module_names.specs.declared.error.Found.{Found}
use Rattle.oer_module_names.specs.declared.error.Place.{Place}
use Rattle.oer_module_syntax.specs.Modules.{none_left}
use Rattle.oer_module_syntax.specs.Tree.{Module, Assignment, Body}
use Rattle.oer_module_values.specs.Looks.{Path, own, within, fields, path_of}
use Rattle.oer_module_values.specs.Types.{Referent, Names, Refers, held, answered, referred}

pub none_left-nil : (ts : List Spot) → none_left ts ≡ true → ts ≡ []
none_left-nil [] h = refl
none_left-nil (t ∷ ts) h = absurd (cc)

module _ (ms : List Module) (p : Place) where
  held_refers : (w v : List ℕ) (steps : List Spot) (f : Found) (o : Option Assignment) (r : Referent)
      → Names ms p.«module» w (path_of steps) f → slice_get (assignments_in ms f.«module») f.assignment ≡ o
      → held p v f.«module» o ≡ Ok (Some r) → r.assignment.parameters ≡ [] → Refers ms p.«module» w steps r.«module» r.assignment.body
  held_refers w v steps f None r names is h without = absurd (cc)
  held_refers w v steps f (Some a) r names is h without =
      let e : record { «module» = f.«module»; assignment = a } ≡ r = cc in
      record {
        found = f;
        assignment = r.assignment;
        names = names;
        is = is ∙ ap (λ x. Some x.assignment) e;
        without = without;
        module_is = ap (λ x. x.«module») e;
        body_is = refl;
      }

  answered_refers : (w v : List ℕ) (steps : List Spot) (o : Result Found NameFault) (r : Referent)
      → ((f : Found) → o ≡ Ok f → Names ms p.«module» w (path_of steps) f)
      → answered ms p v o ≡ Ok (Some r) → r.assignment.parameters ≡ [] → Refers ms p.«module» w steps r.«module» r.assignment.body
  answered_refers w v steps (Ok f) r names h without = held_refers w v steps f _ r (names f refl) refl h without
  answered_refers w v steps (Err e) r names h without = absurd (cc)

  refers_by : (w : List ℕ) (steps : List Spot) (q : Path) (r : Referent) → path_of steps ≡ q → referred ms p w q ≡ Ok (Some r)
      → r.assignment.parameters ≡ [] → Refers ms p.«module» w steps r.«module» r.assignment.body
  refers_by w steps own r e h without =
      answered_refers w w steps (find ms p.«module» w) r (λ f g. subst (λ x. Names ms p.«module» w x f) (sym e) (finds_stands ms w p.«module» f g)) h without
  refers_by w steps (within v) r e h without =
      answered_refers w v steps (find_in ms p.«module» w v) r (λ f g. subst (λ x. Names ms p.«module» w x f) (sym e) (finds_stands_in ms w v p.«module» f g)) h without
  refers_by w steps fields r e h without = absurd (cc)

  -- an assignment without parameters that the code finds is referred to
  pub refers : (w : List ℕ) (steps : List Spot) (r : Referent) → referred ms p w (path_of steps) ≡ Ok (Some r)
      → r.assignment.parameters ≡ [] → Refers ms p.«module» w steps r.«module» r.assignment.body
  refers w steps r h without = refers_by w steps (path_of steps) r refl h without

  held_some : (v : List ℕ) (m : ℕ) (o : Option Assignment) → held p v m o ≡ Ok None → ⊥
  held_some v m None h = cc
  held_some v m (Some a) h = cc

  answered_some : (v : List ℕ) (o : Result Found NameFault) → answered ms p v o ≡ Ok None → ⊥
  answered_some v (Ok f) h = held_some v f.«module» _ h
  answered_some v (Err e) h = cc

  -- it finds none only where the path is a field
  pub only_fields : (w : List ℕ) (q : Path) → referred ms p w q ≡ Ok None → q ≡ fields
  only_fields w own h = absurd (answered_some w _ h)
  only_fields w (within v) h = absurd (answered_some v _ h)
  only_fields w fields h = refl

  referred_by : (w : List ℕ) (q : Path) (f : Found) (a : Assignment) → Names ms p.«module» w q f
      → slice_get (assignments_in ms f.«module») f.assignment ≡ Some a
      → referred ms p w q ≡ Ok (Some (record { «module» = f.«module»; assignment = a }))
  referred_by w own f a names is = let found = stands_finds ms w p.«module» f names in rw (found, is) refl
  referred_by w (within v) f a names is = let found = stands_finds_in ms w v p.«module» f names in rw (found, is) refl
  referred_by w fields f a names is = absurd names

  -- what is referred to is found
  pub is_referred : (w : List ℕ) (steps : List Spot) (n : ℕ) (b : Body) → (r : Refers ms p.«module» w steps n b)
      → referred ms p w (path_of steps) ≡ Ok (Some (record { «module» = r.found.«module»; assignment = r.assignment }))
  is_referred w steps n b r = referred_by w (path_of steps) r.found r.assignment r.names r.is
