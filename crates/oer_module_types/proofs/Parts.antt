-- A type for which there is no room isn't taken, and its components aren't; else its components are those of the SEQUENCE.
use Rattle.std.proofs.Common.{◌≡◌, ◌<◌, ℕ, zero, suc, List, [], Bool, None, Some, Ok, Err, refl, sym, subst, arith}
use Rattle.oer_module_defaults.specs.Components.{sequence_of}
use Rattle.oer_module_names.specs.declared.error.Place.{Place}
use Rattle.oer_module_syntax.specs.Tree.{Elements, Module, Tree}
use Rattle.oer_module_text.specs.Errors.{Error, refused}
use Rattle.oer_module_text.specs.Room.{Room, take_part}
use Rattle.oer_module_text.specs.declared.error.Part.TheVariants.{ComponentsOf}
use Rattle.oer_module_values.specs.Types.{TypeIn, Meaning, type_in}
use Rattle.oer_module_types.specs.Gathered.{Gathered}
use Rattle.oer_module_types.specs.Types.{first, meant_by, root_at, roots_at, stands_for, type_at, type_place}
use Rattle.oer_module_types.specs.declared.element.Before.{Before}

module _ (ms : List Module) (nesting : ℕ) where
  pub no_part : (levels : ℕ) (path : List Place) (t : TypeIn) (r : Room) (m : Meaning) (e : Error) → 0 < levels → stands_for ms t ≡ Ok m
      → take_part (type_place m.of) r ≡ Err e → type_at ms nesting levels path t r ≡ Err e
  unfolding type_at
  no_part zero path t r m e some a b = absurd (omega arith)
  no_part (suc levels) path t r m e some a b = rw (a, b) refl

  type_step : (k : ℕ) (path : List Place) (t : TypeIn) (r s : Room) (m : Meaning) → stands_for ms t ≡ Ok m → take_part (type_place m.of) r ≡ Ok s
      → type_at ms nesting (suc k) path t r ≡ meant_by ms nesting k (type_at ms nesting k) (roots_at ms nesting k) path (type_place t) m s
  unfolding type_at
  type_step k path t r s m a b = rw (a, b) refl

  -- Where there is room it is what it stands for.
  pub type_meant : (levels k : ℕ) (path : List Place) (t : TypeIn) (p q : Place) (r s : Room) (m : Meaning) → levels ≡ suc k → stands_for ms t ≡ Ok m
      → q ≡ type_place m.of → take_part q r ≡ Ok s → p ≡ type_place t
      → type_at ms nesting levels path t r ≡ meant_by ms nesting k (type_at ms nesting k) (roots_at ms nesting k) path p m s
  type_meant levels k path t p q r s m l a i part f =
      rw (l, f) (type_step k path t r s m a (subst (λ x. take_part x r ≡ Ok s) i part))

  pub no_root : (levels : ℕ) (path : List Place) (any : Bool) (p : Place) (t : Tree) (g : Gathered) (r : Room) (m : Meaning) (e : Error) → 0 < levels
      → stands_for ms (type_in p.«module» t) ≡ Ok m → take_part (type_place m.of) r ≡ Err e → roots_at ms nesting levels path any p t g r ≡ Err e
  unfolding roots_at
  no_root zero path any p t g r m e some a b = absurd (omega arith)
  no_root (suc levels) path any p t g r m e some a b = rw (a, b) refl

  -- nor are they, where it stands for nothing
  pub no_means : (levels : ℕ) (path : List Place) (any : Bool) (p : Place) (t : Tree) (g : Gathered) (r : Room) (e : Error) → 0 < levels
      → stands_for ms (type_in p.«module» t) ≡ Err e → roots_at ms nesting levels path any p t g r ≡ Err e
  unfolding roots_at
  no_means zero path any p t g r e some a = absurd (omega arith)
  no_means (suc levels) path any p t g r e some a = rw a refl

  -- nor where it stands for no SEQUENCE
  pub no_sequence : (levels : ℕ) (path : List Place) (any : Bool) (p q : Place) (t : Tree) (g : Gathered) (r s : Room) (m : Meaning) → 0 < levels
      → stands_for ms (type_in p.«module» t) ≡ Ok m → q ≡ type_place m.of → take_part q r ≡ Ok s → None ≡ sequence_of m.of.type
      → roots_at ms nesting levels path any p t g r ≡ refused p.«module» p.at ComponentsOf
  unfolding roots_at
  no_sequence zero path any p q t g r s m some a i part none = absurd (omega arith)
  no_sequence (suc levels) path any p q t g r s m some a i part none = rw (a, subst (λ x. take_part x r ≡ Ok s) i part, sym none) refl

  root_step : (k : ℕ) (path : List Place) (any : Bool) (p : Place) (t : Tree) (g : Gathered) (r s : Room) (m : Meaning) (es : Elements)
      → stands_for ms (type_in p.«module» t) ≡ Ok m → take_part (type_place m.of) r ≡ Ok s → sequence_of m.of.type ≡ Some es
      → roots_at ms nesting (suc k) path any p t g r
      ≡ root_at ms (type_at ms nesting k) (roots_at ms nesting k) m.of.«module» [] path (first any) es g s
  unfolding roots_at
  root_step k path any p t g r s m es a b e = rw (a, b, e) refl

  -- the same of what the code has
  pub root_of : (levels k : ℕ) (path : List Place) (any : Bool) (b : Before) (p q : Place) (t : Tree) (g : Gathered) (r s : Room) (m : Meaning) (es : Elements)
      → levels ≡ suc k → stands_for ms (type_in p.«module» t) ≡ Ok m → q ≡ type_place m.of → take_part q r ≡ Ok s
      → Some es ≡ sequence_of m.of.type → b ≡ first any
      → roots_at ms nesting levels path any p t g r ≡ root_at ms (type_at ms nesting k) (roots_at ms nesting k) q.«module» [] path b es g s
  root_of levels k path any b p q t g r s m es l a i part e f =
      rw (l, i, f) (root_step k path any p t g r s m es a (subst (λ x. take_part x r ≡ Ok s) i part) (sym e))
