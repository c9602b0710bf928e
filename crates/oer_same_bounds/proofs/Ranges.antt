-- What a constraint in a row is as a range.
use Rattle.std.proofs.Common.{◌≡◌, ℕ, suc, List, [], Bool, true, false, ℤ, Option, Some, None, Ok, Err, refl, sym, ap, subst}
use Rattle.oer_module_bounds.specs.Sets.{Constraint, range}
use Rattle.oer_module_lexer.specs.Token.{Spot}
use Rattle.oer_module_limits.specs.Ends as ends
use Rattle.oer_module_limits.specs.Errors.{Error, Read, too_large}
use Rattle.oer_module_limits.specs.Sets as limits
use Rattle.oer_module_limits.specs.Marks.{is_extensible}
use Rattle.oer_module_limits.specs.Sets.{number, size}
use Rattle.oer_module_names.specs.declared.error.Place.{Place}
use Rattle.oer_module_syntax.specs.Tree.{Module, plain}
use Rattle.oer_module_syntax.specs.declared.word.Builtin.TheVariants.{Integer}
use Rattle.oer_module_terms.specs.Trees as terms
use Rattle.oer_module_values.specs.Digits.{whole_of}
use Rattle.oer_module_values.specs.Errors.{place_in}
use Rattle.oer_module_values.specs.Numbers as numbers
use Rattle.oer_module_values.specs.Types as types
use Rattle.oer_module_values.specs.Types.{TypeIn, type_in}
use Rattle.oer_same_bounds.specs.Bounds.{AreRejected, has_last_end}
use Rattle.oer_same_bounds.proofs.Rows.{End, none, digits, value_of, one_value, one_range, one_size}

-- an end is written so
pub data Writes : End → Option ℤ → Type 0 where
  writes_none : Writes none None
  writes_number : {b : Bool} {w : List ℕ} {z : ℤ} → whole_of b w ≡ Some z → Writes (digits b w) (Some z)

abbrev pub one : Option ℤ → Option ℤ → Constraint
one low high = record { root = range (record { low = low; high = high }); extensible = false }

-- What is read is this, or an error for which the ends are rejected.
abbrev pub Reads : {A : Type 0} → Option ℤ → Option ℤ → A → Read A → Type 0
Reads low high x (Ok y) = y ≡ x
Reads low high x (Err e) = AreRejected low high e.why

pub reads_this : {A : Type 0} (low high : Option ℤ) (x : A) (p : Read A) → p ≡ Ok x → Reads low high x p
reads_this low high x p e = subst (Reads low high x) (sym e) refl

pub rejects : {A : Type 0} (low high : Option ℤ) (x : A) (p : Read A) (e : Error) → p ≡ Err e → AreRejected low high e.why → Reads low high x p
rejects low high x p e is r = subst (Reads low high x) (sym is) r

module _ (ms : List Module) where
  -- digits are the number that they write, under what governs them
  abbrev pub TellsDigits : Option TypeIn → Type 0
  TellsDigits g = (p : Place) (b : Bool) (w : List ℕ) (z : ℤ) → whole_of b w ≡ Some z → ends.told_number ms g p (terms.number b w) ≡ Ok z

  -- an INTEGER without items governs them, or nothing
  pub integer_tells : (m at : ℕ) (cs : List Spot) → TellsDigits (Some (type_in m (plain at Integer [] cs)))
  unfolding numbers.number_at numbers.governor numbers.count numbers.numeral numbers.step types.walk types.step
  integer_tells m at cs p b w z h = rw h refl

  pub nothing_tells : TellsDigits None
  unfolding numbers.count numbers.numeral numbers.step
  nothing_tells p b w z h = rw h refl

  module _ (g : Option TypeIn) (tells : TellsDigits g) where
    low_is : (p : Place) (from : ℕ) (e : End) (o : Option ℤ) → Writes e o → ends.low_by ms g p (value_of from e) false ≡ Ok o
    low_is p from e o writes_none = refl
    low_is p from e o (writes_number {b} {w} {z} h) = rw (tells _ b w z h) refl

    high_is : (p : Place) (from : ℕ) (e : End) (o : Option ℤ) → Writes e o → ends.high_by ms g p (value_of from e) false ≡ Ok o
    high_is p from e o writes_none = refl
    high_is p from e o (writes_number {b} {w} {z} h) = rw (tells _ b w z h) refl

    abbrev OfValue : ℕ → ℕ → ℕ → ℕ → Bool → List ℕ → Read Constraint
    OfValue levels m from there b w = limits.constraint (limits.set_at ms (suc levels)) (number g) m (one_value from (terms.atom there (terms.amount (terms.number b w))))

    value_by : (levels m from there : ℕ) (b : Bool) (w : List ℕ) (z : ℤ) → whole_of b w ≡ Some z → (last : Bool) → has_last_end (Some z) (Some z) ≡ last
        → Reads (Some z) (Some z) (one (Some z) (Some z)) (OfValue levels m from there b w)
    unfolding limits.set_at limits.set_by limits.simple_by ends.single
    value_by levels m from there b w z h false last = reads_this (Some z) (Some z) _ _ (rw (tells _ b w z h, last) refl)
    value_by levels m from there b w z h true last =
        rejects (Some z) (Some z) _ _ (record { place = place_in m from; why = too_large }) (rw (tells _ b w z h, last) refl) last

    pub value_is : (levels m from there : ℕ) (b : Bool) (w : List ℕ) (z : ℤ) → whole_of b w ≡ Some z
        → Reads (Some z) (Some z) (one (Some z) (Some z)) (OfValue levels m from there b w)
    value_is levels m from there b w z h = value_by levels m from there b w z h (has_last_end (Some z) (Some z)) refl

    abbrev OfRange : ℕ → ℕ → ℕ → ℕ → ℕ → ℕ → End → End → Read Constraint
    OfRange levels m from there low_at high_at low high =
        limits.constraint (limits.set_at ms (suc levels)) (number g) m (one_range from there (value_of low_at low) (value_of high_at high))

    range_by : (levels m from there low_at high_at : ℕ) (low high : End) (l h : Option ℤ) → Writes low l → Writes high h → (last : Bool) → has_last_end l h ≡ last
        → Reads l h (one l h) (OfRange levels m from there low_at high_at low high)
    unfolding limits.set_at limits.set_by limits.simple_by ends.ranged
    range_by levels m from there low_at high_at low high l h wl wh false last =
        reads_this l h _ _ (rw (low_is _ low_at low l wl, high_is _ high_at high h wh, last) refl)
    range_by levels m from there low_at high_at low high l h wl wh true last =
        rejects l h _ _ (record { place = place_in m there; why = too_large })
        (rw (low_is _ low_at low l wl, high_is _ high_at high h wh, last) refl) last

    pub range_is : (levels m from there low_at high_at : ℕ) (low high : End) (l h : Option ℤ) → Writes low l → Writes high h
        → Reads l h (one l h) (OfRange levels m from there low_at high_at low high)
    range_is levels m from there low_at high_at low high l h wl wh = range_by levels m from there low_at high_at low high l h wl wh (has_last_end l h) refl

  -- SIZE and a constraint without a marker
  size_by : (levels m from there : ℕ) (c : terms.Constraint) (low high : Option ℤ) → is_extensible c ≡ false → (inner : Read Constraint)
      → Reads low high (one low high) inner → limits.constraint (limits.set_at ms levels) (number None) m c ≡ inner
      → Reads low high (one low high) (limits.constraint (limits.set_at ms (suc levels)) size m (one_size from there c))
  unfolding limits.set_at limits.set_by
  size_by levels m from there c low high closed (Ok x) same e =
      reads_this low high _ _ (rw (e, closed) (ap (λ (d : Constraint). Ok (record { root = d.root; extensible = false })) same))
  size_by levels m from there c low high closed (Err f) rejected e = rejects low high _ _ f (rw e refl) rejected

  pub size_is : (levels m from there : ℕ) (c : terms.Constraint) (low high : Option ℤ) → is_extensible c ≡ false
      → Reads low high (one low high) (limits.constraint (limits.set_at ms levels) (number None) m c)
      → Reads low high (one low high) (limits.constraint (limits.set_at ms (suc levels)) size m (one_size from there c))
  size_is levels m from there c low high closed reads =
      size_by levels m from there c low high closed (limits.constraint (limits.set_at ms levels) (number None) m c) reads refl
