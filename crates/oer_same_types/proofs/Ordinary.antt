-- What is ordinary in a type that is.
use Rattle.std.proofs.Common.{◌≡◌, ◌<◌, ◌≤◌, ◌∙◌, ◌^◌, ◌+◌, ℕ, zero, suc, List, [], ◌∷◌, length, length-append, Bool, true, false, ℤ, pos}
use Rattle.std.proofs.Common.{Option, Some, None, inl, inr, refl, sym, ap, subst, arith}
use Rattle.std.below.core.specs.declared.int.i128.TheConstants.{MAX}
use Rattle.std.specs.Prelude.{int_lt, nat_lt, option_map}
use Rattle.std.proofs.lemmas.Bool.{ltb-true}
use Rattle.std.proofs.lemmas.Bool.Decides.{Decides-int_eq}
use Rattle.std.proofs.lemmas.Int.{ints}
use Rattle.oer_model.specs.AsnType.{Additions, AsnType, choice, extensible_sequence, integer, leaf, sequence, sequence_of}
use Rattle.oer_model.specs.LeafType.{bit_string, boolean, content, enumerated, null}
use Rattle.oer_model.specs.LeafType as leaves
use Rattle.oer_model.specs.WellFormed.{InAdditions, IsCrossed, Somewhere}
use Rattle.oer_model.specs.Widths.{AdditionsHaveWidths, HasEndWidth, HasSizeWidths, HasWidths}
use Rattle.oer_model.specs.declared.size.Size.{Size}
use Rattle.oer_module_bounds.specs.Sets.{crossed, is_greatest}
use Rattle.oer_module_names.specs.Standing.{IsAt}
use Rattle.oer_module_syntax.specs.Tree.{Assignment, Module, Tree, plain, named, tagged, structure, list_of, selection, instance_of, any_defined_by}
use Rattle.oer_module_values.specs.Types.{type_in}
use Rattle.oer_notation.specs.Reading.{Known}
use Rattle.oer_same_bounds.specs.Bounds.{has_last_end}
use Rattle.oer_same_defaults.specs.Tame.{HasOrdinaryItems}
use Rattle.oer_same_items.proofs.Telling.{unless}
use Rattle.oer_same_names.specs.Home.{IsFront}
use Rattle.oer_same_names.specs.Meant.{IsTreeBehind, LeadsTo, untagged}
use Rattle.oer_same_types.specs.Ordinary.{AllStandard, BodyIsStandard, IsOdd, IsStandard}

-- nothing odd is there, numbers have their widths, and what is written is standard
abbrev pub Ordinary : Type 0 → Type 0 → Type 0 → Type 0
Ordinary odd widths standard = (odd → ⊥) × widths × standard

abbrev pub OrdinaryTree : List Module → AsnType → Tree → Type 0
OrdinaryTree ms T t = Ordinary (Somewhere IsOdd T) (HasWidths T) (IsStandard ms t)

-- of the additions, if there is a marker
abbrev pub OddAdditions : Option Additions → Type 0
OddAdditions None = ⊥
OddAdditions (Some more) = InAdditions IsOdd more

abbrev pub AdditionWidths : Option Additions → Type 0
AdditionWidths None = Unit {0}
AdditionWidths (Some more) = AdditionsHaveWidths more

-- ---- leaves

-- the ends of a range for which nothing is rejected
abbrev pub EndsFit : Option ℤ → Option ℤ → Type 0
EndsFit low high = (has_last_end low high ≡ false) × (crossed low high ≡ false)

not_true : (b : Bool) → ¬ (b ≡ true) → b ≡ false
not_true b h = unless b h

pub integer_ends : (low high : Option ℤ) → ¬ IsOdd (integer low high) → EndsFit low high
integer_ends low high h = (not_true (has_last_end low high) (λ e. h (inr (inr e))), in_order low high h) where
  in_order : (low high : Option ℤ) → ¬ IsOdd (integer low high) → crossed low high ≡ false
  in_order None high h = refl
  in_order (Some l) None h = refl
  in_order (Some l) (Some k) h = not_true (int_lt k l) (λ e. h (inl (grind (arith, ints, e))))

abbrev pub OrdinarySize : Size → Type 0
OrdinarySize s = ¬ IsCrossed s × HasSizeWidths s

never_last : (n : ℕ) → n < 2 ^ 64 → is_greatest (Some (pos n)) ≡ false
never_last n few = not_true (is_greatest (Some (pos n))) (λ e. let is = (Decides-int_eq (pos n) MAX).0 e in omega (arith, ints))

pub size_ends : (s : Size) → OrdinarySize s → EndsFit (Some (pos s.low)) (option_map pos s.high)
size_ends s h = by s.low s.high h.0 h.1.1 where
  by : (low : ℕ) (high : Option ℕ) → ¬ IsCrossed (record { low = low; high = high }) → HasEndWidth high → EndsFit (Some (pos low)) (option_map pos high)
  by low None h w = (refl, refl)
  by low (Some n) h w = (never_last n w, not_true (nat_lt n low) (λ e. h (ltb-true n low e)))

-- the items of a type that a tree stands for, if it has some
pub has_ordinary_items : (ms : List Module) (T : AsnType) (t : Tree) → HasWidths T → IsStandard ms t → HasOrdinaryItems ms T (type_in 0 t)
has_ordinary_items ms (leaf (enumerated items marker)) t w is = λ at ss cs e. record { written = subst (IsStandard ms) e is; widths = w }
has_ordinary_items ms (leaf boolean) t w is = tt
has_ordinary_items ms (leaf null) t w is = tt
has_ordinary_items ms (leaf (leaves.integer low high)) t w is = tt
has_ordinary_items ms (leaf (bit_string size)) t w is = tt
has_ordinary_items ms (leaf (content kind)) t w is = tt
has_ordinary_items ms (sequence fs) t w is = tt
has_ordinary_items ms (extensible_sequence fs more) t w is = tt
has_ordinary_items ms (sequence_of size T) t w is = tt
has_ordinary_items ms (choice marker more) t w is = tt

-- ---- definitions

-- too few definitions stand before a tree for so many steps
pub few_steps : (o : Bool) (ks known : List Known) → IsFront known ks → (o ≡ true → length ks < 254) → 254 ≤ length known → o ≡ false
few_steps o ks known front few many = unless o (λ on.
    let less = few on in
    let all : length ks ≡ length known + length front.0 = ap (λ (l : List Known). length l) front.1 ∙ length-append known front.0 in
    absurd (omega (arith, less, all, many)))

module _ (ms : List Module) where
  standard_untagged : (t : Tree) → IsStandard ms t → IsStandard ms (untagged t)
  standard_untagged (plain at b items constraints) h = h
  standard_untagged (named at name path parameters constraints) h = h
  standard_untagged (tagged at tag mode t) h = h
  standard_untagged (structure at b es constraints) h = h
  standard_untagged (list_of at b sized size name t) h = h
  standard_untagged (selection at name t) h = h
  standard_untagged (instance_of at class path constraints) h = h
  standard_untagged (any_defined_by at with) h = h

  standard_at : (found : List Assignment) (i : ℕ) (a : Assignment) → AllStandard ms found → IsAt found i a → BodyIsStandard ms a.body
  standard_at [] i a all is = absurd (cc)
  standard_at (b ∷ found) zero a all is = let same : b ≡ a = cc in subst (λ (x : Assignment). BodyIsStandard ms x.body) same all.0
  standard_at (b ∷ found) (suc i) a all is = standard_at found i a all.1 is

  -- the tree of a definition is standard where all are
  pub standard_behind : (found : List Assignment) (known : List Known) (t : Tree) → AllStandard ms found → IsTreeBehind found known t → IsStandard ms t
  standard_behind found known t all there = subst (BodyIsStandard ms) there.body_is (standard_at found (length known) there.assignment all there.is)

  -- and so is the tree to which the way leads
  pub standard_led : (found : List Assignment) (known by : List Known) (t u : Tree) → AllStandard ms found → IsStandard ms t → LeadsTo found known t by u
      → IsStandard ms u
  standard_led found known by t u all is (inl (same, e)) = subst (IsStandard ms) (sym e) (standard_untagged t is)
  standard_led found known by t u all is (inr (less, there)) = standard_behind found by u all there
