-- What holds of the types that the words name: how many parts they have, and the widths of their numbers.
use Rattle.std.proofs.Common.{◌≡◌, suc, ℤ, List, length, Bool, Option, refl}
use Rattle.oer_lexer.specs.declared.leaf.LeafWord.{LeafWord}
use Rattle.oer_lexer.specs.declared.leaf.LeafWord.TheVariants as word
use Rattle.oer_model.specs.LeafType.{NamedNumber}
use Rattle.oer_model.specs.Nodes.{leaf_nodes}
use Rattle.oer_model.specs.Widths.{HasBoundWidth, HaveItemWidths, HasSizeWidths, LeafHasWidths}
use Rattle.oer_model.specs.declared.size.Size.{Size}
use Rattle.oer_value_notation.specs.Leaves.{LeafForm, bounded, leaf_form, listed, plain, sized}

-- each item is a part
abbrev pub HasNodes : LeafForm → Type 0
HasNodes (plain L) = Unit {0} → leaf_nodes L ≡ 1
HasNodes (bounded make) = (low high : Option ℤ) → leaf_nodes (make low high) ≡ 1
HasNodes (listed make) = (items : List NamedNumber) (marker : Bool) → leaf_nodes (make items marker) ≡ suc (length items)
HasNodes (sized make) = (size : Size) → leaf_nodes (make size) ≡ 1

pub form_nodes : (k : LeafWord) → HasNodes (leaf_form k)
form_nodes word.Integer = λ low high. refl
form_nodes word.Enumerated = λ items marker. refl
form_nodes _ = λ x. refl

abbrev pub KeepsWidths : LeafForm → Type 0
KeepsWidths (plain L) = Unit {0} → Unit {0} → LeafHasWidths L
KeepsWidths (bounded make) = (low high : Option ℤ) → HasBoundWidth low → HasBoundWidth high → LeafHasWidths (make low high)
KeepsWidths (listed make) = (items : List NamedNumber) (marker : Bool) → HaveItemWidths items → LeafHasWidths (make items marker)
KeepsWidths (sized make) = (size : Size) → HasSizeWidths size → LeafHasWidths (make size)

pub form_widths : (k : LeafWord) → KeepsWidths (leaf_form k)
form_widths word.Integer = λ low high l h. (l, h)
form_widths word.Enumerated = λ items marker h. h
form_widths _ = λ x h. h
