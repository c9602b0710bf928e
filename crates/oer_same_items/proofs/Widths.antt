-- Numbers of 64 bits, and that items with these are numbered where X.680 has numbers for them.
use Rattle.std.proofs.Common.{◌≡◌, ◌^◌, ℤ, pos, negsuc, ◌<ℤ◌, List, [], ◌∷◌, ◌++◌, map, Bool, true, Option, Ok, FitsSigned, sym, subst, ◌∙◌, arith}
use Rattle.std.specs.Int.{w64, w128}
use Rattle.std.proofs.lemmas.Bool.{lt-ltb}
use Rattle.std.proofs.lemmas.Int.{ints}
use Rattle.oer_meant_leaves.specs.Leaves.{AreItems, HaveNumbers}
use Rattle.oer_meant_leaves.proofs.Items.{given_have}
use Rattle.oer_meant_leaves.proofs.Results.{first_same}
use Rattle.oer_meant_leaves.proofs.SoleItems.{have_sole}
use Rattle.oer_model.specs.AsnType.{NamedNumber}
use Rattle.oer_model.specs.Widths.{HaveItemWidths}
use Rattle.oer_module_leaves.specs.Shapes.{is_signed_long}
use Rattle.oer_module_lexer.specs.Token.{Spot}
use Rattle.oer_module_names.specs.declared.error.Place.{Place}
use Rattle.oer_module_parts.specs.Kept.{kept}
use Rattle.oer_module_parts.specs.Numbered.{AreBelow, AreNumbered}
use Rattle.oer_module_parts.specs.Numbering.{number_items}
use Rattle.oer_module_parts.proofs.NumberLaws.{numbers_complete}
use Rattle.oer_module_syntax.specs.State.{State}
use Rattle.oer_module_syntax.specs.Tree.{Module}
use Rattle.oer_module_terms.specs.Items.{enumeration_at}
use Rattle.oer_module_terms.specs.Trees.{Enumeration}
use Rattle.oer_module_values.specs.Numbers.{given_numbers, more_items}
use Rattle.oer_same_items.proofs.Counted.{AreGiven, numbers_are}

pub wider : (z : ℤ) → FitsSigned w64 z → FitsSigned w128 z
wider (pos n) h = record { sfits = omega (arith, h.sfits) }
wider (negsuc n) h = record { sfits = omega (arith, h.sfits) }

pub signed_long : (z : ℤ) → FitsSigned w64 z → is_signed_long z ≡ true
signed_long (pos n) h = lt-ltb n (2 ^ 63) (omega (arith, h.sfits))
signed_long (negsuc n) h = lt-ltb n (2 ^ 63) (omega (arith, h.sfits))

below_most : (z : ℤ) → FitsSigned w64 z → z <ℤ pos (2 ^ 127)
below_most (pos n) h = let less = h.sfits in omega (arith, ints)
below_most (negsuc n) h = omega (arith, ints)

all_below : (items : List NamedNumber) → HaveItemWidths items → AreBelow (pos (2 ^ 127)) (map (λ i. i.number) items)
all_below [] h = tt
all_below (i ∷ is) h = (below_most i.number h.0, all_below is h.1)

-- Where the tokens of these items are items by X.680, the reader of modules numbers them.
pub numbered_all : (ms : List Module) (p : Place) (ss : List Spot) (e : Enumeration) (rest : State) (numbered : Bool) (items : List NamedNumber)
    (os qs : List (Option ℤ)) → enumeration_at (kept ss p.at) ≡ Ok (e, rest) → given_numbers ms p.«module» e.root ≡ Ok os
    → given_numbers ms p.«module» (more_items e.more) ≡ Ok qs → AreGiven numbered 0 items (os ++ qs) → HaveItemWidths items
    → (is : List NamedNumber) (marked : Bool) → AreItems ms p.«module» p.at ss is marked → number_items os qs ≡ Ok (map (λ i. i.number) is)
numbered_all ms p ss e rest numbered items os qs read h g given widths is marked a =
    let same = first_same a.read e a.rest rest (sym a.is ∙ read) in
    let root = have_sole ms p.«module» e.root a.root os (subst (λ x. HaveNumbers ms p.«module» x.root a.root) same a.root_have)
    (given_have ms p.«module» e.root os h) in
    let more = have_sole ms p.«module» (more_items e.more) a.more qs (subst (λ x. HaveNumbers ms p.«module» (more_items x.more) a.more) same a.more_have)
    (given_have ms p.«module» (more_items e.more) qs g) in
    let has = subst (λ x. AreNumbered os x (map (λ i. i.number) is)) more (subst (λ x. AreNumbered x a.more (map (λ i. i.number) is)) root a.numbered) in
    let numbers = numbers_are numbered items os qs (map (λ i. i.number) is) given has in
    numbers_complete os qs (map (λ i. i.number) is) has (subst (AreBelow (pos (2 ^ 127))) (sym numbers) (all_below items widths))
