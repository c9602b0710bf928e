-- The way down leads to a part that is rejected.
use Rattle.std.proofs.Common.{◌≡◌, ◌∙◌, ℕ, zero, suc, Option, Some, None, Err, refl, sym, subst}
use Rattle.serde_json.specs.Data.{Data}
use Rattle.oer_model.specs.AsnType.{AsnType}
use Rattle.oer_model.specs.Limits.{max_depth}
use Rattle.oer_json.specs.Take.{taken}
use Rattle.oer_json.specs.declared.fault.JsonFault.{JsonFault}
use Rattle.oer_json_places.specs.Laws.{IsPlace, NoneIsTaken, PlacesAreRejected}
use Rattle.oer_json_places.specs.Next.{Next, into, next, stop}
use Rattle.oer_json_places.specs.Place.{Spot, down, onward, place_by}
use Rattle.oer_json_places.specs.Rejected.{fault_of}
use Rattle.oer_json_places.proofs.Nexts.{IsNext, is_next}
use Rattle.oer_json_places.proofs.Rejecting.{of_fault, of_none}

pub down_none : (f : JsonFault) (T : AsnType) (j : Data) → taken T j ≡ Err f → IsPlace T j (down zero f T j)
unfolding down
down_none f T j h = record { leads = (refl, refl); whole = h; part = h; wrong = tt }

pub down_one : (n : ℕ) (f : JsonFault) (T : AsnType) (j : Data) → down (suc n) f T j ≡ onward f T j (next f T j) (down n f)
unfolding down
down_one n f T j = refl

by_next : (f : JsonFault) (T : AsnType) (j : Data) (go : AsnType → Data → Spot) → ((U : AsnType) (d : Data) → taken U d ≡ Err f
    → IsPlace U d (go U d))
    → taken T j ≡ Err f → (x : Next) → IsNext f T j x → IsPlace T j (onward f T j x go)
by_next f T j go below h (stop w) is = record { leads = (refl, refl); whole = h; part = h; wrong = is }
by_next f T j go below h (into hop U d) is =
    let p = below U d is.1 in
    record { leads = (U, d, is.0, p.leads); whole = h ∙ sym is.1 ∙ p.whole; part = p.part; wrong = p.wrong }

pub is_down : (n : ℕ) (f : JsonFault) (T : AsnType) (j : Data) → taken T j ≡ Err f → IsPlace T j (down n f T j)
is_down zero f T j h = down_none f T j h
is_down (suc n) f T j h = subst (IsPlace T j) (sym (down_one n f T j)) (by_next f T j (down n f) (λ U d g. is_down n f U d g) h
    (next f T j) (is_next f T j))

by_fault : (T : AsnType) (j : Data) (o : Option JsonFault) → fault_of T j ≡ o → (spot : Spot) → place_by o T j ≡ Some spot
    → IsPlace T j spot
by_fault T j None e spot h = absurd (cc)
by_fault T j (Some f) e spot h = let s : down max_depth f T j ≡ spot = cc in subst (IsPlace T j) s (is_down max_depth f T j
    (of_fault f T j e))

pub rejected : PlacesAreRejected
rejected T j spot h = by_fault T j (fault_of T j) refl spot h

by_none : (T : AsnType) (j : Data) (o : Option JsonFault) → fault_of T j ≡ o → place_by o T j ≡ None → fault_of T j ≡ None
by_none T j None e h = e
by_none T j (Some f) e h = absurd (cc)

pub none_taken : NoneIsTaken
none_taken T j h = of_none T j (by_none T j (fault_of T j) refl h)
