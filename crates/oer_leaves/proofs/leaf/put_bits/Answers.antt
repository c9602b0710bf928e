use Rattle.std.proofs.Common.{◌≡◌, ◌+◌, ◌∙◌, ◌++◌, ◌∷◌, [], length, refl, sym, ap, arith, rules, None, Option, List, Bool, ℕ}
use Rattle.oer_units.specs.Least.{length_octets}
use Rattle.oer_model.specs.Bits.{padded, spare_bits}
use Rattle.oer_model.specs.Canonical.{bit_octets}
use Rattle.oer_model.specs.Constraints.{fixed}
use Rattle.oer_leaves.proofs.Steps.{passed, wrote_then}
use Rattle.oer_model.proofs.bits.LeastBits.{length-padded}
use Rattle.oer_leaves.proofs.Numbers.{bitmap_is}
use Rattle.oer_leaves.proofs.leaf.put_bits.Goals as goal

counted_form : (s : List Bool) (fix : Option ℕ) (n u : ℕ) (p : List ℕ) → fix ≡ None → p ≡ padded s → u ≡ spare_bits (length s) → n ≡ length p → bit_octets fix s ≡ (length_octets (n + 1) ++ u ∷ []) ++ padded s
counted_form s fix n u p none e f g = ap (λ x. bit_octets x s) none ∙ bitmap_is s n (n + 1) u (omega arith) (g ∙ ap length e ∙ length-padded s) f

pub returns-in_err-done : goal.returns-in_err-done
returns-in_err-done g c = passed c.from_residual.result _ c.args.done (length_octets (length c.octets-octets.result.now + 1) ++ c.unused_bits-unused.result ∷ []) (padded c.args.bits.now) _ _ _ _ _ (counted_form c.args.bits.now (fixed c.args.size) _ _ c.octets-octets.result.now (search rules) c.octets-octets.ensures (search rules) refl) c.from_residual.ensures.1 c.in_err-done.ensures

pub returns : goal.returns
returns g c = wrote_then c.put_slice-2.result _ _ (length_octets (length c.octets-octets.result.now + 1) ++ c.unused_bits-unused.result ∷ []) c.octets-octets.result.now _ _ _ _ _ _ _ (counted_form c.args.bits.now (fixed c.args.size) _ _ c.octets-octets.result.now (search rules) c.octets-octets.ensures (search rules) refl ∙ ap (λ l. (length_octets (length c.octets-octets.result.now + 1) ++ c.unused_bits-unused.result ∷ []) ++ l) (sym c.octets-octets.ensures)) c.in_ok-done.ensures c.put_slice-2.ensures
