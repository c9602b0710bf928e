-- What was read of the input, block by block.
use Rattle.std.proofs.Common.{◌≡◌, ◌∙◌, ℕ, ◌+◌, ◌-◌, ◌≤◌, ◌<◌, Option, None, Some, IfSome, Ok, List, [], ◌++◌, length, take, refl, sym, ap, arith, append_assoc, length-append}
use Rattle.std.proofs.Math.Seq.{take-append_seam}
use Rattle.std.specs.Io.KnownBytes.{Consumes, IsAtEnd, Keeps}
use Rattle.oer_units.specs.Numbers.{unsigned}
use Rattle.oer_lines_cmd.specs.Frames.{TakesFrame, TakesMessage, TakesUpTo}
use Rattle.oer_lines_cmd.specs.declared.frames.Taken.TheVariants.{Cut}

pub kept_takes : (a b c : Option (List ℕ)) (s : List ℕ) → Keeps a b → Consumes b c s → Consumes a c s
kept_takes None b c s h k = tt
kept_takes (Some xs) None c s h k = absurd h
kept_takes (Some xs) (Some ys) None s h k = absurd k
kept_takes (Some xs) (Some ys) (Some zs) s h k = sym h ∙ k

pub takes_nothing : (a : Option (List ℕ)) → Consumes a a []
takes_nothing None = tt
takes_nothing (Some xs) = refl

pub takes_both : (a b c : Option (List ℕ)) (s t : List ℕ) → Consumes a b s → Consumes b c t → Consumes a c (s ++ t)
takes_both None b c s t h k = tt
takes_both (Some xs) None c s t h k = absurd h
takes_both (Some xs) (Some ys) None s t h k = absurd k
takes_both (Some xs) (Some ys) (Some zs) s t h k = h ∙ ap (λ l. s ++ l) k ∙ sym (append_assoc s t zs)

-- No octet is left behind what was taken of known ones.
pub end_known : (a b c : Option (List ℕ)) (s : List ℕ) → Consumes a b s → IfSome b (λ xs. IsAtEnd c) → IfSome a (λ xs. IsAtEnd c)
end_known None b c s h end = tt
end_known (Some xs) None c s h end = absurd h
end_known (Some xs) (Some ys) c s h end = end

-- One more block is passed over.
pub one_block : (count most passed len : ℕ) (a b c : Option (List ℕ)) (block : List ℕ) → passed ≤ count
    → (s : List ℕ) × (length s ≡ passed) × Consumes a b s → TakesUpTo most b c block → most ≤ count - passed → len ≡ length block
    → (passed + len ≤ count) × ((s : List ℕ) × (length s ≡ passed + len) × Consumes a c s)
one_block count most passed len a b c block less (s, long, takes) (within, next, end) room same = (
  omega (arith, less, within, room, same),
  (s ++ block, omega (arith, length-append s block, long, same), takes_both a b c s block takes next),
)

-- A message of this size stands behind its length, and is cut.
module _ (n count size limit before there : ℕ) (a b c : Option (List ℕ)) (head message : List ℕ) (is : count ≡ n) (first : TakesUpTo count a b head) (same : before ≡ length head)
    (all : n ≤ before) (says : size ≡ unsigned head) (next : TakesMessage size limit b c message there) where
  pub cut_message : 1 ≤ before → there < size → TakesFrame n limit a c message (Ok (Cut (before + there)))
  cut_message some short =
      let b' = next.0 in
      let both = length-append head b' in
      let front : take n (head ++ b') ≡ head = ap (λ k. take k (head ++ b')) (let e : n ≡ length head = omega (arith, is, first.0, same, all) in e) ∙ take-append_seam head b' in
      let said = ap unsigned front in (
        head ++ b',
        omega (arith, both, next.1, same),
        omega (arith, some),
        omega (arith, short, said, says, same, all, is, first.0),
        takes_both a b c head b' first.1 next.2.1,
        end_known a b c head first.1 (next.2.2 (omega (arith, next.1, short))),
      )
