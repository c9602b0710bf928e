-- What the turns from 8 times down give.
use Rattle.std.proofs.Common.{◌≡◌, ◌-◌, ◌<◌, ◌≤◌, ℕ, zero, suc, true, false, List, Ok, Err, refl, sym, ap, ◌∙◌, arith}
use Rattle.oer_module_syntax.specs.declared.fault.Why.TheVariants as fault
use Rattle.oer_module_text.specs.Errors.{Error, Read, why_of}
use Rattle.oer_module_text.specs.declared.error.Why as raw
use Rattle.oer_module_text.specs.declared.error.Why.TheVariants as raws
use Rattle.oer_module_values.specs.declared.error.Why.TheVariants as told
use Rattle.oer_module_syntax.specs.Tree.{Module}
use Rattle.oer_module_types.specs.Types.{typed}
use Rattle.oer_module_values.specs.Types.{TypeIn}
use Rattle.oer_modules.specs.Nesting.{Typed, is_over, most, usual}

-- the turns, of which `whole` is the answer in all, have come to n times
module _ (f : ℕ → Read Typed) (whole : Read Typed) where
  over_at : (m : ℕ) (e : Error) → whole ≡ most f (suc m) → f (suc (suc m)) ≡ Err e → is_over e.why ≡ true → whole ≡ most f m
  unfolding most
  over_at m e is h over = is ∙ rw (h, over) refl

  ends_at : (m : ℕ) (e : Error) → whole ≡ most f (suc m) → f (suc (suc m)) ≡ Err e → is_over e.why ≡ false → whole ≡ Err e
  unfolding most
  ends_at m e is h over = is ∙ rw (h, over) refl

  text_at : (m : ℕ) (t : Typed) → whole ≡ most f (suc m) → f (suc (suc m)) ≡ Ok t → whole ≡ Ok t
  unfolding most
  text_at m t is h = is ∙ rw h refl

  pub turn_over : (n : ℕ) (e : Error) → whole ≡ most f (n - 1) → 1 < n → f n ≡ Err e → is_over e.why ≡ true → whole ≡ most f (n - 1 - 1)
  turn_over zero e is more h over = absurd (omega arith)
  turn_over (suc zero) e is more h over = absurd (omega arith)
  turn_over (suc (suc m)) e is more h over =
      let now : suc (suc m) - 1 ≡ suc m = omega arith in
      let next : m ≡ suc (suc m) - 1 - 1 = omega arith in
      over_at m e (is ∙ ap (most f) now) h over ∙ ap (most f) next

  pub turn_err : (n : ℕ) (e : Error) → whole ≡ most f (n - 1) → 1 < n → f n ≡ Err e → is_over e.why ≡ false → whole ≡ Err e
  turn_err zero e is more h over = absurd (omega arith)
  turn_err (suc zero) e is more h over = absurd (omega arith)
  turn_err (suc (suc m)) e is more h over =
      let now : suc (suc m) - 1 ≡ suc m = omega arith in
      ends_at m e (is ∙ ap (most f) now) h over

  pub turn_text : (n : ℕ) (t : Typed) → whole ≡ most f (n - 1) → 1 < n → f n ≡ Ok t → whole ≡ Ok t
  turn_text zero t is more h = absurd (omega arith)
  turn_text (suc zero) t is more h = absurd (omega arith)
  turn_text (suc (suc m)) t is more h =
      let now : suc (suc m) - 1 ≡ suc m = omega arith in
      text_at m t (is ∙ ap (most f) now) h

  at_last : whole ≡ most f zero → whole ≡ f 1
  unfolding most
  at_last is = is

  pub turns_over : (n : ℕ) → whole ≡ most f (n - 1) → 0 < n → n ≤ 1 → whole ≡ f 1
  turns_over zero is some last = absurd (omega arith)
  turns_over (suc zero) is some last = at_last is
  turns_over (suc (suc m)) is some last = absurd (omega arith)

pub first_usual : (ms : List Module) (of : TypeIn) → usual ms of ≡ most (λ n. typed ms n of) 7
unfolding usual
first_usual ms of = refl

-- where a text is too large, memory was had
pub over_no_memory : (w : raw.Why) → is_over (why_of w) ≡ true → w ≡ raws.Unresolved (told.Unread fault.Memory) → ⊥
over_no_memory w h m = let e : true ≡ false = sym h ∙ ap (λ v. is_over (why_of v)) m in absurd (cc)
