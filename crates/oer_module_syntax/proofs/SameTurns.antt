-- The numbers that bound the turns of lists suffice.
use Rattle.std.proofs.Common.{◌≡◌, ℕ, zero, suc, ◌<◌, List, [], ◌∷◌, ◌++◌, length, Bool, true, false, Ok, Err, refl, arith}
use Rattle.oer_module_lexer.specs.declared.token.Sign.TheVariants.{Comma, Semicolon}
use Rattle.oer_module_syntax.specs.Modules.{many, symbol_at, import_at, ends_assignments, assignment_at, is_last, module_at}
use Rattle.oer_module_syntax.specs.State.{State, Read, bump, at_sign}
use Rattle.oer_module_syntax.specs.Turns.{TurnsSuffice}
use Rattle.oer_module_syntax.specs.Types.{more_listed, one_at, type_at}
use Rattle.oer_module_syntax.proofs.Shorter.{symbol_shorter, element_shorter, import_shorter, assignment_shorter, module_shorter}

module _ {A : Type 0} (one : State → Read A) (short : (s : State) (r : A × State) → at_sign Comma s ≡ true → one (bump s) ≡ Ok r → length r.1.left < length s.left) where
  listed_turn : (b : Bool) (x : Read A) (n m : ℕ) (found : List A) (s : State) → at_sign Comma s ≡ b → one (bump s) ≡ x
      → ((e : A × State) → at_sign Comma s ≡ true → one (bump s) ≡ Ok e → more_listed one n (found ++ e.0 ∷ []) e.1 ≡ more_listed one m (found ++ e.0 ∷ []) e.1)
      → more_listed one (suc n) found s ≡ more_listed one (suc m) found s
  unfolding more_listed
  listed_turn true (Ok e) n m found s b x same = rw (b, x) (same e b x)
  listed_turn true (Err e) n m found s b x same = rw (b, x) refl
  listed_turn false x n m found s b y same = rw b refl

  listed_same : (n m : ℕ) (found : List A) (s : State) → length s.left < n → length s.left < m → more_listed one n found s ≡ more_listed one m found s
  listed_same zero m found s p q = absurd (omega arith)
  listed_same (suc n) zero found s p q = absurd (omega arith)
  listed_same (suc n) (suc m) found s p q =
      listed_turn (at_sign Comma s) (one (bump s)) n m found s refl refl
      (λ e c h. let less = short s e c h in listed_same n m (found ++ e.0 ∷ []) e.1 (omega arith) (omega arith))

module _ {A : Type 0} (done : State → Bool) (one : State → Read A) (short : (s : State) (r : A × State) → one s ≡ Ok r → length r.1.left < length s.left) where
  many_turn : (b : Bool) (x : Read A) (n m : ℕ) (found : List A) (s : State) → done s ≡ b → one s ≡ x
      → ((e : A × State) → one s ≡ Ok e → many done one n (found ++ e.0 ∷ []) e.1 ≡ many done one m (found ++ e.0 ∷ []) e.1)
      → many done one (suc n) found s ≡ many done one (suc m) found s
  unfolding many
  many_turn true x n m found s b y same = rw b refl
  many_turn false (Ok e) n m found s b x same = rw (b, x) (same e x)
  many_turn false (Err e) n m found s b x same = rw (b, x) refl

  many_same : (n m : ℕ) (found : List A) (s : State) → length s.left < n → length s.left < m → many done one n found s ≡ many done one m found s
  many_same zero m found s p q = absurd (omega arith)
  many_same (suc n) zero found s p q = absurd (omega arith)
  many_same (suc n) (suc m) found s p q =
      many_turn (done s) (one s) n m found s refl refl (λ e h. let less = short s e h in many_same n m (found ++ e.0 ∷ []) e.1 (omega arith) (omega arith))

pub turns_suffice : TurnsSuffice
turns_suffice = record {
  symbols = λ n found s h. listed_same symbol_at symbol_shorter n (suc (length s.left)) found s h (omega arith);
  imports = λ n found s h. many_same (at_sign Semicolon) import_at import_shorter n (suc (length s.left)) found s h (omega arith);
  elements = λ levels grouped alternatives n found s h.
      listed_same (one_at (type_at levels) grouped alternatives) (element_shorter levels grouped alternatives) n (suc (length s.left)) found s h (omega arith);
  assignments = λ levels n found s h.
      many_same ends_assignments (assignment_at levels) (assignment_shorter levels) n (suc (length s.left)) found s h (omega arith);
  modules = λ levels n found s h. many_same is_last (module_at levels) (module_shorter levels) n (suc (length s.left)) found s h (omega arith);
}
