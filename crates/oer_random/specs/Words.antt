-- The numbers that a seed gives: those of the generator SplitMix64.
use Rattle.std.specs.Prelude.{ℕ, zero, suc, ◌+◌, ◌-◌, ◌*◌, ◌%◌, ◌^◌, List, [], ◌∷◌}
use Rattle.rand_xoshiro.specs.SplitMix64.{mix_u64}

-- the first number of a seed, and the seed of the others
unfoldable pub word : ℕ → ℕ
word seed = (mix_u64 seed).0

unfoldable pub after : ℕ → ℕ
after seed = (mix_u64 seed).1

-- the first n numbers
abbrev pub words : ℕ → ℕ → List ℕ
words zero seed = []
words (suc n) seed = word seed ∷ words n (after seed)

-- the seed with each bit turned round
abbrev pub turned : ℕ → ℕ
turned seed = 18446744073709551615 - seed

-- a number of k binary digits or of k + 1, by the number x: each length is drawn as often as any other
unfoldable pub of_length : ℕ → ℕ → ℕ
of_length k x = 2 ^ k - 1 + x % 2 ^ k

-- the first two numbers of a seed as one of 128 bits
abbrev pub wide : ℕ → ℕ
wide seed = word seed * 18446744073709551616 + word (after seed)
