-- What it means that a reader reads the spellings of a relation.
use Rattle.std.specs.Prelude.{◌≡◌, ℕ, ◌+◌, ◌≤◌, List, [], ◌++◌, length}
use Rattle.oer_units.specs.declared.fault.Why.{Why}
use Rattle.oer_units.specs.declared.fault.Why.TheVariants.{End, Limit}
use Rattle.oer_units.specs.Reader.{Place, at, got, refused, Reader}

-- After reading t, each error rules out some spellings b, where v are the octets that would follow t: End rules out those that
-- need none of v, Limit those of at most n octets, and any other error all of them.
abbrev pub SpokenOf : Why → ℕ → List ℕ → List ℕ → Type 0
SpokenOf End n b v = v ≡ []
SpokenOf Limit n b v = length b ≤ n
SpokenOf why n b v = Unit {0}

-- No such spelling begins with t, and none is a front of t: for b ++ u ≡ t ++ v says that one of b and t begins with the other.
abbrev pub Excludes : {A : Type 0} → (A → List ℕ → Type 0) → Why → ℕ → List ℕ → Type 0
Excludes {A} Spells why n t = (x : A) (b u v : List ℕ) → Spells x b → b ++ u ≡ t ++ v → SpokenOf why n b v → ⊥

pub record Lawful {A : Type 0} (r : Reader A) (Spells : A → List ℕ → Type 0) : Type 0 where
  pub sound : (p : Place) (x : A) (q : Place) → r p ≡ got x q
      → (b : List ℕ) × Spells x b × (p.input ≡ b ++ q.input) × (p.left ≡ length b + q.left)
  pub complete : (x : A) (b rest : List ℕ) (m : ℕ) → Spells x b → r (at (b ++ rest) (length b + m)) ≡ got x (at rest m)
  pub refusal : (p : Place) (why : Why) (rest : List ℕ) → r p ≡ refused why rest
      → (t : List ℕ) × (p.input ≡ t ++ rest) × (length t ≤ p.left) × Excludes Spells why p.left t × (why ≡ End → rest ≡ [])
