-- Which numbers the items of an ENUMERATED have (X.680, 20.3 to 20.8).
use Rattle.std.specs.Prelude.{◌≡◌, ℤ, pos, ◌<ℤ◌, ◌≤ℤ◌, List, [], ◌∷◌, ◌++◌, ◌⊎◌, Option, Some, None}

abbrev pub IsAmong : ℤ → List ℤ → Type 0
IsAmong n [] = ⊥
IsAmong n (m ∷ ms) = (n ≡ m) ⊎ IsAmong n ms

-- the numbers are all below n
abbrev pub AreBelow : ℤ → List ℤ → Type 0
AreBelow n [] = Unit {0}
AreBelow n (m ∷ ms) = (m <ℤ n) × AreBelow n ms

-- the numbers that are given
abbrev pub given_in : List (Option ℤ) → List ℤ
given_in [] = []
given_in (Some n ∷ xs) = n ∷ given_in xs
given_in (None ∷ xs) = given_in xs

-- no two are the same
abbrev pub AreDistinct : List ℤ → Type 0
AreDistinct [] = Unit {0}
AreDistinct (n ∷ ns) = (¬ IsAmong n ns) × AreDistinct ns

-- n is the least number from 0 on of which this holds
pub record IsLeast (Holds : ℤ → Type 0) (n : ℤ) : Type 0 where
  pub from_zero : pos 0 ≤ℤ n
  pub holds : Holds n
  pub least : (m : ℤ) → pos 0 ≤ℤ m → m <ℤ n → ¬ Holds m

-- no item of the root is given the number, and no item before has it that was given none
abbrev pub IsFree : List ℤ → List ℤ → ℤ → Type 0
IsFree given before n = (¬ IsAmong n given) × (¬ IsAmong n before)

-- The items of the root have these numbers, where some are given, and earlier items without a number have those before.
pub data RootHas (given : List ℤ) : List ℤ → List (Option ℤ) → List ℤ → Type 0 where
  root_none : {before : List ℤ} → RootHas given before [] []
  root_its_own : {before : List ℤ} {n : ℤ} {xs : List (Option ℤ)} {ns : List ℤ} → RootHas given before xs ns → RootHas given before (Some n ∷ xs) (n ∷ ns)
  root_least : {before : List ℤ} {n : ℤ} {xs : List (Option ℤ)} {ns : List ℤ} → IsLeast (IsFree given before) n → RootHas given (n ∷ before) xs ns → RootHas given before (None ∷ xs) (n ∷ ns)

-- no item of the root has the number, and it is above those of the additional items before
abbrev pub IsNew : List ℤ → List ℤ → ℤ → Type 0
IsNew root before n = (¬ IsAmong n root) × AreBelow n before

-- The additional items have these numbers, where the root has some, and earlier additional items have those before.
pub data LaterHave (root : List ℤ) : List ℤ → List (Option ℤ) → List ℤ → Type 0 where
  later_none : {before : List ℤ} → LaterHave root before [] []
  later_its_own : {before : List ℤ} {n : ℤ} {xs : List (Option ℤ)} {ns : List ℤ} → IsNew root before n → LaterHave root (n ∷ before) xs ns → LaterHave root before (Some n ∷ xs) (n ∷ ns)
  later_least : {before : List ℤ} {n : ℤ} {xs : List (Option ℤ)} {ns : List ℤ} → IsLeast (IsNew root before) n → LaterHave root (n ∷ before) xs ns → LaterHave root before (None ∷ xs) (n ∷ ns)

-- The items of the root and the additional ones have these numbers.
pub record AreNumbered (root more : List (Option ℤ)) (numbers : List ℤ) : Type 0 where
  pub distinct : AreDistinct (given_in root)
  pub of_root : List ℤ
  pub of_more : List ℤ
  pub split : numbers ≡ of_root ++ of_more
  pub root_has : RootHas (given_in root) [] root of_root
  pub more_have : LaterHave of_root [] more of_more
