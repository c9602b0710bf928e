-- What is taken, one after another.
use Rattle.std.proofs.Common.{List, [], ◌∷◌, ◌++◌, subst, sym}
use Rattle.std.specs.List.{FoldsTo}

pub folds_on : {T A : Type 0} (R : T → A → T → Type 0) (s t u : T) (xs ys : List A) → FoldsTo R s xs t → FoldsTo R t ys u
    → FoldsTo R s (xs ++ ys) u
folds_on R s t u [] ys e h = subst (λ x. FoldsTo R x ys u) (sym e) h
folds_on R s t u (x ∷ xs) ys (j, r, more) h = (j, r, folds_on R j t u xs ys more h)
