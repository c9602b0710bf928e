-- What a type stands for is no reference, and has no tag.
use Rattle.std.proofs.Common.{◌≡◌, ℕ, [], Ok, List}
use Rattle.oer_module_syntax.specs.Tree.{Module, Tree}
use Rattle.oer_module_values.proofs.Walks.{found}
use Rattle.oer_module_values.specs.Types.{TypeIn, Given, Meaning, IsFinal, Means, itself, tag, type, values, meaning}

module _ (ms : List Module) where
  means_settled : (m : ℕ) (t : Tree) (u : TypeIn) (gs : List Given) → Means ms m t u gs → IsFinal u.type
  means_settled _ _ _ _ (itself m t final) = final
  means_settled _ _ _ _ (tag m at ts mode t u gs g) = means_settled m t u gs g
  means_settled _ _ _ _ (type m at w steps cs n t u gs r g) = means_settled n t u gs g
  means_settled _ _ _ _ (values m at w steps cs ts n t u gs r g) = means_settled n t u gs g

  pub meaning_settled : (t : TypeIn) (r : Meaning) → meaning ms t ≡ Ok r → IsFinal r.of.type
  meaning_settled t r h =
      let p = found ms 255 t [] r h in means_settled t.«module» t.type r.of p.0 p.2
