use Rattle.std.proofs.Common.{◌≡◌, ◌++◌, Ok, drop}
use Rattle.oer_module_text.specs.Errors.{◌>>=◌}
use Rattle.oer_module_tags.specs.Alternatives.{context_tags}
use Rattle.oer_module_tags.proofs.alternatives.context_tags.Given as goal

-- the tags found and those of what is left are all of them
abbrev pub invariant-loop-number : goal.invariant-loop-number
invariant-loop-number l =
    context_tags l.place l.numbers ≡ (context_tags l.place (drop l.number-index l.numbers) >>= λ gs. Ok (l.tags.items ++ gs))
