use Rattle.oer_decoder.proofs.laws.rewrite_promises.Goals as goal

pub returns : goal.returns
returns g c =
    record { rewritten = c.rewrite.ensures.rewritten; refused = c.rewrite.ensures.refused; comes = c.rewrite.ensures.comes; exact = c.rewrite.ensures.exact }
