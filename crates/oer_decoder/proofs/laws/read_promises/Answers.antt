use Rattle.oer_decoder.proofs.laws.read_promises.Goals as goal

pub returns : goal.returns
returns g c = record { told = c.read.ensures.told; comes = c.read.ensures.comes; exact = c.read.ensures.exact }
