use Rattle.oer_decoder.proofs.Packed.{octet_is}
use Rattle.oer_decoder.proofs.packing.octet_of.Goals as goal

pub returns : goal.returns
returns c =
    rw (c.worth.ensures, c.worth-2.ensures, c.worth-3.ensures, c.worth-4.ensures, c.worth-5.ensures, c.worth-6.ensures, c.worth-7.ensures, c.worth-8.ensures)
    (octet_is c.args.bits.now c.requires)
