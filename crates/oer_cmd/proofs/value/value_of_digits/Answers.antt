use Rattle.std.proofs.Common.{ap, refl, string_bytes}
use Rattle.oer_types.specs.Schema.{the_type}
use Rattle.oer_cmd.specs.Answer.{value_text}
use Rattle.oer_cmd.specs.Expected.{◌>>=◌}
use Rattle.oer_cmd.proofs.Meeting.{named_of}
use Rattle.oer_cmd.proofs.value.value_of_digits.Goals as goal

pub returns : goal.returns
returns c = named_of string_bytes c.in_ok-octets.octets.items _ _ c.read_line.result
    (ap (λ o. o >>= value_text c.args.form (the_type c.args.schema.now) c.args.limit) c.in_ok-octets.ensures.exact)
    (c.read_line.ensures.exact c.in_ok-octets.octets.items (rw (c.new-reader.ensures.inner, c.as_slice.ensures.value) refl))
