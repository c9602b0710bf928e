-- The form of encoding for which a `Form` stands.
use Rattle.oer_units.specs.Width.{octets_of_width}
use Rattle.oer_model.specs.Constraints as constraints
use Rattle.oer_values.specs.declared.form.Form.{Form}
use Rattle.oer_values.specs.declared.form.Form.TheVariants.{UnsignedFixed, SignedFixed, UnsignedCounted, SignedCounted}

abbrev pub form_seen : Form → constraints.Form
form_seen (UnsignedFixed w) = constraints.unsigned_fixed (octets_of_width w)
form_seen (SignedFixed w) = constraints.signed_fixed (octets_of_width w)
form_seen UnsignedCounted = constraints.unsigned_counted
form_seen SignedCounted = constraints.signed_counted
