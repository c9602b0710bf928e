-- The JSON of octets.
use Rattle.std.proofs.Common.{◌≡◌, ◌∙◌, ℕ, List, [], ap, inl, inr, subst, sym}
use Rattle.serde_json.specs.Data.{Data}
use Rattle.oer_units.specs.Octets.{IsOctets}
use Rattle.oer_model.specs.AsnType.{AsnType, choice, extensible_sequence, leaf, sequence, sequence_of}
use Rattle.oer_model.specs.AsnValue.{AsnValue, octets}
use Rattle.oer_model.specs.ContentType.{object_id, octet_string, restricted_string, utf8_string}
use Rattle.oer_model.specs.Fits.{Fits}
use Rattle.oer_model.specs.LeafType.{bit_string, boolean, content, enumerated, integer, null}
use Rattle.oer_model.specs.LeafValue as value
use Rattle.oer_json.specs.Made.{made}
use Rattle.oer_json.proofs.Making.{made-leaf_value}
use Rattle.oer_entries.specs.Digits.{AreDigits, AreOctets}

abbrev octets_in : AsnValue → List ℕ
octets_in (octets w) = w
octets_in v = []

octets_fit : (T : AsnType) (w : List ℕ) → Fits T (octets w) → IsOctets w
octets_fit (leaf boolean) w (x, e) = absurd (cc)
octets_fit (leaf null) w e = absurd (cc)
octets_fit (leaf (integer low high)) w (z, e, more) = absurd (cc)
octets_fit (leaf (enumerated numbers extensible)) w (z, e, fits, known) = absurd (cc)
octets_fit (leaf (bit_string size)) w (s, e, more) = absurd (cc)
octets_fit (leaf (content (octet_string size))) w (u, e, (fit, sized)) = subst IsOctets (sym (ap octets_in e)) fit
octets_fit (leaf (content object_id)) w (u, e, more) = absurd (cc)
octets_fit (leaf (content (restricted_string letters size))) w (u, e, more) = absurd (cc)
octets_fit (leaf (content (utf8_string size))) w (u, e, more) = absurd (cc)
octets_fit (sequence fs) w (root, e, more) = absurd (cc)
octets_fit (extensible_sequence fs adds) w (root, added, us, e, fit, more, rest) = absurd (cc)
octets_fit (sequence_of size T) w (vs, e, sized, fit) = absurd (cc)
octets_fit (choice extensible alts) w (inl (t, x, e, more)) = absurd (cc)
octets_fit (choice extensible alts) w (inr (t, x, e, later, other, number, fit)) = absurd (cc)

pub digits_made : (T : AsnType) (v : AsnValue) (j : Data) → Fits T v → j ≡ made T v → AreOctets v → AreDigits j
digits_made T v j fits is (w, e) = (w, octets_fit T w (subst (Fits T) e fits), is ∙ ap (made T) e ∙ made-leaf_value T (value.octets w))
