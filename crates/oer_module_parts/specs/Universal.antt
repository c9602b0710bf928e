-- The universal tags (X.680, 8.4, table 1).
use Rattle.std.specs.Prelude.{ℕ, Option, Some, None}
use Rattle.oer_module_syntax.specs.declared.word.Builtin.{Builtin}
use Rattle.oer_module_syntax.specs.declared.word.Builtin.TheVariants as bi

abbrev pub universal_number : Builtin → Option ℕ
universal_number bi.Boolean = Some 1
universal_number bi.Integer = Some 2
universal_number bi.BitString = Some 3
universal_number bi.OctetString = Some 4
universal_number bi.Null = Some 5
universal_number bi.ObjectIdentifier = Some 6
universal_number bi.ObjectDescriptor = Some 7
universal_number bi.External = Some 8
universal_number bi.Real = Some 9
universal_number bi.Enumerated = Some 10
universal_number bi.EmbeddedPdv = Some 11
universal_number bi.Utf8String = Some 12
universal_number bi.RelativeOid = Some 13
universal_number bi.Time = Some 14
universal_number bi.Sequence = Some 16
universal_number bi.Set = Some 17
universal_number bi.NumericString = Some 18
universal_number bi.PrintableString = Some 19
universal_number bi.TeletexString = Some 20
universal_number bi.T61String = Some 20
universal_number bi.VideotexString = Some 21
universal_number bi.Ia5String = Some 22
universal_number bi.UtcTime = Some 23
universal_number bi.GeneralizedTime = Some 24
universal_number bi.GraphicString = Some 25
universal_number bi.VisibleString = Some 26
universal_number bi.Iso646String = Some 26
universal_number bi.GeneralString = Some 27
universal_number bi.UniversalString = Some 28
universal_number bi.CharacterString = Some 29
universal_number bi.BmpString = Some 30
universal_number bi.Date = Some 31
universal_number bi.TimeOfDay = Some 32
universal_number bi.DateTime = Some 33
universal_number bi.Duration = Some 34
universal_number bi.OidIri = Some 35
universal_number bi.RelativeOidIri = Some 36
universal_number bi.Choice = None
