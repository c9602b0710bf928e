-- Reserved words (X.680, 12.38), and words that have a meaning only where the grammar has them.
use Rattle.std.specs.Prelude.{ℕ, List, [], ◌∷◌, Bool, true, false, not, ◌&&◌, ◌||◌, Option, Some, None, is_some, codes, if◌then◌else◌}
use Rattle.std.specs.Char.{is_ascii_lowercase}
use Rattle.std.specs.Str.{bytes_eq}
use Rattle.oer_lexer.specs.Characters.{starts}
use Rattle.oer_module_syntax.specs.declared.word.Keyword.{Keyword}
use Rattle.oer_module_syntax.specs.declared.word.Keyword.TheVariants as kw
use Rattle.oer_module_syntax.specs.declared.word.Builtin.{Builtin}
use Rattle.oer_module_syntax.specs.declared.word.Builtin.TheVariants as bi

-- how the words are written that begin no type
abbrev pub keyword_text : Keyword → List ℕ
keyword_text kw.Absent = codes "ABSENT"
keyword_text kw.AbstractSyntax = codes "ABSTRACT-SYNTAX"
keyword_text kw.All = codes "ALL"
keyword_text kw.Any = codes "ANY"
keyword_text kw.Application = codes "APPLICATION"
keyword_text kw.Automatic = codes "AUTOMATIC"
keyword_text kw.Begin = codes "BEGIN"
keyword_text kw.By = codes "BY"
keyword_text kw.Class = codes "CLASS"
keyword_text kw.Component = codes "COMPONENT"
keyword_text kw.Components = codes "COMPONENTS"
keyword_text kw.Constrained = codes "CONSTRAINED"
keyword_text kw.Containing = codes "CONTAINING"
keyword_text kw.Default = codes "DEFAULT"
keyword_text kw.Defined = codes "DEFINED"
keyword_text kw.Definitions = codes "DEFINITIONS"
keyword_text kw.Descendants = codes "DESCENDANTS"
keyword_text kw.Encoded = codes "ENCODED"
keyword_text kw.EncodingControl = codes "ENCODING-CONTROL"
keyword_text kw.End = codes "END"
keyword_text kw.Except = codes "EXCEPT"
keyword_text kw.Explicit = codes "EXPLICIT"
keyword_text kw.Exports = codes "EXPORTS"
keyword_text kw.Extensibility = codes "EXTENSIBILITY"
keyword_text kw.False = codes "FALSE"
keyword_text kw.From = codes "FROM"
keyword_text kw.Identifier = codes "IDENTIFIER"
keyword_text kw.Implicit = codes "IMPLICIT"
keyword_text kw.Implied = codes "IMPLIED"
keyword_text kw.Imports = codes "IMPORTS"
keyword_text kw.Includes = codes "INCLUDES"
keyword_text kw.Instance = codes "INSTANCE"
keyword_text kw.Instructions = codes "INSTRUCTIONS"
keyword_text kw.Intersection = codes "INTERSECTION"
keyword_text kw.Max = codes "MAX"
keyword_text kw.Min = codes "MIN"
keyword_text kw.MinusInfinity = codes "MINUS-INFINITY"
keyword_text kw.NotANumber = codes "NOT-A-NUMBER"
keyword_text kw.Of = codes "OF"
keyword_text kw.Optional = codes "OPTIONAL"
keyword_text kw.Pattern = codes "PATTERN"
keyword_text kw.Pdv = codes "PDV"
keyword_text kw.PlusInfinity = codes "PLUS-INFINITY"
keyword_text kw.Present = codes "PRESENT"
keyword_text kw.Private = codes "PRIVATE"
keyword_text kw.Settings = codes "SETTINGS"
keyword_text kw.Size = codes "SIZE"
keyword_text kw.String = codes "STRING"
keyword_text kw.Successors = codes "SUCCESSORS"
keyword_text kw.Syntax = codes "SYNTAX"
keyword_text kw.Tags = codes "TAGS"
keyword_text kw.True = codes "TRUE"
keyword_text kw.TypeIdentifier = codes "TYPE-IDENTIFIER"
keyword_text kw.Union = codes "UNION"
keyword_text kw.Unique = codes "UNIQUE"
keyword_text kw.Universal = codes "UNIVERSAL"
keyword_text kw.With = codes "WITH"

-- the first word of a type (17.2), or of a useful type (17.3, 45 to 48)
abbrev pub builtin_first : Builtin → List ℕ
builtin_first bi.Boolean = codes "BOOLEAN"
builtin_first bi.Null = codes "NULL"
builtin_first bi.Integer = codes "INTEGER"
builtin_first bi.Real = codes "REAL"
builtin_first bi.Enumerated = codes "ENUMERATED"
builtin_first bi.BitString = codes "BIT"
builtin_first bi.OctetString = codes "OCTET"
builtin_first bi.ObjectIdentifier = codes "OBJECT"
builtin_first bi.RelativeOid = codes "RELATIVE-OID"
builtin_first bi.OidIri = codes "OID-IRI"
builtin_first bi.RelativeOidIri = codes "RELATIVE-OID-IRI"
builtin_first bi.Sequence = codes "SEQUENCE"
builtin_first bi.Set = codes "SET"
builtin_first bi.Choice = codes "CHOICE"
builtin_first bi.External = codes "EXTERNAL"
builtin_first bi.EmbeddedPdv = codes "EMBEDDED"
builtin_first bi.CharacterString = codes "CHARACTER"
builtin_first bi.BmpString = codes "BMPString"
builtin_first bi.GeneralString = codes "GeneralString"
builtin_first bi.GraphicString = codes "GraphicString"
builtin_first bi.Ia5String = codes "IA5String"
builtin_first bi.Iso646String = codes "ISO646String"
builtin_first bi.NumericString = codes "NumericString"
builtin_first bi.PrintableString = codes "PrintableString"
builtin_first bi.TeletexString = codes "TeletexString"
builtin_first bi.T61String = codes "T61String"
builtin_first bi.UniversalString = codes "UniversalString"
builtin_first bi.Utf8String = codes "UTF8String"
builtin_first bi.VideotexString = codes "VideotexString"
builtin_first bi.VisibleString = codes "VisibleString"
builtin_first bi.ObjectDescriptor = codes "ObjectDescriptor"
builtin_first bi.GeneralizedTime = codes "GeneralizedTime"
builtin_first bi.UtcTime = codes "UTCTime"
builtin_first bi.Time = codes "TIME"
builtin_first bi.Date = codes "DATE"
builtin_first bi.TimeOfDay = codes "TIME-OF-DAY"
builtin_first bi.DateTime = codes "DATE-TIME"
builtin_first bi.Duration = codes "DURATION"

-- the second word, if there is one
abbrev pub builtin_second : Builtin → Option Keyword
builtin_second bi.Boolean = None
builtin_second bi.Null = None
builtin_second bi.Integer = None
builtin_second bi.Real = None
builtin_second bi.Enumerated = None
builtin_second bi.BitString = Some kw.String
builtin_second bi.OctetString = Some kw.String
builtin_second bi.ObjectIdentifier = Some kw.Identifier
builtin_second bi.RelativeOid = None
builtin_second bi.OidIri = None
builtin_second bi.RelativeOidIri = None
builtin_second bi.Sequence = None
builtin_second bi.Set = None
builtin_second bi.Choice = None
builtin_second bi.External = None
builtin_second bi.EmbeddedPdv = Some kw.Pdv
builtin_second bi.CharacterString = Some kw.String
builtin_second bi.BmpString = None
builtin_second bi.GeneralString = None
builtin_second bi.GraphicString = None
builtin_second bi.Ia5String = None
builtin_second bi.Iso646String = None
builtin_second bi.NumericString = None
builtin_second bi.PrintableString = None
builtin_second bi.TeletexString = None
builtin_second bi.T61String = None
builtin_second bi.UniversalString = None
builtin_second bi.Utf8String = None
builtin_second bi.VideotexString = None
builtin_second bi.VisibleString = None
builtin_second bi.ObjectDescriptor = None
builtin_second bi.GeneralizedTime = None
builtin_second bi.UtcTime = None
builtin_second bi.Time = None
builtin_second bi.Date = None
builtin_second bi.TimeOfDay = None
builtin_second bi.DateTime = None
builtin_second bi.Duration = None

-- those that are reserved
abbrev pub keywords : List Keyword
keywords = kw.Absent ∷ kw.AbstractSyntax ∷ kw.All ∷ kw.Application ∷ kw.Automatic ∷ kw.Begin ∷ kw.By ∷ kw.Class ∷ kw.Component ∷ kw.Components ∷ kw.Constrained ∷ kw.Containing ∷ kw.Default ∷ kw.Definitions ∷ kw.Encoded ∷ kw.EncodingControl ∷ kw.End ∷ kw.Except ∷ kw.Explicit ∷ kw.Exports ∷ kw.Extensibility ∷ kw.False ∷ kw.From ∷ kw.Identifier ∷ kw.Implicit ∷ kw.Implied ∷ kw.Imports ∷ kw.Includes ∷ kw.Instance ∷ kw.Instructions ∷ kw.Intersection ∷ kw.Max ∷ kw.Min ∷ kw.MinusInfinity ∷ kw.NotANumber ∷ kw.Of ∷ kw.Optional ∷ kw.Pattern ∷ kw.Pdv ∷ kw.PlusInfinity ∷ kw.Present ∷ kw.Private ∷ kw.Settings ∷ kw.Size ∷ kw.String ∷ kw.Syntax ∷ kw.Tags ∷ kw.True ∷ kw.TypeIdentifier ∷ kw.Union ∷ kw.Unique ∷ kw.Universal ∷ kw.With ∷ []

abbrev pub builtins : List Builtin
builtins = bi.Boolean ∷ bi.Null ∷ bi.Integer ∷ bi.Real ∷ bi.Enumerated ∷ bi.BitString ∷ bi.OctetString ∷ bi.ObjectIdentifier ∷ bi.RelativeOid ∷ bi.OidIri ∷ bi.RelativeOidIri ∷ bi.Sequence ∷ bi.Set ∷ bi.Choice ∷ bi.External ∷ bi.EmbeddedPdv ∷ bi.CharacterString ∷ bi.BmpString ∷ bi.GeneralString ∷ bi.GraphicString ∷ bi.Ia5String ∷ bi.Iso646String ∷ bi.NumericString ∷ bi.PrintableString ∷ bi.TeletexString ∷ bi.T61String ∷ bi.UniversalString ∷ bi.Utf8String ∷ bi.VideotexString ∷ bi.VisibleString ∷ bi.ObjectDescriptor ∷ bi.GeneralizedTime ∷ bi.UtcTime ∷ bi.Time ∷ bi.Date ∷ bi.TimeOfDay ∷ bi.DateTime ∷ bi.Duration ∷ []

-- the first of these that the word is
abbrev pub keyword_among : List ℕ → List Keyword → Option Keyword
keyword_among w [] = None
keyword_among w (k ∷ ks) = if bytes_eq w (keyword_text k) then Some k else keyword_among w ks

abbrev pub builtin_among : List ℕ → List Builtin → Option Builtin
builtin_among w [] = None
builtin_among w (k ∷ ks) = if bytes_eq w (builtin_first k) then Some k else builtin_among w ks

unfoldable pub keyword_of : List ℕ → Option Keyword
keyword_of w = keyword_among w keywords

unfoldable pub builtin_of : List ℕ → Option Builtin
builtin_of w = builtin_among w builtins

abbrev pub is_reserved : List ℕ → Bool
is_reserved w = is_some (keyword_of w) || is_some (builtin_of w)

-- a word that begins with a small letter (12.3, 12.4)
abbrev pub is_identifier : List ℕ → Bool
is_identifier w = starts is_ascii_lowercase w

-- one that begins with a capital and isn't reserved (12.2, 12.5)
abbrev pub is_reference : List ℕ → Bool
is_reference w = not (is_identifier w) && not (is_reserved w)

-- a class that needs no definition (X.681, 8.4 and annexes A and B)
abbrev pub is_useful_class : List ℕ → Bool
is_useful_class w = bytes_eq w (keyword_text kw.TypeIdentifier) || bytes_eq w (keyword_text kw.AbstractSyntax)
