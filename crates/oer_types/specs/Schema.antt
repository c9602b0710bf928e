-- The shape and the type of a `Schema`.
use Rattle.oer_model.specs.AsnType.{AsnType}
use Rattle.oer_values.specs.ShapeView.{type_of}
use Rattle.oer_types.specs.declared.schema.Schema.{Schema}
use Rattle.oer_values.specs.declared.shape.Shape.{Shape}

abbrev pub shape_of : Schema → Shape
shape_of schema = schema.shape

abbrev pub the_type : Schema → AsnType
the_type schema = type_of (shape_of schema)
