use Rattle.oer_model.specs.Checking.{check_value}
use Rattle.oer_values.specs.ShapeView.{type_of}
use Rattle.oer_checker.specs.Places.{place_of}
use Rattle.oer_parts.proofs.Lasts.{last_read}
use Rattle.oer_parts.proofs.Pairs.{unread, value_read}
use Rattle.oer_parts.proofs.walk.encoding_at.Goals as goal

pub returns-then-is_last : goal.returns-then-is_last
returns-then-is_last c = last_read (check_value (type_of c.args.shape.now)) (place_of c.args.cursor) (c.requires.last c.if-is_last.true)

pub returns-in_default : goal.returns-in_default
returns-in_default c = unread (check_value (type_of c.args.shape.now)) _ _ _ c.in_default.ensures

pub returns : goal.returns
returns c = value_read (check_value (type_of c.args.shape.now)) _ _ _ _ c.in-Ok.ensures c.octets_between.ensures
