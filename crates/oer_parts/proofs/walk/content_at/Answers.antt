use Rattle.oer_parts.proofs.Pairs.{counted_cut, counted_read, counted_unread}
use Rattle.std.proofs.Common.{refl}
use Rattle.oer_checker.specs.Places.{place_of}
use Rattle.oer_parts.proofs.Standing.{counted_stands}
use Rattle.oer_parts.proofs.walk.content_at.Goals as goal

pub returns-in_default-clause-read : goal.returns-in_default-clause-read
returns-in_default-clause-read c = counted_unread _ _ _ c.in_default.ensures

pub returns-in_default-group_at-clause-read : goal.returns-in_default-group_at-clause-read
returns-in_default-group_at-clause-read c = counted_cut _ _ c.in-Ok.counted.count c.in-Ok.counted.is_least _ _ c.in-Ok.ensures c.in_default-group_at.ensures

pub returns-clause-read : goal.returns-clause-read
returns-clause-read c = counted_read _ _ _ c.in-Ok.counted.count c.in-Ok.counted.is_least _ c.in-Ok.ensures c.in-Ok-group_at.ensures

pub returns-clause-stands : goal.returns-clause-stands
returns-clause-stands c = counted_stands (place_of c.args.cursor) (place_of c.sized_length_at.new.at) _ c.in-Ok.counted.count c.in-Ok.counted.is_least _ _ c.in-Ok.ensures c.in-Ok-group_at.ensures refl
