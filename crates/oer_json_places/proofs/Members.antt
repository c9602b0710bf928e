-- The one member of an object.
use Rattle.std.proofs.Common.{◌≡◌, Option, Some, None, ap}
use Rattle.serde_json.specs.Data.{Data, Members}
use Rattle.serde_json.specs.Find.{as_object}
use Rattle.oer_json.specs.Answer.{◌>>=◌, some_or}
use Rattle.oer_json.specs.Take.{one_member, only_member}
use Rattle.oer_json.specs.declared.fault.JsonFault.TheVariants.{Kind}
use Rattle.oer_json_places.specs.Next.{ok_of}

pub of_none : (j : Data) → as_object j ≡ None → ok_of (one_member j) ≡ None
unfolding one_member
of_none j e = ap (λ (o : Option Members). ok_of (some_or Kind o >>= only_member)) e

pub of_object : (j : Data) (ms : Members) → as_object j ≡ Some ms → ok_of (one_member j) ≡ ok_of (only_member ms)
unfolding one_member
of_object j ms e = ap (λ (o : Option Members). ok_of (some_or Kind o >>= only_member)) e
