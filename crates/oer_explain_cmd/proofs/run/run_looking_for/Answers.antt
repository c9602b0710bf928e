use Rattle.std.proofs.Common.{map, string_bytes}
use Rattle.oer_types.specs.Schema.{the_type}
use Rattle.oer_explain_cmd.specs.Saying.{items_in}
use Rattle.oer_explain_cmd.proofs.Adds.{front_seen}
use Rattle.oer_explain_cmd.proofs.Endings.{ends_for_anyhow}
use Rattle.oer_explain_cmd.proofs.run.run_looking_for.Goals as goal

pub returns-clause-looks : goal.returns-clause-looks
returns-clause-looks g c = record {
  found = g.R.Read.remaining c.ready-front.new.input;
  keeps = c.ready-front.ensures.keeps;
  front = items_in c.ready-front.result;
  seen = front_seen _ c.ready-front.result c.ready-front.ensures.front;
  done = (_, ends_for_anyhow c.args.command (the_type c.args.schema.now) (map string_bytes c.args.words.now) _ _ _ _ _ _ _ c.run_without_for-status.ensures.ends, c.add_front_for.ensures);
}
