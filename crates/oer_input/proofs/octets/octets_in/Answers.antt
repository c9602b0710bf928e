use Rattle.oer_input.proofs.Spelling.{rejected, sounds}
use Rattle.oer_input.proofs.octets.octets_in.Goals as goal

pub returns-in-Hex-clause-spells : goal.returns-in-Hex-clause-spells
returns-in-Hex-clause-spells c = sounds c.args.coding c.args.text.now c.hex_octets.result (rw c.in-Hex.is c.hex_octets.ensures)

pub returns-in-Hex-clause-rejects : goal.returns-in-Hex-clause-rejects
returns-in-Hex-clause-rejects c = rejected c.args.coding c.args.text.now c.hex_octets.result (rw c.in-Hex.is c.hex_octets.ensures)

pub returns-in-Base64-clause-spells : goal.returns-in-Base64-clause-spells
returns-in-Base64-clause-spells c = sounds c.args.coding c.args.text.now c.base64_octets.result (rw c.in-Base64.is c.base64_octets.ensures)

pub returns-in-Base64-clause-rejects : goal.returns-in-Base64-clause-rejects
returns-in-Base64-clause-rejects c = rejected c.args.coding c.args.text.now c.base64_octets.result (rw c.in-Base64.is c.base64_octets.ensures)
