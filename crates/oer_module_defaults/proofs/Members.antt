-- The members of braces, level by level, beside what they stand for.
use Rattle.std.proofs.Common.{◌≡◌, map, rules}
use Rattle.oer_module_terms.proofs.Views.{value_of-Atom, value_of-Numbered, value_of-Choice, value_of-Braces}
use Rattle.oer_module_terms.specs.Trees.{member_of, parts_from, value_of}
use Rattle.oer_module_terms.specs.declared.tree.Member.{Member}
use Rattle.oer_module_terms.specs.declared.tree.Value.{the_lemmas}

pub member_of-is : (m : Member) → member_of m ≡ parts_from (map value_of m.parts.items)
member_of-is m = search (rules, the_lemmas)

-- each level
pub ruleset levels = (value_of-Atom, value_of-Numbered, value_of-Choice, value_of-Braces, member_of-is)
