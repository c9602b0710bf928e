use Rattle.oer_model.proofs.Examples.{booleans, integers, integer_forms, enumerations, octet_strings, bit_strings, object_ids, strings, sequences, extensions, unknown_additions, lists, choices, checkings, farthest, paths_followed, boundaries}
use Rattle.oer_model.proofs.laws.worked_examples.Goals as goal

pub returns-clause-booleans : goal.returns-clause-booleans
returns-clause-booleans c = booleans

pub returns-clause-integers : goal.returns-clause-integers
returns-clause-integers c = integers

pub returns-clause-integer_forms : goal.returns-clause-integer_forms
returns-clause-integer_forms c = integer_forms

pub returns-clause-enumerations : goal.returns-clause-enumerations
returns-clause-enumerations c = enumerations

pub returns-clause-octet_strings : goal.returns-clause-octet_strings
returns-clause-octet_strings c = octet_strings

pub returns-clause-bit_strings : goal.returns-clause-bit_strings
returns-clause-bit_strings c = bit_strings

pub returns-clause-object_ids : goal.returns-clause-object_ids
returns-clause-object_ids c = object_ids

pub returns-clause-strings : goal.returns-clause-strings
returns-clause-strings c = strings

pub returns-clause-sequences : goal.returns-clause-sequences
returns-clause-sequences c = sequences

pub returns-clause-extensions : goal.returns-clause-extensions
returns-clause-extensions c = extensions

pub returns-clause-unknown_additions : goal.returns-clause-unknown_additions
returns-clause-unknown_additions c = unknown_additions

pub returns-clause-lists : goal.returns-clause-lists
returns-clause-lists c = lists

pub returns-clause-choices : goal.returns-clause-choices
returns-clause-choices c = choices

pub returns-clause-checkings : goal.returns-clause-checkings
returns-clause-checkings c = checkings

pub returns-clause-farthest : goal.returns-clause-farthest
returns-clause-farthest c = farthest

pub returns-clause-paths_followed : goal.returns-clause-paths_followed
returns-clause-paths_followed c = paths_followed

pub returns-clause-boundaries : goal.returns-clause-boundaries
returns-clause-boundaries c = boundaries
