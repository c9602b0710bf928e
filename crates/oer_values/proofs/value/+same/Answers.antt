use Rattle.std.proofs.Common.{arith, rules}
use Rattle.std.proofs.lemmas.Grind.{common_steps}
use Rattle.oer_values.proofs.Values.{values_of-none, places_of-none, values}
use Rattle.oer_values.specs.declared.value.Value.{the_lemmas}
use Rattle.oer_values.proofs.value.+same.Goals as goal

pub same_places-returns : goal.same_places-returns
same_places-returns t c = grind (arith, common_steps, places_of-none)

pub same_values-returns : goal.same_values-returns
same_values-returns t c = grind (arith, common_steps, values_of-none)

-- the tactic that proves each, so that no other is tried before it
pub same-returns-in-Bool-Bool : goal.same-returns-in-Bool-Bool
same-returns-in-Bool-Bool t c = search (rules, the_lemmas)

pub same-returns-in-Null-Null : goal.same-returns-in-Null-Null
same-returns-in-Null-Null t c = search (rules, the_lemmas)

pub same-returns-in-Int-Int : goal.same-returns-in-Int-Int
same-returns-in-Int-Int t c = search (rules, the_lemmas)

pub same-returns-in-Enum-Enum : goal.same-returns-in-Enum-Enum
same-returns-in-Enum-Enum t c = search (rules, the_lemmas)

pub same-returns-in-Bits-Bits : goal.same-returns-in-Bits-Bits
same-returns-in-Bits-Bits t c = search (rules, the_lemmas)

pub same-returns-in-Octets-Octets : goal.same-returns-in-Octets-Octets
same-returns-in-Octets-Octets t c = search (rules, the_lemmas)

pub same-returns-in-Text-Text : goal.same-returns-in-Text-Text
same-returns-in-Text-Text t c = search (rules, the_lemmas)

pub same-returns-in-Oid-Oid : goal.same-returns-in-Oid-Oid
same-returns-in-Oid-Oid t c = search (rules, the_lemmas)

pub same-returns-then-same_places-2 : goal.same-returns-then-same_places-2
same-returns-then-same_places-2 t c = grind (arith, values)

pub same-returns-else-same_places-2 : goal.same-returns-else-same_places-2
same-returns-else-same_places-2 t c = grind (arith, values)

pub same-returns-in-List-List : goal.same-returns-in-List-List
same-returns-in-List-List t c = search (rules, the_lemmas)

pub same-returns-then-eq : goal.same-returns-then-eq
same-returns-then-eq t c = search (rules, the_lemmas)

pub same-returns-else-eq : goal.same-returns-else-eq
same-returns-else-eq t c = search (rules, the_lemmas)

pub same-returns-then-eq-2 : goal.same-returns-then-eq-2
same-returns-then-eq-2 t c = search (rules, the_lemmas)

pub same-returns-else-eq-2 : goal.same-returns-else-eq-2
same-returns-else-eq-2 t c = search (rules, the_lemmas)

pub same-returns-in_default : goal.same-returns-in_default
same-returns-in_default t c = search (rules, the_lemmas)

pub same-returns-in_default-2 : goal.same-returns-in_default-2
same-returns-in_default-2 t c = search (rules, the_lemmas)

pub same-returns-in_default-3 : goal.same-returns-in_default-3
same-returns-in_default-3 t c = search (rules, the_lemmas)

pub same-returns-in_default-4 : goal.same-returns-in_default-4
same-returns-in_default-4 t c = search (rules, the_lemmas)

pub same-returns-in_default-5 : goal.same-returns-in_default-5
same-returns-in_default-5 t c = search (rules, the_lemmas)

pub same-returns-in_default-6 : goal.same-returns-in_default-6
same-returns-in_default-6 t c = search (rules, the_lemmas)

pub same-returns-in_default-7 : goal.same-returns-in_default-7
same-returns-in_default-7 t c = search (rules, the_lemmas)

pub same-returns-in_default-8 : goal.same-returns-in_default-8
same-returns-in_default-8 t c = search (rules, the_lemmas)

pub same-returns-in_default-9 : goal.same-returns-in_default-9
same-returns-in_default-9 t c = search (rules, the_lemmas)

pub same-returns-in_default-10 : goal.same-returns-in_default-10
same-returns-in_default-10 t c = search (rules, the_lemmas)

pub same-returns-in_default-11 : goal.same-returns-in_default-11
same-returns-in_default-11 t c = search (rules, the_lemmas)

pub same-returns-in_default-12 : goal.same-returns-in_default-12
same-returns-in_default-12 t c = search (rules, the_lemmas)

pub same_places-returns-in_default : goal.same_places-returns-in_default
same_places-returns-in_default t c = grind (arith, common_steps)

pub same_places-returns-in_default-2 : goal.same_places-returns-in_default-2
same_places-returns-in_default-2 t c = grind (arith, common_steps)

pub same_places-returns-in_default-2-2 : goal.same_places-returns-in_default-2-2
same_places-returns-in_default-2-2 t c = grind (arith, common_steps)

pub same_places-returns-in_default-2-3 : goal.same_places-returns-in_default-2-3
same_places-returns-in_default-2-3 t c = grind (arith, common_steps)

pub same_places-loop-one-preserved : goal.same_places-loop-one-preserved
same_places-loop-one-preserved t c = grind (arith, common_steps)

pub same_values-returns-in_default : goal.same_values-returns-in_default
same_values-returns-in_default t c = grind (arith, common_steps)

pub same_values-returns-then-not-same : goal.same_values-returns-then-not-same
same_values-returns-then-not-same t c = grind (arith, common_steps)

pub same_values-loop-one-preserved : goal.same_values-loop-one-preserved
same_values-loop-one-preserved t c = grind (arith, common_steps)
