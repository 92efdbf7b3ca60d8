-- The member's number, 1 to 10, picks the width: the number read at the member's place is what that member's value is made of.
use Rattle.std.proofs.Common.{refl, rules, ◌∙◌}
use Rattle.capnp_sets.specs.Values.{value_by}
use Rattle.capnp_sets.proofs.AppliedReads.{made}
use Rattle.capnp_sets.proofs.PartsRead.{integer_there, number_there, truth_there}
use Rattle.capnp_sets.proofs.values.number_value.Goals as goal

pub returns-in-1-clause-read : goal.returns-in-1-clause-read
unfolding value_by
returns-in-1-clause-read c = rw c.in-1.is (made refl (truth_there _ _ _ c.bool_at.ensures))

pub returns-in-2-clause-read : goal.returns-in-2-clause-read
unfolding value_by
returns-in-2-clause-read c = rw c.in-2.is (made refl (integer_there _ _ _ c.i8_at.ensures) ∙ search rules)

pub returns-in-3-clause-read : goal.returns-in-3-clause-read
unfolding value_by
returns-in-3-clause-read c = rw c.in-3.is (made refl (integer_there _ _ _ c.i16_at.ensures) ∙ search rules)

pub returns-in-4-clause-read : goal.returns-in-4-clause-read
unfolding value_by
returns-in-4-clause-read c = rw c.in-4.is (made refl (integer_there _ _ _ c.i32_at.ensures) ∙ search rules)

pub returns-in-5-clause-read : goal.returns-in-5-clause-read
unfolding value_by
returns-in-5-clause-read c = rw c.in-5.is (made refl (integer_there _ _ _ c.i64_at.ensures) ∙ search rules)

pub returns-in-6-clause-read : goal.returns-in-6-clause-read
unfolding value_by
returns-in-6-clause-read c = rw c.in-6.is (made refl (number_there _ _ _ c.u8_at.ensures))

pub returns-in-7-clause-read : goal.returns-in-7-clause-read
unfolding value_by
returns-in-7-clause-read c = rw c.in-7.is (made refl (number_there _ _ _ c.u16_at.ensures))

pub returns-in-8-clause-read : goal.returns-in-8-clause-read
unfolding value_by
returns-in-8-clause-read c = rw c.in-8.is (made refl (number_there _ _ _ c.u32_at.ensures))

pub returns-in-9-clause-read : goal.returns-in-9-clause-read
unfolding value_by
returns-in-9-clause-read c = rw c.in-9.is (made refl (number_there _ _ _ c.u64_at.ensures))

pub returns-in-10-clause-read : goal.returns-in-10-clause-read
unfolding value_by
returns-in-10-clause-read c = rw c.in-10.is (made refl (number_there _ _ _ c.u16_at-in-10.ensures))
