-- Only refusals are left: past the last base, at the two floats, at the base that is none and at the interface,
-- the meaning names the same cause.
use Rattle.std.proofs.Common.{refl}
use Rattle.capnp_sets.specs.Causes.{HasCause}
use Rattle.capnp_sets.specs.Types.{base_type_meant}
use Rattle.capnp_sets.proofs.Bases.{past_bases}
use Rattle.capnp_sets.proofs.types.base_type.Goals as goal

pub returns-then-base-gt18-clause-refused : goal.returns-then-base-gt18-clause-refused
returns-then-base-gt18-clause-refused c = past_bases _ c.args.base c.args.number c.if-base-gt18.true

pub returns-in-10-clause-refused : goal.returns-in-10-clause-refused
unfolding base_type_meant HasCause
returns-in-10-clause-refused c = rw c.in-10.is refl

pub returns-in-11-clause-refused : goal.returns-in-11-clause-refused
unfolding base_type_meant HasCause
returns-in-11-clause-refused c = rw c.in-11.is refl

pub returns-in-14-clause-refused : goal.returns-in-14-clause-refused
unfolding base_type_meant HasCause
returns-in-14-clause-refused c = rw c.in-14.is refl

pub returns-in-17-clause-refused : goal.returns-in-17-clause-refused
unfolding base_type_meant HasCause
returns-in-17-clause-refused c = rw c.in-17.is refl
