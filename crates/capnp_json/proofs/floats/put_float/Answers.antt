-- Whether the bits have a decimal decides: finite ones are written as a number, and others as what is said of infinite floats.
use Rattle.std.proofs.Common.{subst}
use Rattle.capnp_json.specs.Pieces.{Out}
use Rattle.capnp_json.specs.Steps.Puts.{IsPut, IsStopped}
use Rattle.capnp_json.proofs.FiniteFloats.{finite_json, no_finite_json}
use Rattle.capnp_json.proofs.Puts.{err_map, ok_map}
use Rattle.capnp_json.proofs.floats.put_float.Goals as goal

pub returns-in-Some-clause-put : goal.returns-in-Some-clause-put
returns-in-Some-clause-put c = ok_map c.put_number.result (subst (λ (o : Out). IsPut c.args.out.now o c.put_number.new.out) (finite_json c.args.width c.args.bits c.in-Some.ensures.finite)) c.put_number.ensures.put

pub returns-in-Some-clause-stopped : goal.returns-in-Some-clause-stopped
returns-in-Some-clause-stopped c = err_map c.put_number.result (λ why. subst (λ (o : Out). IsStopped c.args.out.now o why) (finite_json c.args.width c.args.bits c.in-Some.ensures.finite)) c.put_number.ensures.stopped

pub returns-in-None-clause-put : goal.returns-in-None-clause-put
returns-in-None-clause-put c = ok_map c.put_infinite.result (subst (λ (o : Out). IsPut c.args.out.now o c.put_infinite.new.out) (no_finite_json c.args.width c.args.bits c.in-None.ensures.finite)) c.put_infinite.ensures.put

pub returns-in-None-clause-stopped : goal.returns-in-None-clause-stopped
returns-in-None-clause-stopped c = err_map c.put_infinite.result (λ why. subst (λ (o : Out). IsStopped c.args.out.now o why) (no_finite_json c.args.width c.args.bits c.in-None.ensures.finite)) c.put_infinite.ensures.stopped
