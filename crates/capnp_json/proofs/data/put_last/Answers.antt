-- The count decides: no byte has no characters, and one or two are the list of just these bytes, for which the text is put.
use Rattle.std.proofs.Common.{List, arith, subst, ℕ}
use Rattle.capnp_json.specs.Leaves.{base64_text}
use Rattle.capnp_json.specs.Pieces.{said}
use Rattle.capnp_json.specs.Steps.Puts.{IsPut, IsStopped}
use Rattle.capnp_json.proofs.ByteSteps.{none_is, one_is, two_is}
use Rattle.capnp_json.proofs.Puts.{err_map, nothing_put, ok_map}
use Rattle.capnp_json.proofs.data.put_last.Goals as goal

pub returns-then-count-eq0-clause-put : goal.returns-then-count-eq0-clause-put
returns-then-count-eq0-clause-put c = subst (λ (z : List ℕ). IsPut c.args.out.now (said (base64_text z)) c.args.out.now) (none_is c.args.bytes.now (omega arith)) (nothing_put c.args.out.now)

pub returns-then-count-eq1-clause-put : goal.returns-then-count-eq1-clause-put
returns-then-count-eq1-clause-put c = ok_map c.put_one.result (subst (λ (z : List ℕ). IsPut c.args.out.now (said (base64_text z)) c.put_one.new.out) (one_is c.args.bytes.now (omega arith))) c.put_one.ensures.put

pub returns-then-count-eq1-clause-stopped : goal.returns-then-count-eq1-clause-stopped
returns-then-count-eq1-clause-stopped c = err_map c.put_one.result (λ why. subst (λ (z : List ℕ). IsStopped c.args.out.now (said (base64_text z)) why) (one_is c.args.bytes.now (omega arith))) c.put_one.ensures.stopped

pub returns-clause-put : goal.returns-clause-put
returns-clause-put c = ok_map c.put_two.result (subst (λ (z : List ℕ). IsPut c.args.out.now (said (base64_text z)) c.put_two.new.out) (two_is c.args.bytes.now (omega arith))) c.put_two.ensures.put

pub returns-clause-stopped : goal.returns-clause-stopped
returns-clause-stopped c = err_map c.put_two.result (λ why. subst (λ (z : List ℕ). IsStopped c.args.out.now (said (base64_text z)) why) (two_is c.args.bytes.now (omega arith))) c.put_two.ensures.stopped
