-- The text is of a number that these bits have, and as decimals are unique it is the number of the JSON.
-- Where it stops, each such text would.
use Rattle.std.proofs.Common.{List, subst, string_bytes, ℕ}
use Rattle.capnp_json.specs.Pieces.{said}
use Rattle.capnp_json.specs.Steps.Puts.{IsPut, IsStopped}
use Rattle.capnp_json.proofs.Puts.{err_map, number_as, number_stopped, ok_map}
use Rattle.capnp_json.proofs.floats.put_number.Goals as goal

pub returns-in-Ok-clause-put : goal.returns-in-Ok-clause-put
returns-in-Ok-clause-put c =
    ok_map c.put.result
    (λ h. number_as c.decimals_are_unique.ensures c.args.out.now c.put.new.self c.args.width c.args.bits (string_bytes c.in-Ok.text) c.in-Ok.ensures
    (subst (λ (z : List ℕ). IsPut c.args.out.now (said z) c.put.new.self) c.as_bytes.ensures.value h)) c.put.ensures.put

pub returns-in-Ok-clause-stopped : goal.returns-in-Ok-clause-stopped
returns-in-Ok-clause-stopped c =
    err_map c.put.result
    (λ why h. number_stopped c.decimals_are_unique.ensures c.args.out.now c.args.width c.args.bits (string_bytes c.in-Ok.text) c.in-Ok.ensures why
    (subst (λ (z : List ℕ). IsStopped c.args.out.now (said z) why) c.as_bytes.ensures.value h)) c.put.ensures.stopped
