-- The first byte as it is written, before the rest as it is written, is the whole: so putting it leads on to the bytes behind it.
use Rattle.std.proofs.Common.{List, ap, drop, flat_map, get_or, sym, subst, ℕ, ◌++◌, ◌∙◌}
use Rattle.capnp_json_text.specs.Writing.{byte_written}
use Rattle.capnp_json.specs.Pieces.{said}
use Rattle.capnp_json.specs.Steps.Puts.{IsStopped}
use Rattle.capnp_json.proofs.Puts.{two_first}
use Rattle.capnp_json.proofs.Written.{first_written, written_then}
use Rattle.capnp_json.proofs.strings.put_first.Goals as goal

pub returns-in-Ok-clause-put : goal.returns-in-Ok-clause-put
returns-in-Ok-clause-put c =
    written_then c.args.out.now c.put_byte.new.out c.args.rest.now (byte_written (get_or c.args.rest.now 0 0)) c.behind.result.now
    (first_written c.args.rest.now c.requires ∙ ap (λ (xs : List ℕ). byte_written (get_or c.args.rest.now 0 0) ++ flat_map byte_written xs) (sym c.behind.ensures.is)) c.in-Ok.ensures.put

pub returns-in-Err-clause-stopped : goal.returns-in-Err-clause-stopped
returns-in-Err-clause-stopped c =
    subst (λ (z : List ℕ). IsStopped c.args.out.now (said z) c.in-Err.why) (sym (first_written c.args.rest.now c.requires))
    (two_first c.args.out.now (byte_written (get_or c.args.rest.now 0 0)) (flat_map byte_written (drop 1 c.args.rest.now)) c.in-Err.why c.in-Err.ensures.stopped)
