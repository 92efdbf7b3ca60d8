-- The bytes in front are written as they are, as was asked of their count, so putting them leads on to the bytes behind.
use Rattle.std.proofs.Common.{List, ap, drop, flat_map, sym, subst, take, ℕ, ◌++◌, ◌∙◌}
use Rattle.capnp_json_text.specs.Writing.{byte_written}
use Rattle.capnp_json.specs.Pieces.{said}
use Rattle.capnp_json.specs.Steps.Puts.{IsPut, IsStopped}
use Rattle.capnp_json.proofs.Puts.{two_first}
use Rattle.capnp_json.proofs.Written.{written_then}
use Rattle.capnp_json.proofs.strings.put_run.Goals as goal

pub returns-in-Ok-clause-put : goal.returns-in-Ok-clause-put
returns-in-Ok-clause-put c =
    written_then c.args.out.now c.put.new.self c.args.rest.now (take c.args.count c.args.rest.now) c.behind.result.now
    (c.requires.plain ∙ ap (λ (xs : List ℕ). take c.args.count c.args.rest.now ++ flat_map byte_written xs) (sym c.behind.ensures.is))
    (subst (λ (xs : List ℕ). IsPut c.args.out.now (said xs) c.put.new.self) c.front.ensures c.in-Ok.ensures.put)

pub returns-in-Err-clause-stopped : goal.returns-in-Err-clause-stopped
returns-in-Err-clause-stopped c =
    subst (λ (z : List ℕ). IsStopped c.args.out.now (said z) c.in-Err.why) (sym c.requires.plain)
    (two_first c.args.out.now (take c.args.count c.args.rest.now) (flat_map byte_written (drop c.args.count c.args.rest.now)) c.in-Err.why
    (subst (λ (xs : List ℕ). IsStopped c.args.out.now (said xs) c.in-Err.why) c.front.ensures c.in-Err.ensures.stopped))
