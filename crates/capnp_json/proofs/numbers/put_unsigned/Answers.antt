-- The bytes of the buffer behind the start are the number's decimal, so what comes of putting them comes of the number.
use Rattle.std.proofs.Common.{List, subst, ℕ, ◌∙◌}
use Rattle.capnp_json.specs.Pieces.{said}
use Rattle.capnp_json.specs.Steps.Puts.{IsPut, IsStopped}
use Rattle.capnp_json.proofs.Puts.{err_map, ok_map}
use Rattle.capnp_json.proofs.numbers.put_unsigned.Goals as goal

pub returns-clause-put : goal.returns-clause-put
returns-clause-put c = ok_map c.put.result (subst (λ (z : List ℕ). IsPut c.args.out.now (said z) c.put.new.self) (c.behind.ensures.is ∙ c.write_digits-start.ensures.written)) c.put.ensures.put

pub returns-clause-stopped : goal.returns-clause-stopped
returns-clause-stopped c = err_map c.put.result (λ why. subst (λ (z : List ℕ). IsStopped c.args.out.now (said z) why) (c.behind.ensures.is ∙ c.write_digits-start.ensures.written)) c.put.ensures.stopped
