-- The text that is formatted is the number's signed decimal, as its range gives the number back.
-- So its bytes are those to be put.
use Rattle.std.proofs.Common.{List, ap, subst, to_z-of_z, ℕ, ◌∙◌}
use Rattle.std.specs.Fmt.{signed_decimal}
use Rattle.capnp_json.specs.Pieces.{said}
use Rattle.capnp_json.specs.Steps.Puts.{IsPut, IsStopped}
use Rattle.capnp_json.proofs.Puts.{err_map, ok_map}
use Rattle.capnp_json.proofs.numbers.put_signed.Goals as goal

pub returns-in-Ok-clause-put : goal.returns-in-Ok-clause-put
returns-in-Ok-clause-put c = ok_map c.put.result (subst (λ (z : List ℕ). IsPut c.args.out.now (said z) c.put.new.self) (c.as_bytes.ensures.value ∙ (c.in-Ok.ensures ∙ ap signed_decimal (to_z-of_z c.ranges.number)))) c.put.ensures.put

pub returns-in-Ok-clause-stopped : goal.returns-in-Ok-clause-stopped
returns-in-Ok-clause-stopped c = err_map c.put.result (λ why. subst (λ (z : List ℕ). IsStopped c.args.out.now (said z) why) (c.as_bytes.ensures.value ∙ (c.in-Ok.ensures ∙ ap signed_decimal (to_z-of_z c.ranges.number)))) c.put.ensures.stopped
