-- The text that is formatted is the number's signed decimal, as its range gives the number back, and it is put between quotes.
use Rattle.std.proofs.Common.{List, ap, subst, to_z-of_z, ℕ, ◌∙◌}
use Rattle.std.specs.Fmt.{signed_decimal}
use Rattle.capnp_json.specs.Leaves.{quoted}
use Rattle.capnp_json.specs.Pieces.{said}
use Rattle.capnp_json.specs.Steps.Puts.{IsPut, IsStopped}
use Rattle.capnp_json.proofs.Puts.{err_map, ok_map}
use Rattle.capnp_json.proofs.numbers.put_wide_signed.Goals as goal

pub returns-in-Ok-clause-put : goal.returns-in-Ok-clause-put
returns-in-Ok-clause-put c = ok_map c.put_quoted.result (subst (λ (z : List ℕ). IsPut c.args.out.now (said (quoted z)) c.put_quoted.new.out) (c.as_bytes.ensures.value ∙ (c.in-Ok.ensures ∙ ap signed_decimal (to_z-of_z c.ranges.number)))) c.put_quoted.ensures.put

pub returns-in-Ok-clause-stopped : goal.returns-in-Ok-clause-stopped
returns-in-Ok-clause-stopped c = err_map c.put_quoted.result (λ why. subst (λ (z : List ℕ). IsStopped c.args.out.now (said (quoted z)) why) (c.as_bytes.ensures.value ∙ (c.in-Ok.ensures ∙ ap signed_decimal (to_z-of_z c.ranges.number)))) c.put_quoted.ensures.stopped
