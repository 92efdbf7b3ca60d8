-- One more enum.
use Rattle.std.proofs.Common.{ℕ, List, [], ◌∷◌, ◌+◌, drop, arith, refl, rules, string_bytes}
use Rattle.capnp_schema.specs.Schema.{Schemas}
use Rattle.capnp_structs.specs.Enums.{enum_lines}
use Rattle.capnp_schema.specs.Entries.{lists_seen}
use Rattle.capnp_structs.proofs.EnumsPut.{enum_refused, first_enum, next_enum, no_enum_left}
use Rattle.capnp_structs.proofs.Stopped.{handed_on, stopped_left}
use Rattle.capnp_structs.proofs.TextsThere.{enums_there}
use Rattle.capnp_structs.proofs.enums.put_enum_lines.Goals as goal

pub loop-number-init : goal.loop-number-init
loop-number-init c = ([], λ e. search rules, λ new put. put)

pub loop-number-preserved : goal.loop-number-preserved
loop-number-preserved c =
    next_enum (lists_seen c.args.schemas.now) c.args.enums.now c.loop-number.number-index _ c.loop-number.met c.put_new_enum.new.met (string_bytes c.args.out.now) _ _ _ c.loop-number-test.true refl c.loop-number.invariant c.in_ok-put_new_enum.ensures.met
    c.in_ok-put_new_enum.ensures.put

pub returns-clause-put : goal.returns-clause-put
returns-clause-put c =
    no_enum_left (lists_seen c.args.schemas.now) c.args.enums.now c.loop-number.number-index c.loop-number.met (string_bytes c.args.out.now) _ (string_bytes c.loop-number.out) (omega (arith, c.loop-number-test.false)) c.loop-number.invariant

pub returns-in_err-put_new_enum-clause-stopped : goal.returns-in_err-put_new_enum-clause-stopped
returns-in_err-put_new_enum-clause-stopped c =
    let set : Schemas = lists_seen c.args.schemas.now in
    let enums : List ℕ = c.args.enums.now in
    let i : ℕ = c.loop-number.number-index in
    let start : List ℕ = string_bytes c.args.out.now in
    let text : List ℕ = string_bytes c.loop-number.out in
    let ids : List ℕ = c.loop-number.invariant.0 in
    handed_on c.from_residual.result _ c.args.limit start _ c.from_residual.ensures.1
    (stopped_left c.args.limit start _ _ (enum_lines set (_ ∷ ids) (drop (i + 1) enums)) text _
    (first_enum set enums i _ c.loop-number.met start _ text c.loop-number-test.true refl ids c.loop-number.invariant.1 c.loop-number.invariant.2) (enums_there set (_ ∷ ids) (drop (i + 1) enums))
    (enum_refused set enums i _ c.loop-number-test.true refl) c.in_err-put_new_enum.ensures.stopped)
