-- The walk keeps that the fields before have told what differs in them, in their turns, and that their defaults are known.
-- At the end these are all fields.
use Rattle.std.proofs.Common.{ℕ, ◌≡◌, ◌+◌, ◌*◌, length, arith, below_more, subst}
use Rattle.capnp_schema.specs.Entries.{lists_seen}
use Rattle.capnp_schema.specs.Schema.{fields_of}
use Rattle.capnp_differences.specs.Steps.Telling.{AreKnown, IsKnownAt, IsOfFields, Orders, Tells}
use Rattle.capnp_differences.proofs.Tellings.{fields_more, fields_none}
use Rattle.capnp_differences.proofs.Turns.{fields_on, fields_start}
use Rattle.capnp_differences.proofs.fields.tell_fields.Goals as goal

pub loop-i-init : goal.loop-i-init
loop-i-init c = (fields_none (lists_seen c.args.schemas.now) c.args.pair c.args.told.now.items, λ i lt. absurd (omega arith), fields_start c.args.pair c.args.told.now.items)

pub loop-i-preserved : goal.loop-i-preserved
loop-i-preserved c = (
  fields_more (lists_seen c.args.schemas.now) c.args.pair c.loop-i.i c.args.told.now.items c.loop-i.told.items c.tell_field.new.told.items c.loop-i.invariant.0 c.in_ok-tell_field.ensures.told,
  below_more (IsKnownAt (lists_seen c.args.schemas.now) c.args.pair.older c.args.pair.newer) c.loop-i.i c.loop-i.invariant.1 c.in_ok-tell_field.ensures.known,
  fields_on c.args.pair c.loop-i.i c.args.told.now.items c.loop-i.told.items c.tell_field.new.told.items c.loop-i.invariant.2 c.in_ok-tell_field.ensures.turn,
)

pub returns-clause-told : goal.returns-clause-told
returns-clause-told c =
    let all : c.loop-i.i ≡ length (fields_of (lists_seen c.args.schemas.now) c.args.pair.older) = omega arith in
    subst (λ (n : ℕ). Tells c.args.told.now.items c.loop-i.told.items (IsOfFields (lists_seen c.args.schemas.now) c.args.pair n)) all c.loop-i.invariant.0

pub returns-clause-known : goal.returns-clause-known
returns-clause-known c =
    let all : c.loop-i.i ≡ length (fields_of (lists_seen c.args.schemas.now) c.args.pair.older) = omega arith in
    subst (λ (n : ℕ). AreKnown (lists_seen c.args.schemas.now) c.args.pair.older c.args.pair.newer n) all c.loop-i.invariant.1

pub returns-clause-turn : goal.returns-clause-turn
returns-clause-turn c =
    let all : c.loop-i.i ≡ length (fields_of (lists_seen c.args.schemas.now) c.args.pair.older) = omega arith in
    subst (λ (n : ℕ). Orders c.args.told.now.items c.loop-i.told.items c.args.pair 13 (13 * (n + 1))) all c.loop-i.invariant.2
