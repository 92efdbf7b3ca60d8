-- A list that rests as an element rests without a default.
use Rattle.std.proofs.Common.{subst}
use Rattle.capnp_arena.specs.Forest.{tree}
use Rattle.capnp_arena.specs.Segment.{segment}
use Rattle.capnp_base.specs.declared.introspect.TypeVariant.{TypeVariant}
use Rattle.capnp_schema.specs.Entries.{lists_seen}
use Rattle.capnp_schema.specs.Types.{seen_type, seen_variant}
use Rattle.capnp_slots.specs.Fills.{ElementRests}
use Rattle.capnp_slots.proofs.ElementFills.{still_rests}
use Rattle.capnp_slots.proofs.element.fill_behind.Goals as goal

pub returns-in-List-clause-rests : goal.returns-in-List-clause-rests
returns-in-List-clause-rests c = λ h.
    c.fill_list.ensures.rests (still_rests (lists_seen c.args.schemas.now) (seen_type c.in-List.element) _
    (subst (λ (v : TypeVariant). ElementRests (lists_seen c.args.schemas.now) (seen_variant v) (tree (segment c.args.arena.now) c.args.at)) c.in-List.is h))
