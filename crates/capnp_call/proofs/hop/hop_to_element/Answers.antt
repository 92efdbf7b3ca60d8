-- An element of another type leads nowhere.
use Rattle.std.proofs.Common.{ap, subst, sym, ◌∙◌}
use Rattle.capnp_device.specs.declared.error.ErrorKind.TheVariants.{NotAContainer, UntypedStep}
use Rattle.capnp_arena.specs.Forest.{tree}
use Rattle.capnp_arena.specs.Segment.{segment}
use Rattle.capnp_schema.specs.Entries.{lists_seen}
use Rattle.capnp_schema.specs.Facts.Layers.{seen_which}
use Rattle.capnp_schema.specs.Types.{SchemaType, seen_type, seen_variant}
use Rattle.capnp_call.proofs.Hopping.{element_refused}
use Rattle.capnp_call.proofs.ListWalks.{other_stops, untyped_stops}
use Rattle.capnp_call.specs.Steps.Hops.{ElementGoes, HopLeads}
use Rattle.capnp_call.specs.Steps.Lists.{ElementWalks}
use Rattle.capnp_call.specs.declared.calls.Reply.TheVariants as reply
use Rattle.capnp_call.proofs.hop.hop_to_element.Goals as goal

pub returns-in-AnyPointer : goal.returns-in-AnyPointer
returns-in-AnyPointer c = λ rest end.
    let set = lists_seen c.args.schemas.now in
    element_refused c.args.word set (seen_type c.args.element) c.args.index rest end (segment c.args.arena.now) _ UntypedStep c.requires.stands.forest c.from.ensures
    (untyped_stops set (seen_type c.args.element) (tree (segment c.args.arena.now) c.args.word) c.args.index rest end c.requires.inside
    (ap seen_variant (sym c.in-AnyPointer.is) ∙ (ap seen_variant c.which.ensures ∙ seen_which c.args.element)))

pub returns-in_default : goal.returns-in_default
returns-in_default c = λ rest end.
    let set = lists_seen c.args.schemas.now in
    let x = tree (segment c.args.arena.now) c.args.word in
    element_refused c.args.word set (seen_type c.args.element) c.args.index rest end (segment c.args.arena.now) _ NotAContainer c.requires.stands.forest c.from-in_default.ensures
    (subst (λ (e : SchemaType). ElementWalks set e c.args.index rest end x (reply.Refused NotAContainer) x) (ap seen_variant c.which.ensures ∙ seen_which c.args.element)
    (other_stops set c.which.result x c.args.index rest end c.requires.inside c.in_default.not-Struct c.in_default.not-List c.in_default.not-AnyPointer))

pub returns-in-List : goal.returns-in-List
returns-in-List c =
    subst (λ (e : SchemaType). HopLeads (ElementGoes c.args.word (lists_seen c.args.schemas.now) e c.args.index (segment c.args.arena.now)) c.hop_to_list_in.result (segment c.hop_to_list_in.new.arena))
    (ap seen_variant c.in-List.ensures ∙ seen_which c.args.element) c.hop_to_list_in.ensures
