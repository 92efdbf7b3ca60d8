-- At a struct or at a list.
use Rattle.std.proofs.Common.{subst, sym}
use Rattle.capnp_arena.specs.Segment.{segment}
use Rattle.capnp_call.specs.Steps.Hops.{HopGoes, IsAt, HopLeads, first_step}
use Rattle.capnp_call.specs.declared.hop.At.{At}
use Rattle.capnp_call.proofs.hop.hop.Goals as goal

pub hop_field-requires : goal.hop_field-requires
hop_field-requires c = subst (λ (x : At). IsAt x (segment c.args.arena.now)) c.in-Struct.is c.requires

pub returns-in-Struct : goal.returns-in-Struct
returns-in-Struct c = subst (λ (x : At). HopLeads (first_step (HopGoes x (segment c.args.arena.now)) c.args.step.now) c.hop_field.result (segment c.hop_field.new.arena)) (sym c.in-Struct.is) c.hop_field.ensures

pub hop_element-requires : goal.hop_element-requires
hop_element-requires c = subst (λ (x : At). IsAt x (segment c.args.arena.now)) c.in-List.is c.requires

pub returns-in-List : goal.returns-in-List
returns-in-List c = subst (λ (x : At). HopLeads (first_step (HopGoes x (segment c.args.arena.now)) c.args.step.now) c.hop_element.result (segment c.hop_element.new.arena)) (sym c.in-List.is) c.hop_element.ensures
