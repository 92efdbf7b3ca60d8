-- A member without a free mark breaks the one-to-one of members and values.
-- If all members have marks, each value has a member just where all marks are set.
use Rattle.std.proofs.Common.{ap, sym, refl, ◌∙◌, map, arith}
use Rattle.capnp_schema.specs.Schema.{seen_node, seen_field}
use Rattle.capnp_schema.proofs.Members.{all_decided, marked_all}
use Rattle.capnp_schema.proofs.check.unions.all_marked.Goals as goal

pub returns-then-not-mark_members : goal.returns-then-not-mark_members
returns-then-not-mark_members c = (λ e. cc, λ each. absurd (c.if-not-mark_members.ensures.not_so refl (seen_node c.args.node.now) (ap (map seen_field) (sym c.deref.ensures.value)) (sym c.requires.counted) each))

pub returns : goal.returns
returns c = all_decided (seen_node c.args.node.now) c.mark_members.new.marks c.all_set.result
    (marked_all c.args.node.now.body.fields.items c.deref.result.now c.mark_members.new.marks c.deref.ensures.value (c.if-not-mark_members.ensures.yes refl).1)
    ((c.if-not-mark_members.ensures.yes refl).0 ∙ c.requires.counted) (let h = c.requires.counted in let few = c.requires.few in omega arith) c.all_set.ensures.yes c.all_set.ensures.not_so
