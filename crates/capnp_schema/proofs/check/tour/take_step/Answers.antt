use Rattle.std.proofs.Common.{arith, sym, ◌∙◌}
use Rattle.capnp_schema.specs.Entries.{lists_seen}
use Rattle.capnp_schema.proofs.Checking.Tours.{skipped, new_none_early, new_none_late}
use Rattle.capnp_schema.proofs.check.tour.take_step.Goals as goal

pub returns-then-is_member_at-clause-stands : goal.returns-then-is_member_at-clause-stands
returns-then-is_member_at-clause-stands c = skipped (lists_seen c.args.lists.now) c.args.tour.now c.args.top _ c.requires (λ end i. new_none_early _ _ _ _ _ _ _ (omega arith) (sym c.is_member_at.ensures ∙ c.if-is_member_at.true) i) c.advanced.ensures

pub returns-clause-stands : goal.returns-clause-stands
returns-clause-stands c = skipped (lists_seen c.args.lists.now) c.args.tour.now c.args.top _ c.requires (λ end i. new_none_late _ _ _ _ _ _ _ _ (omega arith) (omega arith) (sym c.is_member_at-2.ensures ∙ c.if-is_member_at-2.false) i) c.advanced-2.ensures
