-- The active member of the pointer's group decides: 0 and 2 are untyped, 1 is what is bound to the parameter,
-- and none or another is an unknown kind.
use Rattle.std.proofs.Common.{ap, arith, sym, ◌∙◌, Err}
use Rattle.capnp_request.specs.Steps.Seen.{record_seen}
use Rattle.capnp_request.specs.Steps.Bindings.{bounds}
use Rattle.capnp_request.proofs.TypesDone.{untyped_bound, untyped_free, untyped_method, untyped_none, untyped_past}
use Rattle.capnp_request.proofs.types.untyped_or_bound.Goals as goal

pub returns-in_default-clause-done : goal.returns-in_default-clause-done
returns-in_default-clause-done c = λ nodes strict s n.
    untyped_none nodes strict (bounds c.args.inside.now) _ (record_seen c.group_at-pointer.result) c.group_at-pointer.ensures.read s (sym c.untyped_member.ensures ∙ c.in_default.is) ∙ ap (λ k. Err k) (sym c.from.ensures)

pub returns-in-0-clause-done : goal.returns-in-0-clause-done
returns-in-0-clause-done c = λ nodes strict s.
    untyped_free nodes strict (bounds c.args.inside.now) _ (record_seen c.group_at-pointer.result) c.group_at-pointer.ensures.read s c.in-Some.member (sym c.untyped_member.ensures ∙ c.in-Some.is) _ c.in-0.is c.untyped.ensures

pub returns-in-2-clause-done : goal.returns-in-2-clause-done
returns-in-2-clause-done c = λ nodes strict s.
    untyped_method nodes strict (bounds c.args.inside.now) _ (record_seen c.group_at-pointer.result) c.group_at-pointer.ensures.read s c.in-Some.member (sym c.untyped_member.ensures ∙ c.in-Some.is) _ c.in-2.is c.untyped-in-2.ensures

pub returns-in-1-clause-done : goal.returns-in-1-clause-done
returns-in-1-clause-done c = λ nodes strict s.
    untyped_bound nodes strict (bounds c.args.inside.now) _ (record_seen c.group_at-pointer.result) c.group_at-pointer.ensures.read s c.in-Some.member (sym c.untyped_member.ensures ∙ c.in-Some.is) _ c.in-1.is
    (record_seen c.group_at-parameter.result) c.u64_at-scope.result c.u16_at-index.result c.group_at-parameter.ensures.read c.u64_at-scope.ensures c.u16_at-index.ensures c.bound_to.ensures

pub returns-in_default-member-clause-done : goal.returns-in_default-member-clause-done
returns-in_default-member-clause-done c = λ nodes strict s n.
    untyped_past nodes strict (bounds c.args.inside.now) _ (record_seen c.group_at-pointer.result) c.group_at-pointer.ensures.read s c.in-Some.member (sym c.untyped_member.ensures ∙ c.in-Some.is)
    (omega arith) ∙ ap (λ k. Err k) (sym c.from-in_default-member.ensures)
