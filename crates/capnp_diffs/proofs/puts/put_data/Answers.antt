use Rattle.std.proofs.Common.{refl, sym, subst, ◌∷◌, []}
use Rattle.capnp_diffs.specs.Changes.{whole_change}
use Rattle.capnp_diffs.specs.Steps.Adding.{Adds}
use Rattle.capnp_diffs.specs.Steps.Leaves.{data_value}
use Rattle.capnp_call.specs.Seen.{step_seen}
use Rattle.capnp_schema.specs.Types.{DataType}
use Rattle.capnp_diffs.proofs.Whole.{ok_map}
use Rattle.capnp_diffs.proofs.puts.put_data.Goals as goal

pub returns-in-Some-clause-added : goal.returns-in-Some-clause-added
returns-in-Some-clause-added c = ok_map c.put_change.result
    (λ added set. subst (λ o. Adds set c.args.path.now c.args.out.now.items c.put_change.new.out.items (whole_change (step_seen c.args.step) DataType (data_value o) ∷ [])) (sym c.in-Some.is) (added set (refl, refl)))
    c.put_change.ensures.added

pub returns-in-None-clause-added : goal.returns-in-None-clause-added
returns-in-None-clause-added c = ok_map c.put_clear.result
    (λ added set. subst (λ o. Adds set c.args.path.now c.args.out.now.items c.put_clear.new.out.items (whole_change (step_seen c.args.step) DataType (data_value o) ∷ [])) (sym c.in-None.is) (added set))
    c.put_clear.ensures.added
