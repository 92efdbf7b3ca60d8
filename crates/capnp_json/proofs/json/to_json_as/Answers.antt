-- The output begins empty, so what the root put there is a JSON of the value, and the only one.
-- What stops it there is a refusal under the limit.
use Rattle.std.proofs.Common.{subst}
use Rattle.capnp_records.specs.Text.{Layout}
use Rattle.capnp_json.specs.Steps.Puts.{IsPut, IsStopped}
use Rattle.capnp_json.specs.Steps.Shown.{root_shown}
use Rattle.capnp_json.specs.Written.{written_json_as}
use Rattle.capnp_json.proofs.ListSteps.{only_alone, put_alone, stopped_alone}
use Rattle.capnp_json.proofs.json.to_json_as.Goals as goal

pub returns-in-Ok-clause-json : goal.returns-in-Ok-clause-json
returns-in-Ok-clause-json c =
    put_alone c.new-out.result c.put_root.new.out (written_json_as c.args.form c.args.indented c.args.value) c.finish.result.items c.new-out.ensures.made c.finish.ensures
    (subst (λ (at : Layout). IsPut c.new-out.result (root_shown at c.args.form c.args.value) c.put_root.new.out) c.layout.ensures c.in-Ok.ensures.put)

pub returns-in-Ok-clause-only : goal.returns-in-Ok-clause-only
returns-in-Ok-clause-only c =
    only_alone c.new-out.result c.put_root.new.out (written_json_as c.args.form c.args.indented c.args.value) c.finish.result.items c.new-out.ensures.made c.finish.ensures
    (subst (λ (at : Layout). IsPut c.new-out.result (root_shown at c.args.form c.args.value) c.put_root.new.out) c.layout.ensures c.in-Ok.ensures.put)

pub returns-in-Err-clause-refused : goal.returns-in-Err-clause-refused
returns-in-Err-clause-refused c =
    stopped_alone c.args.limit c.new-out.result (written_json_as c.args.form c.args.indented c.args.value) c.in-Err.why c.new-out.ensures.made c.new-out.ensures.limit
    (subst (λ (at : Layout). IsStopped c.new-out.result (root_shown at c.args.form c.args.value) c.in-Err.why) c.layout.ensures c.in-Err.ensures.stopped)
