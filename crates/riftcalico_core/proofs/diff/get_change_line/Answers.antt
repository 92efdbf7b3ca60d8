-- Why there is no line along the path is why the change has none.
use Rattle.std.proofs.Common.{List, ap, subst, sym, ◌≡◌, ◌∙◌}
use Rattle.capnp_call.specs.Seen.{path_seen}
use Rattle.capnp_records.specs.Call.{PathStep}
use Rattle.riftcalico_core.specs.Diffs.{path_of}
use Rattle.riftcalico_core.specs.Steps.Wordless.{HasNoLine}
use Rattle.riftcalico_core.proofs.diff.get_change_line.Goals as goal

pub returns-clause-refused : goal.returns-clause-refused
returns-clause-refused c =
    let s = c.args.schema in
    let change = c.args.change.now in
    let there : path_of s change ≡ path_seen c.in-Ok.path.items = sym c.in-Ok.ensures.path in
    c.explain_line.ensures c.args.limit s change (there ∙ ap path_seen (sym c.deref-in-Err-get_line.ensures.value))
    (subst (λ (path : List PathStep). HasNoLine c.args.limit s path change.op c.in-Err-get_line.why) (sym (there ∙ ap path_seen (sym c.deref.ensures.value))) c.in-Err-get_line.ensures.refused)
