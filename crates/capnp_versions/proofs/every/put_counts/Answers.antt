use Rattle.std.proofs.Common.{append_assoc, ap, codes, string_bytes, ◌++◌, ◌∙◌}
use Rattle.capnp_versions.specs.Shared.{counted}
use Rattle.capnp_versions.proofs.every.put_counts.Goals as goal

pub returns-clause-put : goal.returns-clause-put
returns-clause-put c =
    c.in_ok-put_count-2.ensures.put ∙ (ap (λ x. x ++ counted (codes ", ") c.args.incompatible (codes " not\n")) c.in_ok-put_count.ensures.put
    ∙ append_assoc (string_bytes c.args.text.now) (counted (codes "structs: ") c.args.compatible (codes " compatible")) (counted (codes ", ") c.args.incompatible (codes " not\n")))
