-- Both names of the enumerant.
use Rattle.std.proofs.Common.{ℕ, List, codes, string_bytes, ap, ◌++◌, ◌∙◌}
use Rattle.capnp_schema.specs.Entries.{lists_seen}
use Rattle.capnp_differences.specs.Notes.{enumerant_name}
use Rattle.capnp_versions.proofs.changes.put_change.Goals as goal

pub returns-in_ok-write-in-EnumerantRenamed-clause-put : goal.returns-in_ok-write-in-EnumerantRenamed-clause-put
returns-in_ok-write-in-EnumerantRenamed-clause-put c =
    let text = string_bytes c.args.text.now in
    let k = c.in-EnumerantRenamed.ordinal in
    let set = lists_seen c.args.schemas.now in
    rw c.in-EnumerantRenamed.is
    (c.in_ok-write-in-EnumerantRenamed.ensures.bytes
    ∙ (ap (λ (was : List ℕ). text ++ (codes " has the enumerant " ++ (was ++ (codes ", which is named " ++ (c.enumerant_name-name-in-EnumerantRenamed.result.now ++ codes " now"))))) c.enumerant_name-was.ensures
    ∙ ap (λ (name : List ℕ). text ++ (codes " has the enumerant " ++ (enumerant_name set c.in-EnumerantRenamed.enums.older k ++ (codes ", which is named " ++ (name ++ codes " now"))))) c.enumerant_name-name-in-EnumerantRenamed.ensures))
