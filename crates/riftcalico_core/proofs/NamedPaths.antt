-- A path that is named, one step more.
use Rattle.std.proofs.Common.{List, [], ◌∷◌, ◌++◌, ap, append_assoc, ◌≡◌, ◌∙◌}
use Rattle.std.proofs.lemmas.List.{map-append}
use Rattle.capnp_call.specs.Seen.{path_seen, step_seen}
use Rattle.capnp_call.specs.declared.calls.Step.{Step}
use Rattle.capnp_records.specs.Call.{PathStep}

pub named_more : (before : List Step) (x : Step) (rest : List PathStep) → path_seen (before ++ x ∷ []) ++ rest ≡ path_seen before ++ (step_seen x ∷ rest)
named_more before x rest = ap (λ (xs : List PathStep). xs ++ rest) (map-append step_seen before (x ∷ [])) ∙ append_assoc (path_seen before) (step_seen x ∷ []) rest
