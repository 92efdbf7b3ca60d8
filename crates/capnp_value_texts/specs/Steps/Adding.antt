-- How the calls of a text are added one after another: steps of the code.
use Rattle.std.specs.Prelude.{◌≡◌, List, [], ◌++◌, map, Option, Some, None, Ok, Err}
use Rattle.capnp_records.specs.Call.{Call, PathStep}
use Rattle.capnp_call.specs.Seen.{path_seen, step_seen}
use Rattle.capnp_call.specs.declared.calls.Step.{Step}
use Rattle.capnp_value_texts.specs.Calls.{one_call}
use Rattle.capnp_value_texts.specs.Errors.{Read}
use Rattle.capnp_value_texts.specs.Made.{calls_made, goal_op}
use Rattle.capnp_value_texts.specs.declared.made.Goal.{Goal}
use Rattle.capnp_value_texts.specs.declared.made.Made.{Made}

-- a call at the end of a path
abbrev pub within : List PathStep → Call → Call
within path c = record { path = path ++ c.path; last = c.last; op = c.op }

abbrev pub all_within : List PathStep → List Call → List Call
all_within path cs = map (within path) cs

-- these calls, at the end of a path, come behind those that were made before
abbrev pub Adds : List Step → (old new : List Made) → List Call → Type 0
Adds path old new cs = calls_made new ≡ calls_made old ++ all_within (path_seen path) cs

abbrev pub one_made : Step → Goal → List Call
one_made last goal = one_call (step_seen last) (goal_op goal)

-- the calls of what is read
abbrev pub AddsRead : List Step → (old new : List Made) → Read (List Call) → Type 0
AddsRead path old new (Ok cs) = Adds path old new cs
AddsRead path old new (Err r) = ⊥

-- the call that begins what holds parts, where there is one
abbrev pub first_calls : Step → Option Goal → List Call
first_calls step None = []
first_calls step (Some goal) = one_made step goal
