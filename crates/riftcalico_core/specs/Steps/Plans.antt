-- Calls that are read, as the code has them.
use Rattle.std.specs.Prelude.{ℕ, List, map, Result, Ok, Err, String, string_bytes}
use Rattle.std.specs.Borrow.{Bor}
use Rattle.std.specs.declared.vec.Vec.{Vec}
use Rattle.capnp_words.specs.Seen.{call_text_seen}
use Rattle.capnp_words.specs.declared.call.CallWord.{CallWord}
use Rattle.riftcalico_core.specs.Plans as plans
use Rattle.riftcalico_core.specs.Plans.{SaidCalls, Told}
use Rattle.riftcalico_core.specs.PlansSeen.{calls_plan_seen, check_plan_seen, get_plan_seen, json_plan_seen}
use Rattle.riftcalico_core.specs.declared.plan.CallsPlan.{CallsPlan}
use Rattle.riftcalico_core.specs.declared.plan.CheckPlan.{CheckPlan}
use Rattle.riftcalico_core.specs.declared.plan.GetPlan.{GetPlan}
use Rattle.riftcalico_core.specs.declared.plan.JsonPlan.{JsonPlan}

abbrev pub told_calls_plan : {A : Type 0} → Result CallsPlan (String A) → Told plans.CallsPlan
told_calls_plan (Ok p) = Ok (calls_plan_seen p)
told_calls_plan (Err line) = Err (string_bytes line)

abbrev pub told_calls : {A B C : Type 0} → Result (Vec CallWord A × Vec (Bor (List ℕ)) B) (String C) → Told SaidCalls
told_calls (Ok said) = Ok (map call_text_seen said.0.items, map (λ w. w.now) said.1.items)
told_calls (Err line) = Err (string_bytes line)

abbrev pub told_get_plan : {A : Type 0} → Result GetPlan (String A) → Told plans.GetPlan
told_get_plan (Ok p) = Ok (get_plan_seen p)
told_get_plan (Err line) = Err (string_bytes line)

abbrev pub told_json_plan : {A : Type 0} → Result JsonPlan (String A) → Told plans.JsonPlan
told_json_plan (Ok p) = Ok (json_plan_seen p)
told_json_plan (Err line) = Err (string_bytes line)

abbrev pub told_check_plan : {A : Type 0} → Result CheckPlan (String A) → Told plans.CheckPlan
told_check_plan (Ok p) = Ok (check_plan_seen p)
told_check_plan (Err line) = Err (string_bytes line)
