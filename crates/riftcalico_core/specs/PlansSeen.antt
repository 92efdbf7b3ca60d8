-- Plans as the code has them.
use Rattle.std.specs.Prelude.{map, Result, Ok, Err, String, string_bytes}
use Rattle.std.specs.Option.{option_map}
use Rattle.capnp_words.specs.Seen.{call_text_seen, path_text_seen}
use Rattle.riftcalico_core.specs.Plans as plans
use Rattle.riftcalico_core.specs.Plans.{Told, check_plan, compatible_plan, convert_plan, diff_plan, fields_plan, from_json_plan, get_plan, help_plan, json_plan, new_plan, patch_plan, structs_plan, version_plan}
use Rattle.riftcalico_core.specs.QueriesSeen.{query_word_seen}
use Rattle.riftcalico_core.specs.declared.plan.CallsPlan.{CallsPlan}
use Rattle.riftcalico_core.specs.declared.plan.CheckPlan.{CheckPlan}
use Rattle.riftcalico_core.specs.declared.plan.ComparePlan.{ComparePlan}
use Rattle.riftcalico_core.specs.declared.plan.DiffPlan.{DiffPlan}
use Rattle.riftcalico_core.specs.declared.plan.FromJsonPlan.{FromJsonPlan}
use Rattle.riftcalico_core.specs.declared.plan.GetPlan.{GetPlan}
use Rattle.riftcalico_core.specs.declared.plan.JsonPlan.{JsonPlan}
use Rattle.riftcalico_core.specs.declared.plan.Plan.{Plan}
use Rattle.riftcalico_core.specs.declared.plan.Plan.TheVariants as plan
use Rattle.riftcalico_words.specs.RequestSeen.{root_named}

abbrev pub get_plan_seen : GetPlan → plans.GetPlan
get_plan_seen p = record { root = root_named p.root; queries = map query_word_seen p.queries.items; raw = p.raw; with_paths = p.with_paths; indented = p.indented; packed = p.packed; limit = p.limit }

abbrev pub json_plan_seen : JsonPlan → plans.JsonPlan
json_plan_seen p = record { root = root_named p.root; queries = map query_word_seen p.queries.items; indented = p.indented; packed = p.packed; limit = p.limit }

abbrev pub from_json_plan_seen : FromJsonPlan → plans.FromJsonPlan
from_json_plan_seen p = record { root = root_named p.root; strict = p.strict; packed = p.packed; limit = p.limit }

abbrev pub check_plan_seen : CheckPlan → plans.CheckPlan
check_plan_seen p = record { root = root_named p.root; path = path_text_seen p.path; all = p.all; packed = p.packed; limit = p.limit }

abbrev pub compare_plan_seen : ComparePlan → plans.ComparePlan
compare_plan_seen p = record { name = option_map (λ w. w.now) p.name; newer = p.newer.now; quiet = p.quiet; breaking_only = p.breaking_only; both = p.both; limit = p.limit }

abbrev pub diff_plan_seen : DiffPlan → plans.DiffPlan
diff_plan_seen p = record { root = root_named p.root; newer = p.newer.now; packed = p.packed; limit = p.limit }

abbrev pub calls_plan_seen : CallsPlan → plans.CallsPlan
calls_plan_seen p = record { root = root_named p.root; texts = map call_text_seen p.texts.items; words = map (λ w. w.now) p.words.items; keep_going = p.keep_going; packed = p.packed; limit = p.limit }

abbrev pub plan_seen : Plan → plans.Plan
plan_seen (plan.Get p) = get_plan (get_plan_seen p)
plan_seen (plan.Json p) = json_plan (json_plan_seen p)
plan_seen (plan.FromJson p) = from_json_plan (from_json_plan_seen p)
plan_seen (plan.Check p) = check_plan (check_plan_seen p)
plan_seen (plan.Patch p) = patch_plan (calls_plan_seen p)
plan_seen (plan.New p) = new_plan (calls_plan_seen p)
plan_seen (plan.Structs file limit) = structs_plan (option_map (λ f. f.now) file) limit
plan_seen (plan.Fields r limit) = fields_plan (root_named r) limit
plan_seen (plan.Convert strict limit) = convert_plan strict limit
plan_seen (plan.Compatible p) = compatible_plan (compare_plan_seen p)
plan_seen (plan.Diff p) = diff_plan (diff_plan_seen p)
plan_seen (plan.Help v) = help_plan v
plan_seen plan.Version = version_plan

abbrev pub told_plan : {A : Type 0} → Result Plan (String A) → Told plans.Plan
told_plan (Ok p) = Ok (plan_seen p)
told_plan (Err line) = Err (string_bytes line)
