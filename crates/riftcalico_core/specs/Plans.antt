-- What a task asks, once its words are read: paths, or calls, whose words may be the lines of a file.
use Rattle.std.specs.Prelude.{ℕ, List, [], ◌∷◌, ◌++◌, ◌==◌, Bool, true, false, not, filter, Option, Some, None, Result, Ok, Err, codes, decimal}
use Rattle.std.specs.Str.{is_utf8}
use Rattle.std.specs.Str.Lines.{lines}
use Rattle.std.specs.Str.Lossy.{utf8_valid_len}
use Rattle.capnp_patch.specs.Lines.{told_word}
use Rattle.capnp_records.specs.Call.{PathStep}
use Rattle.capnp_words.specs.Calls.{CallText, call_at}
use Rattle.capnp_words.specs.Paths.{path_at}
use Rattle.capnp_words.specs.Reads.{Read}
use Rattle.riftcalico_core.specs.Queries.{Query, query_at}
use Rattle.riftcalico_core.specs.Reads.{Reads, each_word_read, line_at, unreadable_line}
use Rattle.riftcalico_words.specs.Tasks.{CallsTask, CheckTask, FromJsonTask, GetTask, GivenCalls, JsonTask, Root, Task, check_task, compatible_task, convert_task, diff_task, fields_task, from_json_task, get_task, help_task, in_lines, in_words, json_task, new_task, patch_task, structs_task, version_task}
use Rattle.riftcalico_words.specs.Usage.{verb_usage}
use Rattle.riftcalico_words.specs.declared.request.Verb.{Verb}
use Rattle.riftcalico_words.specs.declared.request.Verb.TheVariants as verb

-- what is asked for by paths of a root
pub record GetPlan : Type 0 where
  pub root : Root
  pub queries : List Query
  pub raw : Bool
  pub with_paths : Bool
  pub indented : Bool
  pub packed : Bool
  pub limit : ℕ

-- what is asked for by paths of a root, as JSON
pub record JsonPlan : Type 0 where
  pub root : Root
  pub queries : List Query
  pub indented : Bool
  pub packed : Bool
  pub limit : ℕ

-- a JSON text that is made a message of a root
pub record FromJsonPlan : Type 0 where
  pub root : Root
  pub strict : Bool
  pub packed : Bool
  pub limit : ℕ

-- the value at a path of a root, whether it can be shown, or where it can't
pub record CheckPlan : Type 0 where
  pub root : Root
  pub path : List PathStep
  pub all : Bool
  pub packed : Bool
  pub limit : ℕ

-- calls on a root, with their words
pub record CallsPlan : Type 0 where
  pub root : Root
  pub texts : List CallText
  pub words : List (List ℕ)
  pub keep_going : Bool
  pub packed : Bool
  pub limit : ℕ

-- a struct by its name or all, the bytes of the newer set, whether only the status is wanted, whether only what breaks is told, whether they are compared in both directions, and the most bytes that the text may have
pub record ComparePlan : Type 0 where
  pub name : Option (List ℕ)
  pub newer : List ℕ
  pub quiet : Bool
  pub breaking_only : Bool
  pub both : Bool
  pub limit : ℕ

-- the struct of a root, the bytes of a newer message of it, whether it and the older one come packed, and the most bytes that the lines may have together
pub record DiffPlan : Type 0 where
  pub root : Root
  pub newer : List ℕ
  pub packed : Bool
  pub limit : ℕ

pub data Plan : Type 0 where
  get_plan : GetPlan → Plan
  json_plan : JsonPlan → Plan
  from_json_plan : FromJsonPlan → Plan
  check_plan : CheckPlan → Plan
  patch_plan : CallsPlan → Plan
  new_plan : CallsPlan → Plan
  structs_plan : (file : Option (List ℕ)) → (limit : ℕ) → Plan
  fields_plan : Root → (limit : ℕ) → Plan
  convert_plan : (strict : Bool) → (limit : ℕ) → Plan
  compatible_plan : ComparePlan → Plan
  diff_plan : DiffPlan → Plan
  help_plan : Option Verb → Plan
  version_plan : Plan

-- the most bytes or parts that may be made or looked at; of what makes nothing none
abbrev pub plan_limit : Plan → ℕ
plan_limit (get_plan p) = p.limit
plan_limit (json_plan p) = p.limit
plan_limit (from_json_plan p) = p.limit
plan_limit (check_plan p) = p.limit
plan_limit (patch_plan p) = p.limit
plan_limit (new_plan p) = p.limit
plan_limit (structs_plan file limit) = limit
plan_limit (fields_plan r limit) = limit
plan_limit (convert_plan strict limit) = limit
plan_limit (compatible_plan p) = p.limit
plan_limit (diff_plan p) = p.limit
plan_limit (help_plan v) = 0
plan_limit version_plan = 0

-- the file of a task's calls, or of the newer of two sets or messages
abbrev pub given_file : GivenCalls → Option (List ℕ)
given_file (in_words words) = None
given_file (in_lines path) = Some path

abbrev pub calls_file : Task → Option (List ℕ)
calls_file (patch_task t) = given_file t.calls
calls_file (new_task t) = given_file t.calls
calls_file (compatible_task t) = Some t.newer
calls_file (diff_task t) = Some t.new
calls_file t = None

-- ---- what words say, or the line that tells what can't be read ----

abbrev pub Told : Type 0 → Type 0
Told A = Result A (List ℕ)

-- calls and their words
abbrev pub SaidCalls : Type 0
SaidCalls = List CallText × List (List ℕ)

abbrev pub calls_said : (words : List (List ℕ)) → Reads (List CallText) → Told SaidCalls
calls_said words (Ok texts) = Ok (texts, words)
calls_said words (Err at) = Err (line_at words at)

-- calls, each a word
abbrev pub words_plan : List (List ℕ) → Told SaidCalls
words_plan words = calls_said words (each_word_read call_at 0 words)

-- a line without a call: an empty one, or one that begins with `#`
abbrev pub is_remark : List ℕ → Bool
is_remark [] = true
is_remark (c ∷ line) = c == 35

-- the lines of a text that have calls
abbrev pub call_lines : List ℕ → List (List ℕ)
call_lines text = filter (λ line. not (is_remark line)) (lines text)

-- how a file is told whose bytes are no text: its path, and the place of the first byte that no character has
abbrev pub no_text_line : (path : List ℕ) → (place : ℕ) → List ℕ
no_text_line path place = told_word path ++ codes ": can't be read at " ++ decimal place ++ 10 ∷ []

-- calls, each a line of a file, if its bytes are a text
abbrev pub text_plan : (is_text : Bool) → (path bytes : List ℕ) → Told SaidCalls
text_plan true path bytes = words_plan (call_lines bytes)
text_plan false path bytes = Err (no_text_line path (utf8_valid_len bytes))

-- where a word says no call, quotes may have been forgotten: how the verb is called is told behind the line
abbrev pub or_usage : {A : Type 0} → Verb → Told A → Told A
or_usage v (Ok said) = Ok said
or_usage v (Err line) = Err (line ++ verb_usage v)

-- calls, of which a file may have the words: these bytes
abbrev pub given_plan : Verb → GivenCalls → (file : List ℕ) → Told SaidCalls
given_plan v (in_words words) file = or_usage v (words_plan words)
given_plan v (in_lines path) file = text_plan (is_utf8 file) path file

abbrev pub under_root : CallsTask → Told SaidCalls → Told CallsPlan
under_root t (Ok said) = Ok (record { root = t.root; texts = said.0; words = said.1; keep_going = t.keep_going; packed = t.packed; limit = t.limit })
under_root t (Err line) = Err line

abbrev pub calls_plan_of : Verb → CallsTask → (file : List ℕ) → Told CallsPlan
calls_plan_of v t file = under_root t (given_plan v t.calls file)

abbrev pub queries_plan : GetTask → Reads (List Query) → Told GetPlan
queries_plan t (Ok queries) = Ok (record { root = t.root; queries = queries; raw = t.raw; with_paths = t.with_paths; indented = t.indented; packed = t.packed; limit = t.limit })
queries_plan t (Err at) = Err (line_at t.paths at)

abbrev pub get_plan_of : GetTask → Told GetPlan
get_plan_of t = queries_plan t (each_word_read query_at 0 t.paths)

abbrev pub json_queries_plan : JsonTask → Reads (List Query) → Told JsonPlan
json_queries_plan t (Ok queries) = Ok (record { root = t.root; queries = queries; indented = t.indented; packed = t.packed; limit = t.limit })
json_queries_plan t (Err at) = Err (line_at t.paths at)

abbrev pub json_plan_of : JsonTask → Told JsonPlan
json_plan_of t = json_queries_plan t (each_word_read query_at 0 t.paths)

abbrev pub from_json_plan_of : FromJsonTask → FromJsonPlan
from_json_plan_of t = record { root = t.root; strict = t.strict; packed = t.packed; limit = t.limit }

abbrev pub checked_path_plan : CheckTask → Read (List PathStep) → Told CheckPlan
checked_path_plan t (Ok path) = Ok (record { root = t.root; path = path; all = t.all; packed = t.packed; limit = t.limit })
checked_path_plan t (Err place) = Err (unreadable_line 1 t.path place)

abbrev pub check_plan_of : CheckTask → Told CheckPlan
check_plan_of t = checked_path_plan t (path_at 0 t.path)

abbrev pub as_plan : {A : Type 0} → (A → Plan) → Told A → Told Plan
as_plan plan (Ok p) = Ok (plan p)
as_plan plan (Err line) = Err line

-- what a task asks, with the bytes of the file of its calls, if it has one
abbrev pub task_plan : Task → (file : List ℕ) → Told Plan
task_plan (get_task t) file = as_plan get_plan (get_plan_of t)
task_plan (json_task t) file = as_plan json_plan (json_plan_of t)
task_plan (from_json_task t) file = Ok (from_json_plan (from_json_plan_of t))
task_plan (check_task t) file = as_plan check_plan (check_plan_of t)
task_plan (patch_task t) file = as_plan patch_plan (calls_plan_of verb.Patch t file)
task_plan (new_task t) file = as_plan new_plan (calls_plan_of verb.New t file)
task_plan (structs_task set limit) file = Ok (structs_plan set limit)
task_plan (fields_task r limit) file = Ok (fields_plan r limit)
task_plan (convert_task strict limit) file = Ok (convert_plan strict limit)
task_plan (compatible_task t) file = Ok (compatible_plan (record { name = t.name; newer = file; quiet = t.quiet; breaking_only = t.breaking_only; both = t.both; limit = t.limit }))
task_plan (diff_task t) file = Ok (diff_plan (record { root = t.root; newer = file; packed = t.packed; limit = t.limit }))
task_plan (help_task v) file = Ok (help_plan v)
task_plan version_task file = Ok version_plan
