-- How words ask for it.
use Rattle.std.specs.Prelude.{ℕ, List, [], ◌∷◌, ◌^◌, Bool, true, false, not, ◌&&◌, ◌||◌, Option, Some, None, Result, Ok, Err, is_some, codes, bytes_eq, if◌then◌else◌}
use Rattle.std.specs.Option.{option_map}
use Rattle.riftcalico_words.specs.Numbers.{number_asked}
use Rattle.riftcalico_words.specs.Options.{WordOptions, no_options, options_read}
use Rattle.riftcalico_words.specs.Tasks.{CallsTask, GivenCalls, Task, check_task, compatible_task, convert_task, diff_task, fields_task, from_json_task, get_task, help_task, json_task, in_lines, in_words, new_task, patch_task, structs_task, version_task}
use Rattle.riftcalico_words.specs.declared.options.Flag.{Flag}
use Rattle.riftcalico_words.specs.declared.options.Flag.TheVariants as flag
use Rattle.riftcalico_words.specs.declared.options.ValueOption.{ValueOption}
use Rattle.riftcalico_words.specs.declared.options.ValueOption.TheVariants as value
use Rattle.riftcalico_words.specs.declared.request.Messages.{Messages}
use Rattle.riftcalico_words.specs.declared.request.Messages.TheVariants as messages
use Rattle.riftcalico_words.specs.declared.request.Verb.{Verb}
use Rattle.riftcalico_words.specs.declared.request.Verb.TheVariants as verb

-- why words ask for nothing
pub data WordFault : Type 0 where
  no_verb : WordFault
  unknown_verb : (word : List ℕ) → WordFault
  unknown_option : Verb → (word : List ℕ) → WordFault
  no_bytes : Verb → (word : List ℕ) → WordFault
  other_words : Verb → WordFault

abbrev pub AskedRequest : Type 0
AskedRequest = Result Task WordFault

abbrev pub verb_of : List ℕ → Option Verb
verb_of word =
    if bytes_eq word (codes "show") then Some verb.Show
    else if bytes_eq word (codes "get") then Some verb.Get
    else if bytes_eq word (codes "json") then Some verb.Json
    else if bytes_eq word (codes "from-json") then Some verb.FromJson
    else if bytes_eq word (codes "check") then Some verb.Check
    else if bytes_eq word (codes "patch") then Some verb.Patch
    else if bytes_eq word (codes "new") then Some verb.New
    else if bytes_eq word (codes "structs") then Some verb.Structs
    else if bytes_eq word (codes "schemas") then Some verb.Schemas
    else if bytes_eq word (codes "compatible") then Some verb.Compatible
    else if bytes_eq word (codes "diff") then Some verb.Diff
    else None

-- the messages that are meant: the first, or with `--each` all
abbrev pub messages_by : (each keep_going : Bool) → Messages
messages_by false keep_going = messages.First
messages_by true false = messages.Each
messages_by true true = messages.EachGoing

abbrev pub messages_of : WordOptions → Messages
messages_of o = messages_by o.each o.keep_going

-- ---- which options a verb takes ----

-- the verbs that only read messages, and those that take messages, or give one
abbrev pub is_reading : Verb → Bool
is_reading verb.Show = true
is_reading verb.Get = true
is_reading verb.Json = true
is_reading verb.Check = true
is_reading v = false

abbrev pub is_on_messages : Verb → Bool
is_on_messages verb.Patch = true
is_on_messages verb.New = true
is_on_messages v = is_reading v

abbrev pub is_with_calls : Verb → Bool
is_with_calls verb.Patch = true
is_with_calls verb.New = true
is_with_calls v = false

abbrev pub is_comparison : Verb → Bool
is_comparison verb.Compatible = true
is_comparison v = false

abbrev pub takes_set : Verb → Bool
takes_set verb.Structs = true
takes_set verb.FromJson = true
takes_set verb.Diff = true
takes_set v = is_on_messages v

abbrev pub takes_place : Verb → Bool
takes_place verb.Patch = true
takes_place v = false

abbrev pub takes_value : Verb → ValueOption → Bool
takes_value v value.Set = takes_set v
takes_value v value.Calls = is_with_calls v
takes_value v value.Limit = true
takes_value v value.InPlace = takes_place v

abbrev pub takes_indent : Verb → Bool
takes_indent verb.Check = false
takes_indent v = is_reading v

abbrev pub takes_packed : Verb → Bool
takes_packed verb.FromJson = true
takes_packed verb.Diff = true
takes_packed v = is_on_messages v

abbrev pub takes_each : Verb → Bool
takes_each verb.Patch = true
takes_each verb.FromJson = true
takes_each v = is_reading v

abbrev pub takes_raw : Verb → Bool
takes_raw verb.Get = true
takes_raw v = false

abbrev pub takes_strict : Verb → Bool
takes_strict verb.Schemas = true
takes_strict verb.FromJson = true
takes_strict v = false

abbrev pub takes_all : Verb → Bool
takes_all verb.Check = true
takes_all v = false

abbrev pub takes_flag : Verb → Flag → Bool
takes_flag v flag.Indent = takes_indent v
takes_flag v flag.Raw = takes_raw v
takes_flag v flag.Paths = takes_raw v
takes_flag v flag.Json = takes_raw v
takes_flag v flag.KeepGoing = takes_each v || is_with_calls v
takes_flag v flag.Packed = takes_packed v
takes_flag v flag.Each = takes_each v
takes_flag v flag.Strict = takes_strict v
takes_flag v flag.All = takes_all v
takes_flag v flag.Quiet = is_comparison v
takes_flag v flag.BreakingOnly = is_comparison v
takes_flag v flag.Both = is_comparison v
takes_flag v flag.Help = true

-- an option stands only where its verb takes it
abbrev pub is_allowed : (stands takes : Bool) → Bool
is_allowed stands takes = not stands || takes

abbrev pub values_fit : Verb → WordOptions → Bool
values_fit v o =
    is_allowed (is_some o.set) (takes_value v value.Set)
    && is_allowed (is_some o.calls) (takes_value v value.Calls)
    && is_allowed (is_some o.limit) (takes_value v value.Limit)
    && is_allowed (is_some o.in_place) (takes_value v value.InPlace)

abbrev pub flags_fit : Verb → WordOptions → Bool
flags_fit v o =
    is_allowed o.indent (takes_flag v flag.Indent)
    && is_allowed o.raw (takes_flag v flag.Raw)
    && is_allowed o.paths (takes_flag v flag.Paths)
    && is_allowed o.json (takes_flag v flag.Json)
    && is_allowed o.keep_going (takes_flag v flag.KeepGoing)
    && is_allowed o.packed (takes_flag v flag.Packed)
    && is_allowed o.each (takes_flag v flag.Each)
    && is_allowed o.strict (takes_flag v flag.Strict)
    && is_allowed o.all (takes_flag v flag.All)
    && is_allowed o.quiet (takes_flag v flag.Quiet)
    && is_allowed o.breaking_only (takes_flag v flag.BreakingOnly)
    && is_allowed o.both (takes_flag v flag.Both)

-- a verb that makes no calls goes on behind a message that is refused where there are several
abbrev pub going_fits : Verb → WordOptions → Bool
going_fits v o = is_with_calls v || not o.keep_going || o.each

-- no file is replaced where a refused call or message may be passed over, which its messages would then lack
abbrev pub place_fits : WordOptions → Bool
place_fits o = not (is_some o.in_place) || not o.keep_going

-- a JSON is told neither as bytes nor behind its path
abbrev pub style_fits : WordOptions → Bool
style_fits o = not o.json || (not o.raw && not o.paths)

abbrev pub is_fitting : Verb → WordOptions → Bool
is_fitting v o = values_fit v o && flags_fit v o && going_fits v o && place_fits o && style_fits o

-- ---- what is asked ----

-- the most bytes that are made, and parts that are looked at, 2^30 where no number is given; or the word that is none
abbrev pub default_limit : ℕ
default_limit = 2 ^ 30

abbrev pub limit_read : (word : List ℕ) → Option ℕ → Result ℕ (List ℕ)
limit_read word (Some number) = Ok number
limit_read word None = Err word

abbrev pub limit_asked : Option (List ℕ) → Result ℕ (List ℕ)
limit_asked None = Ok default_limit
limit_asked (Some word) = limit_read word (number_asked word)

-- calls are words or the lines of a file, not both
abbrev pub given_asked : (file : Option (List ℕ)) → List (List ℕ) → Option GivenCalls
given_asked None words = Some (in_words words)
given_asked (Some path) [] = Some (in_lines path)
given_asked (Some path) (word ∷ words) = None

-- a root's name, and calls on it
abbrev pub named_calls : WordOptions → (limit : ℕ) → List (List ℕ) → Option CallsTask
named_calls o limit [] = None
named_calls o limit (name ∷ words) =
    option_map (λ given. record { root = record { file = o.set; name = name }; calls = given; keep_going = o.keep_going; packed = o.packed; messages = messages_of o; limit = limit; in_place = o.in_place })
    (given_asked o.calls words)

abbrev pub calls_asked : WordOptions → (limit : ℕ) → Option CallsTask
calls_asked o limit = named_calls o limit o.others

-- what is asked of a message that is shown, by the other words: values at paths, one or more
abbrev pub shown_of : WordOptions → (limit : ℕ) → (name : List ℕ) → (paths : List (List ℕ)) → Task
shown_of o limit name paths =
    get_task (record { root = record { file = o.set; name = name }; paths = paths; raw = o.raw; with_paths = o.paths; indented = o.indent; packed = o.packed; messages = messages_of o; limit = limit })

abbrev pub show_asked : WordOptions → (limit : ℕ) → List (List ℕ) → Option Task
show_asked o limit (name ∷ []) = Some (shown_of o limit name (codes "." ∷ []))
show_asked o limit words = None

-- as JSON
abbrev pub json_of : WordOptions → (limit : ℕ) → (name : List ℕ) → (paths : List (List ℕ)) → Task
json_of o limit name paths = json_task (record { root = record { file = o.set; name = name }; paths = paths; indented = o.indent; packed = o.packed; messages = messages_of o; limit = limit })

abbrev pub got_of : (json : Bool) → WordOptions → (limit : ℕ) → (name : List ℕ) → (paths : List (List ℕ)) → Task
got_of true o limit name paths = json_of o limit name paths
got_of false o limit name paths = shown_of o limit name paths

abbrev pub get_asked : WordOptions → (limit : ℕ) → List (List ℕ) → Option Task
get_asked o limit (name ∷ path ∷ paths) = Some (got_of o.json o limit name (path ∷ paths))
get_asked o limit words = None

abbrev pub json_asked : WordOptions → (limit : ℕ) → List (List ℕ) → Option Task
json_asked o limit (name ∷ []) = Some (json_of o limit name (codes "." ∷ []))
json_asked o limit (name ∷ path ∷ paths) = Some (json_of o limit name (path ∷ paths))
json_asked o limit words = None

abbrev pub from_json_of : WordOptions → (limit : ℕ) → (name : List ℕ) → Task
from_json_of o limit name = from_json_task (record { root = record { file = o.set; name = name }; strict = o.strict; packed = o.packed; messages = messages_of o; limit = limit })

abbrev pub from_json_asked : WordOptions → (limit : ℕ) → List (List ℕ) → Option Task
from_json_asked o limit (name ∷ []) = Some (from_json_of o limit name)
from_json_asked o limit words = None

abbrev pub checked_of : WordOptions → (limit : ℕ) → (name path : List ℕ) → Task
checked_of o limit name path =
    check_task (record { root = record { file = o.set; name = name }; path = path; all = o.all; packed = o.packed; messages = messages_of o; limit = limit })

abbrev pub check_asked : WordOptions → (limit : ℕ) → List (List ℕ) → Option Task
check_asked o limit (name ∷ []) = Some (checked_of o limit name (codes "."))
check_asked o limit (name ∷ path ∷ []) = Some (checked_of o limit name path)
check_asked o limit words = None

abbrev pub structs_asked : WordOptions → (limit : ℕ) → List (List ℕ) → Option Task
structs_asked o limit [] = Some (structs_task o.set limit)
structs_asked o limit (name ∷ []) = Some (fields_task (record { file = o.set; name = name }) limit)
structs_asked o limit words = None

abbrev pub schemas_asked : WordOptions → (limit : ℕ) → List (List ℕ) → Option Task
schemas_asked o limit [] = Some (convert_task o.strict limit)
schemas_asked o limit words = None

abbrev pub compared_of : WordOptions → (limit : ℕ) → (older newer : List ℕ) → (name : Option (List ℕ)) → Task
compared_of o limit older newer name = compatible_task (record { older = older; newer = newer; name = name; quiet = o.quiet; breaking_only = o.breaking_only; both = o.both; limit = limit })

abbrev pub compatible_asked : WordOptions → (limit : ℕ) → List (List ℕ) → Option Task
compatible_asked o limit (older ∷ newer ∷ []) = Some (compared_of o limit older newer None)
compatible_asked o limit (older ∷ newer ∷ name ∷ []) = Some (compared_of o limit older newer (Some name))
compatible_asked o limit words = None

-- what is asked of two messages
abbrev pub diff_asked : WordOptions → (limit : ℕ) → List (List ℕ) → Option Task
diff_asked o limit (name ∷ old ∷ new ∷ []) =
    Some (diff_task (record { root = record { file = o.set; name = name }; old = old; new = new; packed = o.packed; limit = limit }))
diff_asked o limit words = None

abbrev pub plain_asked : Verb → WordOptions → (limit : ℕ) → Option Task
plain_asked verb.Show o limit = None
plain_asked verb.Get o limit = None
plain_asked verb.Json o limit = None
plain_asked verb.FromJson o limit = from_json_asked o limit o.others
plain_asked verb.Check o limit = check_asked o limit o.others
plain_asked verb.Patch o limit = None
plain_asked verb.New o limit = None
plain_asked verb.Structs o limit = structs_asked o limit o.others
plain_asked verb.Schemas o limit = schemas_asked o limit o.others
plain_asked verb.Compatible o limit = compatible_asked o limit o.others
plain_asked verb.Diff o limit = diff_asked o limit o.others

abbrev pub verb_asked : Verb → WordOptions → (limit : ℕ) → Option Task
verb_asked verb.Show o limit = show_asked o limit o.others
verb_asked verb.Get o limit = get_asked o limit o.others
verb_asked verb.Json o limit = json_asked o limit o.others
verb_asked verb.Patch o limit = option_map patch_task (calls_asked o limit)
verb_asked verb.New o limit = option_map new_task (calls_asked o limit)
verb_asked v o limit = plain_asked v o limit

abbrev pub options_asked : Verb → WordOptions → (limit : ℕ) → Option Task
options_asked v o limit = elim (is_fitting v o) [ true ↦ verb_asked v o limit | false ↦ None ]

-- with help among the options that is asked for, an option that has a word behind it needs it, and that of a limit is a number
abbrev pub task_or_fault : Verb → Option Task → AskedRequest
task_or_fault v None = Err (other_words v)
task_or_fault v (Some t) = Ok t

abbrev pub limited_request : Verb → WordOptions → Result ℕ (List ℕ) → AskedRequest
limited_request v o (Err word) = Err (no_bytes v word)
limited_request v o (Ok limit) = task_or_fault v (options_asked v o limit)

abbrev pub waited_request : (waits : Bool) → Verb → WordOptions → AskedRequest
waited_request true v o = Err (other_words v)
waited_request false v o = limited_request v o (limit_asked o.limit)

abbrev pub helped_request : (help : Bool) → Verb → WordOptions → AskedRequest
helped_request true v o = Ok (help_task (Some v))
helped_request false v o = waited_request (is_some o.waiting) v o

abbrev pub read_request : Verb → Result WordOptions (List ℕ) → AskedRequest
read_request v (Err word) = Err (unknown_option v word)
read_request v (Ok o) = helped_request o.help v o

abbrev pub verb_request : Verb → List (List ℕ) → AskedRequest
verb_request v words = read_request v (options_read no_options words)

abbrev pub first_request : (word : List ℕ) → Option Verb → List (List ℕ) → AskedRequest
first_request word None words = Err (unknown_verb word)
first_request word (Some v) words = verb_request v words

-- what the words after the program's name ask for
abbrev pub asked_request : List (List ℕ) → AskedRequest
asked_request [] = Err no_verb
asked_request (first ∷ words) =
    if bytes_eq first (codes "--help") then Ok (help_task None)
    else if bytes_eq first (codes "--version") then Ok version_task
    else first_request first (verb_of first) words
