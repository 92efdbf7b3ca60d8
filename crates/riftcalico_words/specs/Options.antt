-- Options among words. They stand in any order, and of one that stands twice the last counts.
use Rattle.std.specs.Prelude.{ℕ, List, [], ◌∷◌, ◌++◌, Bool, true, false, ◌&&◌, ◌==◌, Option, Some, None, Result, Ok, Err, codes, bytes_eq, if◌then◌else◌}
use Rattle.riftcalico_words.specs.declared.options.ValueOption.{ValueOption}
use Rattle.riftcalico_words.specs.declared.options.ValueOption.TheVariants as value
use Rattle.riftcalico_words.specs.declared.options.Flag.{Flag}
use Rattle.riftcalico_words.specs.declared.options.Flag.TheVariants as flag
use Rattle.riftcalico_words.specs.declared.options.WordKind.{WordKind}
use Rattle.riftcalico_words.specs.declared.options.WordKind.TheVariants as kind

-- the options, the other words in their order, and the option whose word comes next
pub record WordOptions : Type 0 where
  pub set : Option (List ℕ)
  pub calls : Option (List ℕ)
  pub limit : Option (List ℕ)
  pub in_place : Option (List ℕ)
  pub indent : Bool
  pub raw : Bool
  pub paths : Bool
  pub json : Bool
  pub keep_going : Bool
  pub packed : Bool
  pub each : Bool
  pub strict : Bool
  pub all : Bool
  pub quiet : Bool
  pub breaking_only : Bool
  pub both : Bool
  pub help : Bool
  pub others : List (List ℕ)
  pub waiting : Option ValueOption

abbrev pub no_options : WordOptions
no_options = record {
  set = None;
  calls = None;
  limit = None;
  in_place = None;
  indent = false;
  raw = false;
  paths = false;
  json = false;
  keep_going = false;
  packed = false;
  each = false;
  strict = false;
  all = false;
  quiet = false;
  breaking_only = false;
  both = false;
  help = false;
  others = [];
  waiting = None;
}

-- whether a word begins with `--`
abbrev pub is_option : List ℕ → Bool
is_option [] = false
is_option (a ∷ []) = false
is_option (a ∷ b ∷ rest) = (a == 45) && (b == 45)

abbrev pub word_kind : List ℕ → WordKind
word_kind word =
    if bytes_eq word (codes "--set") then kind.Value value.Set
    else if bytes_eq word (codes "--calls") then kind.Value value.Calls
    else if bytes_eq word (codes "--limit") then kind.Value value.Limit
    else if bytes_eq word (codes "--in-place") then kind.Value value.InPlace
    else if bytes_eq word (codes "--indent") then kind.Flag flag.Indent
    else if bytes_eq word (codes "--raw") then kind.Flag flag.Raw
    else if bytes_eq word (codes "--paths") then kind.Flag flag.Paths
    else if bytes_eq word (codes "--json") then kind.Flag flag.Json
    else if bytes_eq word (codes "--keep-going") then kind.Flag flag.KeepGoing
    else if bytes_eq word (codes "--packed") then kind.Flag flag.Packed
    else if bytes_eq word (codes "--each") then kind.Flag flag.Each
    else if bytes_eq word (codes "--strict") then kind.Flag flag.Strict
    else if bytes_eq word (codes "--all") then kind.Flag flag.All
    else if bytes_eq word (codes "--quiet") then kind.Flag flag.Quiet
    else if bytes_eq word (codes "--breaking-only") then kind.Flag flag.BreakingOnly
    else if bytes_eq word (codes "--both") then kind.Flag flag.Both
    else if bytes_eq word (codes "--help") then kind.Flag flag.Help
    else if is_option word then kind.Unknown
    else kind.Other

abbrev pub with_flag : WordOptions → Flag → WordOptions
with_flag o flag.Indent = record o { indent = true }
with_flag o flag.Raw = record o { raw = true }
with_flag o flag.Paths = record o { paths = true }
with_flag o flag.Json = record o { json = true }
with_flag o flag.KeepGoing = record o { keep_going = true }
with_flag o flag.Packed = record o { packed = true }
with_flag o flag.Each = record o { each = true }
with_flag o flag.Strict = record o { strict = true }
with_flag o flag.All = record o { all = true }
with_flag o flag.Quiet = record o { quiet = true }
with_flag o flag.BreakingOnly = record o { breaking_only = true }
with_flag o flag.Both = record o { both = true }
with_flag o flag.Help = record o { help = true }

abbrev pub with_value : WordOptions → ValueOption → (word : List ℕ) → WordOptions
with_value o value.Set word = record o { set = Some word; waiting = None }
with_value o value.Calls word = record o { calls = Some word; waiting = None }
with_value o value.Limit word = record o { limit = Some word; waiting = None }
with_value o value.InPlace word = record o { in_place = Some word; waiting = None }

abbrev pub with_other : WordOptions → (word : List ℕ) → WordOptions
with_other o word = record o { others = o.others ++ word ∷ [] }

abbrev pub with_kind : WordOptions → (word : List ℕ) → WordKind → Option WordOptions
with_kind o word kind.Other = Some (with_other o word)
with_kind o word (kind.Flag f) = Some (with_flag o f)
with_kind o word (kind.Value v) = Some (record o { waiting = Some v })
with_kind o word kind.Unknown = None

-- the word behind an option that has one is its own, whatever it is
abbrev pub with_waiting : WordOptions → (word : List ℕ) → Option ValueOption → Option WordOptions
with_waiting o word (Some v) = Some (with_value o v word)
with_waiting o word None = with_kind o word (word_kind word)

-- the options with a word more, none where it is an unknown option
abbrev pub with_word : WordOptions → (word : List ℕ) → Option WordOptions
with_word o word = with_waiting o word o.waiting

-- what comes of a word, and of those behind it
abbrev pub behind_word : (word : List ℕ) → Option WordOptions → (WordOptions → Result WordOptions (List ℕ)) → Result WordOptions (List ℕ)
behind_word word None rest = Err word
behind_word word (Some o) rest = rest o

-- these words after those, or the first that is an unknown option
abbrev pub options_read : WordOptions → List (List ℕ) → Result WordOptions (List ℕ)
options_read o [] = Ok o
options_read o (word ∷ words) = behind_word word (with_word o word) (λ more. options_read more words)
