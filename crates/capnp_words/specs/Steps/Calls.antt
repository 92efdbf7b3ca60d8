-- Calls as words, and words as calls: steps of the code.
use Rattle.std.specs.Prelude.{ℕ, ◌+◌, List, length, Err}
use Rattle.capnp_records.specs.Call.{PathStep}
use Rattle.capnp_words.specs.Reads.{Read, read_then}
use Rattle.capnp_words.specs.Paths.{steps_at}
use Rattle.capnp_words.specs.Calls.{CallText, element_at}
use Rattle.capnp_words.specs.Seen.{path_text_seen}
use Rattle.capnp_words.specs.declared.path.Path.{Path}

-- a path with no space behind it
abbrev pub unfinished_call : (place : ℕ) → List ℕ → Read CallText
unfinished_call place bs = read_then (steps_at place bs) (λ path. Err (place + length bs))

-- the path of an element with no space behind it
abbrev pub unfinished_element : (place : ℕ) → List ℕ → Read CallText
unfinished_element place bs = read_then (element_at place bs) (λ e. Err (place + length bs))

-- a list's path and an index
abbrev pub element_seen : Path × ℕ → List PathStep × ℕ
element_seen e = (path_text_seen e.0, e.1)
