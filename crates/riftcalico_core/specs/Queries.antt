-- What is asked for by a path: what stands there, or where the last step is `#`, how many elements the list before it has.
use Rattle.std.specs.Prelude.{ℕ, ◌-◌, ◌==◌, List, [], ◌∷◌, ◌++◌, Bool, true, false, cond, Option, Some, None, codes, length, take}
use Rattle.std.specs.List.{ends_with}
use Rattle.capnp_records.specs.Call.{PathStep}
use Rattle.capnp_words.specs.Paths.{path_at, words_of_path}
use Rattle.capnp_words.specs.Reads.{Read, read_as}

pub record Query : Type 0 where
  pub path : List PathStep
  pub counts : Bool

abbrev pub query_of : (counts : Bool) → List PathStep → Query
query_of counts path = record { path = path; counts = counts }

-- what stands before a last step `#`, where there are steps before it
abbrev pub steps_before : List ℕ → Option (List ℕ)
steps_before [] = None
steps_before (b ∷ path) = cond (b == 46) None (Some (b ∷ path))

abbrev pub counted_path : List ℕ → Option (List ℕ)
counted_path word = cond (ends_with (λ a b. a == b) word (codes ".#")) (steps_before (take (length word - 2) word)) None

abbrev pub query_behind : (word : List ℕ) → (counted : Option (List ℕ)) → Read Query
query_behind word (Some path) = read_as (query_of true) (path_at 0 path)
query_behind word None = read_as (query_of false) (path_at 0 word)

abbrev pub query_at : List ℕ → Read Query
query_at word = query_behind word (counted_path word)

-- ---- how a query is written ----

abbrev pub count_mark : (counts : Bool) → List ℕ
count_mark true = codes ".#"
count_mark false = []

abbrev pub query_words : Query → List ℕ
query_words q = words_of_path q.path ++ count_mark q.counts
