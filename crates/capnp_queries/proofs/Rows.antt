-- Worked rows of what is asked for by paths, and of the paths of patterns.
use Rattle.std.specs.Prelude.{ℕ, ◌≡◌, refl, List, [], ◌∷◌, ◌++◌, false, Option, Some, Result, Ok, Err, codes, replicate}
use Rattle.std.specs.Option.{option_map}
use Rattle.std.specs.Fmt.{digits}
use Rattle.std.specs.Str.{is_utf8, chars}
use Prim.Native.String.{String}
use lib.Utf8.{encode}
use Rattle.capnp_device.specs.declared.error.ErrorKind.{ErrorKind}
use Rattle.capnp_device.specs.declared.error.ErrorKind.TheVariants.{FieldNotFound, InactiveMember, NoSuchElement, NotAContainer, UntypedStep}
use Rattle.capnp_wire.specs.Place.{tree_at}
use Rattle.capnp_schema.specs.Accepted.{words_root}
use Rattle.capnp_schema.specs.Builtin.{builtin}
use Rattle.capnp_records.specs.Call.{ElementAt, FieldNamed, PathStep}
use Rattle.capnp_json_text.specs.Writing.{byte_written}
use Rattle.capnp_json.specs.Json.{plain}
use Rattle.capnp_json.specs.Pieces.{Out, said}
use Rattle.capnp_json.specs.declared.error.JsonError.TheVariants.{Read}
use Rattle.capnp_patch.specs.Gets.{Reached, path_read}
use Rattle.capnp_patch.specs.Places.{root_reached}
use Rattle.capnp_queries.specs.Json.{reached_json}
use Rattle.capnp_queries.specs.Lengths.{reached_length}
use Rattle.capnp_queries.specs.Patterns.{Listing, Stop, listed, listing, root_listing}

-- what stands at a path of the root of one segment under a brand of the built-in set
abbrev at : List ℕ → ℕ → List PathStep → Reached
at words b path = path_read builtin path (root_reached builtin b (Ok (words_root words)))

abbrev count : List ℕ → ℕ → List PathStep → Result ℕ ErrorKind
count words b path = reached_length (at words b path)

abbrev json : List ℕ → ℕ → List PathStep → Out
json words b path = reached_json builtin plain false (at words b path)

abbrev named : String → PathStep
named s = FieldNamed (codes s)

-- the root of `Lists`, whose last pointer is of two structs, and the others null
abbrev lists : List ℕ
lists =
    0 ∷ 0 ∷ 0 ∷ 0 ∷ 0 ∷ 0 ∷ 4 ∷ 0 ∷ replicate 24 0
    ++ 1 ∷ 0 ∷ 0 ∷ 0 ∷ 23 ∷ 0 ∷ 0 ∷ 0 ∷ 8 ∷ 0 ∷ 0 ∷ 0 ∷ 1 ∷ 0 ∷ 0 ∷ 0 ∷ 1 ∷ replicate 7 0 ++ 2 ∷ replicate 7 0

structs : count lists 7 (named "items" ∷ []) ≡ Ok 2
unfolding tree_at
structs = refl

null_list : count lists 7 (named "bytes" ∷ []) ≡ Ok 0
unfolding tree_at
null_list = refl

a_text : count lists 7 (named "t" ∷ []) ≡ Err NotAContainer
unfolding tree_at
a_text = refl

an_element : count lists 7 (named "items" ∷ ElementAt 0 ∷ []) ≡ Err NotAContainer
unfolding tree_at
an_element = refl

past_the_end : count lists 7 (named "items" ∷ ElementAt 2 ∷ []) ≡ Err NoSuchElement
unfolding tree_at
past_the_end = refl

-- a root of `Shapes` whose `tag` is active
abbrev tagged : List ℕ
tagged = 0 ∷ 0 ∷ 0 ∷ 0 ∷ 2 ∷ 0 ∷ 2 ∷ 0 ∷ 0 ∷ 0 ∷ 1 ∷ 0 ∷ 3 ∷ 0 ∷ 0 ∷ 0 ∷ replicate 24 0

untyped : count tagged 3 (named "tag" ∷ named "any" ∷ []) ≡ Err UntypedStep
unfolding tree_at
untyped = refl

json_of_a_list : json lists 7 (named "items" ∷ []) ≡ said (codes "[{\"a\":1},{\"a\":2}]")
unfolding tree_at digits is_utf8 chars encode byte_written
json_of_a_list = refl

json_of_an_element : json lists 7 (named "items" ∷ ElementAt 1 ∷ []) ≡ said (codes "{\"a\":2}")
unfolding tree_at digits is_utf8 chars encode byte_written
json_of_an_element = refl

no_json : json tagged 3 (named "circle" ∷ []) ≡ Err (Read InactiveMember)
unfolding tree_at
no_json = refl

-- ---- patterns ----

abbrev list : List ℕ → ℕ → List PathStep → Listing
list words b pattern = root_listing builtin pattern (root_reached builtin b (Ok (words_root words)))

-- where no more is listed
abbrev stops : List ℕ → ℕ → List PathStep → Option (List PathStep × ErrorKind)
stops words b pattern = option_map (λ (x : Stop). (x.path, x.kind)) (list words b pattern).stop

abbrev each : PathStep
each = named "*"

abbrev item : ℕ → PathStep → List PathStep
item i s = named "items" ∷ ElementAt i ∷ s ∷ []

no_step : list lists 7 [] ≡ listed ([] ∷ [])
unfolding tree_at listing
no_step = refl

elements : list lists 7 (named "items" ∷ each ∷ []) ≡ listed ((named "items" ∷ ElementAt 0 ∷ []) ∷ (named "items" ∷ ElementAt 1 ∷ []) ∷ [])
unfolding tree_at listing
elements = refl

behind_elements : list lists 7 (named "items" ∷ each ∷ named "a" ∷ []) ≡ listed (item 0 (named "a") ∷ item 1 (named "a") ∷ [])
unfolding tree_at listing
behind_elements = refl

-- null pointers have their defaults
all_fields : list lists 7 (each ∷ []) ≡ listed ((named "bytes" ∷ []) ∷ (named "raw" ∷ []) ∷ (named "t" ∷ []) ∷ (named "items" ∷ []) ∷ [])
unfolding tree_at listing
all_fields = refl

no_elements : list lists 7 (named "bytes" ∷ each ∷ each ∷ []) ≡ listed []
unfolding tree_at listing
no_elements = refl

-- of union members the active one alone
active_field : list tagged 3 (each ∷ []) ≡ listed ((named "id" ∷ []) ∷ (named "tag" ∷ []) ∷ [])
unfolding tree_at listing
active_field = refl

two_fields_down : list tagged 3 (named "tag" ∷ each ∷ []) ≡ listed ((named "tag" ∷ named "n" ∷ []) ∷ (named "tag" ∷ named "u0" ∷ []) ∷ (named "tag" ∷ named "any" ∷ []) ∷ (named "tag" ∷ named "q" ∷ []) ∷ [])
unfolding tree_at listing
two_fields_down = refl

-- what isn't active is refused before a `*`, and left out behind it
before_each : stops tagged 3 (named "circle" ∷ each ∷ []) ≡ Some (named "circle" ∷ [], InactiveMember)
unfolding tree_at listing
before_each = refl

each_of_a_text : stops lists 7 (named "t" ∷ each ∷ []) ≡ Some (named "t" ∷ [], NotAContainer)
unfolding tree_at listing
each_of_a_text = refl

each_of_an_untyped : stops tagged 3 (named "tag" ∷ named "any" ∷ each ∷ []) ≡ Some (named "tag" ∷ named "any" ∷ [], UntypedStep)
unfolding tree_at listing
each_of_an_untyped = refl

no_such_field : stops lists 7 (named "items" ∷ each ∷ named "b" ∷ []) ≡ Some (item 0 (named "b"), FieldNotFound)
unfolding tree_at listing
no_such_field = refl

-- the first in the order of the paths is told
the_first : stops tagged 3 (each ∷ each ∷ []) ≡ Some (named "id" ∷ [], NotAContainer)
unfolding tree_at listing
the_first = refl
