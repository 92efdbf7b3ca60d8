-- Worked rows of paths: what stands there, as equations. They judge the definitions.
use Rattle.std.specs.Prelude.{ℕ, ◌≡◌, refl, List, [], ◌∷◌, ◌++◌, false, Ok, Err, codes, replicate}
use Rattle.std.specs.Fmt.{debug_escape, digits}
use Rattle.std.specs.Str.{is_utf8, chars}
use Prim.Native.String.{String}
use lib.Utf8.{encode}
use Rattle.capnp_device.specs.declared.error.ErrorKind.TheVariants.{FieldNotFound, InactiveMember, NoSuchElement, NotAContainer, Truncated, UntypedStep, WrongPointerKind}
use Rattle.capnp_wire.specs.Place.{tree_at}
use Rattle.capnp_schema.specs.Accepted.{words_root}
use Rattle.capnp_schema.specs.Builtin.{builtin}
use Rattle.capnp_records.specs.Call.{ElementAt, FieldNamed, FieldNumber, PathStep}
use Rattle.capnp_records.specs.Text.{Out, said_text}
use Rattle.capnp_patch.specs.Gets.{got_text, text_at}

-- what stands at a path of the root of one segment under a brand of the built-in set
abbrev got : List ℕ → ℕ → List PathStep → Out
got words b path = text_at builtin b path false (Ok (words_root words))

abbrev named : String → PathStep
named s = FieldNamed (codes s)

abbrev z8 : List ℕ
z8 = replicate 8 0

abbrev mixed : List ℕ
mixed = 0 ∷ 0 ∷ 0 ∷ 0 ∷ 1 ∷ 0 ∷ 1 ∷ 0 ∷ 5 ∷ 0 ∷ 1 ∷ 0 ∷ 9 ∷ 0 ∷ 0 ∷ 0 ∷ 1 ∷ 0 ∷ 0 ∷ 0 ∷ 26 ∷ 0 ∷ 0 ∷ 0 ∷ 104 ∷ 105 ∷ replicate 6 0

whole : got mixed 1 [] ≡ said_text (codes "(a = 5, y = 9, b = \"hi\")")
unfolding tree_at digits debug_escape is_utf8 chars encode
whole = refl

by_name : got mixed 1 (named "a" ∷ []) ≡ said_text (codes "5")
unfolding tree_at digits
by_name = refl

by_number : got mixed 1 (FieldNumber 2 ∷ []) ≡ said_text (codes "9")
unfolding tree_at digits
by_number = refl

text : got mixed 1 (named "b" ∷ []) ≡ said_text (codes "\"hi\"")
unfolding tree_at debug_escape is_utf8 chars encode
text = refl

other_member : got mixed 1 (named "x" ∷ []) ≡ Err InactiveMember
unfolding tree_at
other_member = refl

no_field : got mixed 1 (FieldNumber 4 ∷ []) ≡ Err FieldNotFound
unfolding tree_at
no_field = refl

no_name : got mixed 1 (named "c" ∷ []) ≡ Err FieldNotFound
unfolding tree_at
no_name = refl

past_number : got mixed 1 (named "a" ∷ named "b" ∷ []) ≡ Err NotAContainer
unfolding tree_at
past_number = refl

element_of_struct : got mixed 1 (ElementAt 0 ∷ []) ≡ Err NotAContainer
unfolding tree_at
element_of_struct = refl

-- the root of `Lists`, whose last pointer is of two structs
abbrev lists : List ℕ
lists =
    0 ∷ 0 ∷ 0 ∷ 0 ∷ 0 ∷ 0 ∷ 4 ∷ 0 ∷ replicate 24 0
    ++ 1 ∷ 0 ∷ 0 ∷ 0 ∷ 23 ∷ 0 ∷ 0 ∷ 0 ∷ 8 ∷ 0 ∷ 0 ∷ 0 ∷ 1 ∷ 0 ∷ 0 ∷ 0 ∷ 1 ∷ replicate 7 0 ++ 2 ∷ replicate 7 0

in_element : got lists 7 (named "items" ∷ ElementAt 1 ∷ named "a" ∷ []) ≡ said_text (codes "2")
unfolding tree_at digits
in_element = refl

an_element : got lists 7 (named "items" ∷ ElementAt 0 ∷ []) ≡ said_text (codes "(a = 1)")
unfolding tree_at digits
an_element = refl

past_end : got lists 7 (named "items" ∷ ElementAt 2 ∷ []) ≡ Err NoSuchElement
unfolding tree_at
past_end = refl

field_of_list : got lists 7 (named "items" ∷ named "a" ∷ []) ≡ Err NotAContainer
unfolding tree_at
field_of_list = refl

-- a null list has no elements, and a null data is empty
null_list : got lists 7 (named "bytes" ∷ ElementAt 0 ∷ []) ≡ Err NoSuchElement
unfolding tree_at
null_list = refl

empty_list : got lists 7 (named "bytes" ∷ []) ≡ said_text (codes "[]")
unfolding tree_at
empty_list = refl

-- an empty `Shapes`, whose `circle` is active
abbrev shapes : List ℕ
shapes = 252 ∷ 255 ∷ 255 ∷ 255 ∷ 0 ∷ 0 ∷ 0 ∷ 0 ∷ []

group : got shapes 3 (named "circle" ∷ []) ≡ said_text (codes "(r = 0)")
unfolding tree_at digits
group = refl

in_group : got shapes 3 (named "circle" ∷ named "r" ∷ []) ≡ said_text (codes "0")
unfolding tree_at digits
in_group = refl

in_other : got shapes 3 (named "tag" ∷ named "n" ∷ []) ≡ Err InactiveMember
unfolding tree_at
in_other = refl

-- the same with `tag` active: its discriminant stands behind that of the whole
abbrev tagged : List ℕ
tagged = 0 ∷ 0 ∷ 0 ∷ 0 ∷ 2 ∷ 0 ∷ 2 ∷ 0 ∷ 0 ∷ 0 ∷ 1 ∷ 0 ∷ 3 ∷ 0 ∷ 0 ∷ 0 ∷ replicate 24 0

past_untyped : got tagged 3 (named "tag" ∷ named "any" ∷ FieldNumber 0 ∷ []) ≡ Err UntypedStep
unfolding tree_at
past_untyped = refl

-- a list where a struct is wanted
bad_root : got (1 ∷ 0 ∷ 0 ∷ 0 ∷ 0 ∷ 0 ∷ 0 ∷ 0 ∷ []) 0 (named "a" ∷ []) ≡ Err WrongPointerKind
unfolding tree_at
bad_root = refl

no_message : got_text builtin 0 [] false [] ≡ Err Truncated
no_message = refl
