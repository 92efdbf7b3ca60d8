-- What stands at the end of a path of pointers, as a function of a tree and the levels that are left.
use Rattle.std.specs.Prelude.{ℕ, ◌-◌, List, [], ◌∷◌, Result, Ok, Err}
use Rattle.capnp_wire.specs.Tree.{Tree, StructTree, nth_tree}
use Rattle.capnp_wire.specs.Reading.{as_struct, as_text}
use Rattle.capnp_wire.specs.Slot.{number_at}
use Rattle.capnp_device.specs.declared.error.Error.{Error}
use Rattle.capnp_device.specs.declared.error.ErrorKind.{ErrorKind}

-- what a function gives at what was read, or the refusal of that read
abbrev pub on_read : {A B : Type 0} → (A → Result B ErrorKind) → Result A ErrorKind → Result B ErrorKind
on_read f (Ok x) = f x
on_read f (Err kind) = Err kind

-- the number at the end of a path: each index is of a pointer of a struct, which is entered with one level less
abbrev pub path_number : List ℕ → ℕ → Tree → ℕ → Result ℕ ErrorKind
path_number [] offset tree levels = on_read (λ (s : StructTree). Ok (number_at 8 offset s.bytes)) (as_struct tree levels)
path_number (i ∷ path) offset tree levels = on_read (λ (s : StructTree). path_number path offset (nth_tree s.pointers i) (levels - 1)) (as_struct tree levels)

-- the text at the end of a path
abbrev pub path_text : List ℕ → Tree → ℕ → Result (List ℕ) ErrorKind
path_text [] tree levels = as_text tree
path_text (i ∷ path) tree levels = on_read (λ (s : StructTree). path_text path (nth_tree s.pointers i) (levels - 1)) (as_struct tree levels)

-- the number at the end of a path from the root of a message
abbrev pub message_number : List ℕ → ℕ → Result Tree ErrorKind → Result ℕ ErrorKind
message_number path offset message = on_read (λ tree. path_number path offset tree 64) message

-- what a call answered, by the kind of its refusal
abbrev pub number_read : Result ℕ Error → Result ℕ ErrorKind
number_read (Ok n) = Ok n
number_read (Err error) = Err error.kind
