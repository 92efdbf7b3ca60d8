-- The sum of a list's elements.
use Rattle.std.specs.Prelude.{ℕ, zero, suc, ◌+◌, Result, Ok}
use Rattle.capnp_wire.specs.Tree.{Tree}
use Rattle.capnp_wire.specs.Reading.{as_list, element_number, list_length}
use Rattle.capnp_wire.specs.declared.size.ElementSize.TheVariants.{FourBytes}
use Rattle.capnp_device.specs.declared.error.ErrorKind.{ErrorKind}
use Rattle.capnp_wire_callers.specs.Path.{on_read}

-- the sum of so many 32 bit numbers from the start of a list
abbrev pub sum_of_first : Tree → ℕ → ℕ
sum_of_first list zero = 0
sum_of_first list (suc n) = sum_of_first list n + element_number 4 list n

-- the sum of the list of 32 bit numbers that a tree reads as
abbrev pub list_sum : Tree → ℕ → Result ℕ ErrorKind
list_sum tree levels = on_read (λ list. Ok (sum_of_first list (list_length list))) (as_list FourBytes tree levels)
