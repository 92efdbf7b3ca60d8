-- How many elements a list has that is new, or became one of structs.
use Rattle.std.proofs.Common.{ℕ, ◌≡◌, ap, ◌∙◌, List, Result, Ok, Err}
use Rattle.std.specs.Result.{is_ok}
use Rattle.capnp_device.specs.declared.error.Error.{Error}
use Rattle.capnp_device.specs.declared.error.ErrorKind.{ErrorKind}
use Rattle.capnp_arena.specs.Blobs.{bytes_built}
use Rattle.capnp_arena.specs.declared.blob_builder.BlobBuilder.{BlobBuilder}
use Rattle.capnp_wire.specs.Edits.{zero_list}
use Rattle.capnp_wire.specs.Facts.Lengths.{list_length_struct_list, list_length_zero_list}
use Rattle.capnp_wire.specs.Reading.{list_length}
use Rattle.capnp_wire.specs.StructLists.{struct_list}
use Rattle.capnp_wire.specs.Tree.{Tree}
use Rattle.capnp_wire.specs.declared.size.ElementSize.{ElementSize}
use Rattle.capnp_wire.specs.declared.size.StructSize.{StructSize}

pub new_count : (size : ElementSize) (count : ℕ) (t : Tree) → t ≡ zero_list size count → list_length t ≡ count
new_count size count t e = ap list_length e ∙ list_length_zero_list size count

pub same_count : (size : StructSize) (old new : Tree) → new ≡ struct_list size old → list_length new ≡ list_length old
same_count size old new e = ap list_length e ∙ list_length_struct_list size old

-- whether bytes are handed out, by those that are read
pub is_read : (r : Result BlobBuilder Error) (read : Result (List ℕ) ErrorKind) → bytes_built r ≡ read → is_ok r ≡ is_ok read
is_read (Ok b) read e = ap is_ok e
is_read (Err k) read e = ap is_ok e
