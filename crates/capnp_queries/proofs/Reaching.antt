-- What stands at a path, and its text.
use Rattle.std.proofs.Common.{ap, refl, sym, ◌∙◌, ◌≡◌, ℕ, List, [], ◌∷◌, Bool, Result, Ok, Err}
use Rattle.capnp_device.specs.declared.error.ErrorKind.{ErrorKind}
use Rattle.capnp_wire.specs.Stream.{message_tree_of}
use Rattle.capnp_wire.specs.Tree.{Tree}
use Rattle.capnp_schema.specs.Schema.{Schemas}
use Rattle.capnp_records.specs.Call.{PathStep}
use Rattle.capnp_patch.specs.Gets.{got_text, path_read, reached_text, text_at}
use Rattle.capnp_patch.specs.Places.{root_reached}
use Rattle.capnp_queries.specs.Reach.{at_path}

-- a path that begins at no value leads to none
pub nowhere : (set : Schemas) (path : List PathStep) (kind : ErrorKind) → path_read set path (Err kind) ≡ Err kind
nowhere set [] kind = refl
nowhere set (s ∷ path) kind = refl

-- where the root is refused nothing stands at a path
pub no_root_at : (set : Schemas) (b : ℕ) (path : List PathStep) (bytes : List ℕ) (kind : ErrorKind) → root_reached set b (message_tree_of bytes) ≡ Err kind → Err kind ≡ at_path set b path bytes
no_root_at set b path bytes kind e = sym (ap (path_read set path) e ∙ nowhere set path kind)

-- the text of the message at the path is that of what stands there
pub text_is : (set : Schemas) (b : ℕ) (path : List PathStep) (indented : Bool) (bytes : List ℕ) → got_text set b path indented bytes ≡ reached_text set indented (at_path set b path bytes)
text_is set b path indented bytes = go (message_tree_of bytes)
  where
    go : (m : Result Tree ErrorKind) → text_at set b path indented m ≡ reached_text set indented (path_read set path (root_reached set b m))
    go (Ok root) = refl
    go (Err kind) = sym (ap (reached_text set indented) (nowhere set path kind))
