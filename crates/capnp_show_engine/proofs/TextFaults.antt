-- What a text is refused with is a number of reads.
use Rattle.std.proofs.Common.{Bool, true, false, Ok, Err, ℕ, List, ◌≡◌, ◌≢◌, ◌∙◌, ap, subst, sym}
use Rattle.std.proofs.lemmas.Bool.{true≢false}
use Rattle.capnp_device.specs.declared.error.ErrorKind.{ErrorKind}
use Rattle.capnp_device.specs.declared.error.ErrorKind.TheVariants.{OutOfMemory, ReadFailed, WriteFailed}
use Rattle.capnp_schema.specs.Schema.{Schemas, VoidValue, node_of}
use Rattle.capnp_wire.specs.Stream.{message_tree_of}
use Rattle.capnp_wire.specs.Tree.{Tree}
use Rattle.capnp_records.specs.Reading.{value_of}
use Rattle.capnp_records.specs.Record as value
use Rattle.capnp_records.specs.Record.{Left, Value}
use Rattle.capnp_records.specs.Text.{Out}
use Rattle.capnp_show_engine.specs.Facts.TextSound.{OutSound, whole_sound}
use Rattle.capnp_show_engine.specs.Steps.Refusals.{IsOfRead}
use Rattle.capnp_show_engine.specs.Show.{as_printed, message_root_text, message_root_value, shown_text}
use Rattle.capnp_records.specs.Run.{root_type}
use Rattle.capnp_records.specs.Facts.ReadFaults.{Sound, is_read_kind, read_of_sound, value_of_sound}

-- the text of a message's root
printed_sound : (q : Bool) (v : Value) → Sound v → Sound (as_printed q v)
printed_sound true (value.Struct r) h = h
printed_sound false (value.Struct r) h = h
printed_sound q v h = h

root_sound : (set : Schemas) (b : ℕ) (indented : Bool) (root : Tree) → OutSound (message_root_text set b indented (Ok root))
root_sound set b indented root =
    whole_sound set indented (root_type set b) (as_printed (node_of set b).is_group (message_root_value set b root))
    (printed_sound (node_of set b).is_group (message_root_value set b root)
    (read_of_sound set VoidValue (root_type set b) (value_of set root (Left 64) (root_type set b)) (value_of_sound set root (Left 64) (root_type set b))))

pub shown_by_read : (set : Schemas) (b : ℕ) (indented : Bool) (bytes : List ℕ) (root : Tree) → Ok root ≡ message_tree_of bytes → OutSound (shown_text set b indented bytes)
shown_by_read set b indented bytes root e = subst (λ r. OutSound (message_root_text set b indented r)) e (root_sound set b indented root)

no_memory : OutOfMemory ≡ ReadFailed → ⊥
no_memory e = cc

no_room : OutOfMemory ≡ WriteFailed → ⊥
no_room e = cc

-- who is refused for memory, or where there is no text
pub of_no_device : (o : Out) (kind : ErrorKind) → OutSound o → (kind ≢ OutOfMemory → o ≡ Err kind) → IsOfRead kind
of_no_device o kind sound h = (
  (λ e. true≢false (sym (subst OutSound (h (λ m. no_memory (sym m ∙ e))) sound) ∙ ap is_read_kind e)),
  (λ e. true≢false (sym (subst OutSound (h (λ m. no_room (sym m ∙ e))) sound) ∙ ap is_read_kind e)),
)
