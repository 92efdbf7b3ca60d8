-- The JSON of a message is read as the record of its root.
use Rattle.std.proofs.Common.{◌≡◌, ℕ, zero, suc, ◌+◌, ◌*◌, ◌/◌, nat_lt, Bool, true, false, cond, List, [], ◌∷◌, get_or, length, take, drop, Result, Ok, Err, refl, subst, arith}
use Rattle.std.specs.Prelude.{slice_index_or}
use Rattle.capnp_device.specs.declared.error.ErrorKind.{ErrorKind}
use Rattle.capnp_device.specs.declared.error.ErrorKind.TheVariants.{TooManySegments, Truncated}
use Rattle.capnp_wire.specs.Facts.ByteRuns.{AreBytes_drop, AreBytes_take}
use Rattle.capnp_wire.specs.Facts.Places.{IsWellFormed_tree_at}
use Rattle.capnp_wire.specs.Locate.{Segments}
use Rattle.capnp_wire.specs.Place.{root_tree}
use Rattle.capnp_wire.specs.Slot.{little_endian}
use Rattle.capnp_wire.specs.Stream.{cut_segments, header_bytes, message_tree_of, root_read, segments_after_count, segments_after_table, segments_of, total_words}
use Rattle.capnp_wire.specs.Tree.{Tree}
use Rattle.capnp_wire.specs.WellFormed.{AreBytes, AreSegments, IsWellFormed}
use Rattle.capnp_json.specs.Message.{root_json}
use Rattle.capnp_json.specs.Pieces.{IsJson}
use Rattle.capnp_from_json.specs.Records.{Rules}
use Rattle.capnp_json_laws.specs.Roots.{IsRoot, MessagesAreReadBack}
use Rattle.capnp_json_laws.proofs.RootsBack.{roots_back}

-- ---- segments of bytes ----

cut_formed : (k : ℕ) (table body : List ℕ) → AreBytes body → (i : ℕ) → AreBytes (get_or (cut_segments k table body) i [])
cut_formed zero table body h i = λ j. omega arith
cut_formed (suc k) table body h zero = AreBytes_take (8 * little_endian (take 4 table)) body h
cut_formed (suc k) table body h (suc i) = cut_formed k (drop 4 table) (drop (8 * little_endian (take 4 table)) body) (AreBytes_drop (8 * little_endian (take 4 table)) body h) i

first_formed : (segments : Segments) → AreSegments segments → AreBytes (slice_index_or segments 0 [])
first_formed [] h = h 0
first_formed (s ∷ ss) h = h 0

tree_formed : (segments : Segments) → AreSegments segments → IsWellFormed (root_tree segments)
tree_formed segments h = IsWellFormed_tree_at 64 segments (slice_index_or segments 0 []) 0 h (first_formed segments h)

abbrev AreFormed : Result Segments ErrorKind → Type 0
AreFormed r = (root : Tree) → root_read r ≡ Ok root → IsWellFormed root

none_formed : (kind : ErrorKind) → AreFormed (Err kind)
none_formed kind root e = let no : ⊥ = cc in absurd no

some_formed : (segments : Segments) → AreSegments segments → AreFormed (Ok segments)
some_formed segments h root e = let same : root_tree segments ≡ root = cc in subst IsWellFormed same (tree_formed segments h)

either_formed : (q : Bool) (r s : Result Segments ErrorKind) → AreFormed r → AreFormed s → AreFormed (cond q r s)
either_formed true r s h k = h
either_formed false r s h k = k

table_formed : (count : ℕ) (table bytes : List ℕ) → AreBytes bytes → AreFormed (segments_after_table count table bytes)
table_formed count table bytes h =
    either_formed (nat_lt (length bytes) (header_bytes count + 8 * total_words (length table / 4) table)) (Err Truncated) (Ok (cut_segments (length table / 4) table (drop (header_bytes count) bytes)))
    (none_formed Truncated) (some_formed (cut_segments (length table / 4) table (drop (header_bytes count) bytes)) (cut_formed (length table / 4) table (drop (header_bytes count) bytes) (AreBytes_drop (header_bytes count) bytes h)))

count_formed : (count : ℕ) (bytes : List ℕ) → AreBytes bytes → AreFormed (segments_after_count count bytes)
count_formed count bytes h =
    either_formed (nat_lt 512 count) (Err TooManySegments) (cond (nat_lt (length bytes) (header_bytes count)) (Err Truncated) (segments_after_table count (take (4 * count) (drop 4 bytes)) bytes)) (none_formed TooManySegments)
    (either_formed (nat_lt (length bytes) (header_bytes count)) (Err Truncated) (segments_after_table count (take (4 * count) (drop 4 bytes)) bytes) (none_formed Truncated) (table_formed count (take (4 * count) (drop 4 bytes)) bytes h))

message_formed : (bytes : List ℕ) → AreBytes bytes → AreFormed (segments_of bytes)
message_formed bytes h =
    either_formed (nat_lt (length bytes) 4) (Err Truncated) (segments_after_count (little_endian (take 4 bytes) + 1) bytes) (none_formed Truncated) (count_formed (little_endian (take 4 bytes) + 1) bytes h)

-- ---- messages ----

-- a message that has a JSON has a root
record HasRoot (rules : Rules) (b : ℕ) (indented : Bool) (bytes text : List ℕ) : Type 0 where
  root : Tree
  there : message_tree_of bytes ≡ Ok root
  json : IsJson (root_json rules.set b indented (Ok root)) text

root_by : (rules : Rules) (b : ℕ) (indented : Bool) (bytes text : List ℕ) (r : Result Tree ErrorKind) → message_tree_of bytes ≡ r → IsJson (root_json rules.set b indented r) text → HasRoot rules b indented bytes text
root_by rules b indented bytes text (Ok root) e h = record { root = root; there = e; json = h }
root_by rules b indented bytes text (Err kind) e h = absurd h

pub messages_back : MessagesAreReadBack
messages_back rules b indented bytes text fair is h =
    let s = root_by rules b indented bytes text (message_tree_of bytes) refl h in
    let root : IsRoot rules b s.root = record { accepted = is.accepted; ranges = is.ranges; brand = is.brand; struct = is.struct; formed = message_formed bytes is.formed s.root s.there; room = is.room s.root s.there } in
    let back = roots_back rules b indented s.root text fair root s.json in
    (back.0, (s.root, s.there, back.1), back.2)
