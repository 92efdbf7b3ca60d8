-- What the calls of changes that were found do.
use Rattle.std.specs.Prelude.{ℕ, ◌≡◌, List, map}
use Rattle.capnp_schema.specs.Schema.{Schemas}
use Rattle.capnp_records.specs.Call.{Reply}
use Rattle.capnp_records.specs.Record.{Record}
use Rattle.capnp_records.specs.Run.{Run}
use Rattle.capnp_diffs.specs.Changes.{IsRecordTold, record_changes}
use Rattle.capnp_diffs.specs.Found.{AreReady, change_call, changes_seen}
use Rattle.capnp_diffs.specs.Laws.{AreDone, HaveRoom}
use Rattle.capnp_diffs.specs.declared.change.Change.{Change as FoundChange}

-- Changes that were found from an old record to a new one: their calls, run on the old one, leave the new one, and where there
-- is room none is refused.
abbrev pub FoundCallsMakeNew : Type 0
FoundCallsMakeNew =
    (set : Schemas) (b : ℕ) (old new : Record) (changes : List FoundChange) →
    changes_seen changes ≡ record_changes set b old new → IsRecordTold set b old new → AreReady set changes →
    (replies : List Reply) (left : Record) → Run set b old (map change_call changes) replies left → HaveRoom replies → AreDone replies × (left ≡ new)
