-- So many letters stand there, and zeros behind them.
use Rattle.std.proofs.Common.{ℕ, ◌-◌, ◌≤◌, ◌≡◌, length}
use Rattle.capnp_builders.specs.Blobs.{IsBuiltText, position, text_bytes}
use Rattle.capnp_callers.proofs.Letters.{row}
use Rattle.capnp_callers.proofs.texts.new_row_of_letters.Given as goal

abbrev pub invariant-loop-text : goal.invariant-loop-text
invariant-loop-text l = IsBuiltText l.text × (position l.text ≤ l.fn.count) × (text_bytes l.text ≡ row (position l.text) l.fn.count l.fn.letter)

abbrev pub decreases-loop-text : goal.decreases-loop-text
decreases-loop-text l = l.fn.count - position l.text
