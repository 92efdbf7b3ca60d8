-- The place in the text is one in the word.
use Rattle.std.proofs.Common.{refl, rules}
use Rattle.riftcalico_core.proofs.calls.read_json_value.Goals as goal

pub returns-in-Err-clause-read : goal.returns-in-Err-clause-read
returns-in-Err-clause-read c = record { inner = c.in-Err.inner; unread = search rules; is = refl }
