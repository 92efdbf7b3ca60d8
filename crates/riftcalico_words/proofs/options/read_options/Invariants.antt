-- The options of the words so far, and the words that are left.
use Rattle.std.proofs.Common.{◌≡◌, drop, map, string_bytes}
use Rattle.riftcalico_words.specs.Options.{no_options, options_read}
use Rattle.riftcalico_words.specs.OptionsSeen.{options_seen}
use Rattle.riftcalico_words.proofs.options.read_options.Given as goal

abbrev pub invariant-loop-word : goal.invariant-loop-word
invariant-loop-word l = options_read (options_seen l.options) (map string_bytes (drop l.word-index l.words)) ≡ options_read no_options (map string_bytes l.words)
