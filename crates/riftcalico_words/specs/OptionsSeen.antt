-- Options as the code has them.
use Rattle.std.specs.Prelude.{ℕ, List, map, Result, Ok, Err}
use Rattle.std.specs.Borrow.{Bor}
use Rattle.std.specs.Option.{option_map}
use Rattle.riftcalico_words.specs.Options.{WordOptions}
use Rattle.riftcalico_words.specs.declared.options.Options.{Options}

abbrev pub options_seen : Options → WordOptions
options_seen o = record {
  set = option_map (λ w. w.now) o.set;
  calls = option_map (λ w. w.now) o.calls;
  limit = option_map (λ w. w.now) o.limit;
  in_place = option_map (λ w. w.now) o.in_place;
  indent = o.indent;
  raw = o.raw;
  paths = o.paths;
  json = o.json;
  keep_going = o.keep_going;
  packed = o.packed;
  each = o.each;
  strict = o.strict;
  all = o.all;
  quiet = o.quiet;
  breaking_only = o.breaking_only;
  both = o.both;
  help = o.help;
  others = map (λ w. w.now) o.others.items;
  waiting = o.waiting;
}

abbrev pub read_seen : Result Options (Bor (List ℕ)) → Result WordOptions (List ℕ)
read_seen (Ok o) = Ok (options_seen o)
read_seen (Err word) = Err word.now
