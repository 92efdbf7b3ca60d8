-- Where the look is an array, its first item behind blanks begins the elements that are read as data,
-- or are refused; other looks aren't arrays of data.
use Rattle.std.proofs.Common.{sym, ap, subst, ◌∙◌}
use Rattle.std.specs.Option.{option_map}
use Rattle.capnp_json_text.specs.Readings.{after_blanks}
use Rattle.capnp_json_text.specs.Values.{elements_of, first_item, json_at}
use Rattle.capnp_json_text.specs.declared.kinds.Bracket.TheVariants.{Square}
use Rattle.capnp_from_json.specs.ElementReads.{array_bytes}
use Rattle.capnp_from_json.specs.LeafReads.{IsLeafOf}
use Rattle.capnp_from_json.specs.Records.{byte_target, data_array, element_count, elements_of_json}
use Rattle.capnp_from_json.proofs.LeafReads.{leaf_or_error}
use Rattle.capnp_from_json.proofs.values.read_array.Goals as goal

pub returns-in-Array-clause-read : goal.returns-in-Array-clause-read
returns-in-Array-clause-read c = λ rules levels.
    let es = elements_of (json_at c.args.whole) (first_item Square (after_blanks c.args.behind.now)) in
    subst (λ f. IsLeafOf (data_array c.args.place f (element_count es) (elements_of_json rules es levels byte_target)) c.read_data.result) (sym c.in-Array.is)
    (subst (λ o. IsLeafOf (array_bytes rules c.args.whole o c.args.place levels) c.read_data.result) (c.first_item.ensures ∙ ap (first_item Square) c.skip_blanks.ensures)
    (leaf_or_error (array_bytes rules c.args.whole (option_map (λ x. x.now) c.first_item.result) c.args.place levels) c.read_data.result (c.read_data.ensures.read rules levels) (c.read_data.ensures.refused rules levels)))
