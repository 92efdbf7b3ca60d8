-- What is kept of the types before the index reaches to the last that is no untyped pointer.
-- A type that is none moves it behind itself.
use Rattle.std.proofs.Common.{◌≡◌, arith, refl, length, Some, slice_get}
use Rattle.std.proofs.lemmas.Option.{slice_get_read}
use Rattle.capnp_request.specs.Steps.Bindings.{seen_marked}
use Rattle.capnp_request.specs.Conversion.{is_untyped}
use Rattle.capnp_request.proofs.ScopesBound.{kept_below, kept_more}
use Rattle.capnp_request.proofs.types.drop_untyped.Goals as goal

pub loop-index-preserved : goal.loop-index-preserved
loop-index-preserved c =
    let there : slice_get c.args.types.now.items c.loop-index.index ≡ Some c.index-looked_at.result.now = slice_get_read c.args.types.now.items (length c.args.types.now.items) c.loop-index.index c.index-looked_at.result.now refl (omega arith) c.index-looked_at.ensures in
    record {
      below = kept_below (is_untyped (seen_marked c.index-looked_at.result.now).type) c.loop-index.index c.loop-index.kept c.kept_with-kept.result c.kept_with-kept.ensures c.loop-index.invariant.below;
      kept = kept_more c.args.types.now.items c.loop-index.index c.loop-index.kept c.kept_with-kept.result c.index-looked_at.result.now there c.loop-index.invariant.kept c.kept_with-kept.ensures;
    }
