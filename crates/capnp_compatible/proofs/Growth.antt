-- A list of pairs to which those are added that fields name.
use Rattle.std.proofs.Common.{ℕ, ◌+◌, ◌<◌, List, Bool, arith, ◌∙◌, below_more}
use Rattle.capnp_schema.specs.Schema.{Schemas, field_at}
use Rattle.capnp_compatible.specs.declared.pairs.Pair.{Pair}
use Rattle.capnp_compatible.specs.Closing.{listed_pairs}
use Rattle.capnp_compatible.specs.Steps.Closing.{Adds, Apart, Begins, Holds, HoldsNamed, Within, named_pair}
use Rattle.capnp_compatible.proofs.Relating.{named_within}

pub record Grown (lists : Bool) (set : Schemas) (a b count : ℕ) (old new : List Pair) : Type 0 where
  pub more : Within (listed_pairs old) (listed_pairs new)
  pub begins : Begins old new
  pub added : HoldsNamed lists set (listed_pairs new) a b count
  pub only : Adds old new (λ sets. HoldsNamed lists set sets a b count)
  pub apart : Apart old → Apart new

pub begins_far : (xs ys zs : List Pair) → Begins xs ys → Begins ys zs → Begins xs zs
begins_far xs ys zs f g = (let l = f.0 in let m = g.0 in omega arith, λ k below. g.1 k (let l = f.0 in omega arith) ∙ f.1 k below)

module _ (lists : Bool) (set : Schemas) (a b count : ℕ) (xs ys zs : List Pair) (g : Grown lists set a b count xs ys)
    (more : Within (listed_pairs ys) (listed_pairs zs)) (begins : Begins ys zs)
    (only : Adds ys zs (λ sets. Holds sets (named_pair lists set (field_at set a count).type (field_at set b count).type))) where
  pub far_more : Within (listed_pairs xs) (listed_pairs zs)
  far_more m n h = more m n (g.more m n h)

  pub far_begins : Begins xs zs
  far_begins = begins_far xs ys zs g.begins begins

  pub far_only : (total : ℕ) → count < total → Adds xs zs (λ sets. HoldsNamed lists set sets a b total)
  far_only total lt pairs within holds = only pairs (g.only pairs within (λ i below. holds i (omega arith))) (holds count lt)

  pub grown_more : Holds (listed_pairs zs) (named_pair lists set (field_at set a count).type (field_at set b count).type) → (Apart ys → Apart zs) → Grown lists set a b (count + 1) xs zs
  grown_more here apart = record {
    more = far_more;
    begins = far_begins;
    added = below_more (λ i. Holds (listed_pairs zs) (named_pair lists set (field_at set a i).type (field_at set b i).type)) count (named_within lists set (listed_pairs ys) (listed_pairs zs) a b count more g.added) here;
    only = far_only (count + 1) (omega arith);
    apart = λ h. apart (g.apart h);
  }
