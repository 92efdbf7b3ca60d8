-- Texts that are appended one after another.
use Rattle.std.proofs.Common.{ℕ, List, [], ◌++◌, ◌≡◌, ◌∙◌, ap, append_assoc, append-nil, subst, sym}
use Rattle.capnp_records.specs.Facts.Spelled.{both_text, known_spelled, said_both}
use Rattle.capnp_records.specs.Text.{Out, after, said_text}
use Rattle.capnp_dynamic_readers.specs.Pieces.{IsAppended}

-- bytes that are known
pub bytes_put : (bytes old new : List ℕ) → new ≡ old ++ bytes → IsAppended old (said_text bytes) new
bytes_put bytes old new e = (bytes, known_spelled bytes, e)

-- nothing
pub nothing : (old : List ℕ) → IsAppended old (said_text []) old
nothing old = bytes_put [] old old (sym (append-nil old))

-- one and then another
pub both : (x y : Out) (old mid new : List ℕ) → IsAppended old x mid → IsAppended mid y new → IsAppended old (after x y) new
both x y old mid new (xs, h, e) (ys, k, f) = (xs ++ ys, both_text x y xs ys h k, f ∙ (ap (λ (z : List ℕ). z ++ ys) e ∙ append_assoc old xs ys))

-- two of which both are known
pub two_put : (a b old new : List ℕ) → new ≡ old ++ (a ++ b) → IsAppended old (after (said_text a) (said_text b)) new
two_put a b old new e = subst (λ (o : Out). IsAppended old o new) (sym (said_both a b)) (bytes_put (a ++ b) old new e)
