-- known bytes that are appended and consumed in steps
use Rattle.std.proofs.Common.{ℕ, ◌∙◌, ap, sym, ◌+◌, List, ◌++◌, take, drop, Option, Some, None, Result, Ok, Err, OnErr, append_assoc}
use Rattle.std.proofs.Math.Seq.{take-add}
use Rattle.std.specs.Io.KnownBytes.{Appends, Consumes}

-- appended one after the other
pub appends_both : (a b c : Option (List ℕ)) (xs ys : List ℕ) → Appends a b xs → Appends b c ys → Appends a c (xs ++ ys)
appends_both None b c xs ys h k = tt {0}
appends_both (Some a) None c xs ys h k = absurd h
appends_both (Some a) (Some b) None xs ys h k = absurd k
appends_both (Some a) (Some b) (Some c) xs ys h k = rw (k, h) (append_assoc a xs ys)

-- the first n of bs, and then the first m of the rest
pub appends_more : (a b c : Option (List ℕ)) (bs : List ℕ) (n m : ℕ) → Appends a b (take n bs) → Appends b c (take m (drop n bs)) → Appends a c (take (n + m) bs)
appends_more a b c bs n m h k = rw take-add (appends_both a b c (take n bs) (take m (drop n bs)) h k)

-- consumed one after the other
pub consumes_both : (a b c : Option (List ℕ)) (xs ys : List ℕ) → Consumes a b xs → Consumes b c ys → Consumes a c (xs ++ ys)
consumes_both None b c xs ys h k = tt {0}
consumes_both (Some a) None c xs ys h k = absurd h
consumes_both (Some a) (Some b) None xs ys h k = absurd k
consumes_both (Some a) (Some b) (Some c) xs ys h k = h ∙ ap (λ rest. xs ++ rest) k ∙ sym (append_assoc xs ys c)

-- a fact that holds anyway holds of an error
pub on_err_always : {T E P : Type 0} (r : Result T E) → P → OnErr r P
on_err_always (Ok x) p = tt {0}
on_err_always (Err e) p = p
