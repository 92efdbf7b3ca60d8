-- A tree that is cut off far down has the bytes of the whole one.
use Rattle.std.proofs.Common.{◌≡◌, ap, sym}
use Rattle.capnp_wire.specs.Reading.{as_data, as_text}
use Rattle.capnp_wire.specs.Tree.{Tree, Null, Struct, Voids, Bits, Numbers, Pointers, Composite, FaultLeaf}
use Rattle.capnp_arena.specs.Same.{SameTo}

pub text_seen : (x t : Tree) → SameTo 32 x t → as_text x ≡ as_text t
text_seen Null t h = sym (ap as_text h)
text_seen (Struct bytes ps) t h = sym (ap as_text h.1)
text_seen (Voids n) t h = sym (ap as_text h)
text_seen (Bits bs) t h = sym (ap as_text h)
text_seen (Numbers w bytes) t h = sym (ap as_text h)
text_seen (Pointers ps) t h = sym (ap as_text h.1)
text_seen (Composite d p es) t h = sym (ap as_text h.1)
text_seen (FaultLeaf k) t h = sym (ap as_text h)

pub data_seen : (x t : Tree) → SameTo 32 x t → as_data x ≡ as_data t
data_seen Null t h = sym (ap as_data h)
data_seen (Struct bytes ps) t h = sym (ap as_data h.1)
data_seen (Voids n) t h = sym (ap as_data h)
data_seen (Bits bs) t h = sym (ap as_data h)
data_seen (Numbers w bytes) t h = sym (ap as_data h)
data_seen (Pointers ps) t h = sym (ap as_data h.1)
data_seen (Composite d p es) t h = sym (ap as_data h.1)
data_seen (FaultLeaf k) t h = sym (ap as_data h)
