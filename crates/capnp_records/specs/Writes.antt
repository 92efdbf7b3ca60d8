-- The words of writes on trees: what the code of dynamic values does to a struct's tree. The laws say what becomes of the
-- record; none of these has to be believed for what a run means.
pub mod Contents
pub mod ElementEnds
pub mod Fill
pub mod Overlay
pub mod Slots
pub mod Stand
pub mod TreeCopy
pub mod TreeEnds
pub mod TreeRun
