pub mod MembersSeen
pub mod NumbersSeen
pub mod PointersSeen
