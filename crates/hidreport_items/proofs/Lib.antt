pub mod ReadingLemmas
pub mod TextLemmas
pub mod WordLemmas
pub mod FollowingLemmas
pub mod FlagWordLemmas
pub mod CanonicalLemmas
pub mod WrittenLemmas
