-- The sizes that refusal 6 asks about, and the two answer lists.
pub mod Room
