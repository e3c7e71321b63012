-- The ends of a path, and what a walk and the ends leave in the list of the path.
pub mod Sides
pub mod Post
pub mod Whole
