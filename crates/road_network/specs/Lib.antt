-- How many roads decide a node, forced ways as answers, what the walk over the roads keeps, and a small graph with all of it.
pub mod Graph
pub mod Neighbours
pub mod Drawing
