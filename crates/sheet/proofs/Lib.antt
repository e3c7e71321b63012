pub mod RoadFields
pub mod Parts
pub mod MeasuredPoints
pub mod Halving
pub mod GoalLaws
