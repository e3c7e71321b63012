use Rattle.search.proofs.costs.Search.heuristic.Goals as goal

pub goal_distance-requires : goal.goal_distance-requires
goal_distance-requires c = ((c.args.self.now.row _ c.in-Some.is).0, c.requires)
