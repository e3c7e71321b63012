-- What a search over a sheet is asked, as the definition's query.
use Rattle.model.specs.Lists.{filter}
use Rattle.model.specs.Sheet.{Sheet, leaving_roads}
use Rattle.model.specs.View.{permits, penalty, view}
use Rattle.model.specs.Search as astar
use Rattle.sheet.specs.Contents.{contents}
use Rattle.search.specs.declared.Query.{Query}
use Rattle.search.specs.declared.costs.Search.{Search}

-- the roads of the sheet that the constraints permit, and the distances of the goal's row
unfoldable pub query_on : Sheet → Query → astar.Query
query_on t a = record {
  nodes = t.nodes;
  leaving = λ v. filter (permits a.constraints) (leaving_roads t v);
  penalty = penalty a.constraints;
  heuristic = (view t).to_goal a.goal;
  goal = a.goal;
  max_cost = a.max_cost;
}

-- over the sheet that is searched
abbrev pub query_at : Search → astar.Query
query_at x = query_on (contents x.sheet) x.query
