-- The roads of a well-formed sheet, and the ways that a search over it is given.
use Prim.Native.Nat.{ℕ, ◌+◌, ◌-◌, ◌≤◌, ◌<◌}
use mathlib.Core.Path.{◌≡◌, sym, ap, ◌∙◌}
use mathlib.Core.List.{List}
use Rattle.std.specs.Prelude.{Some, None}
use lib.ListN.{get_or}
use Rattle.model.specs.declared.Counts.{Counts}
use Rattle.model.specs.declared.Road.{Road}
use Rattle.model.specs.Numbers.{f0}
use Rattle.model.specs.Layout.{most_roads}
use Rattle.model.specs.Lists.{filter, tabulate}
use Rattle.model.specs.Judge.{WellFormed, source_of, start_of, entry_of}
use Rattle.model.specs.Sheet.{sheet_of, road_at, leaving_roads}
use Rattle.model.specs.View.{is_slip, permits, penalty}
use Rattle.model.proofs.Members.{either, in_keep}
use Rattle.model.proofs.Fields.{source_below}
use Rattle.model.proofs.Parsed.{number_is, source_is}
use Rattle.bounds.specs.Amounts.{Amount}
use Rattle.bounds.specs.Routes.{Ways}
use Rattle.bounds.proofs.AmountLaws.{finite_amount, zero_amount}
use Rattle.bounds.proofs.FormedProof.{well_formed_formed}
use Rattle.bounds.proofs.Sources.{leaving_road}
use Rattle.sheet.specs.Contents.{contents}
use Rattle.sheet.specs.Goals.{goal_at}
use Rattle.sheet.proofs.Parts.{leaving_are}
use Rattle.sheet.proofs.GoalLaws.{to_goal_at, to_goal_missing}
use Rattle.search.specs.declared.Query.{Query}
use Rattle.search.specs.declared.costs.Search.{Search}
use Rattle.search.specs.Query.{query_on, query_at}

module _ (s : List ℕ) (c : Counts) (w : WellFormed s c) where
  -- a mark is no road's number
  pub roads_few : c.e ≤ most_roads
  roads_few = w.sound.small.e

  -- a road has its number
  pub road_known : {k : ℕ} {r : Road} → k < c.e → r ≡ road_at (sheet_of s c) k → (r.number < c.e) × (road_at (sheet_of s c) r.number ≡ r)
  road_known {k} {r} h is =
      let number : r.number ≡ k = ap (λ (x : Road). x.number) is ∙ number_is s c k h in
      (rw number h, ap (road_at (sheet_of s c)) number ∙ sym is)

  pub source_within : (k : ℕ) → k < c.e → (road_at (sheet_of s c) k).source < c.n
  unfolding source_of
  source_within k h = rw (source_is s c k h) (source_below s c w.sound k h)

  -- the ways from node u stand in its part of the lists
  pub ways_of : (a : Query) (u : ℕ) → u < c.n
      → (query_on (sheet_of s c) a).leaving u ≡ filter (permits a.constraints) (tabulate (start_of s c (u + 1) - start_of s c u) (start_of s c u) (λ j. road_at (sheet_of s c) (entry_of s c j)))
  unfolding query_on
  ways_of a u h = ap (filter (permits a.constraints)) (leaving_are s c w u h)

  -- with penalties that are amounts, as those of the settings are
  pub query_ways : (a : Query) → Amount a.constraints.slip_road_cost_penalty → Amount a.constraints.access_road_cost_penalty → Ways (query_on (sheet_of s c) a)
  unfolding query_on penalty
  query_ways a slip access =
      let t = sheet_of s c in
      let formed = well_formed_formed s c w in
      record {
        roads = λ v r m.
            let k = leaving_road formed v r (in_keep (permits a.constraints) (leaving_roads t v) m).0 in
            let facts = formed.roads r k.0 in
            record { source = k.1; target = facts.target; length_m = facts.length_m };
        penalties = λ r. either Amount (is_slip r) slip (either Amount r.access access zero_amount);
      }

  pub slip_amount : Amount (sheet_of s c).settings.slip_road_cost_penalty
  slip_amount = finite_amount _ (well_formed_formed s c w).slip

  pub access_amount : Amount (sheet_of s c).settings.access_road_cost_penalty
  access_amount = finite_amount _ (well_formed_formed s c w).access

-- The goal's row has the distances of the query.
module _ (x : Search) where
  pub heuristic_at : {k : ℕ} → x.goal_row ≡ Some k → (v : ℕ) → get_or (goal_at (contents x.sheet) k).distances v f0 ≡ (query_at x).heuristic v
  unfolding query_on
  heuristic_at {k} is v = to_goal_at (contents x.sheet) x.query.goal k (x.row k is).1 v

  pub heuristic_missing : x.goal_row ≡ None → (v : ℕ) → f0 ≡ (query_at x).heuristic v
  unfolding query_on
  heuristic_missing is v = to_goal_missing (contents x.sheet) x.query.goal (x.no_row is) v
