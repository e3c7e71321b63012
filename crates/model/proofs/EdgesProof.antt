-- The examples of specs/Edges.antt, by computing.
use Prim.Native.Nat.{ℕ}
use mathlib.Core.Path.{◌≡◌, refl}
use lib.Dec.{eqb, eqb_refl}
use lib.Ieee.{Float}
use lib.Ieee.Bits.{is_true}
use mathlib.Core.List.{[]}
use Rattle.model.specs.Numbers.{f0}
use Rattle.model.specs.View.{View, Leg}
use Rattle.model.specs.Search.{Search, found}
use Rattle.model.specs.Decode.{middle_search}
use Rattle.model.specs.Edges.{RefusalExamples, OtherEdges, Ties}
use Rattle.model.proofs.Computes.{computes}

pub refusal_examples : RefusalExamples
unfolding computes
refusal_examples = record {
  short = refl;
  points = refl;
  not_two_points = refl;
  total = refl;
  minus_zero = refl;
  spare = refl;
  kind_zero = refl;
  unlisted = refl;
  small_area = refl;
  kind_four = refl;
  no_rows = refl;
  full_heap = refl;
}

pub start_is_goal : (v : View) (search : Search) (leg : Leg) (n : ℕ) (bound : Float) → middle_search v search leg n n bound ≡ found f0 []
unfolding middle_search
start_is_goal v search leg n bound = rw (is_true (eqb n n) (eqb_refl n))

pub other_edges : OtherEdges
unfolding computes
other_edges = record {
  exactly_10 = (refl, refl);
  exactly_5 = (refl, refl);
  excellent_length = refl;
  start_is_goal = start_is_goal;
  bearing_360 = refl;
  exact_heap = refl;
  along_line = refl;
  summed_by_number = refl;
  cut_before_closest = refl;
  walk_any_class = refl;
  access_track = refl;
  access_prefix = refl;
  access_longer = refl;
}

pub ties : Ties
unfolding computes
ties = record {
  equal_parent = refl;
  equal_children = refl;
  drawn = refl;
  first_label = refl;
  list_order = refl;
  no_slot = refl;
  one_slot_less = refl;
  real_bound = refl;
  kept_cost = refl;
  equal_sums = refl;
  equal_to_best = refl;
  below_the_best = refl;
  equal_coverage = refl;
}
